-- The sectors of words that are spelt up to a place.
--     Upto u out i m c             up to place i of the text u, m sectors are in out, and c of them belong to the word under way
--     upto-start, upto-space, upto-digit, upto-end, upto-bad     place after place
use Rattle.words.proofs.Plain.{ℕ, zero, suc, ◌+◌, ◌-◌, ◌<◌, ◌≤◌, add-one, arith, ◌≡◌, refl, sym, ap, ◌∙◌, inl, inr, List, [], ◌∷◌, ◌++◌, map, append_assoc}
use Rattle.words.proofs.Plain.{append-nil, append_cancel_left, length, get_or, set, take, drop, length-append, take_all, take-suc, take-suc-set, take-take}
use Rattle.words.proofs.Plain.{take-add, take_at, length-take-le}
use Rattle.text_spec.specs.Text.{hex_of}
use Rattle.text_words_spec.specs.Words.{Nibbles}
use Rattle.strip_spec.specs.Strip.{joined}
use Rattle.desk_spec.specs.Questions.{EachNibbles}
use Rattle.desk_rings_inner.specs.Says.{ReadsRings, EndToEnd}
use Rattle.desk_rings_inner.proofs.Spaced.{spaced, spaced-pieces, pieces-spaced, text-glyphs}

pub record Upto (u out : List ℕ) (i m c : ℕ) : Type 0 where
  pub ts : List (List ℕ)
  pub under : List ℕ
  pub rings : EachNibbles ts
  pub sectors : Nibbles under
  pub text : take i u ≡ spaced ts ++ map hex_of under
  pub written : take m out ≡ joined ts ++ under
  pub size : length under ≡ c
  pub inside : i ≤ length u
  pub short : m ≤ i
  pub part : c ≤ m

-- ---- one word more, one digit more

nibbles-more : (w : List ℕ) (v : ℕ) → Nibbles w → v < 16 → Nibbles (w ++ (v ∷ []))
nibbles-more [] v p h zero l = h
nibbles-more [] v p h (suc i) l = absurd (omega arith)
nibbles-more (a ∷ w) v p h zero l = p 0 (omega arith)
nibbles-more (a ∷ w) v p h (suc i) l = nibbles-more w v (λ j g. p (suc j) (omega arith)) h i (omega arith)

each_more : (ts : List (List ℕ)) (w : List ℕ) → EachNibbles ts → Nibbles w → EachNibbles (ts ++ (w ∷ []))
each_more [] w p n zero h = n
each_more [] w p n (suc j) h = absurd (omega arith)
each_more (t ∷ ts) w p n zero h = p 0 (omega arith)
each_more (t ∷ ts) w p n (suc j) h = each_more ts w (λ i g. p (suc i) (omega arith)) n j (omega arith)

spaced-more : (ts : List (List ℕ)) (w : List ℕ) → spaced (ts ++ (w ∷ [])) ≡ (spaced ts ++ map hex_of w) ++ (32 ∷ [])
unfolding spaced
spaced-more [] w = refl
spaced-more (t ∷ ts) w =
    ap (λ (x : List ℕ). map hex_of t ++ (32 ∷ x)) (spaced-more ts w)
    ∙ sym (append_assoc (map hex_of t) (32 ∷ (spaced ts ++ map hex_of w)) (32 ∷ []))
    ∙ ap (λ (x : List ℕ). x ++ (32 ∷ [])) (sym (append_assoc (map hex_of t) (32 ∷ spaced ts) (map hex_of w)))

joined-more : (ts : List (List ℕ)) (w : List ℕ) → joined (ts ++ (w ∷ [])) ≡ joined ts ++ w
unfolding joined
joined-more [] w = append-nil w
joined-more (t ∷ ts) w = ap (λ (x : List ℕ). t ++ x) (joined-more ts w) ∙ sym (append_assoc t (joined ts) w)

digits_more : (w : List ℕ) (v : ℕ) → map hex_of (w ++ (v ∷ [])) ≡ map hex_of w ++ (hex_of v ∷ [])
digits_more [] v = refl
digits_more (a ∷ w) v = ap (λ (x : List ℕ). hex_of a ∷ x) (digits_more w v)

-- ---- place after place

pub upto-start : (u out : List ℕ) → Upto u out 0 0 0
unfolding spaced joined
upto-start u out =
    record {
      ts = [];
      under = [];
      rings = λ j h. absurd (omega arith);
      sectors = λ i h. absurd (omega arith);
      text = refl;
      written = refl;
      size = refl;
      inside = omega arith;
      short = omega arith;
      part = omega arith;
    }

module _ (u out : List ℕ) (i m c : ℕ) (p : Upto u out i m c) (h : i < length u) where
  -- a space: the word under way is a ring
  pub upto-space : get_or u i 0 ≡ 32 → Upto u out (i + 1) m 0
  upto-space e =
      record {
        ts = p.ts ++ (p.under ∷ []);
        under = [];
        rings = each_more p.ts p.under p.rings p.sectors;
        sectors = λ j g. absurd (omega arith);
        text =
            ap (λ (x : ℕ). take x u) (add-one i)
            ∙ take-suc u i 0 h
            ∙ ap (λ (x : ℕ). take i u ++ (x ∷ [])) e
            ∙ ap (λ (x : List ℕ). x ++ (32 ∷ [])) p.text
            ∙ sym (spaced-more p.ts p.under)
            ∙ sym (append-nil (spaced (p.ts ++ (p.under ∷ []))));
        written = p.written ∙ sym (joined-more p.ts p.under) ∙ sym (append-nil (joined (p.ts ++ (p.under ∷ []))));
        size = refl;
        inside = omega arith;
        short = omega (arith, p.short);
        part = omega arith;
      }

  -- a digit
  pub upto-digit : (v : ℕ) → v < 16 → hex_of v ≡ get_or u i 0 → m < length out → Upto u (set out m v) (i + 1) (m + 1) (c + 1)
  upto-digit v l e o =
      record {
        ts = p.ts;
        under = p.under ++ (v ∷ []);
        rings = p.rings;
        sectors = nibbles-more p.under v p.sectors l;
        text =
            ap (λ (x : ℕ). take x u) (add-one i)
            ∙ take-suc u i 0 h
            ∙ ap (λ (x : ℕ). take i u ++ (x ∷ [])) (sym e)
            ∙ ap (λ (x : List ℕ). x ++ (hex_of v ∷ [])) p.text
            ∙ append_assoc (spaced p.ts) (map hex_of p.under) (hex_of v ∷ [])
            ∙ ap (λ (x : List ℕ). spaced p.ts ++ x) (sym (digits_more p.under v));
        written =
            ap (λ (x : ℕ). take x (set out m v)) (add-one m)
            ∙ take-suc-set out m v o
            ∙ ap (λ (x : List ℕ). x ++ (v ∷ [])) p.written
            ∙ append_assoc (joined p.ts) p.under (v ∷ []);
        size = length-append p.under (v ∷ []) ∙ ap (λ (x : ℕ). x + 1) p.size;
        inside = omega arith;
        short = omega (arith, p.short);
        part = omega (arith, p.part);
      }

-- a character that is neither: no words spell that
pub upto-bad : (u : List ℕ) (i : ℕ) → i < length u → (get_or u i 0 ≡ 32 → ⊥) → ((a : ℕ) → a < 16 → hex_of a ≡ get_or u i 0 → ⊥) → (q : List (List ℕ) × List ℕ) → ReadsRings u q → ⊥
upto-bad u i h s d q x =
    let e = pieces-spaced u q.0 q.1 x.words in
    let b = ap (λ (y : List ℕ). get_or y i 0) e in
    elim (text-glyphs q.0 q.1 x.rings x.sectors i (omega (arith, ap (λ (y : List ℕ). length y) e))) [ inl y ↦ s (b ∙ y) | inr y ↦ d y.0 y.1 (y.2 ∙ sym b) ]

-- the whole text
pub upto-end : (u out : List ℕ) (i m c : ℕ) → Upto u out i m c → length u ≤ i → m ≤ length out → EndToEnd u out (m - c) m
upto-end u out i m c p h o =
    let e : u ≡ spaced p.ts ++ map hex_of p.under = sym (take_all i u h) ∙ p.text in
    let l : length (joined p.ts) ≡ m - c =
    omega (arith, p.size, p.part, length-append (joined p.ts) p.under, ap (λ (x : List ℕ). length x) p.written, length-take-le m out o) in
    let r : take (m - c) out ≡ joined p.ts =
    sym (take-take (m - c) m out (omega arith)) ∙ ap (λ (x : List ℕ). take (m - c) x) p.written ∙ take_at (joined p.ts) p.under (m - c) l in
    let s : (m - c) + (m - (m - c)) ≡ m = omega (arith, p.part) in
    record {
      ts = p.ts;
      last = p.under;
      reads =
          record {
            rings = p.rings;
            sectors = p.sectors;
            words = rw e (spaced-pieces p.ts p.under p.rings p.sectors);
          };
      order = omega arith;
      room = o;
      rings = r;
      reading =
          append_cancel_left (joined p.ts) (take (m - (m - c)) (drop (m - c) out)) p.under
          (ap (λ (x : List ℕ). x ++ take (m - (m - c)) (drop (m - c) out)) (sym r) ∙ sym (take-add (m - c) (m - (m - c)) out) ∙ ap (λ (x : ℕ). take x out) s ∙ p.written);
    }
