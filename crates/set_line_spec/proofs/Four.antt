-- The four numbers of a chart job's line.
--     second_none, second-some   there are not two spaces, or there are
--     second-here, second_at     there is a space at the second space; of four numbers it stands behind the first two
--     four-at, four-join         so two numbers stand before it and two behind it, and the other way round
--     no-newline-four            no character of the four numbers is a newline
--     ended-four, bare-four      what the four numbers say, the line says; split-four by the newline and what stands before it
--     set-line-some              a line has characters
--     one-set-line               a line spells at most four numbers
--     set-line-short             a line has at most 16 characters
--     one-spelt                  no line has two answers
use Rattle.std.specs.Prelude.{Option, None, Some}
use Rattle.words.proofs.Plain.{ℕ, suc, ◌+◌, ◌-◌, ◌<◌, ◌≤◌, add-one, arith, dec_lt, ◌≡◌, refl, sym, ap, ◌∙◌, inl, inr, ⊎_elim, List, [], ◌∷◌, ◌++◌, append_assoc, eqb}
use Rattle.words.proofs.Plain.{length, get_or, take, drop, length-append, length-drop, List·get_d-append, take-append_seam, drop-append-add, get_or-append_seam}
use Rattle.words.proofs.Plain.{get_or-append-add, get_or-drop, split_at, take_at, take_all, eqb-true, eqb-false}
use Rattle.words.proofs.Split.{lt, eq, gt, tri, passes, fails, test}
use Rattle.text_spec.specs.Decimal.{decimal}
use Rattle.text_spec.proofs.Digits.{decimal-digits, length-decimal}
use Rattle.line_spec.specs.Line.{fields, SpaceAt}
use Rattle.line_spec.proofs.Lines.{space-one, fields-one, length_fields, no-newline, text-bare, text-ended, text-newline}
use Rattle.set_line_spec.specs.Line.{four_fields, SpellsSet, SpellSays, FourSays, SecondSpace}

-- ---- the second space

-- a number's first space stands behind it
front-space : (n : ℕ) (r : List ℕ) → SpaceAt (decimal n ++ (32 ∷ r)) (length (decimal n))
front-space n r =
    record {
      within = simp length-append (omega arith);
      before = λ i h e. omega (arith, decimal-digits n i h, sym (List·get_d-append (decimal n) (32 ∷ r) 0 i h) ∙ e);
      here = λ h. get_or-append_seam (decimal n) 32 r 0;
    }

behind : (n : ℕ) (r : List ℕ) → drop (length (decimal n) + 1) (decimal n ++ (32 ∷ r)) ≡ r
behind n r = drop-append-add (decimal n) (32 ∷ r) 1

inside : (n : ℕ) (r : List ℕ) → length (decimal n) < length (decimal n ++ (32 ∷ r))
inside n r = simp length-append (omega arith)

-- the four numbers, the first one apart
four-first : (n k d want : ℕ) → four_fields n k d want ≡ decimal n ++ (32 ∷ (decimal k ++ (32 ∷ fields d want)))
unfolding four_fields fields
four-first n k d want = append_assoc (decimal n) (32 ∷ decimal k) (32 ∷ fields d want)

-- the rest of a text
pub rest_all : (t : List ℕ) (a : ℕ) → take (length t - a) (drop a t) ≡ drop a t
rest_all t a = take_all (length t - a) (drop a t) (simp length-drop (omega arith))

-- there are not two spaces, or there are
pub second_none : (t : List ℕ) (a : ℕ) → SpaceAt t a → length t ≤ a → SecondSpace t (length t)
second_none t a p h = record { first = a; one = p; none = λ l. refl; next = 0; two = λ l. absurd (omega arith); is = λ l. absurd (omega arith) }

pub second-some : (t : List ℕ) (a m : ℕ) → SpaceAt t a → a < length t → SpaceAt (take (length t - (a + 1)) (drop (a + 1) t)) m → SecondSpace t (a + 1 + m)
second-some t a m p h q = record { first = a; one = p; none = λ l. absurd (omega arith); next = m; two = λ l. rw (rest_all t (a + 1)) at q; is = λ l. refl }

-- there is a space at the second space
pub second-here : (t : List ℕ) (r : ℕ) → SecondSpace t r → r < length t → get_or t r 0 ≡ 32
second-here t r p h =
    elim (dec_lt p.first (length t)) [
      | yes l ↦
          let m : p.next < length (drop (p.first + 1) t) = omega (arith, p.is l, length-drop (p.first + 1) t) in
          ap (λ (x : ℕ). get_or t x 0) (p.is l) ∙ sym (get_or-drop (p.first + 1) t p.next 0) ∙ (p.two l).here m
      | no l ↦ absurd (omega (arith, p.none (omega arith)))
    ]

-- of four numbers it stands behind the first two
pub second_at : (t : List ℕ) (r n k d want : ℕ) → SecondSpace t r → t ≡ four_fields n k d want → r ≡ length (fields n k)
second_at t r n k d want p e =
    let f : t ≡ decimal n ++ (32 ∷ (decimal k ++ (32 ∷ fields d want))) = e ∙ four-first n k d want in
    let b : length (decimal n) < length t = rw f (inside n (decimal k ++ (32 ∷ fields d want))) in
    let i : p.first ≡ length (decimal n) = space-one t p.first (length (decimal n)) p.one (rw f (front-space n (decimal k ++ (32 ∷ fields d want)))) b in
    let l : p.first < length t = omega arith in
    let g : drop (p.first + 1) t ≡ decimal k ++ (32 ∷ fields d want) = rw (i, f) (behind n (decimal k ++ (32 ∷ fields d want))) in
    let j : p.next ≡ length (decimal k) = space-one (decimal k ++ (32 ∷ fields d want)) p.next (length (decimal k)) (rw g at (p.two l))
    (front-space k (fields d want)) (inside k (fields d want)) in
    omega (arith, p.is l, i, j, length_fields n k)

-- two numbers before it and two behind it
pub four-at : (t : List ℕ) (at n k d want : ℕ) → SecondSpace t at → t ≡ four_fields n k d want → (at < length t) × (take at t ≡ fields n k) × (drop (at + 1) t ≡ fields d want)
unfolding four_fields
four-at t at n k d want p e =
    let i : at ≡ length (fields n k) = second_at t at n k d want p e in
    rw (e, i) (simp length-append (omega arith), take-append_seam (fields n k) (32 ∷ fields d want), drop-append-add (fields n k) (32 ∷ fields d want) 1)

-- the other way round
pub four-join : (t : List ℕ) (at n k d want : ℕ) → SecondSpace t at → at < length t → take at t ≡ fields n k → drop (at + 1) t ≡ fields d want → t ≡ four_fields n k d want
unfolding four_fields
four-join t at n k d want p h e f =
    let g : drop (suc at) t ≡ fields d want = rw (add-one at) at f in
    split_at t at 0 h ∙ rw (e, second-here t at p h, g)

-- ---- the newline

pub no-newline-four : (n k d want i : ℕ) → i < length (four_fields n k d want) → get_or (four_fields n k d want) i 0 ≡ 10 → ⊥
unfolding four_fields
no-newline-four n k d want i h e =
    elim (tri i (length (fields n k))) [
      | lt l ↦ no-newline n k i l (sym (List·get_d-append (fields n k) (32 ∷ fields d want) 0 i l) ∙ e)
      | eq l ↦ omega (arith, sym (get_or-append_seam (fields n k) 32 (fields d want) 0) ∙ rw l at e)
      | gt l ↦ last (i - length (fields n k) - 1) (omega arith)
    ]
  where
    last : (j : ℕ) → i ≡ length (fields n k) + suc j → ⊥
    last j q =
        let b : j < length (fields d want) = omega (arith, simp length-append at h) in
        no-newline d want j b (sym (get_or-append-add (fields n k) (32 ∷ fields d want) (suc j) 0) ∙ rw q at e)

-- the line by its last character
module _ (s : List ℕ) (n k d want : ℕ) (p : SpellsSet s n k d want) where
  bare : (get_or s (length s - 1) 0 ≡ 10 → ⊥) → s ≡ four_fields n k d want
  bare z = text-bare s (four_fields n k d want) (no-newline-four n k d want) z p.text

  ended : 0 < length s → get_or s (length s - 1) 0 ≡ 10 → take (length s - 1) s ≡ four_fields n k d want
  ended l z = text-ended s (four_fields n k d want) (no-newline-four n k d want) l z p.text

-- what the four numbers say, the line says
pub ended-four : (s : List ℕ) (p : Option (ℕ × ℕ × ℕ × ℕ)) → 0 < length s → get_or s (length s - 1) 0 ≡ 10 → FourSays (take (length s - 1) s) p → SpellSays s p
ended-four s (Some (n, k, d, want)) l z f = record { short = f.0; text = inr (text-newline s (four_fields n k d want) l z f.1) }
ended-four s None l z f = λ n k d want p. f n k d want p.short (ended s n k d want p l z)

pub bare-four : (s : List ℕ) (p : Option (ℕ × ℕ × ℕ × ℕ)) → (get_or s (length s - 1) 0 ≡ 10 → ⊥) → FourSays s p → SpellSays s p
bare-four s (Some (n, k, d, want)) z f = record { short = f.0; text = inl f.1 }
bare-four s None z f = λ n k d want p. f n k d want p.short (bare s n k d want p z)

-- so by the last character, a newline, and what stands before it
pub split-four : (s t : List ℕ) (a : ℕ) (p : Option (ℕ × ℕ × ℕ × ℕ)) → s ≡ t ++ (a ∷ []) → a ≡ 10 → FourSays t p → SpellSays s p
split-four s t a p e z f =
    let n : length s - 1 ≡ length t = rw e (simp length-append (omega arith)) in
    let h : take (length s - 1) s ≡ t = rw n (ap (take (length t)) e ∙ take_at t (a ∷ []) (length t) refl) in
    let l : get_or s (length s - 1) 0 ≡ a = rw n (ap (λ (x : List ℕ). get_or x (length t) 0) e ∙ get_or-append_seam t a [] 0) in
    ended-four s p (omega (arith, simp length-append at (ap length e))) (l ∙ z) (rw h f)

-- ---- one answer

length-four : (n k d want : ℕ) → length (four_fields n k d want) ≡ length (fields n k) + length (fields d want) + 1
unfolding four_fields
length-four n k d want = simp length-append (omega arith)

-- a line has characters
pub set-line-some : (s : List ℕ) (n k d want : ℕ) → SpellsSet s n k d want → 0 < length s
set-line-some s n k d want p =
    ⊎_elim (λ e. omega (arith, ap length e, length-four n k d want)) (λ e. omega (arith, simp length-append at (ap length e), length-four n k d want)) p.text

-- and at most 16 of them: four numbers of three digits, three spaces and a newline
pub set-line-short : (s : List ℕ) (n k d want : ℕ) → SpellsSet s n k d want → length s ≤ 16
set-line-short s n k d want p = ⊎_elim (λ e. omega (arith, ap length e, most)) (λ e. omega (arith, simp length-append at (ap length e), most)) p.text
  where
    most : length (four_fields n k d want) ≤ 15
    most =
        omega (
          arith,
          length-four n k d want,
          length_fields n k,
          length_fields d want,
          length-decimal 2 n p.short.n-short,
          length-decimal 2 k
              p.short.k-short,
          length-decimal 2 d p.short.d-short,
          length-decimal 2 want p.short.want-short,
        )

-- four numbers are those that they spell
pub record Same (n k d want n' k' d' want' : ℕ) : Type 0 where
  pub n-same : n ≡ n'
  pub k-same : k ≡ k'
  pub d-same : d ≡ d'
  pub want-same : want ≡ want'

second-of : (n k d want : ℕ) → SecondSpace (four_fields n k d want) (length (fields n k))
second-of n k d want =
    rw (four-first n k d want) (record {
      first = length (decimal n);
      one = front-space n (decimal k ++ (32 ∷ fields d want));
      none = λ h. absurd (omega (arith, inside n (decimal k ++ (32 ∷ fields d want))));
      next = length (decimal k);
      two = λ h. rw (behind n (decimal k ++ (32 ∷ fields d want))) (front-space k (fields d want));
      is = λ h. omega (arith, length_fields n k);
    })

four-one : (n k d want n' k' d' want' : ℕ) → four_fields n k d want ≡ four_fields n' k' d' want' → Same n k d want n' k' d' want'
four-one n k d want n' k' d' want' e =
    let a = four-at (four_fields n k d want) (length (fields n k)) n k d want (second-of n k d want) refl in
    let b = four-at (four_fields n k d want) (length (fields n k)) n' k' d' want' (second-of n k d want) e in
    let f = fields-one n k n' k' (sym a.1 ∙ b.1) in
    let g = fields-one d want d' want' (sym a.2 ∙ b.2) in
    record { n-same = f.0; k-same = f.1; d-same = g.0; want-same = g.1 }

-- a line spells at most four numbers
pub one-set-line : (s : List ℕ) (n k d want n' k' d' want' : ℕ) → SpellsSet s n k d want → SpellsSet s n' k' d' want' → Same n k d want n' k' d' want'
one-set-line s n k d want n' k' d' want' p q =
    let l = set-line-some s n k d want p in
    elim (test (eqb (get_or s (length s - 1) 0) 10)) [
      | passes e ↦
          let z = eqb-true (get_or s (length s - 1) 0) 10 e in
          four-one n k d want n' k' d' want' (sym (ended s n k d want p l z) ∙ ended s n' k' d' want' q l z)
      | fails e ↦
          let z = eqb-false (get_or s (length s - 1) 0) 10 e in
          four-one n k d want n' k' d' want' (sym (bare s n k d want p z) ∙ bare s n' k' d' want' q z)
    ]

-- no line has two answers
pub one-spelt : (s : List ℕ) (p q : Option (ℕ × ℕ × ℕ × ℕ)) → SpellSays s p → SpellSays s q → p ≡ q
one-spelt s (Some (n, k, d, want)) (Some (n', k', d', want')) p q = let e = one-set-line s n k d want n' k' d' want' p q in rw (e.n-same, e.k-same, e.d-same, e.want-same)
one-spelt s (Some (n, k, d, want)) None p q = absurd (q n k d want p)
one-spelt s None (Some (n, k, d, want)) p q = absurd (p n k d want q)
one-spelt s None None p q = refl
