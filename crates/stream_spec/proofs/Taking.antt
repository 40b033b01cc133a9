-- A block byte after byte, for whatever the lines print.
--     byte-kept, byte-passed     a byte that is no newline
--     Taking                     i bytes of the block s are taken, where u was kept of the line under way and b₀ the buffer before them
--     taking-none, taking-on     no bytes, and one more
--     taking-room                there is room for a line more
--     taking-end                 the end of the block
--     end_none, end-some         the end of the input
--     blocks-run, end-run        so blocks that are taken are a run
use Rattle.words.proofs.Plain.{ℕ, zero, suc, ◌+◌, ◌*◌, ◌<◌, ◌≤◌, add-one, arith, ◌≡◌, refl, sym, ap, subst, ◌∙◌, true, false, List, [], ◌∷◌, ◌++◌, eqb, length}
use Rattle.words.proofs.Plain.{get_or, take, drop, set, length-append, length-take, length-drop, length-set, take-suc, take-suc-set, take_all, take-take, take_at}
use Rattle.words.proofs.Plain.{sets-eq, drop-append-add, drop-drop, eq-eqb, ne_eqb}
use native.Mathlib.Nat.{suc-mul, mul-le-mul_right}
use Rattle.text_spec.specs.{Ascii.newline, Put.Placed}
use Rattle.stream_spec.specs.Lines.{ended, under, last_of}
use Rattle.stream_spec.specs.Texts.{Relation, Texts, done, Tells, BlockRun, over, block}
use Rattle.stream_spec.specs.Blocks.{Puts, ByteSays, ends, kept, BlockSays, EndSays}
use Rattle.stream_spec.proofs.Bytes.{ended-none, under_none, ended-on, ended_same, under-on, under_same, last_some, last_none}
use Rattle.stream_spec.proofs.{Unique.texts-append, Unique.texts-one, Cut.kept_on}

-- ---- one byte of a line of which `len` bytes are held in a slice of `most`

module _ (Answers : Relation) (room : ℕ) (line : List ℕ) (len at c : ℕ) (b : List ℕ) (e : c ≡ newline → ⊥) where
  -- it is kept
  pub byte-kept : len < length line → ByteSays Answers (length line) room (take len line) at c b (take (len + 1) (set line len c)) at b
  byte-kept h =
      let q : take (len + 1) (set line len c) ≡ take len line ++ (c ∷ []) = rw (add-one len) (take-suc-set line len c h) in
      let n : length (take len line ++ (c ∷ [])) ≤ length line = simp (length-append, length-take) (omega arith) in
      kept e (q ∙ sym (take_all (length line) (take len line ++ (c ∷ [])) n)) refl refl

  -- the line is too long already
  pub byte-passed : len ≤ length line → length line ≤ len → ByteSays Answers (length line) room (take len line) at c b (take len line) at b
  byte-passed l h =
      let n : length (take len line) ≡ length line = simp length-take (omega arith) in
      kept e (sym (take_at (take len line) (c ∷ []) (length line) n)) refl refl

-- ---- byte after byte

take-nil : (m : ℕ) → take {A = ℕ} m [] ≡ []
take-nil zero = refl
take-nil (suc m) = refl

pub record Taking (Answers : Relation) (most room : ℕ) (u s b₀ : List ℕ) (i : ℕ) (v : List ℕ) (at : ℕ) (b : List ℕ) : Type 0 where
  pub text : List ℕ
  pub says : Texts Answers (ended u (take i s)) text
  pub line : v ≡ take most (under u (take i s))
  pub long : at ≡ length text
  pub short : length text ≤ i * room
  pub bytes : b ≡ text ++ drop (length text) b₀

module _ (Answers : Relation) (most room : ℕ) where
  -- no bytes are taken
  pub taking-none : (u s b : List ℕ) → length u ≤ most → Taking Answers most room u s b 0 u 0 b
  taking-none u s b h =
      record {
        text = [];
        says = rw (ended-none u) done;
        line = rw (under_none u) (sym (take_all most u h));
        long = refl;
        short = omega arith;
        bytes = refl;
      }

  module _ (tells : Tells Answers most) (u s b₀ : List ℕ) (i : ℕ) (v : List ℕ) (at : ℕ) (b : List ℕ) (t : Taking Answers most room u s b₀ i v at b) where
    -- the buffer keeps its length, as far as the texts have room
    pub taking-long : i * room ≤ length b₀ → length b ≡ length b₀
    taking-long h = ap length t.bytes ∙ simp (length-append, length-drop) (omega (arith, t.short))

    -- there is room for a line more
    pub taking-room : i < length s → length s * room ≤ length b₀ → at + room ≤ length b
    taking-room l h =
        let m = mul-le-mul_right {m = suc i} {n = length s} room (omega arith) in
        omega (arith, m, suc-mul i room, taking-long (omega (arith, m, suc-mul i room)), t.long, t.short)

    -- one byte more
    pub taking-on : i < length s → at + room ≤ length b → (w : List ℕ) (r : ℕ) (b' : List ℕ) → ByteSays Answers most room v at (get_or s i 0) b w r b' →
        Taking Answers most room u s b₀ (i + 1) w r b'
    taking-on l h w r b' (ends e z a) =
        record {
          text = t.text ++ a.text;
          says =
              rw (grown, ended-on u (take i s) (get_or s i 0) n)
              (texts-append Answers (ended u (take i s)) (under u (take i s) ∷ []) t.text a.text t.says (texts-one Answers (under u (take i s)) a.text said));
          line = rw (grown, under-on u (take i s) (get_or s i 0) n) (z ∙ sym (take-nil most));
          long = a.placed.next ∙ ap (λ (m : ℕ). m + length a.text) t.long ∙ sym (length-append t.text a.text);
          short = rw (length-append t.text a.text, add-one i) (omega (arith, t.short, a.short, suc-mul i room));
          bytes = a.placed.bytes ∙ sets-eq a.text b at (omega (arith, a.short)) ∙ joined;
        }
      where
        grown : take (i + 1) s ≡ take i s ++ (get_or s i 0 ∷ [])
        grown = rw (add-one i) (take-suc s i 0 l)

        n : eqb (get_or s i 0) newline ≡ true
        n = eq-eqb (get_or s i 0) newline e

        said : Answers (under u (take i s)) a.text
        said = tells.first (under u (take i s)) a.text (rw t.line at a.says)

        joined : take at b ++ a.text ++ drop (at + length a.text) b ≡ (t.text ++ a.text) ++ drop (length (t.text ++ a.text)) b₀
        joined =
            let f : take at b ≡ t.text = ap (take at) t.bytes ∙ take_at t.text (drop (length t.text) b₀) at (sym t.long) in
            let g : drop (at + length a.text) b ≡ drop (length t.text + length a.text) b₀ =
            ap (λ (m : ℕ). drop (m + length a.text) b) t.long
            ∙ ap (drop (length t.text + length a.text)) t.bytes
            ∙ drop-append-add t.text (drop (length t.text) b₀) (length a.text)
            ∙ drop-drop (length a.text) (length t.text) b₀ in
            rw (f, g, length-append t.text a.text)
    taking-on l h w r b' (kept e z a f) =
        record {
          text = t.text;
          says = rw (grown, ended_same u (take i s) (get_or s i 0) n) t.says;
          line = rw (grown, under_same u (take i s) (get_or s i 0) n) (z ∙ ap (λ (x : List ℕ). take most (x ++ (get_or s i 0 ∷ []))) t.line ∙ again);
          long = a ∙ t.long;
          short = rw (add-one i) (omega (arith, t.short, suc-mul i room));
          bytes = f ∙ t.bytes;
        }
      where
        grown : take (i + 1) s ≡ take i s ++ (get_or s i 0 ∷ [])
        grown = rw (add-one i) (take-suc s i 0 l)

        n : eqb (get_or s i 0) newline ≡ false
        n = ne_eqb (get_or s i 0) newline e

        again : take most (take most (under u (take i s)) ++ (get_or s i 0 ∷ [])) ≡ take most (under u (take i s) ++ (get_or s i 0 ∷ []))
        again = kept_on most (take most (under u (take i s))) (under u (take i s)) (get_or s i 0) (take-take most most (under u (take i s)) (omega arith))

    -- the end of the block
    pub taking-end : i ≤ length s → length s ≤ i → length s * room ≤ length b₀ → BlockSays Answers most u s b₀ v at b
    taking-end x y h =
        let e : take i s ≡ s = take_all i s y in
        let q : i ≡ length s = omega arith in
        record {
          text = t.text;
          says = rw e at t.says;
          line = rw e at t.line;
          long = t.long;
          inside = omega (arith, t.long, rw q at t.short);
          bytes = t.bytes;
        }

-- ---- the end of the input

module _ (Answers : Relation) (u b : List ℕ) where
  pub end_none : length u ≡ 0 → EndSays Answers u b 0 b
  end_none z = record { text = []; says = rw (last_none u z) done; long = refl; inside = omega arith; bytes = refl }

  pub end-some : (room : ℕ) → 0 < length u → room ≤ length b → (r : ℕ) (b' : List ℕ) → Puts (Answers u) room b 0 r b' → EndSays Answers u b r b'
  end-some room z h r b' a =
      let o : 0 + length a.text ≡ length a.text = omega arith in
      record {
        text = a.text;
        says = rw (last_some u z) (texts-one Answers u a.text a.says);
        long = a.placed.next ∙ o;
        inside = omega (arith, a.placed.next, a.short);
        bytes = a.placed.bytes ∙ rw o at (sets-eq a.text b 0 (omega (arith, a.short)));
      }

-- ---- a run

-- what stands in the buffer, as far as the texts go, is the texts
front : (t b b' : List ℕ) (r : ℕ) → b' ≡ t ++ drop (length t) b → r ≡ length t → take r b' ≡ t
front t b b' r e l = ap (take r) e ∙ take_at t (drop (length t) b) r (sym l)

module _ (Answers : Relation) (most : ℕ) where
  -- the end
  pub end-run : (u b : List ℕ) (r : ℕ) (b' : List ℕ) → EndSays Answers u b r b' → BlockRun Answers most u [] (take r b')
  end-run u b r b' e = rw (front e.text b b' r e.bytes e.long) (over e.says)

  -- a block, and what follows
  pub block_run : (u s b v : List ℕ) (r : ℕ) (b' : List ℕ) → BlockSays Answers most u s b v r b' → (rest text : List ℕ) → BlockRun Answers most v rest text →
      BlockRun Answers most u (s ++ rest) (take r b' ++ text)
  block_run u s b v r b' e rest text q = rw (front e.text b b' r e.bytes e.long) (block s e.says (rw e.line at q))
