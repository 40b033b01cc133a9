-- The letters of given counts in increasing order are the least necklace with these counts.
--     sorted-least       a sorted word is not greater than any word with the same letters
--     sorted-necklace    so it is a necklace
--     first-letters      so the letters of the counts in increasing order are the first ring
use Rattle.words.proofs.Plain.{ℕ, suc, ◌<◌, ◌≤◌, arith, ◌≡◌, refl, sym, ap, ◌∙◌, true, false, some, List, [], ◌∷◌, length, get_or, take, drop}
use Rattle.words.proofs.{Plain.List·get_d-eq-default, Plain.take-append-drop, Search.all_of, Sequence.sec, Readings.first-is}
use Rattle.words.specs.{Order.before, Order.up_to, Turn.turn, Readings.Reading, Sum.sum_of}
use Rattle.words.proofs.Split.{lt, eq, gt, tri, both}
use Rattle.words.proofs.Lex.{before-eq, before-gt, before-irrefl, not-before}
use Rattle.rings.specs.{Necklace.necklace, Necklace.not_above_turn, Steps.first_of}
use Rattle.rings.specs.Counts.{occurs, has_counts, counted_necklace}
use Rattle.shades_laws.proofs.{Pool.Sorted, Copies.occurs-append}
use Rattle.shades_laws.proofs.Letters.{letters, occurs-letters, sorted-letters, length-letters}
use Rattle.shades_tally_inner.proofs.Tallying.{occurs-none, occurs-here, occurs-other, occurs-at, counts_end}
use Rattle.shades_raise_inner.specs.Places.{CountedRing}
use Rattle.shades_raise_inner.proofs.Blocking.{ring-known, ring-past}

-- no letter of a sorted word is below its first
sorted-first : (a : ℕ) (w : List ℕ) (c : ℕ) → Sorted (a ∷ w) → 0 < occurs c (a ∷ w) → a ≤ c
sorted-first a [] c s h = elim (tri c a) [ lt e ↦ absurd (omega (arith, occurs-other a c [] (λ q. omega arith), occurs-none c)) | eq e ↦ omega arith | gt e ↦ omega arith ]
sorted-first a (b ∷ w) c s h =
    elim (tri c a) [
      | lt e ↦ omega (arith, s 0 (omega arith), sorted-first b w c (λ i l. s (suc i) (omega arith)) (omega (arith, occurs-other a c (b ∷ w) (λ q. omega arith))))
      | eq e ↦ omega arith
      | gt e ↦ omega arith
    ]

-- words with one more of the same letter in front have the same letters behind it
same-behind : (a : ℕ) (v w : List ℕ) → ((b : ℕ) → occurs b (a ∷ v) ≡ occurs b (a ∷ w)) → (b : ℕ) → occurs b v ≡ occurs b w
same-behind a v w h b = elim (tri a b) [ lt e ↦ other (λ q. omega arith) | eq e ↦ omega (arith, h b, occurs-here a b v e, occurs-here a b w e) | gt e ↦ other (λ q. omega arith) ]
  where
    other : (a ≡ b → ⊥) → occurs b v ≡ occurs b w
    other q = sym (occurs-other a b v q) ∙ h b ∙ occurs-other a b w q

-- no word with the letters of a sorted one is before it
not-before-sorted : (w v : List ℕ) → Sorted w → ((b : ℕ) → occurs b v ≡ occurs b w) → before v w ≡ false
not-before-sorted [] [] s h = before-irrefl []
not-before-sorted [] (c ∷ v) s h = absurd (omega (arith, h c, occurs-here c c v refl, occurs-none c))
not-before-sorted (a ∷ w) [] s h = absurd (omega (arith, h a, occurs-here a a w refl, occurs-none a))
not-before-sorted (a ∷ w) (c ∷ v) s h =
    elim (tri a c) [
      | lt e ↦ before-gt c a v w e
      | eq e ↦ before-eq c a v w (sym e) ∙ not-before-sorted w v (λ i l. s (suc i) (omega arith)) (same-behind a v w (λ b. ap (λ x. occurs b (x ∷ v)) e ∙ h b))
      | gt e ↦ absurd (omega (arith, sorted-first a w c s (omega (arith, h c, occurs-here c c v refl))))
    ]

-- a sorted word is not greater than any word with the same letters
pub sorted-least : (w v : List ℕ) → Sorted w → ((b : ℕ) → occurs b v ≡ occurs b w) → up_to w v ≡ true
sorted-least w v s h = not-before v w (not-before-sorted w v s h)

-- a turn has the same letters
pub occurs-turn : (b i : ℕ) (w : List ℕ) → occurs b (turn i w) ≡ occurs b w
unfolding turn
occurs-turn b i w = omega (arith, occurs-append b (drop i w) (take i w), occurs-append b (take i w) (drop i w), ap (occurs b) (take-append-drop i w))

-- a sorted word is a necklace
pub sorted-necklace : (w : List ℕ) → Sorted w → necklace w ≡ true
unfolding necklace not_above_turn
sorted-necklace w s = all_of (length w) (not_above_turn w) (λ i h. sorted-least w (turn i w) s (λ b. occurs-turn b i w))

module _ (n k : ℕ) (cs : List ℕ) (many : length cs ≡ k) (whole : sum_of cs ≡ n) where
  -- the letters are a reading
  letters-reading : Reading n k (letters cs)
  letters-reading = record { long = length-letters 0 cs ∙ whole; shades = λ i h. below (sec (letters cs) i) (occurs-at (letters cs) i (omega (arith, length-letters 0 cs))) }
    where
      below : (x : ℕ) → 0 < occurs x (letters cs) → x < k
      below x h = elim (tri x k) [ lt e ↦ e | eq e ↦ past (omega arith) | gt e ↦ past (omega arith) ]
        where
          past : k ≤ x → x < k
          past l = absurd (omega (arith, occurs-letters x 0 x cs (omega arith), List·get_d-eq-default cs 0 {n = x} (omega arith)))

  -- they have the counts
  letters-counts : true ≡ has_counts cs (letters cs)
  letters-counts = counts_end cs (letters cs) (length cs) (omega arith) (λ b h. occurs-letters b 0 b cs (omega arith))

  -- each ring with the counts has the same letters
  same-letters : (v : List ℕ) → CountedRing cs n k v → (b : ℕ) → occurs b v ≡ occurs b (letters cs)
  same-letters v ring b = go (tri b (length cs)) ∙ sym (occurs-letters b 0 b cs (omega arith))
    where
      past : length cs ≤ b → occurs b v ≡ get_or cs b 0
      past h = ring-past cs n k v ring many b h ∙ sym (List·get_d-eq-default cs 0 h)

      go : Rattle.words.proofs.Split.Tri b (length cs) → occurs b v ≡ get_or cs b 0
      go (lt h) = ring-known cs n k v ring b h
      go (eq h) = past (omega arith)
      go (gt h) = past (omega arith)

  -- the letters in increasing order are the first ring
  pub first-letters : first_of (counted_necklace cs) n k ≡ some (letters cs)
  unfolding first_of counted_necklace
  first-letters =
      first-is n k (counted_necklace cs) (letters cs) letters-reading (both (necklace (letters cs)) (has_counts cs (letters cs))
      (sorted-necklace (letters cs) (sorted-letters 0 cs)) (sym letters-counts))
      (λ v r h. sorted-least (letters cs) v (sorted-letters 0 cs) (same-letters v (record { reading = r; counted = h })))
