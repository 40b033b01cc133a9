-- The strip's words (specs/Strip): each Lyndon word over k shades whose length divides n, nothing else, in increasing order.
--     dictionary-all, dictionary-in, dictionary-increasing    the dictionary holds words of at most n sectors and of k shades, each of them, in increasing order
--     kept_in                                                 what passes of a list is kept
--     words-only, words-each, words-increasing                the same of the strip's words
use Rattle.words.proofs.Plain.{ℕ, zero, suc, ◌%◌, ◌≤◌, ◌<◌, ◌∣◌, arith, ◌≡◌, refl, sym, ap, ◌∙◌, Bool, true, List, [], ◌∷◌, map, eqb, length, eq-eqb, eqb-true}
use native.Mathlib.Nat.{le_of_dvd, mod-eq-zero_of_dvd, dvd_of_mod-eq-zero}
use Rattle.words.specs.{Order.before, Readings.Reading, Readings.fan}
use Rattle.words.proofs.Split.{passes, fails, test, lt, eq, gt, tri, both, both_left, both_right}
use Rattle.words.proofs.Readings.{All, nothing, also, all_of_each, all-weaken, Increasing, empty, more, increasing-fan, fan-all, reading-cons, reading-rest}
use Rattle.word_list_spec.specs.Passing.{kept}
use Rattle.word_list_spec.proofs.Kept.{kept-all, kept-increasing}
use Rattle.rings.specs.Necklace.{lyndon}
use Rattle.strip_spec.specs.Strip.{dictionary, on_strip, strip_words}
use Rattle.strip_spec.proofs.Listed.{In, here, there, in_left, in_right, in_map}

-- ---- the dictionary

-- u is a word of k shades and of at most n sectors
abbrev pub Word : ℕ → ℕ → List ℕ → Type 0
Word n k u = Reading (length u) k u × (length u ≤ n)

empty-word : (n k : ℕ) → Word n k []
empty-word n k = (record { long = refl; shades = λ i h. absurd (omega arith) }, omega arith)

dictionary-all : (n k : ℕ) → All (Word n k) (dictionary n k)
unfolding dictionary
dictionary-all zero k = also (empty-word 0 k) nothing
dictionary-all (suc n) k =
    also (empty-word (suc n) k) (fan-all k (dictionary n k) (λ b l. all-weaken (λ u r. (reading-cons (length u) k b u l r.0, omega (arith, r.1))) (dictionary-all n k)))

-- a shade in front of a word of the list is in the fan
in-fan : (d : ℕ) (ws : List (List ℕ)) (b : ℕ) (u : List ℕ) → b < d → In u ws → In (b ∷ u) (fan d ws)
unfolding fan
in-fan zero ws b u l i = absurd (omega arith)
in-fan (suc d) ws b u l i =
    elim (tri b d) [
      | lt e ↦ in_left (b ∷ u) (fan d ws) (map (λ w. d ∷ w) ws) (in-fan d ws b u e i)
      | eq e ↦ in_right (b ∷ u) (fan d ws) (map (λ w. d ∷ w) ws) (rw e (in_map (λ w. d ∷ w) u ws i))
      | gt e ↦ absurd (omega arith)
    ]

dictionary-in : (n k : ℕ) (u : List ℕ) → Reading (length u) k u → length u ≤ n → In u (dictionary n k)
unfolding dictionary
dictionary-in zero k [] r h = here refl
dictionary-in zero k (b ∷ u) r h = absurd (omega arith)
dictionary-in (suc n) k [] r h = here refl
dictionary-in (suc n) k (b ∷ u) r h = there (in-fan k (dictionary n k) b u (r.shades 0 (omega arith)) (dictionary-in n k u (reading-rest (length u) k b u r) (omega arith)))

dictionary-increasing : (n k : ℕ) → Increasing (dictionary n k)
unfolding dictionary before
dictionary-increasing zero k = more nothing empty
dictionary-increasing (suc n) k =
    more (fan-all k (dictionary n k) (λ b l. all_of_each (λ w. refl) (dictionary n k))) (increasing-fan k (dictionary n k) (dictionary-increasing n k))

-- ---- what is kept

kept_in : (f : List ℕ → Bool) (v : List ℕ) (ws : List (List ℕ)) → In v ws → f v ≡ true → In v (kept f ws)
unfolding kept
kept_in f v (w ∷ ws) (here q) h = rw (ap f (sym q) ∙ h, kept) (here q)
kept_in f v (w ∷ ws) (there i) h = elim (test (f w)) [ passes e ↦ rw (e, kept) (there (kept_in f v ws i h)) | fails e ↦ rw (e, kept) (kept_in f v ws i h) ]
kept_in f v [] x'' h = elim x'' [ ]

-- ---- the strip's words

-- a Lyndon word over k shades whose length divides n
abbrev pub StripWord : ℕ → ℕ → List ℕ → Type 0
StripWord n k u = Reading (length u) k u × (lyndon u ≡ true) × (length u ∣ n)

module _ (n k : ℕ) (z : 0 < n) where
  -- only such words
  pub words-only : All (StripWord n k) (strip_words n k)
  unfolding strip_words on_strip
  words-only =
      all-weaken
      (λ u r. (r.0.0, both_left (lyndon u) (eqb (n % length u) 0) r.1, dvd_of_mod-eq-zero (length u) (eqb-true (n % length u) 0 (both_right (lyndon u) (eqb (n % length u) 0) r.1))))
      (kept-all (on_strip n) (dictionary n k) (dictionary-all n k))

  -- each of them
  pub words-each : (u : List ℕ) → StripWord n k u → In u (strip_words n k)
  unfolding strip_words on_strip
  words-each u (r, l, d) =
      kept_in (on_strip n) u (dictionary n k) (dictionary-in n k u r (le_of_dvd z d)) (both (lyndon u) (eqb (n % length u) 0) l (eq-eqb (n % length u) 0 (mod-eq-zero_of_dvd (length u) d)))

  -- in increasing order
  pub words-increasing : Increasing (strip_words n k)
  unfolding strip_words
  words-increasing = kept-increasing (on_strip n) (dictionary n k) (dictionary-increasing n k)
