-- Counting shades.
--     tally-hit, tally-miss, tally-end    how often a shade stands in the first i sectors
--     counts-at, counts_end, counts-not   what `has_counts` says of each shade
--     occurs-at                           each shade of a word occurs in it
--     counted-not, counted_is             a prenecklace with a known lyn is a necklace with given counts, or is not
-- Occurs of `shades_laws` is passed on.
use Rattle.words.proofs.Plain.{ℕ, zero, suc, ◌+◌, ◌%◌, ◌<◌, ◌≤◌, add-one, arith, ◌≡◌, refl, sym, ap, ◌∙◌, Bool, true, false, List, [], ◌∷◌, length, get_or, take}
use Rattle.words.proofs.Plain.{take-suc, take_all, ext_get_or}
use Rattle.words.specs.Search.{tab}
use Rattle.words.proofs.Split.{lt, eq, gt, tri, refuted}
use Rattle.words.proofs.{Search.length-tab, Search.get_d-tab, Sequence.sec, Lex.same_true, Lex.true_same}
use Rattle.rings.specs.Necklace.{necklace}
use Rattle.rings.specs.Counts.{occurs, counts_of, has_counts, counted_necklace}
use Rattle.ring_laws.proofs.{Run.Run, Lyndon.run-necklace, Lyndon.necklace-run}
use Rattle.shades_laws.proofs.Copies.{occurs-append}
pub use Rattle.shades_laws.proofs.Occurs.{occurs-none, occurs-here, occurs-other, occurs-past}

-- ---- one shade

-- the shade stands at place i
pub tally-hit : (b : ℕ) (s : List ℕ) (i x : ℕ) → i < length s → x ≡ occurs b (take i s) → sec s i ≡ b → x + 1 ≡ occurs b (take (i + 1) s)
tally-hit b s i x h e q = rw (add-one i, take-suc s i 0 h, occurs-append) (omega (arith, occurs-here (sec s i) b [] q, occurs-none b))

-- it does not
pub tally-miss : (b : ℕ) (s : List ℕ) (i x : ℕ) → i < length s → x ≡ occurs b (take i s) → (sec s i ≡ b → ⊥) → x ≡ occurs b (take (i + 1) s)
tally-miss b s i x h e q = rw (add-one i, take-suc s i 0 h, occurs-append) (omega (arith, occurs-other (sec s i) b [] q, occurs-none b))

-- all sectors are counted
pub tally-end : (b : ℕ) (s : List ℕ) (i x : ℕ) → length s ≤ i → x ≡ occurs b (take i s) → x ≡ occurs b s
tally-end b s i x h e = e ∙ ap (occurs b) (take_all i s h)

-- each letter of a word occurs in it
pub occurs-at : (w : List ℕ) (i : ℕ) → i < length w → 0 < occurs (sec w i) w
occurs-at [] i h = absurd (omega arith)
occurs-at (a ∷ w) zero h = omega (arith, occurs-here a a w refl)
occurs-at (a ∷ w) (suc i) h =
    elim (tri a (sec w i)) [
      | lt e ↦ omega (arith, occurs-other a (sec w i) w (λ q. omega arith), occurs-at w i (omega arith))
      | eq e ↦ omega (arith, occurs-here a (sec w i) w e)
      | gt e ↦ omega (arith, occurs-other a (sec w i) w (λ q. omega arith), occurs-at w i (omega arith))
    ]

-- ---- all shades

module _ (cs s : List ℕ) where
  -- the shade b stands in s as often as the counts say
  pub counts-at : has_counts cs s ≡ true → (b : ℕ) → b < length cs → occurs b s ≡ get_or cs b 0
  unfolding has_counts counts_of
  counts-at h b l = sym (get_d-tab (length cs) (λ x. occurs x s) b 0 l) ∙ ap (λ u. get_or u b 0) (same_true (tab (length cs) (λ x. occurs x s)) cs h)

  -- each does
  pub counts_end : (i : ℕ) → length cs ≤ i → ((b : ℕ) → b < i → occurs b s ≡ get_or cs b 0) → true ≡ has_counts cs s
  unfolding has_counts counts_of
  counts_end i l h =
      sym (true_same (tab (length cs) (λ x. occurs x s)) cs
      (ext_get_or 0 (tab (length cs) (λ x. occurs x s)) cs (length-tab (length cs) (λ x. occurs x s))
      (λ b k. let m : b < length cs = omega (arith, length-tab (length cs) (λ x. occurs x s)) in get_d-tab (length cs) (λ x. occurs x s) b 0 m ∙ h b (omega arith))))

  -- some does not
  pub counts-not : (b : ℕ) → b < length cs → (occurs b s ≡ get_or cs b 0 → ⊥) → false ≡ has_counts cs s
  counts-not b l h = sym (refuted (has_counts cs s) (λ e. h (counts-at e b l)))

  -- a prenecklace whose lyn does not divide its length is no necklace
  pub counted-not : (p : ℕ) → Run (sec s) (length s) p → (length s % p ≡ 0 → ⊥) → false ≡ counted_necklace cs s
  unfolding counted_necklace
  counted-not p r h = rw (refuted (necklace s) (λ e. h (necklace-run s p r e)))

  -- one whose lyn divides its length is
  pub counted_is : (p : ℕ) → Run (sec s) (length s) p → length s % p ≡ 0 → (r : Bool) → r ≡ has_counts cs s → r ≡ counted_necklace cs s
  unfolding counted_necklace
  counted_is p r h b e = rw (run-necklace s p r h) e
