-- The ceilings are reached, so they are the best ones (02, request h; demand 3): the rings notched about the middle climb, a place a move, to the ring notched
-- at its first place alone, which is a Lyndon word; none on the way is of the kind.
--     climb            from the ring notched at p a kind that only the last of these rings has is n - p moves away
--     one-sector       from the ring of one sector k - 2 every kind that has the Lyndon words is one move away
--     lyndon-reached, necklace-reached    the steps from `lyndon_start` and `necklace_start`
--     lyndon-best      n / 2 + 1 is the best ceiling for steps to the next Lyndon word, for every n but 2 and every k of at least 2
--     necklace-best    (n + 1) / 2 is the best one for steps to the next necklace, for every n and every k of at least 2
--     best-least       no smaller number is a ceiling
use Rattle.words.proofs.Plain.{ℕ, zero, suc, ◌+◌, ◌-◌, ◌/◌, ◌%◌, ◌<◌, ◌≤◌, arith, ◌≡◌, refl, sym, ap, ◌∙◌, Bool, true, false, List}
use native.Mathlib.Nat.{mod-eq_of_lt, mod-eq-sub-mod}
use Rattle.words.proofs.Split.{lt, eq, gt, tri}
use Rattle.rings.specs.{Necklace.necklace, Necklace.lyndon, Next.last_low, Next.next_prenecklace}
use Rattle.ring_laws.proofs.{Words.necklace-prenecklace, Walk.Kind, Sums.lyndon-prenecklace}
use Rattle.ring_laws.proofs.Classes.{lyndon-necklace, run-lyndon, not-lyndon, not-necklace}
use Rattle.ring_ceiling_laws.specs.Ceiling.{PrenecklaceOf, step_moves, Ceiling, Best, lyndon_ceiling, necklace_ceiling}
use Rattle.ring_ceiling_laws.specs.Notched.{notched, lyndon_start, necklace_start}
use Rattle.ring_ceiling_laws.proofs.FirstMove.{step-one, step-more, next-lyndon}
use Rattle.ring_ceiling_laws.proofs.Ceiling.{lyndon-ceiling, necklace-ceiling}
use Rattle.ring_ceiling_laws.proofs.Notched.{length-notched, notched-of, notched-run, notched-low, has-low, notch-next}

-- ---- from notch to notch

module _ (kind : List ℕ → Bool) (only : Kind kind) (k n : ℕ) (two : 2 ≤ k) (some : 0 < n) where
  -- the last of these rings is of the kind, and none before it after the start
  climb : (f p : ℕ) → p + suc f ≡ n → 0 < p → n ≤ p + p + 2 → ((q : ℕ) → p < q → q < n → kind (notched k n q) ≡ false) → kind (notched k n n) ≡ true →
      step_moves kind k (notched k n p) ≡ suc f
  climb zero p e z b before last = step-one n k (notched k n p) (notched-of k n p two some) (has-low k n p two z (omega arith) b) kind only (rw next last)
    where
      next : next_prenecklace k (notched k n p) ≡ notched k n n
      next = notch-next k n p two z (omega arith) b ∙ ap (notched k n) (omega arith)
  climb (suc f) p e z b before last = more (climb f (suc p) (omega arith) (omega arith) (omega arith) (λ q l m. before q (omega arith) m) last)
    where
      next : next_prenecklace k (notched k n p) ≡ notched k n (suc p)
      next = notch-next k n p two z (omega arith) b

      more : step_moves kind k (notched k n (suc p)) ≡ suc f → step_moves kind k (notched k n p) ≡ suc (suc f)
      more i =
          step-more n k (notched k n p) (notched-of k n p two some) (has-low k n p two z (omega arith) b) kind only (rw next (before (suc p) (omega arith) (omega arith)))
          ∙ ap suc (rw next i)

-- ---- which of these rings are Lyndon words and necklaces

module _ (k n : ℕ) (two : 2 ≤ k) where
  -- the last one is a Lyndon word
  last-lyndon : 0 < n → lyndon (notched k n n) ≡ true
  last-lyndon z =
      run-lyndon (notched k n n) n (notched-run k n n two z (omega arith) (omega arith)) (sym (length-notched k n n))

  -- one notched in the second half, or at its start, is none: it is a run of p
  no-lyndon : (p : ℕ) → 0 < p → p < n → n ≤ p + p → lyndon (notched k n p) ≡ false
  no-lyndon p z h b = not-lyndon (notched k n p) p (notched-run k n p two z (omega arith) b) (omega (arith, length-notched k n p))

  -- one notched in the second half is no necklace: the run is cut
  no-necklace : (p : ℕ) → 0 < p → p < n → n < p + p → necklace (notched k n p) ≡ false
  no-necklace p z h b = not-necklace (notched k n p) p (notched-run k n p two z (omega arith) (omega arith)) (rw (length-notched k n p) cut)
    where
      cut : 0 < n % p
      cut =
          let u : p ≤ n = omega arith in
          let l : n - p < p = omega arith in
          omega (arith, mod-eq-sub-mod u, mod-eq_of_lt l)

-- ---- the ceilings are reached

-- from the ring of one sector k - 2 to the ring k - 1: one move
one-sector : (kind : List ℕ → Bool) → Kind kind → ((w : List ℕ) → lyndon w ≡ true → kind w ≡ true) → (k : ℕ) → 2 ≤ k → step_moves kind k (notched k 1 0) ≡ 1
one-sector kind only has k two = step-one 1 k (notched k 1 0) start low kind only (has (next_prenecklace k (notched k 1 0)) (next-lyndon 1 k (notched k 1 0) start low raised))
  where
    start : PrenecklaceOf 1 k (notched k 1 0)
    start = notched-of k 1 0 two (omega arith)

    raised : last_low k (notched k 1 0) ≡ 1
    raised = notched-low k 1 0 two (omega arith)

    low : 0 < last_low k (notched k 1 0)
    low = omega (arith, raised)

-- from `lyndon_start` n / 2 + 1 moves lead to the next Lyndon word, where n is not 2
pub lyndon-reached : (n k : ℕ) → 0 < n → (n ≡ 2 → ⊥) → 2 ≤ k → step_moves lyndon k (lyndon_start k n) ≡ lyndon_ceiling n
lyndon-reached (suc zero) k z h two = one-sector lyndon lyndon-prenecklace (λ w y. y) k two
lyndon-reached zero k z h two = absurd (omega arith)
lyndon-reached (suc (suc zero)) k z h two = absurd (h refl)
lyndon-reached (suc (suc (suc m))) k z h two = long (suc (suc (suc m))) (omega arith)
  where
    long : (n : ℕ) → 3 ≤ n → step_moves lyndon k (lyndon_start k n) ≡ lyndon_ceiling n
    long n h =
        climb lyndon lyndon-prenecklace k n two (omega arith) (n / 2) ((n - 1) / 2) (omega arith) (omega arith) (omega arith)
        (λ q l m. no-lyndon k n two q (omega arith) m (omega arith)) (last-lyndon k n two (omega arith))
        ∙ omega arith

-- from `necklace_start` (n + 1) / 2 moves lead to the next necklace
pub necklace-reached : (n k : ℕ) → 0 < n → 2 ≤ k → step_moves necklace k (necklace_start k n) ≡ necklace_ceiling n
necklace-reached n k z two = elim (tri 1 n) [ lt l ↦ long l | eq e ↦ rw (← e) (one-sector necklace necklace-prenecklace lyndon-necklace k two) | gt l ↦ absurd (omega arith) ]
  where
    long : 1 < n → step_moves necklace k (necklace_start k n) ≡ necklace_ceiling n
    long h =
        climb necklace necklace-prenecklace k n two z ((n + 1) / 2 - 1) (n / 2) (omega arith) (omega arith) (omega arith)
        (λ q l m. no-necklace k n two q (omega arith) m (omega arith)) (lyndon-necklace (notched k n n) (last-lyndon k n two z))
        ∙ omega arith

-- ---- the ceilings are the best ones

-- request h's ceiling is the best one, for every n but 2; for n = 2 it is reached from 3 shades on (proofs/Cases)
pub lyndon-best : (n k : ℕ) → 0 < n → (n ≡ 2 → ⊥) → 2 ≤ k → Best lyndon n k (lyndon_ceiling n) (lyndon_start k n)
lyndon-best n k z h two =
    record { within = lyndon-ceiling n k; starts = notched-of k n ((n - 1) / 2) two z; reached = lyndon-reached n k z h two }

-- demand 3's ceiling is the best one, for every n
pub necklace-best : (n k : ℕ) → 0 < n → 2 ≤ k → Best necklace n k (necklace_ceiling n) (necklace_start k n)
necklace-best n k z two =
    record { within = necklace-ceiling n k; starts = notched-of k n (n / 2) two z; reached = necklace-reached n k z two }

-- no smaller number is a ceiling
pub best-least : (kind : List ℕ → Bool) (n k m x : ℕ) (w : List ℕ) → Best kind n k m w → Ceiling kind n k x → m ≤ x
best-least kind n k m x w best ceiling = omega (arith, ceiling w best.starts, best.reached)
