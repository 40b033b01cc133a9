-- Demand 3 of the code, through its contracts alone.
--     step-bound       a step to the next necklace reports at most (n + 1) / 2 moves, rounded down, from any record that it accepts
--     step-last        0 at the last ring
--     steps-walk                steps one after another until Done (`Steps` of Says) are a full walk of the theory
--     steps-sum, steps-bound    from the all-zero ring their moves add up to one less than the prenecklaces of n and k, and to at most one less than
--                               the necklaces of lengths 1 to n together
use Rattle.std.specs.Prelude.{Ok}
use Rattle.words.proofs.Plain.{ℕ, suc, ◌+◌, ◌-◌, ◌/◌, ◌<◌, ◌≤◌, arith, ◌≡◌, sym, ap, ◌∙◌, Bool, List, [], ◌∷◌, length, replicate}
use Rattle.rings.specs.{Necklace.necklace, Prenecklace.prenecklace}
use Rattle.rings.specs.Steps.{next_of, moves, how_many, how_many_to, FullWalk, done, step}
use Rattle.ring_laws.proofs.{Next.low-or-full, Bound.bound-necklace, Bound.bound-last}
use Rattle.ring_laws.proofs.FullWalk.{zeros, walk-sum, walk-sum-bound}
use Rattle.walk_spec.specs.{declared.Walk.Walk, declared.Outcome.TheVariants.Moved, declared.Outcome.TheVariants.Done}
use Rattle.walk_spec.specs.Record.{ring_of}
use Rattle.walk_spec.specs.Says.{StartSays, StepSays, Steps, ends, goes}
use Rattle.walk_record_laws.proofs.Good.{good-ready, good-long, ring_of_lem}

-- ---- one step

-- from any record that it accepts, a step to the next necklace reports at most (n + 1) / 2 moves
pub step-bound : (w v : Walk) (m : ℕ) → length w.ring ≡ 64 → StepSays necklace w v (Ok (Moved m)) → m ≤ (w.n + 1) / 2
step-bound w v m size p =
    let r = good-ready w p.good size in
    let l = good-long w p.good size in
    let b = bound-necklace w.k (ring_of w) r.reading r.pos r.pre in
    let e : m ≡ moves w.k (ring_of w) (next_of necklace w.k (ring_of w)) = p.counted ∙ sym (ap (moves w.k (ring_of w)) p.next) in
    omega (arith, l, b, e)

-- at the last ring it is Done with 0 moves
pub step-last : (kind : List ℕ → Bool) (w v : Walk) (m : ℕ) → length w.ring ≡ 64 → StepSays kind w v (Ok (Done m)) → ring_of w ≡ replicate w.n (w.k - 1) → m ≡ 0
step-last kind w v m size p e =
    let r = good-ready w p.good size in
    p.counted ∙ sym (ap (moves w.k (ring_of w)) p.next) ∙ bound-last kind w.k (ring_of w) ((low-or-full w.n w.k (ring_of w) (rw (good-long w p.good size) at r.reading)).1 e)

-- ---- all steps

-- they are a full walk
pub steps-walk : (kind : List ℕ → Bool) {w : Walk} {rings : List (List ℕ)} {m : ℕ} → Steps kind w rings m → FullWalk kind w.k (ring_of w) rings m
steps-walk kind (ends p) = rw p.counted (done p.next)
steps-walk kind (goes {w = w} {v = v} p s) =
    let e : ring_of v ≡ p.to = ap ring_of p.handed ∙ ring_of_lem w.k p.to in
    let f = rw (ap (λ (x : Walk). x.k) p.handed, e) at (steps-walk kind s) in
    rw (p.counted, e) (step p.next f)

-- a walk from the all-zero ring: its moves add up to one less than the prenecklaces of n and k
pub steps-sum : (kind : List ℕ → Bool) (n k : ℕ) (v : Walk) (rings : List (List ℕ)) (m : ℕ) → 0 < k → StartSays (zeros n) k v (Ok tt) → Steps kind v rings m → suc m ≡ how_many prenecklace n k
steps-sum kind n k v rings m z s t =
    let e : ring_of v ≡ zeros n = ap ring_of s.1 ∙ ring_of_lem k (zeros n) in
    walk-sum kind n k z rings m (rw (ap (λ (x : Walk). x.k) s.1, e) at (steps-walk kind t))

-- and to at most one less than the necklaces of lengths 1 to n together
pub steps-bound : (kind : List ℕ → Bool) (n k : ℕ) (v : Walk) (rings : List (List ℕ)) (m : ℕ) → 0 < n → 0 < k → StartSays (zeros n) k v (Ok tt) → Steps kind v rings m →
    suc m ≤ how_many_to necklace n k
steps-bound kind n k v rings m pos z s t =
    let e : ring_of v ≡ zeros n = ap ring_of s.1 ∙ ring_of_lem k (zeros n) in
    walk-sum-bound kind n k pos z rings m (rw (ap (λ (x : Walk). x.k) s.1, e) at (steps-walk kind t))
