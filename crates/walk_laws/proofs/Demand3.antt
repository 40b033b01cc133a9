-- Demand 3 of the code, for whatever answer the contract admits at a record that passes its checks. (Of Moved and of Done apart: `walk_spec`, proofs/Sums.)
--     accepted-moves    a step to the next necklace is not refused, and reports at most (n + 1) / 2 moves, rounded down
--     accepted-last     at the last ring a step of any kind is Done with 0 moves
-- The sums over a full walk, and that steps from a start come to Done, so that they are about something: OneRing.
use Rattle.std.specs.Prelude.{Result, Ok, Err}
use Rattle.words.proofs.Plain.{ℕ, ◌+◌, ◌-◌, ◌/◌, ◌≤◌, arith, ◌≡◌, refl, sym, ap, ◌∙◌, Bool, List, length, replicate}
use Rattle.rings.specs.{Necklace.necklace, Steps.next_of, Steps.moves}
use Rattle.ring_laws.proofs.{Next.low-or-full, Next.next-none, Bound.bound-necklace}
use Rattle.refusal.specs.Order.{Passed}
use Rattle.refusal.proofs.Unique.{never_both}
use Rattle.refusal.specs.declared.Refusal.{Refusal}
use Rattle.walk_spec.specs.{declared.Walk.Walk, declared.Outcome.Outcome, Record.ring_of, Record.walk_asked, Says.StepSays}
use Rattle.walk_spec.specs.declared.Outcome.TheVariants.{Moved, Done}
use Rattle.walk_record_laws.proofs.{Good.good-ready, Good.good-long, Sums.step-bound, Sums.step-last}
use Rattle.walk_laws.specs.Reports.{ReportsMoves}

-- a step to the next necklace is not refused, and reports at most (n + 1) / 2 moves
pub accepted-moves : (w v : Walk) (o : Result Outcome Refusal) → length w.ring ≡ 64 → Passed (walk_asked w) → StepSays necklace w v o → (m : ℕ) × ReportsMoves m o × (m ≤ (w.n + 1) / 2)
accepted-moves w v (Ok (Moved m)) size good says = (m, refl, step-bound w v m size says)
accepted-moves w v (Ok (Done m)) size good says =
    let ready = good-ready w good size in
    let bound = bound-necklace w.k (ring_of w) ready.reading ready.pos ready.pre in
    let counted : m ≡ moves w.k (ring_of w) (next_of necklace w.k (ring_of w)) = says.counted ∙ sym (ap (moves w.k (ring_of w)) says.next) in
    (m, refl, omega (arith, good-long w good size))
accepted-moves w v (Err r) size good says = absurd (never_both (walk_asked w) r says.0 good)

-- at the last ring a step of any kind is Done with 0 moves
pub accepted-last : (kind : List ℕ → Bool) (w v : Walk) (o : Result Outcome Refusal) → length w.ring ≡ 64 → Passed (walk_asked w) → ring_of w ≡ replicate w.n (w.k - 1) → StepSays kind w v o →
    o ≡ Ok (Done 0)
accepted-last kind w v (Ok (Moved m)) size good last says =
    let ready = good-ready w good size in
    let none_left = next-none kind w.k (ring_of w) ((low-or-full w.n w.k (ring_of w) (rw (good-long w good size) at ready.reading)).1 last) in
    let some_left = says.next in
    absurd (let z : ◌≡◌ {A = ℕ} 0 1 = cc in omega arith)
accepted-last kind w v (Ok (Done m)) size good last says = ap (λ t. Ok (Done t)) (step-last kind w v m size says last)
accepted-last kind w v (Err r) size good last says = absurd (never_both (walk_asked w) r says.0 good)
