-- How far one step of the code goes (02, request h; demand 3), of whatever answer the contract of the step admits. That a record's ring has 64 places is
-- its type's.
--     ring-is             the ring of a record that passed its checks is a prenecklace of the record's n and k
--     step-ceiling        a ceiling of the definitions is one of the code: Moved and Done report no more, and a refusal reports nothing
--     step-reached        from the record of a ring that reaches a ceiling a step is not refused, and reports as many moves
--     lyndon-step-ceiling, necklace-step-ceiling    `walk::next_lyndon` and `walk::next_necklace` stay within n / 2 + 1 and (n + 1) / 2
--     lyndon-step-reached, necklace-step-reached    and reach them
--     accepted-lyndon     at a record that passes its checks a step to the next Lyndon word is not refused, and reports at most n / 2 + 1 moves
use Rattle.std.specs.Prelude.{Result, Ok, Err}
use Rattle.words.proofs.Plain.{ℕ, ◌+◌, ◌/◌, ◌≤◌, arith, ◌≡◌, sym, ap, ◌∙◌, Bool, Option, none, some, List, length}
use Rattle.words.specs.Readings.{Sized, Shaded}
use Rattle.rings.specs.{Necklace.necklace, Necklace.lyndon, Steps.next_of, Steps.moves}
use Rattle.ring_ceiling_laws.specs.Ceiling.{PrenecklaceOf, step_moves, Ceiling, Best, lyndon_ceiling, necklace_ceiling}
use Rattle.ring_ceiling_laws.specs.Notched.{lyndon_start, necklace_start}
use Rattle.ring_ceiling_laws.proofs.{Ceiling.lyndon-ceiling, Ceiling.necklace-ceiling, Reached.lyndon-best, Reached.necklace-best}
use Rattle.refusal.specs.Order.{Passed}
use Rattle.refusal.proofs.Unique.{never_both}
use Rattle.refusal.specs.declared.Refusal.{Refusal}
use Rattle.walk_spec.specs.{declared.Walk.Walk, declared.Outcome.Outcome, Says.StepSays}
use Rattle.walk_spec.specs.declared.Outcome.TheVariants.{Moved, Done}
use Rattle.walk_spec.specs.Record.{ring_of, walk_of, walk_asked}
use Rattle.walk_record_laws.proofs.Good.{good-ready, good-long, ring_of_lem, walk-good}
use Rattle.walk_laws.specs.Reports.{ReportsUpTo, ReportsMoves}
use Rattle.walk_laws.proofs.Reports.{reports-within, accepted-reports}

-- ---- any kind

-- the ring of a record that passed its checks
ring-is : (w : Walk) → Passed (walk_asked w) → length w.ring ≡ 64 → PrenecklaceOf w.n w.k (ring_of w)
ring-is w good size =
    let ready = good-ready w good size in
    let long = good-long w good size in
    record { pos = omega (arith, long, ready.pos); reading = rw long at ready.reading; pre = ready.pre }

-- what a contract counts is what the definitions' step reports
counted_is : (kind : List ℕ → Bool) (k : ℕ) (s : List ℕ) (answer : Option (List ℕ)) (x : ℕ) → next_of kind k s ≡ answer → x ≡ moves k s answer → x ≡ step_moves kind k s
unfolding step_moves
counted_is kind k s answer x next counted = counted ∙ sym (ap (moves k s) next)

-- a ceiling of the definitions is one of the code
pub step-ceiling : (kind : List ℕ → Bool) (m : ℕ) (w v : Walk) (o : Result Outcome Refusal) → length w.ring ≡ 64 → Ceiling kind w.n w.k m → StepSays kind w v o → ReportsUpTo m o
step-ceiling kind m w v (Ok (Moved x)) size top says =
    omega (arith, counted_is kind w.k (ring_of w) (some says.to) x says.next says.counted, top (ring_of w) (ring-is w says.good size))
step-ceiling kind m w v (Ok (Done x)) size top says =
    omega (arith, counted_is kind w.k (ring_of w) none x says.next says.counted, top (ring_of w) (ring-is w says.good size))
step-ceiling kind m w v (Err r) size top says = tt

-- from the record of a ring that reaches a ceiling a step is not refused, and reports as many moves
pub step-reached : (kind : List ℕ → Bool) (n k m : ℕ) (s : List ℕ) → Sized n → Shaded k → Best kind n k m s → (v : Walk) (o : Result Outcome Refusal) →
    StepSays kind (walk_of k s) v o → ReportsMoves m o
step-reached kind n k m s sized shaded best v (Ok (Moved x)) says =
    counted_is kind k (ring_of (walk_of k s)) (some says.to) x says.next says.counted ∙ ap (step_moves kind k) (ring_of_lem k s) ∙ best.reached
step-reached kind n k m s sized shaded best v (Ok (Done x)) says =
    counted_is kind k (ring_of (walk_of k s)) none x says.next says.counted ∙ ap (step_moves kind k) (ring_of_lem k s) ∙ best.reached
step-reached kind n k m s sized shaded best v (Err r) says =
    never_both (walk_asked (walk_of k s)) r says.0 (walk-good n k s sized shaded best.starts.reading best.starts.pre)

-- ---- to the next Lyndon word

-- request h, of the code: Moved and Done report at most half of n, rounded down, plus 1 moves
pub lyndon-step-ceiling : (w v : Walk) (o : Result Outcome Refusal) → length w.ring ≡ 64 → StepSays lyndon w v o → ReportsUpTo (lyndon_ceiling w.n) o
lyndon-step-ceiling w v o size says = step-ceiling lyndon (lyndon_ceiling w.n) w v o size (lyndon-ceiling w.n w.k) says

-- so at a record that passes its checks a step is not refused, and reports at most n / 2 + 1 moves, whatever answer the contract admits
pub accepted-lyndon : (w v : Walk) (o : Result Outcome Refusal) → length w.ring ≡ 64 → Passed (walk_asked w) → StepSays lyndon w v o → (m : ℕ) × ReportsMoves m o × (m ≤ w.n / 2 + 1)
accepted-lyndon w v o size good says =
    let r = accepted-reports lyndon w v o good says in
    (r.0, r.1, reports-within (lyndon_ceiling w.n) r.0 o (lyndon-step-ceiling w v o size says) r.1)

-- and from the record of `lyndon_start` as many
pub lyndon-step-reached : (n k : ℕ) → Sized n → (n ≡ 2 → ⊥) → Shaded k → (v : Walk) (o : Result Outcome Refusal) →
    StepSays lyndon (walk_of k (lyndon_start k n)) v o → ReportsMoves (lyndon_ceiling n) o
lyndon-step-reached n k sized long shaded v o says =
    step-reached lyndon n k (lyndon_ceiling n) (lyndon_start k n) sized shaded (lyndon-best n k (omega arith) long shaded.0) v o says

-- ---- to the next necklace

-- demand 3's bound of Moved and Done alike
pub necklace-step-ceiling : (w v : Walk) (o : Result Outcome Refusal) → length w.ring ≡ 64 → StepSays necklace w v o → ReportsUpTo (necklace_ceiling w.n) o
necklace-step-ceiling w v o size says =
    step-ceiling necklace (necklace_ceiling w.n) w v o size (necklace-ceiling w.n w.k) says

-- and from the record of `necklace_start` as many
pub necklace-step-reached : (n k : ℕ) → Sized n → Shaded k → (v : Walk) (o : Result Outcome Refusal) → StepSays necklace (walk_of k (necklace_start k n)) v o → ReportsMoves (necklace_ceiling n) o
necklace-step-reached n k sized shaded v o says =
    step-reached necklace n k (necklace_ceiling n) (necklace_start k n) sized shaded (necklace-best n k (omega arith) shaded.0) v o says
