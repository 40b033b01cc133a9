-- A refusal that `?` hands on.
--     handed_on    the answer is the refusal that came
use Rattle.words.proofs.Plain.{◌≡◌, ap}
use Rattle.std.specs.Prelude.{Result, Ok, Err, IsErrAnd}

pub handed_on : {A E : Type 0} {e : E} (r : Result A E) → IsErrAnd r (λ y. y ≡ e) → r ≡ Err e
handed_on (Ok x) p = absurd p
handed_on (Err y) p = ap Err p
