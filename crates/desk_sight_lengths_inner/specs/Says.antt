-- What is told of a reading among rings.
--     TellSays rs r k e b a    what is told of the reading r, where rs are the rings end to end and b says whether each is as long as r
use Rattle.std.specs.Prelude.{ℕ, ◌≡◌, Bool, true, false, List, length, Result, Err}
use Rattle.words.specs.Readings.{Sized}
use Rattle.refusal.specs.declared.Refusal.{Refusal}
use Rattle.refusal.specs.declared.Refusal.TheVariants.{Length, Pair}
use Rattle.refusal.specs.Order.{fact, ◌▸◌, Given}
use Rattle.sight_spec.specs.declared.Sighting.{Sighting}
use Rattle.sight_spec.specs.Says.{SightSays}

abbrev pub TellSays : List ℕ → List ℕ → ℕ → ℕ → Bool → Result Sighting Refusal → Type 0
TellSays rs r k e true a = SightSays rs r k e a
TellSays rs r k e false a = (q : Refusal) × Given (fact (Sized (length r)) (Length 0) ▸ fact ⊥ Pair) q × (a ≡ Err q)
