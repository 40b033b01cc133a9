-- A step from a lent reading is a start from it and then the step from the record that the start hands out, where the output has room for a ring.
--     start-passed                        a reading that passed starts a walk
--     step-moved-as, step-done-as         to the next of a kind, or that there is none
--     bracelet-moved-as, bracelet-done-as    the same for bracelets
--     step-refused-as                     what is refused, the start refuses the same
use Rattle.std.specs.Prelude.{Ok, Err}
use Rattle.words.proofs.Plain.{ℕ, ◌≡◌, refl, inl, inr, Bool, List, length}
use Rattle.rings.specs.Prenecklace.{prenecklace}
use Rattle.refusal.specs.{declared.Refusal.Refusal, Order.Passed, Order.Given, Calls.walk_start}
use Rattle.walk_spec.specs.declared.Outcome.TheVariants as O
use Rattle.walk_spec.specs.Record.{walk_of, empty_walk, walk_asked}
use Rattle.walk_spec.specs.Says.{StartSays, StepSays}
use Rattle.walk_bracelet_spec.specs.declared.Arrival.TheVariants as A
use Rattle.walk_bracelet_spec.specs.Says.{ArrivalSays}
use Rattle.walk_record_laws.proofs.Good.{ring_of_lem, walk-good}
use Rattle.walk_reading_spec.specs.Says.{reading_order, StepFromSays, BraceletFromSays}

module _ (w : List ℕ) (k : ℕ) (b : List ℕ) where
  -- 4 is not asked of a start
  pub start-passed : Passed (reading_order w k (length b)) → StartSays w k (walk_of k w) (Ok tt)
  start-passed p = ((((p.0.0.0, tt), tt), p.1), refl)

  good : Passed (reading_order w k (length b)) → Passed (walk_asked (walk_of k w))
  good p = walk-good (length w) k w p.0.0.0.0.0.0 p.0.0.0.0.1 (record { long = refl; shades = p.0.0.0.1 }) p.1

  pub step-moved-as : (kind : List ℕ → Bool) (m : ℕ) (c : List ℕ) → StepFromSays kind w k b (Ok (O.Moved m)) c → StepSays kind (walk_of k w) (walk_of k c) (Ok (O.Moved m))
  step-moved-as kind m c s = record { good = good s.0; to = c; next = rw (ring_of_lem k w) s.1; handed = refl; counted = rw (ring_of_lem k w) s.2 }

  pub step-done-as : (kind : List ℕ → Bool) (m : ℕ) (c : List ℕ) → StepFromSays kind w k b (Ok (O.Done m)) c → StepSays kind (walk_of k w) (walk_of k w) (Ok (O.Done m))
  step-done-as kind m c s = record { good = good s.0; next = rw (ring_of_lem k w) s.1; handed = refl; counted = rw (ring_of_lem k w) s.2 }

  pub bracelet-moved-as : (c : List ℕ) → BraceletFromSays w k b (Ok A.Moved) c → ArrivalSays (walk_of k w) (walk_of k c) (Ok A.Moved)
  bracelet-moved-as c s = record { good = good s.0; to = c; next = rw (ring_of_lem k w) s.1; handed = refl }

  pub bracelet-done-as : (c : List ℕ) → BraceletFromSays w k b (Ok A.Done) c → ArrivalSays (walk_of k w) (walk_of k w) (Ok A.Done)
  bracelet-done-as c s = record { good = good s.0; next = rw (ring_of_lem k w) s.1; kept = refl }

  -- neither 4 nor 6 fails, and before and behind them the checks are those of a start
  refused_as : length b ≡ length w → (r : Refusal) → Given (reading_order w k (length b)) r → Given (walk_start w k (prenecklace w)) r
  refused_as room r (inl (inl (inl g))) = inl (inl (inl g))
  refused_as room r (inl (inl (inr (l, (e, g))))) = absurd (g room)
  refused_as room r (inl (inr (l, (e, g)))) = absurd (g tt)
  refused_as room r (inr (l, g)) = inr (((l.0.0, tt), tt), g)

  pub step-refused-as : length b ≡ length w → (r : Refusal) → Given (reading_order w k (length b)) r → StartSays w k empty_walk (Err r)
  step-refused-as room r g = (refused_as room r g, refl)
