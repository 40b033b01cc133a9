-- From which states a listing goes on.
--     ring-decided          whether sectors are a necklace of k shades, by what classifying them says
use Rattle.words.proofs.Plain.{ℕ, ◌≡◌, refl, sym, ◌∙◌, Bool, true, false, List}
use Rattle.words.proofs.Split.{clash}
use Rattle.rings.specs.{declared.Class.Class, Class.class_of, Class.is_necklace}
use Rattle.ring_laws.proofs.Classes.{necklace-class}
use Rattle.refusal.specs.{Order.Passed, Calls.one_reading}
use Rattle.listing_states_inner.specs.Says.{NecklaceOf, TellsWhether}

module _ (w : List ℕ) (k : ℕ) where
  -- classifying tells it by its class
  pub ring-decided : (c : Class) (b : Bool) → Passed (one_reading w k) → c ≡ class_of w → b ≡ is_necklace c → TellsWhether b (NecklaceOf w k)
  ring-decided c true p e f =
      record {
        sized = p.0.0.0.0.0.0;
        shaded = p.0.0.0.0.1;
        reading = record { long = refl; shades = p.0.0.0.1 };
        member = sym (necklace-class w c e) ∙ sym f;
      }
  ring-decided c false p e f = λ q. clash (is_necklace c) (necklace-class w c e ∙ q.member) (sym f)
