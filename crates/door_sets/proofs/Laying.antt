-- A set that was picked, laid into an output.
--     laid-room       the output has another length
--     laid-set        the places were copied to the output, which has as many bytes
--     laid-refused    the output has its length, and the set was refused
use Rattle.std.specs.Prelude.{Ok, Err}
use Rattle.words.proofs.Plain.{ℕ, ◌≡◌, refl, sym, ◌∙◌, inl, inr, Bool, List, ◌++◌, length, take, drop}
use Rattle.word_copy_laws.proofs.Copy.{copied}
use Rattle.refusal.specs.{declared.Refusal.Refusal, declared.Refusal.TheVariants.Room, Order.Given}
use Rattle.set_pick_spec.specs.{Order.set_order, Says.SetChosen}
use Rattle.door_spec.specs.Sets.{LaidSays}

-- the output has another length
pub laid-room : (n k d want : ℕ) (ts : List (List ℕ)) (o : List ℕ) → (length o ≡ 768 → ⊥) → LaidSays n k d want ts o (Err Room) o
laid-room n k d want ts o other = (inl (refl, other), refl)

module _ (n k d want : ℕ) (ts : List (List ℕ)) (o : List ℕ) (room : length o ≡ 768) where
  pub laid-set : (places c : List ℕ) (t : ℕ) (f : Bool) → length places ≡ 768 → SetChosen n k d want ts places t f →
      c ≡ take (length places) places ++ drop (length places) o → LaidSays n k d want ts o (Ok (record { taken = t; full = f })) c
  laid-set places c t f long chosen e =
      (room, record { asked = chosen.asked; places = copied places o c e (room ∙ sym long) ∙ chosen.places; number = chosen.number; full = chosen.full })

  pub laid-refused : (r : Refusal) → Given (set_order n k d want) r → LaidSays n k d want ts o (Err r) o
  laid-refused r g = (inr (room, g), refl)
