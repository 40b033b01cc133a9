-- A set that is written to an output. `sets::pick` and `sets::pick_guarded` hand out a record with room for every set; C lends the room, and as that has one length, whatever is asked for, its
-- check comes first, as the reader's does.
--     lay_order n k d want m        the order: 4, where the output has not the 768 bytes of 32 places, and then that of the set; `lay-numbers`: by its numbers
--     LaidSays n k d want ts b r c    the answer r, where the set is to be ts and the output held b before and holds c after
--     Lays x b r c                    what laying the answer x of a call into an output of 768 bytes promises, whatever the set was to be; it serves the code alone
-- That no two answers fit, the output included: proofs/Unique.
use Rattle.std.specs.Prelude.{ℕ, ◌≡◌, refl, List, [], ◌∷◌, length, Result, Ok, Err}
use Rattle.refusal.specs.declared.Refusal.{Refusal}
use Rattle.refusal.specs.declared.Refusal.TheVariants.{Room}
use Rattle.refusal.specs.Order.{Checks, fact, ◌▸◌, Given, numbered}
use Rattle.set_pick_spec.specs.Order.{set_order}
use Rattle.set_pick_spec.specs.declared.Picked.{Picked}
use Rattle.set_pick_spec.specs.Says.{SetChosen, SetSays}
use Rattle.door_spec.specs.declared.Laid.{Laid}

abbrev pub lay_order : ℕ → ℕ → ℕ → ℕ → ℕ → Checks
lay_order n k d want m = fact (m ≡ 768) Room ▸ set_order n k d want

pub lay-numbers : (n k d want m : ℕ) → numbered (lay_order n k d want m) ≡ (4 ∷ 1 ∷ 1 ∷ 2 ∷ 12 ∷ 13 ∷ [])
lay-numbers n k d want m = refl

-- a refusal writes nothing
abbrev pub LaidSays : ℕ → ℕ → ℕ → ℕ → List (List ℕ) → List ℕ → Result Laid Refusal → List ℕ → Type 0
LaidSays n k d want ts b (Ok s) c = (length b ≡ 768) × SetChosen n k d want ts c s.taken s.full
LaidSays n k d want ts b (Err r) c = Given (lay_order n k d want (length b)) r × (c ≡ b)

abbrev pub Lays : Picked → List ℕ → Result Laid Refusal → List ℕ → Type 0
Lays x b r c = (n k d want : ℕ) (ts : List (List ℕ)) → SetSays n k d want ts x → LaidSays n k d want ts b r c
