-- A set's rings laid end to end, as `sight` takes them.
--     end_to_end ts                 rings one after another
--     layout_order n t m           the checks: 1 where n is not 1 to 24, 13 where more than 32 are taken, 4 where the output has not exactly n sectors for each ring taken
--     LayoutSays n p t b r c      what the answer r promises, where t of the places p are taken, and the output held b before and holds c after
-- That no two answers fit: proofs/Unique.
use Rattle.std.specs.Prelude.{ℕ, ◌*◌, ◌≤◌, ◌≡◌, refl, List, [], ◌∷◌, ◌++◌, length, Result, Ok, Err}
use Rattle.refusal.specs.declared.Refusal.{Refusal}
use Rattle.refusal.specs.declared.Refusal.TheVariants.{Length, Set, Room}
use Rattle.refusal.specs.Order.{Checks, fact, ◌▸◌, Passed, Given, numbered}
use Rattle.set_spec.specs.Places.{set_in}

-- rings one after another
unfoldable pub end_to_end : List (List ℕ) → List ℕ
end_to_end [] = []
end_to_end (t ∷ ts) = t ++ end_to_end ts

abbrev pub layout_order : ℕ → ℕ → ℕ → Checks
layout_order n t m = fact ((1 ≤ n) × (n ≤ 24)) (Length 0) ▸ fact (t ≤ 32) Set ▸ fact (m ≡ n * t) Room

pub layout-numbers : (n t m : ℕ) → numbered (layout_order n t m) ≡ (1 ∷ 13 ∷ 4 ∷ [])
layout-numbers n t m = refl

-- a refusal writes nothing
abbrev pub LayoutSays : ℕ → List ℕ → ℕ → List ℕ → Result Unit Refusal → List ℕ → Type 0
LayoutSays n p t b (Ok _) c = Passed (layout_order n t (length b)) × (c ≡ end_to_end (set_in n p t))
LayoutSays n p t b (Err r) c = Given (layout_order n t (length b)) r × (c ≡ b)
