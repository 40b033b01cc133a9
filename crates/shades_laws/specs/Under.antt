-- One word lies under another where their first difference stands inside both and the first word is smaller there. Neither is then a beginning of
-- the other, so the relation survives whatever is put behind or in front of both.
--     v ≪ w           v lies under w
--     v ≼ w           v lies under w or is w
use Rattle.std.specs.Prelude.{ℕ, ◌<◌, ◌≡◌, List, ◌∷◌}

infix 4 ◌≪◌ ◌≼◌
-- v lies under w
pub data ◌≪◌ : List ℕ → List ℕ → Type 0 where
  here : {a b : ℕ} {v w : List ℕ} → a < b → (a ∷ v) ≪ (b ∷ w)
  later : {a b : ℕ} {v w : List ℕ} → a ≡ b → v ≪ w → (a ∷ v) ≪ (b ∷ w)

-- v lies under w or is w
pub data ◌≼◌ (v w : List ℕ) : Type 0 where
  is : v ≡ w → v ≼ w
  under : v ≪ w → v ≼ w
