-- A reading that stands at one place of a strip has no other.
use Rattle.words.proofs.Plain.{ℕ, ◌≡◌, List}
use Rattle.strip_spec.specs.Places.{OnePlace}

pub places-one : (s w : List ℕ) (p q : ℕ) → OnePlace s w p → OnePlace s w q → p ≡ q
places-one s w p q a b = b.only p a.within a.stands
