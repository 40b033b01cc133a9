-- The orders of the calls by reflectances (02, i): for one sector 2, 14; for a ring 1, 2, 14, 4, 15.
--     sector_order k c         one sector's: the shades, the card
--     ring_order xs k c m      a ring's, for the reflectances xs and an output of m bytes: the length, those of a sector, the output, and that each value has a shade
--     sector-numbers, ring-numbers    both by their numbers, as the client says them
use Rattle.std.specs.Prelude.{ℕ, ◌≡◌, refl, true, List, [], ◌∷◌, length, get_or, Float}
use Rattle.std.specs.Float.{nan}
use Rattle.words.specs.Readings.{Sized, Shaded}
use Rattle.refusal.specs.declared.Refusal.TheVariants as R
use Rattle.refusal.specs.Order.{Checks, fact, each, ◌▸◌, numbered}
use Rattle.density_spec.specs.declared.Card.{Card}
use Rattle.density_spec.specs.Cuts.{good_card, In}

abbrev pub sector_order : ℕ → Card → Checks
sector_order k c = fact (Shaded k) (R.Shades 0) ▸ fact (good_card c ≡ true) R.Card

pub sector-numbers : (k : ℕ) (c : Card) → numbered (sector_order k c) ≡ (2 ∷ 14 ∷ [])
sector-numbers k c = refl

abbrev pub ring_order : List Float → ℕ → Card → ℕ → Checks
ring_order xs k c m =
    fact (Sized (length xs)) (R.Length 0) ▸ sector_order k c ▸ fact (m ≡ length xs) R.Room ▸ each (length xs) (λ i. In (get_or xs i nan)) R.Unreadable

pub ring-numbers : (xs : List Float) (k : ℕ) (c : Card) (m : ℕ) → numbered (ring_order xs k c m) ≡ (1 ∷ 2 ∷ 14 ∷ 4 ∷ 15 ∷ [])
ring-numbers xs k c m = refl
