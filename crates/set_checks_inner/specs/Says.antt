-- What the check of the distance and the wanted number promises: 13, or that both are good.
use Rattle.std.specs.Prelude.{ℕ, ◌≡◌, Result, Ok, Err}
use Rattle.refusal.specs.declared.Refusal.{Refusal}
use Rattle.refusal.specs.declared.Refusal.TheVariants.{Set}
use Rattle.set_pick_spec.specs.Order.{Settable}

abbrev pub SettableSays : ℕ → ℕ → ℕ → Result Unit Refusal → Type 0
SettableSays n d want (Ok _) = Settable n d want
SettableSays n d want (Err r) = (r ≡ Set) × (Settable n d want → ⊥)
