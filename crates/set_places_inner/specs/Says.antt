-- What offering a ring to the places of a set promises.
--     may_in rule n d p t w    w may join the readings in the first t places
--     OfferSays               what offering the ring w by a rule promises: whatever set the places held, they hold it after the offer
use Rattle.std.specs.Prelude.{ℕ, Bool, ◌&&◌, List, length}
use Rattle.set_spec.specs.Greedy.{offered_by}
use Rattle.guard_spec.specs.declared.Rule.{Rule}
use Rattle.guard_spec.specs.declared.Rule.TheVariants.{Plain, Guarded}
use Rattle.guard_spec.specs.Choice.{may_join}
use Rattle.set_clear_inner.specs.Says.{HoldsSet, clear_in}
use Rattle.set_guard_inner.specs.Says.{guard_in}

abbrev pub may_in : Rule → ℕ → ℕ → List ℕ → ℕ → List ℕ → Bool
may_in Plain n d p t w = clear_in n d p t w
may_in Guarded n d p t w = clear_in n d p t w && guard_in n d p t w

abbrev pub OfferSays : Rule → ℕ → ℕ → List ℕ → List ℕ → ℕ → List ℕ → ℕ → List ℕ → List ℕ → Type 0
OfferSays rule k d p q t w r p' q' = (ts : List (List ℕ)) → HoldsSet (length w) k ts p q t → HoldsSet (length w) k (offered_by (may_join rule d) ts w) p' q' r
