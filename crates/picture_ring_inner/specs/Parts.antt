-- What the parts of drawing promise.
--     RunAt w i r                the run that goes on from place i of w is r sectors long
--     sector_arcs p i w           the arc that the first sector of w begins, where it stands at place i behind a sector of shade p; none where it goes on
use Rattle.std.specs.Prelude.{ℕ, suc, ◌≡◌, true, false, List, [], ◌∷◌, eqb, get_or, drop}
use Rattle.picture_spec.specs.Arcs.{reach, Arc}

abbrev pub RunAt : List ℕ → ℕ → ℕ → Type 0
RunAt w i r = r ≡ reach (get_or w i 0) (drop i w)

unfoldable pub sector_arcs : ℕ → ℕ → List ℕ → List Arc
sector_arcs p i [] = []
sector_arcs p i (s ∷ w) = elim (eqb s p) [ true ↦ [] | false ↦ record { from = i; long = reach s (s ∷ w); shade = s } ∷ [] ]
