-- A ring's runs of one shade: neighbouring sectors of one shade are one arc, also over the top of the ring, so that no seam shows between them.
--     reach s w          how many sectors at the beginning of w have the shade s
--     Arc                a run of one shade: the place of its first sector, counted on past the top, how many sectors it has, and its shade
--     arcs_from p i w     the arcs of the sectors w that stand at the places from i on, behind a sector of shade p
--     first_run w         how long the ring's first run is
--     arcs w             the arcs of the ring w, from the end of its first run on, so that no arc is cut in two
-- What they show at each place: picture_laws.
use Rattle.std.specs.Prelude.{ℕ, suc, true, false, List, [], ◌∷◌, eqb, get_or}
use Rattle.words.specs.Turn.{turn}

unfoldable pub reach : ℕ → List ℕ → ℕ
reach s [] = 0
reach s (t ∷ w) = elim (eqb t s) [ true ↦ suc (reach s w) | false ↦ 0 ]

pub record Arc : Type 0 where
  pub from : ℕ
  pub long : ℕ
  pub shade : ℕ

unfoldable pub arcs_from : ℕ → ℕ → List ℕ → List Arc
arcs_from p i [] = []
arcs_from p i (s ∷ w) =
    elim (eqb s p) [ true ↦ arcs_from s (suc i) w | false ↦ record { from = i; long = suc (reach s w); shade = s } ∷ arcs_from s (suc i) w ]

unfoldable pub first_run : List ℕ → ℕ
first_run w = reach (get_or w 0 0) w

-- no shade is 16, so that the first sector begins an arc
unfoldable pub arcs : List ℕ → List Arc
arcs w = arcs_from 16 (first_run w) (turn (first_run w) w)
