-- What a picture shows. Places on the circle are counted clockwise from the top, 710 to a sector, so that sector i is from 710 i to 710 (i + 1), and all are 710 n. The
-- numbers are those of the picture's text: an arc's dash begins at 710 (from % n) and is 710 long, and dashes come again after 710 n.
--     within s d u       u lies on the d units from s on
--     on n a u           u lies on the dash of the arc a
--     seen n z ys u      the shade at place u of the arcs ys, where a later one covers an earlier one and z was before
--     shown_at w u          the shade that the picture of w shows at place u
use Rattle.std.specs.Prelude.{ℕ, ◌+◌, ◌*◌, ◌%◌, Bool, true, false, not, ◌&&◌, ◌||◌, List, [], ◌∷◌, ltb, length}
use Rattle.picture_spec.specs.Arcs.{Arc, arcs}

unfoldable pub within : ℕ → ℕ → ℕ → Bool
within s d u = not (ltb u s) && ltb u (s + d)

unfoldable pub on : ℕ → Arc → ℕ → Bool
on n a u = within (710 * (a.from % n)) (710 * a.long) u || within (710 * (a.from % n)) (710 * a.long) (710 * n + u)

unfoldable pub seen : ℕ → ℕ → List Arc → ℕ → ℕ
seen n z [] u = z
seen n z (a ∷ ys) u = elim (on n a u) [ true ↦ seen n a.shade ys u | false ↦ seen n z ys u ]

-- 16, which is no shade, where there is no arc
unfoldable pub shown_at : List ℕ → ℕ → ℕ
shown_at w u = seen (length w) 16 (arcs w) u
