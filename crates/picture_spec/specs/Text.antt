-- The picture of a target as SVG: a dot inside a ring of n sectors, read clockwise from the top, in whole numbers. A sector is 710 units of a circle of radius 113 n,
-- since 355 / 113 is pi to seven digits; `pathLength` says that the circle is 710 n units long, for a reader that knows it. An arc is a dash on that circle: the dashes
-- come again after 710 n units, so that one over the top of the ring is one dash too.
--     arc_text tone n k a     an arc of a ring of n sectors in k shades
--     arc_texts               arc after arc
--     ring_picture tone k w      all arcs of a ring
--     tail_text n             the ring's end and the dot
--     head_text n             the picture's beginning: 24 mm wide and high, the ring's outer edge
--     picture_text tone k w   the whole
-- That a circle's outline goes clockwise from its right end, that rotate(-90) brings that to the top, that a dash of d units with the offset -a is painted from a to
-- a + d, is SVG's, and is not proved: .ci/pictures looks at rendered pictures.
use Rattle.std.specs.Prelude.{ℕ, ◌+◌, ◌-◌, ◌*◌, ◌%◌, List, [], ◌∷◌, ◌++◌, length}
use Rattle.text_spec.specs.Ascii.{ascii}
use Rattle.text_fill_spec.specs.Filled.{filled_text}
use Rattle.picture_spec.specs.declared.Tone.{Tone}
use Rattle.picture_spec.specs.Gray.{gray}
use Rattle.picture_spec.specs.Arcs.{Arc, arcs}

-- a text with numbers in its slots
abbrev pub with_numbers : List ℕ → List ℕ → List ℕ
with_numbers t xs = filled_text t xs 0 []

-- ---- the ring

abbrev pub arc_form : List ℕ
arc_form = ascii "<circle r=\"%\" pathLength=\"%\" stroke-dasharray=\"% %\" stroke-dashoffset=\"-%\" stroke=\"rgb(%,%,%)\"/>\n"

abbrev pub arc_numbers : ℕ → ℕ → ℕ → ℕ → List ℕ
arc_numbers n i d g = 113 * n ∷ 710 * n ∷ 710 * d ∷ 710 * (n - d) ∷ 710 * (i % n) ∷ g ∷ g ∷ g ∷ []

unfoldable pub arc_text : Tone → ℕ → ℕ → Arc → List ℕ
arc_text tone n k a = with_numbers arc_form (arc_numbers n a.from a.long (gray tone k a.shade))

unfoldable pub arc_texts : Tone → ℕ → ℕ → List Arc → List ℕ
arc_texts tone n k [] = []
arc_texts tone n k (a ∷ ys) = arc_text tone n k a ++ arc_texts tone n k ys

unfoldable pub ring_picture : Tone → ℕ → List ℕ → List ℕ
ring_picture tone k w = arc_texts tone (length w) k (arcs w)

-- ---- around it

abbrev pub head_form : List ℕ
head_form =
    ascii "<svg xmlns=\"http://www.w3.org/2000/svg\" width=\"24mm\" height=\"24mm\" viewBox=\"-% -% % %\">\n"
    ++ ascii "<g fill=\"none\" stroke-width=\"%\" transform=\"rotate(-90)\">\n"

-- the ring reaches from 88 n to 138 n
abbrev pub ring_numbers : ℕ → List ℕ
ring_numbers n = 138 * n ∷ 138 * n ∷ 276 * n ∷ 276 * n ∷ 50 * n ∷ []

unfoldable pub head_text : ℕ → List ℕ
head_text n = with_numbers head_form (ring_numbers n)

abbrev pub tail_form : List ℕ
tail_form = ascii "</g>\n<circle r=\"%\"/>\n</svg>\n"

unfoldable pub tail_text : ℕ → List ℕ
tail_text n = with_numbers tail_form (38 * n ∷ [])

-- ---- the whole

unfoldable pub picture_text : Tone → ℕ → List ℕ → List ℕ
picture_text tone k w = (head_text (length w) ++ ring_picture tone k w) ++ tail_text (length w)
