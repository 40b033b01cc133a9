-- The text of a sheet: pages of SVG one after another, each with its targets, their home readings in lines of 32 sectors and their numbers under them, crop marks around
-- them, and a line at the foot. Lengths are tenths of a millimetre.
--     leaf_head                     the beginning of a page
--     cell_head x y s n             a target's beginning: its middle at x and y, s mm wide
--     cell_foot s i w               its crop marks, the reading w and the number i: targets count from 0, as a sighting tells them
--     cell_text sheet i w           target i of a sheet, which shows the reading w
--     foot_text sheet p             the line at the foot of page p, counted from 0
--     page_opening sheet i, closing sheet i last    what stands before and behind target i: where it is the first of its page, and where it is the last of it, or of all
--     target_text sheet i last w    target i with these
--     sheet_from sheet i ws         the rings ws from target i on, each by its home reading
--     sheet_text sheet ws           the whole
--     cells_from sheet i ws         the targets of the rings ws alone, from target i on
--     page_text sheet p ws          page p, where ws are its rings
-- That a sheet is its pages one after another: `sheet_laws`.
use Rattle.std.specs.Prelude.{ℕ, suc, ◌+◌, ◌-◌, ◌*◌, ◌/◌, ◌%◌, Bool, true, false, ◌||◌, List, [], ◌∷◌, ◌++◌, eqb, length}
use Rattle.text_spec.specs.Ascii.{ascii}
use Rattle.text_fill_spec.specs.Filled.{filled_text}
use Rattle.rings.specs.Home.{home}
use Rattle.picture_spec.specs.Text.{with_numbers, ring_numbers, ring_picture, tail_text}
use Rattle.sheet_spec.specs.declared.Sheet.{Sheet}
use Rattle.sheet_spec.specs.declared.Source.{Source}
use Rattle.sheet_spec.specs.declared.Source.TheVariants.{Guarded, Plain, Own}
use Rattle.sheet_spec.specs.Layout.{pitch, per_page, across, down}

-- ---- a target

abbrev pub cell_form : List ℕ
cell_form =
    ascii "<g transform=\"translate(% %)\">\n<svg x=\"-%\" y=\"-%\" width=\"%\" height=\"%\" overflow=\"visible\" viewBox=\"-% -% % %\">\n"
    ++ ascii "<g fill=\"none\" stroke-width=\"%\" transform=\"rotate(-90)\">\n"

unfoldable pub cell_head : ℕ → ℕ → ℕ → ℕ → List ℕ
cell_head x y s n = with_numbers cell_form (x ∷ y ∷ 5 * s ∷ 5 * s ∷ 10 * s ∷ 10 * s ∷ ring_numbers n)

-- marks of 2 mm at the corners, 1 mm outside of the target; under it two lines of the reading, and the number
abbrev pub marks_form : List ℕ
marks_form =
    ascii "<path d=\"M-% -%V-%H-%M-% %V%H-%M% -%V-%H%M% %V%H%\" fill=\"none\" stroke=\"black\" stroke-width=\"1\"/>\n"
    ++ ascii "<text y=\"%\" font-size=\"%\">@</text>\n<text y=\"%\" font-size=\"%\">@</text>\n<text y=\"%\" font-size=\"20\">%</text>\n</g>\n"

-- a: the marks' outer end, b: their inner end, from the target's middle
abbrev pub marks_numbers : ℕ → ℕ → ℕ → ℕ → ℕ → List ℕ
marks_numbers a b s f x =
    a ∷ b ∷ a ∷ b ∷ a ∷ b ∷ a ∷ b ∷ a ∷ b ∷ a ∷ b ∷ a ∷ b ∷ a ∷ b ∷ (5 * s + 30) ∷ f ∷ (5 * s + 50) ∷ f ∷ (5 * s + 80) ∷ x ∷ []

unfoldable pub cell_foot : ℕ → ℕ → List ℕ → List ℕ
cell_foot s i w = filled_text marks_form (marks_numbers (5 * s + 10) (5 * s - 10) s (pitch s / 20) i) 32 w

unfoldable pub cell_text : Sheet → ℕ → List ℕ → List ℕ
cell_text o i w =
    let j = i % per_page o.size o.columns in
    ((cell_head (across o.size o.columns j) (down o.size o.columns j) o.size (length w) ++ ring_picture o.tone o.k w) ++ tail_text (length w))
    ++ cell_foot o.size i w

-- ---- a page

-- the paper is said too, so that a browser prints a page on one sheet of A4
abbrev pub leaf_head : List ℕ
leaf_head =
    ascii "<svg xmlns=\"http://www.w3.org/2000/svg\" width=\"210mm\" height=\"297mm\" viewBox=\"0 0 2100 2970\" font-family=\"monospace\" text-anchor=\"middle\" style=\"display:block\">\n"
    ++ ascii "<style>@page{size:210mm 297mm;margin:0}body{margin:0}</style>\n"
    ++ ascii "<rect width=\"2100\" height=\"2970\" fill=\"white\"/>\n"

abbrev pub foot_form : Source → List ℕ
foot_form Guarded = ascii "<text x=\"1050\" y=\"2890\" font-size=\"30\">n = %, k = %, d = %: guard % % % %, page %</text>\n</svg>\n"
foot_form Plain = ascii "<text x=\"1050\" y=\"2890\" font-size=\"30\">n = %, k = %, d = %: set % % % %, page %</text>\n</svg>\n"
foot_form Own = ascii "<text x=\"1050\" y=\"2890\" font-size=\"30\">n = %, k = %: rings of one's own, page %</text>\n</svg>\n"

abbrev pub foot_numbers : Source → ℕ → ℕ → ℕ → ℕ → ℕ → List ℕ
foot_numbers Guarded n k d want p = n ∷ k ∷ d ∷ n ∷ k ∷ d ∷ want ∷ p ∷ []
foot_numbers Plain n k d want p = n ∷ k ∷ d ∷ n ∷ k ∷ d ∷ want ∷ p ∷ []
foot_numbers Own n k d want p = n ∷ k ∷ p ∷ []

unfoldable pub foot_of : Source → ℕ → ℕ → ℕ → ℕ → ℕ → List ℕ
foot_of f n k d want p = with_numbers (foot_form f) (foot_numbers f n k d want p)

abbrev pub foot_text : Sheet → ℕ → List ℕ
foot_text o p = foot_of o.source o.n o.k o.d o.wanted (p + 1)

-- ---- a sheet

-- a text where it is called for
unfoldable pub where_true : Bool → List ℕ → List ℕ
where_true true t = t
where_true false t = []

-- the first of its page
unfoldable pub page_opening : Sheet → ℕ → List ℕ
page_opening o i = where_true (eqb (i % per_page o.size o.columns) 0) leaf_head

-- the last of its page, or of all
unfoldable pub closing : Sheet → ℕ → Bool → List ℕ
closing o i last = where_true (last || eqb ((i + 1) % per_page o.size o.columns) 0) (foot_text o (i / per_page o.size o.columns))

unfoldable pub target_text : Sheet → ℕ → Bool → List ℕ → List ℕ
target_text o i last w = (page_opening o i ++ cell_text o i (home w)) ++ closing o i last

abbrev pub none : List (List ℕ) → Bool
none [] = true
none (w ∷ ws) = false

unfoldable pub sheet_from : Sheet → ℕ → List (List ℕ) → List ℕ
sheet_from o i [] = []
sheet_from o i (w ∷ ws) = target_text o i (none ws) w ++ sheet_from o (suc i) ws

abbrev pub sheet_text : Sheet → List (List ℕ) → List ℕ
sheet_text o ws = sheet_from o 0 ws

-- ---- the same, page by page

unfoldable pub cells_from : Sheet → ℕ → List (List ℕ) → List ℕ
cells_from o i [] = []
cells_from o i (w ∷ ws) = cell_text o i (home w) ++ cells_from o (suc i) ws

unfoldable pub page_text : Sheet → ℕ → List (List ℕ) → List ℕ
page_text o p ws = leaf_head ++ (cells_from o (p * per_page o.size o.columns) ws ++ foot_text o p)
