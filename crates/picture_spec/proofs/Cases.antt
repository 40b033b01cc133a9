-- Pictures worked out by hand, of the definitions themselves: antt computes each.
--     over-the-top, one-shade    arcs: a run over the top is one arc; a ring of one shade is one arc around
--     two-sectors                a whole picture
--     white-and-black            shade 0 is black and the last shade white, in both tones
use Rattle.words.proofs.Plain.{ℕ, ◌≡◌, refl, List, [], ◌∷◌, ◌++◌, eqb}
use Rattle.words.specs.Turn.{turn}
use Rattle.text_spec.specs.{Ascii.ascii, Decimal.decimal_in, Decimal.decimal}
use Rattle.text_fill_spec.specs.Filled.{filled_text}
use Rattle.picture_spec.specs.declared.Tone.TheVariants.{Managed, Levels}
use Rattle.picture_spec.specs.Gray.{managed_grays, gray}
use Rattle.picture_spec.specs.Arcs.{reach, Arc, arcs_from, first_run, arcs}
use Rattle.picture_spec.specs.Text.{arc_text, arc_texts, ring_picture, head_text, tail_text, picture_text}

-- 0 1 1 0 0: sectors 1 and 2, and 3, 4 and 0
pub over-the-top : arcs (0 ∷ 1 ∷ 1 ∷ 0 ∷ 0 ∷ []) ≡ record { from = 1; long = 2; shade = 1 } ∷ record { from = 3; long = 3; shade = 0 } ∷ []
unfolding arcs arcs_from first_run reach turn
over-the-top = refl

pub one-shade : arcs (2 ∷ 2 ∷ 2 ∷ []) ≡ record { from = 3; long = 3; shade = 2 } ∷ []
unfolding arcs arcs_from first_run reach turn
one-shade = refl

-- two sectors, the right one black, the left one the middle of three shades
pub two-sectors : picture_text Managed 3 (0 ∷ 1 ∷ []) ≡
    ascii "<svg xmlns=\"http://www.w3.org/2000/svg\" width=\"24mm\" height=\"24mm\" viewBox=\"-276 -276 552 552\">\n"
    ++ ascii "<g fill=\"none\" stroke-width=\"100\" transform=\"rotate(-90)\">\n"
    ++ ascii "<circle r=\"226\" pathLength=\"1420\" stroke-dasharray=\"710 710\" stroke-dashoffset=\"-710\" stroke=\"rgb(188,188,188)\"/>\n"
    ++ ascii "<circle r=\"226\" pathLength=\"1420\" stroke-dasharray=\"710 710\" stroke-dashoffset=\"-0\" stroke=\"rgb(0,0,0)\"/>\n"
    ++ ascii "</g>\n"
    ++ ascii "<circle r=\"76\"/>\n"
    ++ ascii "</svg>\n"
unfolding picture_text head_text ring_picture arc_texts arc_text tail_text gray managed_grays arcs arcs_from first_run reach turn filled_text decimal decimal_in
two-sectors = refl

pub white-and-black : (gray Managed 16 0 ≡ 0) × (gray Managed 16 15 ≡ 255) × (gray Levels 4 0 ≡ 0) × (gray Levels 4 1 ≡ 85) × (gray Levels 4 3 ≡ 255)
unfolding gray managed_grays
white-and-black = (refl, refl, refl, refl, refl)
