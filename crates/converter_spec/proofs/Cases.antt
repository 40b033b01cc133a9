-- Old catalogues to check by hand, of the definitions themselves: one table, one claim.
--     shows t x v       the record that t begins with is of side x and has the front ring v
-- The rows are document 01's two records and one record more of each side.
use Rattle.words.proofs.Plain.{ℕ, ◌≡◌, refl, List, [], ◌∷◌}
use Rattle.words.specs.Table.{Hold}
use Rattle.rings.specs.Open.{open-all}
use Rattle.record_spec.specs.Layout.{sectors_of}
use Rattle.record_spec.proofs.Cases.{back_record, front_record}
use Rattle.converter_spec.specs.Sides.{Side, SideMarked, front_ring}
use Rattle.converter_spec.specs.Sides.Side.{front, back}

pub data Case : Type 0 where
  shows : List ℕ → Side → List ℕ → Case

unfoldable pub table : List Case
table =
    -- document 01: 52 42 06 02 00 00 01 00 01 01 gives 001101, with 52 46 it gives 001011
    shows back_record back (0 ∷ 0 ∷ 1 ∷ 1 ∷ 0 ∷ 1 ∷ []) ∷
    shows front_record front (0 ∷ 0 ∷ 1 ∷ 0 ∷ 1 ∷ 1 ∷ []) ∷
    -- 021 from the back is 012; 0101 is even-handed
    shows (0x52 ∷ 0x42 ∷ 3 ∷ 3 ∷ 0 ∷ 2 ∷ 1 ∷ []) back (0 ∷ 1 ∷ 2 ∷ []) ∷
    shows (0x52 ∷ 0x42 ∷ 4 ∷ 2 ∷ 0 ∷ 1 ∷ 0 ∷ 1 ∷ []) back (0 ∷ 1 ∷ 0 ∷ 1 ∷ []) ∷ []

-- what a row says
unfoldable pub Holds : Case → Type 0
Holds (shows t x v) = SideMarked t x × (front_ring x (sectors_of t) ≡ v)

pub records-shown : Hold Holds table
unfolding table Hold Holds open-all
records-shown = (((refl, refl), refl), (((refl, refl), refl), (((refl, refl), refl), (((refl, refl), refl), tt))))
