-- Places, and what stands under a target, worked out by hand, of the definitions themselves: antt computes each.
--     usual-page, usual-cells, larger-page    places
--     under-a-target                          marks, digits and number
use Rattle.words.proofs.Plain.{ℕ, ◌≡◌, refl, List, [], ◌∷◌, ◌++◌}
use Rattle.text_spec.specs.{Ascii.ascii, Decimal.decimal_in, Decimal.decimal}
use Rattle.text_fill_spec.specs.Filled.{filled_text}
use Rattle.sheet_spec.specs.Text.{cell_foot}
use Rattle.sheet_spec.specs.Layout.{rows_for, per_page, across, down}

-- targets of 24 mm in 5 columns: 7 rows, 35 on a page
pub usual-page : (rows_for 24 ≡ 7) × (per_page 24 5 ≡ 35)
usual-page = (refl, refl)

-- the first cell, the last of its row, the first of the next, the last of the page
pub usual-cells : (across 24 5 0 ≡ 290) × (down 24 5 0 ≡ 250) × (across 24 5 4 ≡ 1810) × (down 24 5 4 ≡ 250) × (across 24 5 5 ≡ 290) × (down 24 5 5 ≡ 630) × (down 24 5 34 ≡ 2530)
usual-cells = (refl, refl, refl, refl, refl, refl, refl)

-- 30 mm in 4 columns: 6 rows
pub larger-page : (per_page 30 4 ≡ 24) × (across 30 4 0 ≡ 390) × (across 30 4 3 ≡ 1710)
larger-page = (refl, refl, refl)

-- target 6 of 24 mm shows 011
pub under-a-target : cell_foot 24 6 (0 ∷ 1 ∷ 1 ∷ []) ≡
    ascii "<path d=\"M-130 -110V-130H-110M-130 110V130H-110M130 -110V-130H110M130 110V130H110\" fill=\"none\" stroke=\"black\" stroke-width=\"1\"/>\n"
    ++ ascii "<text y=\"150\" font-size=\"19\">011</text>\n<text y=\"170\" font-size=\"19\"></text>\n<text y=\"200\" font-size=\"20\">6</text>\n</g>\n"
unfolding cell_foot filled_text decimal decimal_in
under-a-target = refl
