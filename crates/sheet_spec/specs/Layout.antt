-- Where the targets stand on a page: A4, 210 mm wide and 297 mm high, in tenths of a millimetre. A target has a cell to itself, 14 mm wider and higher than it; the cells
-- stand in columns in the middle of the page and in rows from the top.
--     pitch s                 the width and height of a cell, for targets of s mm
--     rows_for s, per_page s c     the rows of a page, and its targets in c columns
--     across s c j, down s c j    the middle of the target in cell j of a page, counted row by row from 0
--     FitsPage s c             the targets are at least 10 mm wide, and one column or more of them fits on the page
use Rattle.std.specs.Prelude.{ℕ, ◌+◌, ◌-◌, ◌*◌, ◌/◌, ◌%◌, ◌≤◌}

abbrev pub pitch : ℕ → ℕ
pitch s = 10 * s + 140

-- 10 mm are left free at the top, and 12 for the line at the foot
abbrev pub rows_for : ℕ → ℕ
rows_for s = 2750 / pitch s

abbrev pub per_page : ℕ → ℕ → ℕ
per_page s c = c * rows_for s

abbrev pub across : ℕ → ℕ → ℕ → ℕ
across s c j = (2100 - c * pitch s) / 2 + (j % c) * pitch s + (5 * s + 70)

-- the marks begin 2 mm below the cell's upper edge
abbrev pub down : ℕ → ℕ → ℕ → ℕ
down s c j = 100 + (j / c) * pitch s + (5 * s + 30)

pub record FitsPage (s c : ℕ) : Type 0 where
  pub seen : 10 ≤ s
  pub narrow : s ≤ 196
  pub some : 1 ≤ c
  pub fits : c ≤ 210 / (s + 14)
