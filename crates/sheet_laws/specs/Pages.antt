-- A sheet as its pages.
--     SheetPages o p ws t      t is the pages that the rings ws fill, from page p on, one after another: each page but the last is full, and none is empty
use Rattle.std.specs.Prelude.{ℕ, suc, ◌<◌, ◌≤◌, ◌≡◌, List, ◌++◌, length}
use Rattle.sheet_spec.specs.declared.Sheet.{Sheet}
use Rattle.sheet_spec.specs.Layout.{per_page}
use Rattle.sheet_spec.specs.Text.{page_text}

pub data SheetPages (o : Sheet) : ℕ → List (List ℕ) → List ℕ → Type 0 where
  last_page : {p : ℕ} {ws : List (List ℕ)} → 0 < length ws → length ws ≤ per_page o.size o.columns → SheetPages o p ws (page_text o p ws)
  full_page : {p : ℕ} (us : List (List ℕ)) {ws : List (List ℕ)} {t : List ℕ} → length us ≡ per_page o.size o.columns → 0 < length ws →
      SheetPages o (suc p) ws t → SheetPages o p (us ++ ws) (page_text o p us ++ t)
