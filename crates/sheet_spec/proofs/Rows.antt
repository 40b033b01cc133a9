-- A page has a target.
--     per-some      where the targets fit on it
use Rattle.words.proofs.Plain.{ℕ, ◌*◌, ◌<◌, ◌≤◌, arith}
use native.Mathlib.Nat.{mul-pos, le-div_iff_mul-le}
use Rattle.sheet_spec.specs.Layout.{pitch, rows_for, per_page, FitsPage}

some-rows : (s c : ℕ) → FitsPage s c → 0 < rows_for s
some-rows s c f =
    let p : 0 < pitch s = omega arith in
    let q : 1 * pitch s ≤ 2750 = omega (arith, f.narrow) in
    omega (arith, (le-div_iff_mul-le {k = pitch s} {x = 1} {y = 2750} p).1 q)

pub per-some : (s c : ℕ) → FitsPage s c → 0 < per_page s c
per-some s c f = mul-pos {m = c} {n = rows_for s} f.some (some-rows s c f)
