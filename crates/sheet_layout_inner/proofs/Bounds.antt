-- How large the numbers of a layout get.
--     per-most                a page has not many targets
--     wide, cell-wide         the columns fit on the page
--     cell-down               the rows' numbers stay small
use Rattle.words.proofs.Plain.{ℕ, ◌+◌, ◌*◌, ◌/◌, ◌%◌, ◌<◌, ◌≤◌, arith, ◌≡◌, ap, sym, ◌∙◌}
use native.Mathlib.Nat.{mul_assoc, mul-le-mul_right, div-le_self, le-div_iff_mul-le, mod-lt}
use Rattle.sheet_spec.specs.Layout.{pitch, rows_for, per_page, FitsPage}

module _ (s c : ℕ) (f : FitsPage s c) where
  few : c ≤ 210
  few = omega (arith, f.fits, div-le_self 210 (s + 14))

  pub per-most : per_page s c ≤ 577500
  per-most = omega (arith, mul-le-mul_right {m = c} {n = 210} (rows_for s) few, div-le_self 2750 (pitch s))

  pub wide : c * pitch s ≤ 2100
  wide =
      let p : 0 < s + 14 = omega arith in
      let e : pitch s ≡ (s + 14) * 10 = omega arith in
      let q : c * pitch s ≡ c * (s + 14) * 10 = ap (λ (x : ℕ). c * x) e ∙ sym (mul_assoc c (s + 14) 10) in
      omega (arith, q, (le-div_iff_mul-le {k = s + 14} {x = c} {y = 210} p).0 f.fits)

  pub cell-wide : (j : ℕ) → (j % c) * pitch s ≤ 2100
  cell-wide j =
      let l : j % c ≤ c = omega (arith, mod-lt j {m = c} f.some) in
      omega (arith, wide, mul-le-mul_right {m = j % c} {n = c} (pitch s) l)

  pub cell-down : (j : ℕ) → j < 1000000 → (j / c) * pitch s ≤ 2100000000
  cell-down j h =
      let l : j / c ≤ 1000000 = omega (arith, div-le_self j c) in
      omega (arith, f.narrow, mul-le-mul_right {m = j / c} {n = 1000000} (pitch s) l)
