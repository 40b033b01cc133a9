-- A drawn shade is read as itself by the cuts of card 0 and 1 (02, i), also where the print or the measure is off by the tolerance.
--     shades-told       for both tones, all k from 2 to 16 and each of its shades: 270 cases, computed
--     ideal-in, ideal-shade    the reflectance of a shade lies from 0 to 1, and its shade is that shade
--     near-shade        so is every value within the tolerance
use Rattle.words.proofs.Plain.{ℕ, suc, zero, ◌+◌, ◌-◌, ◌<◌, ◌≤◌, arith, ◌≡◌, refl, sym, ap, ◌∙◌, Bool, true, false, not, ◌&&◌, T, eqb, eqb-true}
use lib.Ieee.{Float, binary32, of_bits, of_fields, add, sub, mul, div, neg, sum, round, units, odd, size, climb, span, of_int, lt, eq, le, ne}
use Rattle.words.specs.{Search.all_below, Readings.Shaded}
use Rattle.words.proofs.{Search.all-at, Split.both_left, Split.both_right}
use Rattle.density_spec.specs.Cuts.{cuts_up_to, shade_of, In, zero32, one32}
use Rattle.density_laws.proofs.Shades.{brighter}
use Rattle.picture_spec.specs.{declared.Tone.Tone, declared.Tone.TheVariants.Managed, declared.Tone.TheVariants.Levels}
use Rattle.picture_spec.specs.Gray.{managed_grays, gray}
use Rattle.picture_gray_laws.specs.Shown.{srgb, reflectance, tolerance, ideal, NearShade, full_card}

-- the value is a number from 0 to 1
inside : Float → Bool
inside x = not (ne x x) && (not (lt x zero32) && not (lt one32 x))

-- it, and the values a tolerance darker and lighter, have the shade s
told : Tone → ℕ → ℕ → Bool
told tone k s =
    inside (ideal tone k s)
    && (eqb (shade_of full_card k (ideal tone k s)) s
    && (eqb (shade_of full_card k (sub binary32 (ideal tone k s) (tolerance k))) s && eqb (shade_of full_card k (add binary32 (ideal tone k s) (tolerance k))) s))

managed-told : all_below 15 (λ i. all_below (2 + i) (told Managed (2 + i))) ≡ true
unfolding all_below told inside ideal tolerance reflectance srgb gray managed_grays cuts_up_to of_bits of_fields add sub mul div neg sum round units odd size climb span of_int lt eq le ne
managed-told = refl

levels-told : all_below 15 (λ i. all_below (2 + i) (told Levels (2 + i))) ≡ true
unfolding all_below told inside ideal tolerance reflectance gray cuts_up_to of_bits of_fields add sub mul div neg sum round units odd size climb span of_int lt eq le ne
levels-told = refl

shades-told : (tone : Tone) → all_below 15 (λ i. all_below (2 + i) (told tone (2 + i))) ≡ true
shades-told Managed = managed-told
shades-told Levels = levels-told

passing : (b : Bool) → b ≡ true → T b
passing b e = rw e tt

not-true : (b : Bool) → not b ≡ true → b ≡ false
not-true false e = refl
not-true true e = sym e

module _ (tone : Tone) (k : ℕ) (a : Shaded k) (s : ℕ) (h : s < k) where
  told_at : told tone k s ≡ true
  told_at =
      let e : 2 + (k - 2) ≡ k = omega arith in
      let all = all-at 15 (λ i. all_below (2 + i) (told tone (2 + i))) (shades-told tone) (k - 2) (omega arith) in
      let t : told tone (2 + (k - 2)) s ≡ true = all-at (2 + (k - 2)) (told tone (2 + (k - 2))) all s (omega arith) in
      rw e at t

  abbrev x : Float
  x = ideal tone k s

  abbrev is : Float → Bool
  is y = eqb (shade_of full_card k y) s

  rest : (is x && (is (sub binary32 x (tolerance k)) && is (add binary32 x (tolerance k)))) ≡ true
  unfolding told
  rest = both_right (inside x) (is x && (is (sub binary32 x (tolerance k)) && is (add binary32 x (tolerance k)))) told_at

  edges : (is (sub binary32 x (tolerance k)) && is (add binary32 x (tolerance k))) ≡ true
  edges = both_right (is x) (is (sub binary32 x (tolerance k)) && is (add binary32 x (tolerance k))) rest

  -- the reflectance of a shade has a shade
  pub ideal-in : In (ideal tone k s)
  unfolding told inside
  ideal-in =
      let i = both_left (inside x) (is x && (is (sub binary32 x (tolerance k)) && is (add binary32 x (tolerance k)))) told_at in
      let l = both_right (not (ne x x)) (not (lt x zero32) && not (lt one32 x)) i in (
        not-true (ne x x) (both_left (not (ne x x)) (not (lt x zero32) && not (lt one32 x)) i),
        not-true (lt x zero32) (both_left (not (lt x zero32)) (not (lt one32 x)) l),
        not-true (lt one32 x) (both_right (not (lt x zero32)) (not (lt one32 x)) l),
      )

  -- which is s
  pub ideal-shade : shade_of full_card k (ideal tone k s) ≡ s
  ideal-shade = eqb-true (shade_of full_card k x) s (both_left (is x) (is (sub binary32 x (tolerance k)) && is (add binary32 x (tolerance k))) rest)

  -- and so has every value that is near
  pub near-shade : (y : Float) → NearShade tone k s y → shade_of full_card k y ≡ s
  near-shade y n =
      let d = sub binary32 x (tolerance k) in
      let l = add binary32 x (tolerance k) in
      let p = eqb-true (shade_of full_card k d) s (both_left (is d) (is l) edges) in
      let q = eqb-true (shade_of full_card k l) s (both_right (is d) (is l) edges) in
      omega (arith, p, q, brighter full_card k d y (passing (le d y) n.darkest), brighter full_card k y l (passing (le y l) n.lightest))
