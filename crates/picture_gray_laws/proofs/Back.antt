-- A picture is read back as its ring, of whatever answers the contracts of `density::sector_shade` and `density::ring_shades` admit.
--     sector-back       a value near the reflectance of shade s: `sector_shade` answers s, and nothing else
--     picture-back      a ring measured from its picture: `ring_shades` writes the ring, and nothing else
use Rattle.words.proofs.Plain.{ℕ, zero, suc, ◌+◌, ◌*◌, ◌<◌, ◌≤◌, arith, ◌≡◌, refl, sym, ap, ◌∙◌, true, List, [], ◌∷◌, map, length, get_or, length-map, ext_get_or}
use lib.Ieee.{Float, nan, binary32, of_bits, of_fields, lt, eq, le, ne}
use Rattle.words.specs.Readings.{Sized, Shaded}
use Rattle.refusal.specs.Calls.{Below}
use Rattle.std.specs.Prelude.{Result, Ok}
use Rattle.refusal.specs.declared.Refusal.{Refusal}
use Rattle.density_spec.specs.{declared.Sector.Sector, declared.Sector.TheVariants.Shade}
use Rattle.density_spec.specs.Cuts.{good_card, shade_of, In}
use Rattle.density_spec.specs.Says.{SectorSays, RingSays}
use Rattle.density_spec.proofs.{Unique.one-sector, Unique.one-ring, Places.shade-at}
use Rattle.picture_spec.specs.declared.Tone.{Tone}
use Rattle.picture_laws.proofs.Seen.{shown-sector}
use Rattle.picture_gray_laws.specs.Shown.{full_card, NearShade, Measured}
use Rattle.picture_gray_laws.proofs.Shades.{near-shade}

full-good : good_card full_card ≡ true
unfolding of_bits of_fields lt eq le ne
full-good = refl

module _ (tone : Tone) (k : ℕ) (a : Shaded k) where
  pub sector-back : (s : ℕ) → s < k → (x : Float) → NearShade tone k s x → (r : Result Sector Refusal) → SectorSays x k full_card r → r ≡ Ok (Shade s)
  sector-back s h x n r p = one-sector x k full_card r (Ok (Shade s)) p ((a, full-good), (n.value, sym (near-shade tone k a s h x n)))

  module _ (w : List ℕ) (z : Sized (length w)) (g : Below w (λ i. k)) (xs : List Float) (m : Measured tone k w xs) where
    -- what is measured of a sector is near the reflectance of its shade
    near : (i : ℕ) → i < length w → NearShade tone k (get_or w i 0) (get_or xs i nan)
    near i h = let e = m.each i h in rw (shown-sector w i e.0 h e.1 e.2) at e.3

    readable : (i : ℕ) → i < length xs → In (get_or xs i nan)
    readable i h = (near i (omega (arith, m.long))).value

    shades : w ≡ map (shade_of full_card k) xs
    shades =
        ext_get_or 0 w (map (shade_of full_card k) xs) (sym (length-map xs (shade_of full_card k) ∙ m.long))
        (λ i h. sym (near-shade tone k a (get_or w i 0) (g i h) (get_or xs i nan) (near i h)) ∙ sym (shade-at full_card k xs i (omega (arith, m.long))))

    pub picture-back : (b : List ℕ) → length b ≡ length w → (r : Result Unit Refusal) (d : List ℕ) → RingSays xs k full_card b r d → (r ≡ (Ok tt)) × (d ≡ w)
    picture-back b l r d p =
        let y : Sized (length xs) = rw m.long z in
        one-ring xs k full_card b r (Ok tt) d w p ((((y, (a, full-good)), l ∙ sym m.long), readable), shades)
