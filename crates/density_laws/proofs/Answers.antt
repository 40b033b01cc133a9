-- A brighter value never gets a lower shade (02, request i), of whatever answers the contracts of `density::sector_shade` and `density::ring_shades` admit.
--     brighter-sector    of two answers of `sector_shade` for one card and k, the brighter value's shade is not lower
--     brighter-ring      of two rings that `ring_shades` wrote for one card and k, the same sector by sector, whichever sectors of either are compared
--     ring-sector        a sector's shade in a ring that was written is the one that `sector_shade` tells of its value
-- That the contracts admit one answer each: `density_spec`, proofs/Unique.
use Rattle.words.proofs.Plain.{ℕ, ◌<◌, ◌≤◌, arith, ◌≡◌, Bool, true, List, T, length, get_or}
use Rattle.std.specs.Prelude.{Ok}
use lib.Ieee.{Float, nan, le}
use Rattle.density_spec.specs.{declared.Card.Card, declared.Sector.Sector, declared.Sector.TheVariants.Shade, Cuts.shade_of}
use Rattle.density_spec.specs.Says.{SectorSays, RingSays}
use Rattle.density_spec.proofs.{Unique.one_told, Places.shade-at}
use Rattle.density_laws.proofs.Shades.{brighter}

-- a test that passes
passing : (b : Bool) → b ≡ true → T b
passing b e = rw e tt

-- ---- one sector

pub brighter-sector : (c : Card) (k : ℕ) (x y : Float) (s t : ℕ) → le x y ≡ true → SectorSays x k c (Ok (Shade s)) → SectorSays y k c (Ok (Shade t)) → s ≤ t
brighter-sector c k x y s t h p q = omega (arith, p.1.1, q.1.1, brighter c k x y (passing (le x y) h))

-- ---- a ring

module _ (c : Card) (k : ℕ) (xs : List Float) (b d : List ℕ) (wrote : RingSays xs k c b (Ok tt) d) where
  -- each sector's shade is that of its value
  written_at : (i : ℕ) → i < length xs → get_or d i 0 ≡ shade_of c k (get_or xs i nan)
  written_at i h = rw wrote.1 (shade-at c k xs i h)

  -- and so the one that `sector_shade` tells
  pub ring-sector : (i : ℕ) (a : Sector) → i < length xs → SectorSays (get_or xs i nan) k c (Ok a) → a ≡ Shade (get_or d i 0)
  ring-sector i a h told = one_told c k (get_or xs i nan) a (Shade (get_or d i 0)) told.1 (wrote.0.1 i h, written_at i h)

pub brighter-ring : (c : Card) (k : ℕ) (xs ys : List Float) (b e d f : List ℕ) → RingSays xs k c b (Ok tt) d → RingSays ys k c e (Ok tt) f →
    (i j : ℕ) → i < length xs → j < length ys → le (get_or xs i nan) (get_or ys j nan) ≡ true → get_or d i 0 ≤ get_or f j 0
brighter-ring c k xs ys b e d f p q i j h l dark =
    omega (arith, written_at c k xs b d p i h, written_at c k ys e f q j l, brighter c k (get_or xs i nan) (get_or ys j nan) (passing (le (get_or xs i nan) (get_or ys j nan)) dark))
