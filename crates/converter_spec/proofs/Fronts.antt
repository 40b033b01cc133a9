-- The front record of a record of an old catalogue.
--     front-necklace, length_front, front-reading    the front ring is a necklace of as many sectors, of the same shades
--     one_side                                       a mark is of one side
--     front_long, front_bytes                        a front record is there, and is its bytes and what follows
--     front-good                                     it is good
--     bytes-front                                    a part that begins with those bytes begins with the front record
use Rattle.words.proofs.Plain.{ℕ, ◌+◌, ◌<◌, ◌≤◌, arith, ◌≡◌, refl, sym, ap, ◌∙◌, true, List, ◌++◌, length, drop, length-take, length-drop}
use Rattle.words.specs.Readings.{Reading}
use Rattle.rings.specs.Necklace.{necklace}
use Rattle.ring_home_laws.proofs.Alike.{length-mirrored, mirrored-reading, mirrored-necklace}
use Rattle.refusal.specs.Calls.{Below}
use Rattle.record_spec.specs.{declared.Kind.TheVariants.Front, Order.After9}
use Rattle.record_spec.specs.Layout.{n_of, k_of, sectors_of}
use Rattle.record_spec.proofs.Laid.{bytes, laid-sectors, whole}
use Rattle.record_spec.proofs.Laws.{length-sectors}
use Rattle.converter_spec.specs.Sides.{Side, SideMarked, front_ring}
use Rattle.converter_spec.specs.{Sides.Side.front, Sides.Side.back, Converts.FrontOf}

-- ---- the front ring

module _ (w : List ℕ) (z : 0 < length w) where
  pub front-necklace : (x : Side) → necklace w ≡ true → necklace (front_ring x w) ≡ true
  front-necklace front h = h
  front-necklace back h = mirrored-necklace w z

  pub length_front : (x : Side) → length (front_ring x w) ≡ length w
  length_front front = refl
  length_front back = length-mirrored w z

  pub front-reading : (x : Side) (n k : ℕ) → Reading n k w → Reading n k (front_ring x w)
  front-reading front n k r = r
  front-reading back n k r = mirrored-reading w z n k r

-- a mark is of one side
pub one_side : (t : List ℕ) (x y : Side) → SideMarked t x → SideMarked t y → x ≡ y
one_side t front front m o = refl
one_side t front back m o = absurd (omega (arith, m.1, o.1))
one_side t back front m o = absurd (omega (arith, m.1, o.1))
one_side t back back m o = refl

-- ---- the front record

-- the sectors of a good record
module _ (t : List ℕ) (a : After9 t) where
  long : length (sectors_of t) ≡ n_of t
  long = length-sectors t a.0.1

  some : 0 < length (sectors_of t)
  some = omega (arith, long, a.0.0.0.0)

  -- the front ring has n sectors
  pub front-n : (x : Side) → length (front_ring x (sectors_of t)) ≡ n_of t
  front-n x = length_front (sectors_of t) some x ∙ long

  module _ (x : Side) (u : List ℕ) (f : FrontOf x t u) where
    long-there : length (sectors_of u) ≡ n_of t
    long-there = ap (λ (v : List ℕ). length v) (sym f.ring) ∙ front-n x

    -- a front record is all there
    pub front_long : 4 + n_of t ≤ length u
    front_long = omega (arith, long-there, f.sectors, length-take (n_of u) (drop 4 u), length-drop 4 u, a.0.0.0.0)

    -- it is its bytes, and what follows
    pub front_bytes : u ≡ bytes Front (n_of t) (k_of t) (front_ring x (sectors_of t)) ++ drop (4 + n_of t) u
    front_bytes = whole Front u (n_of t) (k_of t) (front_ring x (sectors_of t)) (omega (arith, front_long)) f.marked f.sectors f.shades f.ring

    -- and good
    pub front-good : After9 u
    front-good = (((sized, shaded), omega (arith, front_long, f.sectors)), ((below, refl), ap necklace (sym f.ring) ∙ front-necklace (sectors_of t) some x a.1.1))
      where
        sized : (1 ≤ n_of u) × (n_of u ≤ 64)
        sized = omega (arith, f.sectors, a.0.0.0)

        shaded : (2 ≤ k_of u) × (k_of u ≤ 16)
        shaded = omega (arith, f.shades, a.0.0.1)

        ring : Reading (n_of t) (k_of t) (front_ring x (sectors_of t))
        ring = front-reading (sectors_of t) some x (n_of t) (k_of t) (record { long = long; shades = λ i l. a.1.0.0 i (omega (arith, long)) })

        below : Below (sectors_of u) (λ i. k_of u)
        below = rw (sym f.ring, sym f.shades) (λ i l. ring.shades i (omega (arith, front-n x)))

  -- a part that begins with those bytes begins with the front record
  pub bytes-front : (x : Side) (u v : List ℕ) → u ≡ bytes Front (n_of t) (k_of t) (front_ring x (sectors_of t)) ++ v → FrontOf x t u
  bytes-front x u v e =
      rw e (record {
        marked = (refl, refl);
        sectors = refl;
        shades = refl;
        ring = sym (laid-sectors Front (n_of t) (k_of t) (front_ring x (sectors_of t)) v (front-n x));
      })
