-- The search for the place to raise, and the shades behind it.
--     Lifting k w s i      s is the first i sectors of w, filled up, and from place i on w is stuck
--     lifting-start, lifting-full, lifting-stuck, lifting-none     the search from the end
--     lifting-shade                                                what stands at the place is a shade
--     lifting-below, lifting-settles, lifting-found                the place is found: its least shade
--     led-settles, led_on                                          the least shade at a place behind it
--     Leading k c m s i, leading-start, leading-settles, leading-on, leading_end    place by place, up to the end
use Rattle.words.proofs.Plain.{ℕ, suc, ◌+◌, ◌-◌, ◌<◌, ◌≤◌, add-one, arith, ◌≡◌, refl, ap, ◌∙◌, true, false, List, length, get_or, set, length-set, set-set}
use Rattle.words.proofs.{Plain.get_or-set_same, Plain.get_or-set_other, Sequence.sec, Sequence.place}
use Rattle.words.specs.Readings.{Reading}
use Rattle.words.proofs.Split.{lt, eq, gt, tri}
use Rattle.rings.specs.Alike.{bracelet}
use Rattle.bracelet_laws.specs.Beginnings.{tried}
use Rattle.bracelet_laws.proofs.Next.{tried-is, tried-rises, Stuck, stuck-end, stuck-full, stuck_at, stuck-none, Leads, lead-start, lead-letter, lead-set, lead-on, lead-end}
use Rattle.bracelet_settle_inner.specs.Shades.{Settles, ShadeSettled}
use Rattle.bracelet_next_inner.specs.Going.{ByteReading, BraceletLifted, Led, Completed}

-- ---- the place to raise

-- s is the first i sectors of w, filled up, and from place i on w is stuck
pub record Lifting (k : ℕ) (w s : List ℕ) (i : ℕ) : Type 0 where
  pub long : length s ≡ length w
  pub inside : i ≤ length w
  pub low : (j : ℕ) → j < i → get_or s j 0 ≡ get_or w j 0
  pub high : (j : ℕ) → i ≤ j → j < length w → get_or s j 0 ≡ k - 1
  pub stuck : Stuck k w i

module _ (k : ℕ) (w : List ℕ) (ready : ByteReading k w) where
  pub lifting-start : Lifting k w w (length w)
  lifting-start = record { long = refl; inside = omega arith; low = λ j h. refl; high = λ j h l. absurd (omega arith); stuck = stuck-end k w }

  module _ (s : List ℕ) (i l t : ℕ) (f : Lifting k w s i) (e : suc l ≡ i) (q : t ≡ k - 1) where
    in-w : l < length w
    in-w = omega (arith, f.inside)

    -- it is a shade
    pub lifting-shade : get_or s l 0 < k
    lifting-shade = omega (arith, f.low l (omega arith), ready.reading.shades l in-w)

    past : Stuck k w (suc l)
    past = rw e f.stuck

    -- another shade stored at place l is that shade tried
    pub lifting-tried : (b : ℕ) → set s l b ≡ tried k w l b
    lifting-tried b =
        tried-is k w l b (set s l b) in-w (length-set s l b ∙ f.long)
        (λ j h. get_or-set_other s l j b 0 (λ x. omega arith) ∙ f.low j (omega arith))
        (get_or-set_same s l b 0 (omega (arith, f.long, in-w)))
        (λ j h o. get_or-set_other s l j b 0 (λ x. omega arith) ∙ f.high j (omega arith) o)

    -- a shade searched for there leaves the length
    pub lifting-long : (a : ℕ) (v : List ℕ) → ShadeSettled (set s l t) l a t v → length v ≡ length w
    lifting-long a v d = ap length d.is ∙ length-set (set s l t) l d.shade ∙ length-set s l t ∙ f.long

    -- the highest shade cannot be raised
    pub lifting-full : get_or s l 0 ≡ t → Lifting k w s l
    lifting-full h =
        record {
          long = f.long;
          inside = omega (arith, in-w);
          low = λ j g. f.low j (omega arith);
          high = λ j g o. elim (tri j l) [ lt x ↦ absurd (omega arith) | eq x ↦ place (sec s) j l x ∙ h ∙ q | gt x ↦ f.high j (omega arith) o ];
          stuck = stuck-full k w l (omega (arith, f.low l (omega arith))) past;
        }

    -- where even the highest shade there makes no bracelet, none does
    pub lifting-stuck : bracelet (set s l t) ≡ false → Lifting k w (set s l t) l
    lifting-stuck h =
        record {
          long = length-set s l t ∙ f.long;
          inside = omega (arith, in-w);
          low = λ j g. get_or-set_other s l j t 0 (λ x. omega arith) ∙ f.low j (omega arith);
          high = λ j g o. elim (tri j l) [
            | lt x ↦ absurd (omega arith)
            | eq x ↦ place (sec (set s l t)) j l x ∙ get_or-set_same s l t 0
                (omega (arith, f.long, in-w)) ∙ q
            | gt x ↦ get_or-set_other s l j t 0 (λ y. omega arith) ∙ f.high j (omega arith) o
          ];
          stuck = stuck_at k w l ready.reading in-w (rw (lifting-tried t, q) at h) past;
        }

    module _ (h : bracelet (set s l t) ≡ true) (n : get_or s l 0 ≡ t → ⊥) where
      pub lifting-below : get_or s l 0 < t
      lifting-below = omega (arith, f.low l (omega arith), ready.reading.shades l in-w)

      -- else a search for the least that does finds one, from whatever shade on
      pub lifting-settles : (a : ℕ) → a ≤ t → Settles (set s l t) l a t
      lifting-settles a o =
          record {
            inside = omega (arith, length-set s l t, f.long, in-w);
            order = o;
            top = rw (set-set s l t t) h;
            rises = λ x y g u b. rw (set-set s l t y, lifting-tried y) (tried-rises k l w x y ready.reading in-w (rw (set-set s l t x, lifting-tried x) at b) g (omega (arith, ready.some-shades)));
          }

      -- and what it finds from the shade after the present one on is the raised sector
      pub lifting-found : (a : ℕ) → get_or s l 0 < a → a ≤ get_or s l 0 + 1 → (v : List ℕ) → ShadeSettled (set s l t) l a t v → BraceletLifted k w (l + 1) v
      lifting-found a above next v d = record { none_above = λ z. absurd (omega arith); leads = λ z. rw (add-one l, d.is, is d.shade) leads }
        where
          is : (b : ℕ) → set (set s l t) l b ≡ tried k w l b
          is b = set-set s l t b ∙ lifting-tried b

          leads : Leads k w (tried k w l d.shade) (suc l)
          leads =
              lead-start k w l d.shade ready.reading in-w (omega (arith, d.up, f.low l (omega arith))) (omega (arith, d.down, ready.some-shades)) (rw (is d.shade) at d.whole)
              (λ x g o. rw (is x) at (d.first x (omega (arith, f.low l (omega arith))) o)) past

  pub lifting-none : (s : List ℕ) (i : ℕ) → Lifting k w s i → i ≤ 0 → BraceletLifted k w 0 s
  lifting-none s i f h = record { none_above = λ z. stuck-none k w (let e : i ≡ 0 = omega arith in rw e at f.stuck); leads = λ z. absurd (omega arith) }

-- ---- the shades behind it

module _ (k : ℕ) (w c : List ℕ) (m t : ℕ) (lead : Leads k w c m) (h : m < length c) (q : t ≡ k - 1) where
  in-led : m < length w
  in-led = omega (arith, lead.reading.long)

  led-reading : Reading (length c) k c
  led-reading = rw lead.reading.long lead.reading

  -- the highest shade can be taken, and a shade above one that can
  pub led-settles : (a : ℕ) → a ≤ t → Settles c m a t
  led-settles a u =
      record {
        inside = h;
        order = u;
        top = rw (lead-set k w c m lead t in-led, q) (lead-letter k w c m lead in-led);
        rises = λ x y g o b. rw (lead-set k w c m lead y in-led) (tried-rises k m c x y led-reading h (rw (lead-set k w c m lead x in-led) at b) g (omega (arith, lead.reading.shades m in-led)));
      }

  -- the least that can, from 0 on, leads on
  pub led_on : (a : ℕ) → a ≤ 0 → (v : List ℕ) → ShadeSettled c m a t v → Leads k w v (m + 1)
  led_on a z v d =
      rw (add-one m, d.is, is d.shade)
      (lead-on k w c m lead d.shade in-led (omega (arith, d.down, lead.reading.shades m in-led)) (rw (is d.shade) at d.whole) (λ x o. rw (is x) at (d.first x (omega arith) o)))
    where
      is : (b : ℕ) → set c m b ≡ tried k c m b
      is b = lead-set k w c m lead b in-led

-- all the way: whatever reading the first m sectors of c lead on from, those of s lead on from
pub record Leading (k : ℕ) (c : List ℕ) (m : ℕ) (s : List ℕ) (i : ℕ) : Type 0 where
  pub some-led : Led k s i
  pub each : (w : List ℕ) → Leads k w c m → Leads k w s i
  pub long : length s ≡ length c

module _ (k : ℕ) (c : List ℕ) (m : ℕ) where
  pub leading-start : Led k c m → Leading k c m c m
  leading-start d = record { some-led = d; each = λ w l. l; long = refl }

  module _ (s : List ℕ) (i t : ℕ) (f : Leading k c m s i) (h : i < length s) (q : t ≡ k - 1) where
    pub leading-settles : (a : ℕ) → a ≤ t → Settles s i a t
    leading-settles a o = led-settles k f.some-led.0 s i t f.some-led.1 h q a o

    pub leading-on : (a : ℕ) → a ≤ 0 → (v : List ℕ) → length v ≡ length s → ShadeSettled s i a t v → Leading k c m v (i + 1)
    leading-on a z v e d =
        record {
          some-led = (f.some-led.0, led_on k f.some-led.0 s i t f.some-led.1 h q a z v d);
          each = λ w l. led_on k w s i t (f.each w l) h q a z v d;
          long = e ∙ f.long;
        }

  pub leading_end : (s : List ℕ) (i : ℕ) → Leading k c m s i → length s ≤ i → Completed k c m s
  leading_end s i f h w l =
      let d = f.each w l in let e : i ≡ length w = omega (arith, d.inside, d.reading.long) in lead-end k w s (rw e at d)
