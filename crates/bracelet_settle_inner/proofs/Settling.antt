-- The search for the least shade at a place that makes a bracelet, by halves.
--     Settling s m a t v l h     v is s but for place m; the shade h makes a bracelet, and no shade from a up to l does
--     settling-start, settling-down, settling-up, settling-end
use Rattle.words.proofs.Plain.{ℕ, ◌+◌, ◌<◌, ◌≤◌, arith, ◌≡◌, refl, ◌∙◌, true, false, List, length, set, length-set, set-set}
use Rattle.words.proofs.Split.{refuted, clash}
use Rattle.rings.specs.Alike.{bracelet}
use Rattle.bracelet_settle_inner.specs.Shades.{Settles, ShadeSettled}

-- v is s but for place m; the shade h makes a bracelet, and no shade from a up to but not including l does
pub record Settling (s : List ℕ) (m a t : ℕ) (v : List ℕ) (l h : ℕ) : Type 0 where
  pub long : length v ≡ length s
  pub same : (x : ℕ) → set v m x ≡ set s m x
  pub up : a ≤ l
  pub order : l ≤ h
  pub down : h ≤ t
  pub whole : bracelet (set s m h) ≡ true
  pub first : (x : ℕ) → a ≤ x → x < l → bracelet (set s m x) ≡ false

module _ (s : List ℕ) (m a t : ℕ) (p : Settles s m a t) where
  pub settling-start : Settling s m a t s a t
  settling-start =
      record { long = refl; same = λ x. refl; up = omega arith; order = p.order; down = omega arith; whole = p.top; first = λ x g i. absurd (omega arith) }

  module _ (v : List ℕ) (l h : ℕ) (i : Settling s m a t v l h) (x : ℕ) (g : l ≤ x) (o : x < h) where
    over : (y : ℕ) → set (set v m x) m y ≡ set s m y
    over y = set-set v m x y ∙ i.same y

    -- the shade x makes one: it is the least known
    pub settling-down : bracelet (set v m x) ≡ true → Settling s m a t (set v m x) l x
    settling-down b =
        record { long = length-set v m x ∙ i.long; same = over; up = i.up; order = g; down = omega (arith, i.down); whole = rw (i.same x) at b; first = i.first }

    -- it does not: nor does any below it
    pub settling-up : bracelet (set v m x) ≡ false → Settling s m a t (set v m x) (x + 1) h
    settling-up b =
        record {
          long = length-set v m x ∙ i.long;
          same = over;
          up = omega (arith, i.up);
          order = omega arith;
          down = i.down;
          whole = i.whole;
          first = λ y e q. refuted (bracelet (set s m y)) (λ r. clash (bracelet (set s m x)) (p.rises y x (omega arith) (omega (arith, i.down)) r) (rw (i.same x) at b));
        }

  pub settling-end : (v : List ℕ) (l h : ℕ) → Settling s m a t v l h → h ≤ l → ShadeSettled s m a t (set v m h)
  settling-end v l h i e =
      record { shade = h; up = omega (arith, i.up, i.order); down = i.down; is = i.same h; whole = i.whole; first = λ x g o. i.first x g (omega arith) }
