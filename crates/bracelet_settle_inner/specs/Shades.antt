-- The least shade at a place that makes a reading a bracelet. These words serve the code alone.
--     Between l h t r          r is from l up to but not including h, the middle one where t is 0
--     Settles s m a t          s with the shade t at place m is a bracelet, and with a shade above one that makes it one it is one
--     ShadeSettled s m a t v   v is s with the least shade from a on, at place m, that makes it a bracelet
use Rattle.std.specs.Prelude.{ℕ, ◌+◌, ◌-◌, ◌/◌, ◌<◌, ◌≤◌, ◌≡◌, true, false, List, length, set}
use Rattle.rings.specs.Alike.{bracelet}

-- a shade to try
pub record Between (l h t r : ℕ) : Type 0 where
  pub up : l ≤ r
  pub down : r < h
  pub middle : t ≡ 0 → r ≡ l + (h - l) / 2

-- the shade t at place m makes s a bracelet, and so does each shade above one that does
pub record Settles (s : List ℕ) (m a t : ℕ) : Type 0 where
  pub inside : m < length s
  pub order : a ≤ t
  pub top : bracelet (set s m t) ≡ true
  pub rises : (x y : ℕ) → x ≤ y → y ≤ t → bracelet (set s m x) ≡ true → bracelet (set s m y) ≡ true

-- v is s with the least shade from a on that makes it a bracelet
pub record ShadeSettled (s : List ℕ) (m a t : ℕ) (v : List ℕ) : Type 0 where
  pub shade : ℕ
  pub up : a ≤ shade
  pub down : shade ≤ t
  pub is : v ≡ set s m shade
  pub whole : bracelet (set s m shade) ≡ true
  pub first : (x : ℕ) → a ≤ x → x < shade → bracelet (set s m x) ≡ false
