-- Shades of one card (02, i).
--     shade-below    each shade is below k
--     brighter       a brighter value never gets a lower shade: for any two floats, where x <= y
--     same-value     two values that are not above each other, such as both zeros, have one shade
use Rattle.words.proofs.Plain.{ℕ, zero, suc, ◌-◌, ◌≤◌, ◌<◌, zero-le, arith, ◌≡◌, Bool, true, false, T}
use lib.Ieee.{Float, le}
use Rattle.words.specs.Readings.{bit}
use Rattle.density_spec.specs.declared.Card.{Card}
use Rattle.density_spec.specs.Cuts.{cut, cuts_up_to, shade_of}
use Rattle.density_laws.proofs.Floats.{le_trans}

bit_le : (b : Bool) → bit b ≤ 1
bit_le true = omega arith
bit_le false = omega arith

-- no more cuts than there are
counted-le : (c : Card) (k : ℕ) (x : Float) (m : ℕ) → cuts_up_to c k x m ≤ m
unfolding cuts_up_to
counted-le c k x zero = zero-le
counted-le c k x (suc m) = omega (arith, counted-le c k x m, bit_le (le (cut c k (suc m)) x))

pub shade-below : (c : Card) (k : ℕ) (x : Float) → 0 < k → shade_of c k x < k
shade-below c k x h = omega (arith, counted-le c k x (k - 1))

-- a test that implies another counts no more
less : (a b : Bool) → (T a → T b) → bit a ≤ bit b
less true true f = omega arith
less true false f = absurd (f tt)
less false b f = zero-le

-- each cut that is not above x is not above y
counted-mono : (c : Card) (k : ℕ) (x y : Float) → T (le x y) → (m : ℕ) → cuts_up_to c k x m ≤ cuts_up_to c k y m
unfolding cuts_up_to
counted-mono c k x y h zero = zero-le
counted-mono c k x y h (suc m) =
    omega (arith, counted-mono c k x y h m, less (le (cut c k (suc m)) x) (le (cut c k (suc m)) y) (λ t. le_trans (cut c k (suc m)) x y t h))

pub brighter : (c : Card) (k : ℕ) (x y : Float) → T (le x y) → shade_of c k x ≤ shade_of c k y
brighter c k x y h = counted-mono c k x y h (k - 1)

pub same-value : (c : Card) (k : ℕ) (x y : Float) → T (le x y) → T (le y x) → shade_of c k x ≡ shade_of c k y
same-value c k x y g h = omega (arith, brighter c k x y g, brighter c k y x h)
