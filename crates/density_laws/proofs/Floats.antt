-- `<=` of floats, all of them: both zeros, infinities and what is not a number.
--     le_trans        it is transitive
--     le-lt           where x <= y, y is not below x
--     lt-le           of two numbers, where y is not below x, x <= y
--     le-number       where x <= y, x is a number
use Rattle.words.proofs.Plain.{ℕ, zero, suc, ◌≤◌, ◌<◌, ◌+◌, ◌*◌, arith, ◌≡◌, ◌∙◌, sym, refl, Bool, true, false, ◌||◌, T, ltb, eqb, ltb-true, ltb-false}
use Rattle.words.proofs.Plain.{eqb-true, lt-ltb, le-ltb, eq-eqb, ne_eqb}
use native.Mathlib.Nat.{mul-pos, zero-mul, le_of_lt}
use lib.Ieee.{Float, nan, inf, fin, up, down, lt, eq, le, ne, below, level}
use lib.Ieee.Compare.{differs_from_itself}
use lib.Ieee.Positive.{through, den_pos}
use Rattle.words.proofs.Split.{clash, refuted}

pub by-test : {C : Type 0} (t : Bool) → (t ≡ true → C) → (t ≡ false → C) → C
by-test true f g = f refl
by-test false f g = g refl

pub by-lt : {C : Type 0} (a b : ℕ) → (a < b → C) → (b ≤ a → C) → C
by-lt a b f g = by-test (ltb a b) (λ e. f (ltb-true a b e)) (λ e. g (ltb-false a b e))

-- what `<=` of two finite values ±a and ±b says
abbrev Le : Bool → ℕ → Bool → ℕ → Type 0
Le false a false b = a ≤ b
Le false a true b = (a ≡ 0) × (b ≡ 0)
Le true a false b = Unit {0}
Le true a true b = b ≤ a

to : (s : Bool) (a : ℕ) (t : Bool) (b : ℕ) → T (below s a t b || level s a t b) → Le s a t b
to false a false b h = by-lt b a (λ g. absurd (rw (le-ltb a b (le_of_lt g), ne_eqb a b (λ e. omega arith)) at h)) (λ g. g)
to true a true b h = by-lt a b (λ g. absurd (rw (le-ltb b a (le_of_lt g), ne_eqb a b (λ e. omega arith)) at h)) (λ g. g)
to true a false b h = tt
to false a true b h =
    by-test (eqb a b)
    (λ p. by-test (eqb a 0) (λ q. (eqb-true a 0 q, sym (eqb-true a b p) ∙ eqb-true a 0 q)) (λ q. absurd (rw (p, q) at h)))
    (λ p. absurd (rw p at h))

from : (s : Bool) (a : ℕ) (t : Bool) (b : ℕ) → Le s a t b → T (below s a t b || level s a t b)
from false a false b h = by-lt a b (λ g. rw (lt-ltb a b g) tt) (λ g. rw (le-ltb a b g, eq-eqb a b (omega arith)) tt)
from true a true b h = by-lt b a (λ g. rw (lt-ltb b a g) tt) (λ g. rw (le-ltb b a g, eq-eqb a b (omega arith)) tt)
from true a false b h = by-lt 0 (a + b) (λ g. rw (lt-ltb 0 (a + b) g) tt) (λ g. rw (le-ltb 0 (a + b) g, eq-eqb a b (omega arith), eq-eqb a 0 (omega arith)) tt)
from false a true b h = rw (eq-eqb a b (h.0 ∙ sym h.1), eq-eqb a 0 h.0) tt

-- a product with a positive factor is 0 only where the other is
none : (a : ℕ) {d : ℕ} → 0 < d → a * d ≡ 0 → a ≡ 0
none zero p e = refl
none (suc a) {d} p e = absurd (omega (arith, mul-pos {m = suc a} {n = d} (omega arith) p))

nil : (a d : ℕ) → a ≡ 0 → a * d ≡ 0
nil a d e = rw e (zero-mul d)

-- three values ±X/p, ±Y/q, ±Z/r
tri : (s t u : Bool) (X Y Z p q r : ℕ) → 0 < p → 0 < q → 0 < r → Le s (X * q) t (Y * p) → Le t (Y * r) u (Z * q) → Le s (X * r) u (Z * p)
tri false false false X Y Z p q r P Q R h k = through X Y Z p q r Q h k
tri true true true X Y Z p q r P Q R h k = through Z Y X r q p Q k h
tri true t false X Y Z p q r P Q R h k = tt
tri true false true X Y Z p q r P Q R h k = rw (nil Z p (none Z Q k.1)) (omega arith)
tri false true false X Y Z p q r P Q R h k = rw (nil X r (none X Q h.0)) (omega arith)
tri false false true X Y Z p q r P Q R h k =
    let y : Y ≡ 0 = none Y R k.0 in
    let x : X ≡ 0 = none X Q (omega (arith, nil Y p y)) in
    (nil X r x, nil Z p (none Z Q k.1))
tri false true true X Y Z p q r P Q R h k =
    let y : Y ≡ 0 = none Y P h.1 in
    (nil X r (none X Q h.0), nil Z p (none Z Q (omega (arith, nil Y r y))))

pub le_trans : (x y z : Float) → T (le x y) → T (le y z) → T (le x z)
unfolding le lt eq
le_trans nan y z h k = absurd h
le_trans (inf s) nan z h k = absurd h
le_trans (fin s m e) nan z h k = absurd h
le_trans (inf true) (inf t) nan h k = absurd k
le_trans (inf true) (inf t) (inf true) h k = tt
le_trans (inf true) (inf t) (inf false) h k = tt
le_trans (inf true) (inf t) (fin u p g) h k = tt
le_trans (inf true) (fin t n d) nan h k = absurd k
le_trans (inf true) (fin t n d) (inf true) h k = tt
le_trans (inf true) (fin t n d) (inf false) h k = tt
le_trans (inf true) (fin t n d) (fin u p g) h k = tt
le_trans (inf false) (inf true) z h k = absurd h
le_trans (inf false) (inf false) z h k = k
le_trans (inf false) (fin t n d) z h k = absurd h
le_trans (fin s m e) (inf true) z h k = absurd h
le_trans (fin s m e) (inf false) nan h k = absurd k
le_trans (fin s m e) (inf false) (inf true) h k = absurd k
le_trans (fin s m e) (inf false) (inf false) h k = tt
le_trans (fin s m e) (inf false) (fin u p g) h k = absurd k
le_trans (fin s m e) (fin t n d) nan h k = absurd k
le_trans (fin s m e) (fin t n d) (inf true) h k = absurd k
le_trans (fin s m e) (fin t n d) (inf false) h k = tt
le_trans (fin s m e) (fin t n d) (fin u p g) h k =
    from s (m * up e * down g) u (p * up g * down e)
    (tri s t u (m * up e) (n * up d) (p * up g) (down e) (down d) (down g) (den_pos (fin s m e)) (den_pos (fin t n d)) (den_pos (fin u p g))
    (to s (m * up e * down d) t (n * up d * down e) h) (to t (n * up d * down g) u (p * up g * down d) k))

-- ---- `<=` and `<`

not-below : (s : Bool) (a : ℕ) (t : Bool) (b : ℕ) → Le s a t b → below t b s a ≡ false
not-below false a false b h = le-ltb b a h
not-below false a true b h = le-ltb 0 (b + a) (omega (arith, h.0, h.1))
not-below true a false b h = refl
not-below true a true b h = le-ltb a b h

below-not : (s : Bool) (a : ℕ) (t : Bool) (b : ℕ) → below t b s a ≡ false → Le s a t b
below-not false a false b h = ltb-false b a h
below-not false a true b h = let z : b + a ≤ 0 = ltb-false 0 (b + a) h in (omega arith, omega arith)
below-not true a false b h = tt
below-not true a true b h = ltb-false a b h

-- where x <= y, y is not below x
pub le-lt : (x y : Float) → T (le x y) → lt y x ≡ false
unfolding le lt eq
le-lt nan y h = absurd h
le-lt (inf s) nan h = absurd h
le-lt (fin s m e) nan h = absurd h
le-lt (inf true) (inf true) h = refl
le-lt (inf true) (inf false) h = refl
le-lt (inf false) (inf true) h = absurd h
le-lt (inf false) (inf false) h = refl
le-lt (inf true) (fin t n d) h = refl
le-lt (inf false) (fin t n d) h = absurd h
le-lt (fin s m e) (inf true) h = absurd h
le-lt (fin s m e) (inf false) h = refl
le-lt (fin s m e) (fin t n d) h = not-below s (m * up e * down d) t (n * up d * down e) (to s (m * up e * down d) t (n * up d * down e) h)

-- of two numbers, where y is not below x, x <= y
pub lt-le : (x y : Float) → ne x x ≡ false → ne y y ≡ false → lt y x ≡ false → T (le x y)
unfolding le lt eq ne
lt-le nan y p q h = clash true refl p
lt-le (inf s) nan p q h = clash true refl q
lt-le (fin s m e) nan p q h = clash true refl q
lt-le (inf true) (inf true) p q h = tt
lt-le (inf true) (inf false) p q h = tt
lt-le (inf false) (inf true) p q h = clash true refl h
lt-le (inf false) (inf false) p q h = tt
lt-le (inf true) (fin t n d) p q h = tt
lt-le (inf false) (fin t n d) p q h = clash true refl h
lt-le (fin s m e) (inf true) p q h = clash true refl h
lt-le (fin s m e) (inf false) p q h = tt
lt-le (fin s m e) (fin t n d) p q h = from s (m * up e * down d) t (n * up d * down e) (below-not s (m * up e * down d) t (n * up d * down e) h)

no_nan : (y : Float) → T (le nan y) → ⊥
unfolding le lt eq
no_nan y h = h

-- what is compared and found not above is a number
pub le-number : (x y : Float) → T (le x y) → ne x x ≡ false
le-number x y h = refuted (ne x x) (λ e. never (differs_from_itself x (rw e tt)))
  where
    never : x ≡ nan → ⊥
    never e = no_nan y (rw e at h)
