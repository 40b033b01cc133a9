-- The greatest common divisor (specs/Phi), of numbers from 1 on.
--     Common a b g           g divides a and b, and each number that does divides g
--     common                 there is such a number, found by subtracting the smaller from the greater
--     gcd-is, gcd-common     it is gcd a b
--     gcd-scale              gcd (d a) (d b) = d gcd a b
--     gauss                  what divides p x and has no divisor in common with p but 1 divides x
use Rattle.words.proofs.Plain.{ℕ, zero, suc, ◌+◌, ◌-◌, ◌*◌, ◌/◌, ◌<◌, ◌≤◌, ◌∣◌, arith, ◌≡◌, sym, ap, subst, ◌∙◌}
use native.Mathlib.Nat.{
  mul-one,
  mul_comm,
  mul-pos,
  dvd_refl,
  dvd-add,
  dvd-sub,
  dvd_antisymm,
  dvd-mul_left,
  dvd-mul_right,
  le_of_dvd,
  pos_of_dvd_of_pos,
  mul-dvd-mul_left,
  dvd_of_mul-dvd-mul_left,
}
use Rattle.words.proofs.Split.{lt, eq, gt, tri, refuted, both, both_left, both_right}
use Rattle.words.proofs.Search.{greatest-is}
use Rattle.how_many_number_spec.specs.{Divisors.divides, Phi.divides_both, Phi.gcd}
use Rattle.how_many_number_laws.proofs.Divide.{divides-of, of-divides, quotient}

-- g divides a and b, and each number that does divides g
pub record Common (a b g : ℕ) : Type 0 where
  pub left : g ∣ a
  pub right : g ∣ b
  pub most : (e : ℕ) → e ∣ a → e ∣ b → e ∣ g

-- there is such a number
pub common : (a b : ℕ) → 0 < a → 0 < b → (g : ℕ) × Common a b g
common a b p q = go (suc (a + b)) a b (omega arith) p q
  where
    less : (a b : ℕ) → a < b → (g : ℕ) × Common a (b - a) g → (g : ℕ) × Common a b g
    less a b l (g, c) =
        let e : a + (b - a) ≡ b = omega arith in
        (g, record { left = c.left; right = subst (λ (x : ℕ). g ∣ x) e (dvd-add g c.left c.right); most = λ d s t. c.most d s (dvd-sub d t s) })

    turned : (a b : ℕ) → (g : ℕ) × Common a b g → (g : ℕ) × Common b a g
    turned a b (g, c) = (g, record { left = c.right; right = c.left; most = λ d s t. c.most d t s })

    go : (f a b : ℕ) → a + b < f → 0 < a → 0 < b → (g : ℕ) × Common a b g
    go zero a b h p q = absurd (omega arith)
    go (suc f) a b h p q =
        elim (tri a b) [
          | lt l ↦ less a b l (go f a (b - a) (omega arith) p (omega arith))
          | eq l ↦ (a, record { left = dvd_refl a; right = subst (λ (x : ℕ). a ∣ x) l (dvd_refl a); most = λ d s t. s })
          | gt l ↦ turned b a (less b a l (go f b (a - b) (omega arith) q (omega arith)))
        ]

-- it is the greatest
pub gcd-is : (a b g : ℕ) → 0 < b → Common a b g → gcd a b ≡ g
unfolding gcd divides_both
gcd-is a b g q c =
    greatest-is b (divides_both a b) g (pos_of_dvd_of_pos c.right q) (le_of_dvd q c.right) (both (divides g a) (divides g b) (divides-of g a c.left) (divides-of g b c.right))
    (λ j l m. refuted (divides_both a b j) (λ h. omega (
      arith,
      le_of_dvd (pos_of_dvd_of_pos c.right q)
          (c.most j (of-divides j a (both_left (divides j a) (divides j b) h)) (of-divides j b (both_right (divides j a) (divides j b) h))),
    )))

module _ (a b : ℕ) (p : 0 < a) (q : 0 < b) where
  pub gcd-common : Common a b (gcd a b)
  gcd-common = go (common a b p q)
    where
      go : (g : ℕ) × Common a b g → Common a b (gcd a b)
      go (g, c) = rw (gcd-is a b g q c) c

  pub gcd-pos : 0 < gcd a b
  gcd-pos = pos_of_dvd_of_pos gcd-common.right q

  pub gcd-le : gcd a b ≤ b
  gcd-le = le_of_dvd q gcd-common.right

  -- a factor in common
  pub gcd-scale : (d : ℕ) → 0 < d → gcd (d * a) (d * b) ≡ d * gcd a b
  gcd-scale d z = go (common (d * a) (d * b) (mul-pos z p) (mul-pos z q))
    where
      go : (h : ℕ) × Common (d * a) (d * b) h → gcd (d * a) (d * b) ≡ d * gcd a b
      go (h, c) =
          let e : d * (h / d) ≡ h = quotient d h (c.most d (dvd-mul_right d a) (dvd-mul_right d b)) in
          let s : h / d ∣ a = dvd_of_mul-dvd-mul_left (h / d) z (subst (λ (x : ℕ). x ∣ d * a) (sym e) c.left) in
          let t : h / d ∣ b = dvd_of_mul-dvd-mul_left (h / d) z (subst (λ (x : ℕ). x ∣ d * b) (sym e) c.right) in
          let u : h ∣ d * gcd a b = subst (λ (x : ℕ). x ∣ d * gcd a b) e (mul-dvd-mul_left (h / d) d (gcd-common.most (h / d) s t)) in
          let v : d * gcd a b ∣ h = c.most (d * gcd a b) (mul-dvd-mul_left (gcd a b) d gcd-common.left) (mul-dvd-mul_left (gcd a b) d gcd-common.right) in
          gcd-is (d * a) (d * b) h (mul-pos z q) c ∙ dvd_antisymm u v

-- what divides p x and has no divisor in common with p but 1 divides x
pub gauss : (a p x : ℕ) → 0 < a → 0 < p → 0 < x → gcd a p ≡ 1 → a ∣ p * x → a ∣ x
gauss a p x i j k e h =
    let c = gcd-common (x * a) (x * p) (mul-pos k i) (mul-pos k j) in
    let q : gcd (x * a) (x * p) ≡ x = gcd-scale a p i j x k ∙ ap (λ (y : ℕ). x * y) e ∙ mul-one x in
    subst (λ (y : ℕ). a ∣ y) q (c.most a (dvd-mul_left a x) (subst (λ (y : ℕ). a ∣ y) (mul_comm p x) h))
