-- Telling cases apart, with the fact that each case knows.
--     Test b, test b         b is true, or b is false
--     Tri a b, tri a b       a < b, a ≡ b, or b < a
--     both, both_left, both_right, not_left, not_right    a conjunction of two tests
--     either, either_left, either-right                   a disjunction of two tests
--     clash, refuted, forced                              no test is both true and false, and one of the two it is
--     agree                                               two tests that pass together are equal
use Rattle.words.proofs.Plain.{ℕ, ◌<◌, ◌≤◌, arith, ◌≡◌, refl, sym, ◌∙◌, Bool, true, false, ◌&&◌, ◌||◌, false≢true, ltb, eqb, ltb-true, ltb-false}
use Rattle.words.proofs.Plain.{eqb-true, eq-eqb}

pub data Test (b : Bool) : Type 0 where
  passes : b ≡ true → Test b
  fails : b ≡ false → Test b

pub test : (b : Bool) → Test b
test true = passes refl
test false = fails refl

pub data Tri (a b : ℕ) : Type 0 where
  lt : a < b → Tri a b
  eq : a ≡ b → Tri a b
  gt : b < a → Tri a b

pub tri : (a b : ℕ) → Tri a b
tri a b = elim (test (ltb a b)) [ passes e ↦ lt (ltb-true a b e) | fails e ↦ at_least (ltb-false a b e) (test (eqb a b)) ]
  where
    at_least : b ≤ a → Test (eqb a b) → Tri a b
    at_least h (passes e) = eq (eqb-true a b e)
    at_least h (fails e) = gt (strictly (test (ltb b a)))
      where
        strictly : Test (ltb b a) → b < a
        strictly (passes s) = ltb-true b a s
        strictly (fails s) = absurd (false≢true (sym e ∙ eq-eqb a b (omega (arith, ltb-false b a s))))

pub both : (a b : Bool) → a ≡ true → b ≡ true → (a && b) ≡ true
both a b p q = rw (p, q)

pub both_left : (a b : Bool) → (a && b) ≡ true → a ≡ true
both_left true b e = refl
both_left false b e = absurd (false≢true e)

pub both_right : (a b : Bool) → (a && b) ≡ true → b ≡ true
both_right true b e = e
both_right false b e = absurd (false≢true e)

-- a conjunction fails where one half does
pub not_left : (a b : Bool) → a ≡ false → (a && b) ≡ false
not_left a b e = rw e

pub not_right : (a b : Bool) → b ≡ false → (a && b) ≡ false
not_right true b e = e
not_right false b e = refl

pub either_left : (a b : Bool) → a ≡ true → (a || b) ≡ true
either_left a b p = rw p

pub either-right : (a b : Bool) → b ≡ true → (a || b) ≡ true
either-right true b p = refl
either-right false b p = p

-- a disjunction that passes, by its two halves
pub data Or (a b : Bool) : Type 0 where
  left : a ≡ true → Or a b
  right : a ≡ false → b ≡ true → Or a b

pub either : (a b : Bool) → (a || b) ≡ true → Or a b
either true b e = left refl
either false b e = right refl e

pub clash : {C : Type 0} (b : Bool) → b ≡ true → b ≡ false → C
clash b p q = absurd (false≢true (sym q ∙ p))

-- a test that cannot pass fails, and one that cannot fail passes
pub refuted : (b : Bool) → (b ≡ true → ⊥) → b ≡ false
refuted true h = absurd (h refl)
refuted false h = refl

pub forced : (b : Bool) → (b ≡ false → ⊥) → b ≡ true
forced true h = refl
forced false h = absurd (h refl)

-- two tests that pass together are one test
pub agree : (a b : Bool) → (a ≡ true → b ≡ true) → (b ≡ true → a ≡ true) → a ≡ b
agree true b f g = sym (f refl)
agree false true f g = g refl
agree false false f g = refl
