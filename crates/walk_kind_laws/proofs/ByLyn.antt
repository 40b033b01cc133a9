-- The kind and the class of a prenecklace by its lyn (002, section 2).
--     kind-only                              only prenecklaces are of a kind
--     kind-at, class-at                      the kind and the class by lyn
--     at-single, at-repeating, at-opening    the class, as `class_at` tests it
--     kind-full                              where lyn is the length it is of every kind
--     short-rem                              a number of which p is more than half, and not all, is no multiple of p
use Rattle.words.proofs.Plain.{ℕ, ◌+◌, ◌-◌, ◌%◌, ◌<◌, arith, ◌≡◌, refl, sym, ap, ◌∙◌, true, List, eqb, length, eq-eqb, ne_eqb, eqb-true, eqb-false}
use native.Mathlib.Nat.{mod_self, mod-eq_of_lt, add-mod_left}
use Rattle.words.proofs.Split.{Test, passes, fails, test, agree, lt, eq, gt, tri}
use Rattle.words.proofs.Sequence.{sec}
use Rattle.rings.specs.declared.Class.TheVariants.{Single, Repeating, Opening}
use Rattle.rings.specs.{Necklace.necklace, Necklace.lyndon, Class.class_of}
use Rattle.ring_laws.proofs.{Run.Run, Words.necklace-prenecklace, Walk.Kind}
use Rattle.ring_laws.proofs.Lyndon.{run-necklace, necklace-run, run-prenecklace}
use Rattle.ring_laws.proofs.Classes.{run-lyndon, lyndon-run, lyndon-necklace, class-single, class-repeating, class-opening}
use Rattle.walk_kind_laws.specs.declared.Kind as K
use Rattle.walk_kind_laws.specs.declared.Kind.TheVariants.{Prenecklace, Necklace, Lyndon}
use Rattle.walk_kind_laws.specs.Kinds.{kind_of, kind_at, class_at}

-- only prenecklaces are of a kind
pub kind-only : (kind : K.Kind) → Kind (kind_of kind)
unfolding kind_of
kind-only Prenecklace u h = h
kind-only Necklace u h = necklace-prenecklace u h
kind-only Lyndon u h = necklace-prenecklace u (lyndon-necklace u h)

-- the kind of a prenecklace by its lyn
pub kind-at : (kind : K.Kind) (v : List ℕ) (p : ℕ) → Run (sec v) (length v) p → kind_of kind v ≡ kind_at kind (length v) p
unfolding kind_of
kind-at Prenecklace v p r = run-prenecklace v p r
kind-at Necklace v p r =
    agree (necklace v) (eqb (length v % p) 0) (λ h. eq-eqb (length v % p) 0 (necklace-run v p r h)) (λ h. run-necklace v p r (eqb-true (length v % p) 0 h))
kind-at Lyndon v p r = agree (lyndon v) (eqb p (length v)) (λ h. eq-eqb p (length v) (lyndon-run v p r h)) (λ h. run-lyndon v p r (eqb-true p (length v) h))

-- its class
pub class-at : (v : List ℕ) (p : ℕ) → Run (sec v) (length v) p → class_of v ≡ class_at (length v) p
unfolding class_at
class-at v p r = go (test (eqb p (length v))) (test (eqb (length v % p) 0))
  where
    go : Test (eqb p (length v)) → Test (eqb (length v % p) 0) → class_of v ≡ class_at (length v) p
    go (passes e) d = rw (e, class_at) (class-single v p r (eqb-true p (length v) e))
    go (fails e) (passes d) =
        rw (e, d, class_at) (class-repeating v p r (eqb-true (length v % p) 0 d)
        (elim (tri p (length v)) [ lt l ↦ l | eq l ↦ absurd (eqb-false p (length v) e l) | gt l ↦ absurd (omega (arith, r.fits)) ]))
    go (fails e) (fails d) =
        rw (e, d, class_at) (class-opening v p r
        (elim (tri 0 (length v % p)) [ lt l ↦ l | eq l ↦ absurd (eqb-false (length v % p) 0 d (sym l)) | gt l ↦ absurd (omega arith) ]))

-- the same, as `class_at` tests it
pub at-single : (n p : ℕ) → p ≡ n → Single ≡ class_at n p
unfolding class_at
at-single n p e = rw (eq-eqb p n e, class_at)

pub at-repeating : (n p : ℕ) → (p ≡ n → ⊥) → n % p ≡ 0 → Repeating p ≡ class_at n p
unfolding class_at
at-repeating n p e d = rw (ne_eqb p n e, eq-eqb (n % p) 0 d, class_at)

pub at-opening : (n p : ℕ) → (p ≡ n → ⊥) → (n % p ≡ 0 → ⊥) → Opening p ≡ class_at n p
unfolding class_at
at-opening n p e d = rw (ne_eqb p n e, ne_eqb (n % p) 0 d, class_at)

-- a prenecklace whose lyn is its length is of every kind
pub kind-full : (kind : K.Kind) (n : ℕ) → kind_at kind n n ≡ true
kind-full Prenecklace n = refl
kind-full Necklace n = eq-eqb (n % n) 0 (mod_self n)
kind-full Lyndon n = eq-eqb n n refl

-- a number of which p is more than half, and not all, is no multiple of p
pub short-rem : (n p : ℕ) → p < n → n - p < p → n % p ≡ 0 → ⊥
short-rem n p h k e = omega (arith, sym e ∙ ap (λ (x : ℕ). x % p) (let q : n ≡ p + (n - p) = omega arith in q) ∙ add-mod_left p (n - p) ∙ mod-eq_of_lt k)
