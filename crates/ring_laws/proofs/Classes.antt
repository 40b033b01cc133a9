-- A prenecklace's kind by its lyn (002, section 2), and the class of a reading.
--     necklace-lyn        a prenecklace is a necklace exactly when lyn divides n
--     lyndon-lyn          and a Lyndon word exactly when lyn = n
--     period-lyn          a necklace's period is its lyn
--     classed, one_class  each reading has exactly one class
--     equal-class, same_class_lem, same-class-refl    two classes with equal case and number are one, and each is the same as itself
--     loose-class, tight-class    a reading is Loose exactly where it is no prenecklace
--     necklace-class      and a necklace exactly where its class is a necklace's
--     class-loose, class-opening, class-repeating, class-single    the class by the run of the sectors, for a scan from left to right
--     look-loose, look-other, look-within    the sector to look at: where the reading goes wrong if it is Loose, 0 otherwise
use Rattle.words.proofs.Plain.{ℕ, suc, ◌-◌, ◌%◌, ◌<◌, arith, ◌≡◌, refl, sym, ap, ◌↔◌, true, false, List, eqb, length, eq-eqb, eqb-true}
use Rattle.words.proofs.Split.{Test, passes, fails, test, both, both_left, both_right, refuted, clash}
use Rattle.words.proofs.Sequence.{sec}
use Rattle.rings.specs.declared.Class.{Class}
use Rattle.rings.specs.declared.Class.TheVariants.{Loose, Opening, Repeating, Single}
use Rattle.rings.specs.Necklace.{necklace, period, lyndon}
use Rattle.rings.specs.Prenecklace.{prenecklace, lyn, wrong_place}
use Rattle.rings.specs.Class.{Classed, necklace_class, prenecklace_class, class_of, tag_of, value_of, same_class, is_loose, is_necklace, loose_place, look_at}
use Rattle.ring_laws.proofs.Run.{Run, lyn-self, run-one, smaller, pre-shorter}
use Rattle.ring_laws.proofs.{Words.pre-of, Words.necklace-prenecklace, Wrong.wrong-is, Wrong.wrong-within}
use Rattle.ring_laws.proofs.Lyndon.{run-necklace, necklace-run, period-run, lyndon-of, of-lyndon, lyn-run, run-lyn, run-prenecklace}

pub lyndon-necklace : (w : List ℕ) → lyndon w ≡ true → necklace w ≡ true
unfolding lyndon
lyndon-necklace w h = both_left (necklace w) (eqb (period w) (length w)) h

-- ---- by the run of the sectors

module _ (w : List ℕ) (p : ℕ) (r : Run (sec w) (length w) p) where
  pos : 0 < length w
  pos = omega (arith, r.pos, r.fits)

  pub run-lyndon : p ≡ length w → lyndon w ≡ true
  run-lyndon e = lyndon-of w pos (rw e at r.lyn)

  pub lyndon-run : lyndon w ≡ true → p ≡ length w
  lyndon-run h = run-one (sec w) (length w) p (length w) r (lyn-self (sec w) (length w) pos (of-lyndon w pos h))

  pub not-necklace : 0 < length w % p → necklace w ≡ false
  not-necklace z = refuted (necklace w) (λ h. omega (arith, necklace-run w p r h))

  pub not-lyndon : p < length w → lyndon w ≡ false
  not-lyndon b = refuted (lyndon w) (λ h. omega (arith, lyndon-run h))

  pub class-opening : 0 < length w % p → class_of w ≡ Opening p
  unfolding class_of prenecklace_class
  class-opening z = rw (run-prenecklace w p r, not-necklace z, class_of, prenecklace_class, run-lyn w p r)

  pub class-repeating : length w % p ≡ 0 → p < length w → class_of w ≡ Repeating p
  unfolding class_of prenecklace_class necklace_class
  class-repeating d b =
      rw (run-prenecklace w p r, run-necklace w p r d, not-lyndon b, class_of, prenecklace_class, necklace_class, period-run w p r d)

  pub class-single : p ≡ length w → class_of w ≡ Single
  unfolding class_of prenecklace_class necklace_class
  class-single e =
      rw (run-prenecklace w p r, lyndon-necklace w (run-lyndon e), run-lyndon e, class_of, prenecklace_class, necklace_class)

-- the run of the first e sectors breaks at the next one
pub class-loose : (w : List ℕ) (e p : ℕ) → Run (sec w) e p → e < length w → sec w e < sec w (e - p) → class_of w ≡ Loose e
unfolding class_of
class-loose w e p r b h =
    rw (refuted (prenecklace w) (λ q. pre-shorter (sec w) (length w) (suc e) b (pre-of w q) p (smaller (sec w) e p r h)), class_of, wrong-is w e p r b h)

-- ---- by lyn

module _ (w : List ℕ) (z : 0 < length w) (h : prenecklace w ≡ true) where
  -- a prenecklace is a necklace exactly when lyn divides n
  pub necklace-lyn : (necklace w ≡ true) ↔ (length w % lyn w ≡ 0)
  necklace-lyn = (necklace-run w (lyn w) (lyn-run w z h), run-necklace w (lyn w) (lyn-run w z h))

  -- and a Lyndon word exactly when lyn = n
  pub lyndon-lyn : (lyndon w ≡ true) ↔ (lyn w ≡ length w)
  lyndon-lyn = (lyndon-run w (lyn w) (lyn-run w z h), run-lyndon w (lyn w) (lyn-run w z h))

-- a necklace's period is its lyn
pub period-lyn : (w : List ℕ) → 0 < length w → necklace w ≡ true → period w ≡ lyn w
period-lyn w z h =
    let r = lyn-run w z (necklace-prenecklace w h) in
    period-run w (lyn w) r (necklace-run w (lyn w) r h)

-- ---- exactly one class

pub classed : (w : List ℕ) → Classed w (class_of w)
unfolding class_of prenecklace_class necklace_class
classed w = elim (test (prenecklace w)) [ passes p ↦ rw (p, class_of) (opening p (test (necklace w))) | fails p ↦ rw (p, class_of) (p, refl) ]
  where
    single : necklace w ≡ true → Test (lyndon w) → Classed w (necklace_class w)
    single n (passes l) = rw (l, necklace_class) l
    single n (fails l) = rw (l, necklace_class) (n, l, refl)

    opening : prenecklace w ≡ true → Test (necklace w) → Classed w (prenecklace_class w)
    opening p (passes n) = rw (n, prenecklace_class) (single n (test (lyndon w)))
    opening p (fails n) = rw (n, prenecklace_class) (p, n, refl)

pub one_class : (w : List ℕ) (c : Class) → Classed w c → c ≡ class_of w
unfolding class_of prenecklace_class necklace_class
one_class w (Loose p) h = rw (h.0, class_of, h.1)
one_class w (Opening p) h = rw (h.0, h.1, class_of, prenecklace_class, h.2)
one_class w (Repeating p) h = rw (necklace-prenecklace w h.0, h.0, h.1, class_of, prenecklace_class, necklace_class, h.2)
one_class w Single h = rw (necklace-prenecklace w (lyndon-necklace w h), lyndon-necklace w h, h, class_of, prenecklace_class, necklace_class)

-- ---- a class by its case and its number

-- two classes with equal case and number are one
pub equal-class : (a b : Class) → tag_of a ≡ tag_of b → value_of a ≡ value_of b → a ≡ b
equal-class (Loose p) (Loose q) e f = ap Loose f
equal-class (Loose p) (Opening q) e f = absurd (omega arith)
equal-class (Loose p) (Repeating q) e f = absurd (omega arith)
equal-class (Loose p) Single e f = absurd (omega arith)
equal-class (Opening p) (Loose q) e f = absurd (omega arith)
equal-class (Opening p) (Opening q) e f = ap Opening f
equal-class (Opening p) (Repeating q) e f = absurd (omega arith)
equal-class (Opening p) Single e f = absurd (omega arith)
equal-class (Repeating p) (Loose q) e f = absurd (omega arith)
equal-class (Repeating p) (Opening q) e f = absurd (omega arith)
equal-class (Repeating p) (Repeating q) e f = ap Repeating f
equal-class (Repeating p) Single e f = absurd (omega arith)
equal-class Single (Loose q) e f = absurd (omega arith)
equal-class Single (Opening q) e f = absurd (omega arith)
equal-class Single (Repeating q) e f = absurd (omega arith)
equal-class Single Single e f = refl

pub same_class_lem : (a b : Class) → same_class a b ≡ true → a ≡ b
same_class_lem a b h =
    equal-class a b (eqb-true (tag_of a) (tag_of b) (both_left (eqb (tag_of a) (tag_of b)) (eqb (value_of a) (value_of b)) h))
    (eqb-true (value_of a) (value_of b) (both_right (eqb (tag_of a) (tag_of b)) (eqb (value_of a) (value_of b)) h))

-- a reading is Loose exactly where it is no prenecklace
pub loose-class : (v : List ℕ) → is_loose (class_of v) ≡ true → prenecklace v ≡ false
loose-class v h = go (class_of v) (classed v) h
  where
    go : (c : Class) → Classed v c → is_loose c ≡ true → prenecklace v ≡ false
    go (Loose p) d e = d.0
    go (Opening p) d e = clash false e refl
    go (Repeating p) d e = clash false e refl
    go Single d e = clash false e refl

pub tight-class : (v : List ℕ) → is_loose (class_of v) ≡ false → prenecklace v ≡ true
tight-class v h = go (class_of v) (classed v) h
  where
    go : (c : Class) → Classed v c → is_loose c ≡ false → prenecklace v ≡ true
    go (Loose p) d e = clash true refl e
    go (Opening p) d e = d.0
    go (Repeating p) d e = necklace-prenecklace v d.0
    go Single d e = necklace-prenecklace v (lyndon-necklace v d)

-- a reading is a necklace exactly where its class is a necklace's
pub necklace-class : (w : List ℕ) (c : Class) → c ≡ class_of w → is_necklace c ≡ necklace w
necklace-class w c e = rw e (by-class (class_of w) (classed w))
  where
    by-class : (x : Class) → Classed w x → is_necklace x ≡ necklace w
    by-class (Loose p) d = sym (refuted (necklace w) (λ h. clash (prenecklace w) (necklace-prenecklace w h) d.0))
    by-class (Opening p) d = sym d.1
    by-class (Repeating p) d = sym d.0
    by-class Single d = sym (lyndon-necklace w d)

-- each class is its own
pub same-class-refl : (c : Class) → same_class c c ≡ true
same-class-refl c =
    both (eqb (tag_of c) (tag_of c)) (eqb (value_of c) (value_of c)) (eq-eqb (tag_of c) (tag_of c) refl) (eq-eqb (value_of c) (value_of c) refl)

-- ---- the sector to look at

-- where the reading goes wrong, if it is Loose
pub look-loose : (w : List ℕ) → prenecklace w ≡ false → look_at w ≡ wrong_place w
unfolding look_at class_of
look-loose w h = rw (h, class_of)

-- 0 otherwise
pub look-other : (w : List ℕ) → prenecklace w ≡ true → look_at w ≡ 0
unfolding look_at
look-other w h = go (class_of w) (classed w)
  where
    go : (c : Class) → Classed w c → loose_place c ≡ 0
    go (Loose p) d = clash (prenecklace w) h d.0
    go (Opening p) d = refl
    go (Repeating p) d = refl
    go Single d = refl

-- it is a place of the reading
pub look-within : (w : List ℕ) → 0 < length w → look_at w < length w
look-within w z = elim (test (prenecklace w)) [ passes h ↦ rw (look-other w h) z | fails h ↦ rw (look-loose w h) (wrong-within w h) ]
