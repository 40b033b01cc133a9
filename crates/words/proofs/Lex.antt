-- Laws of the order of specs/Order, on readings of any lengths.
--     before-lt, before-gt, before-cons, before-eq       the order, sector by sector
--     before-less, less-before                           readings of one length: before is the first difference of Sequence
--     up_to-not-less, not-less-up_to                       the same of up_to
--     same_true, true_same, same_refl, same_false        same is equality
--     beginning-first                                    a beginning comes first
--     Lex v w, lex v w                                   v before w, v is w, or w before v: the order is total
--     before-irrefl, before-asym, before-trans           before is a strict order
--     not-before, up_to-not-before, not-up_to, before-not-up_to     up_to fails exactly where before passes the other way
--     up_to-refl, up_to-trans, up_to-antisym, up_to-total    up_to is a total order
--     before-up_to, before-up_to-trans, up_to-before-trans, up_to-split    the two together
use Rattle.words.proofs.Plain.{ℕ, zero, suc, ◌<◌, arith, ◌≡◌, refl, sym, ap, ◌∙◌, true, false, not, false≢true, List, [], ◌∷◌, ◌++◌, eqb, length, lt-ltb}
use Rattle.words.proofs.Plain.{le-ltb, eq-eqb, ne_eqb, eqb-true, not-true, not-false}
use Rattle.words.specs.Order.{before, up_to, same}
use Rattle.words.proofs.Split.{lt, eq, gt, tri, both, both_left, both_right, clash, refuted, forced}
use Rattle.words.proofs.Sequence.{sec, Less}

-- ---- sector by sector

-- the smaller first sector decides
pub before-lt : (a b : ℕ) (v w : List ℕ) → a < b → before (a ∷ v) (b ∷ w) ≡ true
unfolding before
before-lt a b v w h = rw (lt-ltb a b h)

-- the greater first sector decides
pub before-gt : (a b : ℕ) (v w : List ℕ) → b < a → before (a ∷ v) (b ∷ w) ≡ false
unfolding before
before-gt a b v w h = simp (le-ltb a b (omega arith), ne_eqb a b (λ e. omega arith))

-- behind equal first sectors the rest decides
pub before-eq : (a b : ℕ) (v w : List ℕ) → a ≡ b → before (a ∷ v) (b ∷ w) ≡ before v w
unfolding before
before-eq a b v w h = simp (le-ltb a b (omega arith), eq-eqb a b h)

-- an equal first sector does not count
pub before-cons : (a : ℕ) (v w : List ℕ) → before (a ∷ v) (a ∷ w) ≡ before v w
before-cons a v w = before-eq a a v w refl

-- ---- readings of one length: the first difference

-- of two readings of one length, the one before is smaller at the first difference
pub before-less : (v w : List ℕ) → length v ≡ length w → before v w ≡ true → Less (sec v) (sec w) (length w)
unfolding before
before-less [] [] e h = absurd (false≢true h)
before-less [] (b ∷ w) e h = absurd (omega arith)
before-less (a ∷ v) [] e h = absurd (omega arith)
before-less (a ∷ v) (b ∷ w) e h =
    elim (tri a b) [
      | lt l ↦ record { at = 0; bound = omega arith; agree = λ m k. absurd (omega arith); less = l }
      | eq l ↦ deeper l (before-less v w (omega arith) (sym (before-eq a b v w l) ∙ h))
      | gt l ↦ clash (before (a ∷ v) (b ∷ w)) h (before-gt a b v w l)
    ]
  where
    deeper : a ≡ b → Less (sec v) (sec w) (length w) → Less (sec (a ∷ v)) (sec (b ∷ w)) (suc (length w))
    deeper l r = record { at = suc r.at; bound = omega (arith, r.bound); agree = agrees; less = r.less }
      where
        agrees : (m : ℕ) → m < suc r.at → sec (a ∷ v) m ≡ sec (b ∷ w) m
        agrees zero k = l
        agrees (suc m) k = r.agree m (omega arith)

-- of two readings of one length, the one that is smaller at the first difference is before
pub less-before : (v w : List ℕ) → length v ≡ length w → Less (sec v) (sec w) (length w) → before v w ≡ true
less-before [] [] e l = absurd (omega (arith, l.bound))
less-before [] (b ∷ w) e l = absurd (omega arith)
less-before (a ∷ v) [] e l = absurd (omega arith)
less-before (a ∷ v) (b ∷ w) e l = place (less-before v w (omega arith)) l.at l.bound l.agree l.less
  where
    place : (Less (sec v) (sec w) (length w) → before v w ≡ true) → (i : ℕ) → i < suc (length w) →
        ((m : ℕ) → m < i → sec (a ∷ v) m ≡ sec (b ∷ w) m) → sec (a ∷ v) i < sec (b ∷ w) i → before (a ∷ v) (b ∷ w) ≡ true
    place rest zero k agrees s = before-lt a b v w s
    place rest (suc i) k agrees s =
        before-eq a b v w (agrees 0 (omega arith)) ∙ rest (record { at = i; bound = omega arith; agree = λ m h. agrees (suc m) (omega arith); less = s })

-- of two readings of one length, one that is up to the other is not above it at the first difference
pub up_to-not-less : (v w : List ℕ) → length v ≡ length w → up_to v w ≡ true → Less (sec w) (sec v) (length v) → ⊥
unfolding up_to
up_to-not-less v w e h l = clash (before w v) (less-before w v (sym e) l) (not-true (before w v) h)

-- of two readings of one length, one that is not above the other at the first difference is up to it
pub not-less-up_to : (v w : List ℕ) → length v ≡ length w → (Less (sec w) (sec v) (length v) → ⊥) → up_to v w ≡ true
unfolding up_to
not-less-up_to v w e h = ap not (refuted (before w v) (λ b. h (before-less w v (sym e) b)))

-- ---- same is equality

-- readings that pass the test are equal
pub same_true : (v w : List ℕ) → same v w ≡ true → v ≡ w
unfolding same
same_true [] [] h = refl
same_true [] (b ∷ w) h = absurd (false≢true h)
same_true (a ∷ v) [] h = absurd (false≢true h)
same_true (a ∷ v) (b ∷ w) h =
    rw (eqb-true a b (both_left (eqb a b) (same v w) h), same_true v w (both_right (eqb a b) (same v w) h))

-- a reading passes the test with itself
pub same_refl : (w : List ℕ) → same w w ≡ true
unfolding same
same_refl [] = refl
same_refl (a ∷ w) = both (eqb a a) (same w w) (eq-eqb a a refl) (same_refl w)

-- equal readings pass the test
pub true_same : (v w : List ℕ) → v ≡ w → same v w ≡ true
true_same v w e = rw e (same_refl w)

-- readings that are not equal fail the test
pub same_false : (v w : List ℕ) → (v ≡ w → ⊥) → same v w ≡ false
same_false v w h = refuted (same v w) (λ e. h (same_true v w e))

-- ---- a beginning comes first

-- a reading is before each one that goes on from it (01, 'What the catalogue covers')
pub beginning-first : (v : List ℕ) (b : ℕ) (w : List ℕ) → before v (v ++ (b ∷ w)) ≡ true
unfolding before
beginning-first [] b w = refl
beginning-first (a ∷ v) b w = before-eq a a v (v ++ (b ∷ w)) refl ∙ beginning-first v b w

-- ---- the order is total

-- where two readings stand to one another
pub data Lex (v w : List ℕ) : Type 0 where
  ahead : before v w ≡ true → Lex v w
  equal : v ≡ w → Lex v w
  behind : before w v ≡ true → Lex v w

-- of two readings, one is before the other or they are one
pub lex : (v w : List ℕ) → Lex v w
unfolding before
lex [] [] = equal refl
lex [] (b ∷ w) = ahead refl
lex (a ∷ v) [] = behind refl
lex (a ∷ v) (b ∷ w) = elim (tri a b) [ lt h ↦ ahead (before-lt a b v w h) | eq h ↦ deeper h (lex v w) | gt h ↦ behind (before-lt b a w v h) ]
  where
    deeper : a ≡ b → Lex v w → Lex (a ∷ v) (b ∷ w)
    deeper h (ahead l) = ahead (before-eq a b v w h ∙ l)
    deeper h (equal l) = equal (cc)
    deeper h (behind l) = behind (before-eq b a w v (sym h) ∙ l)

-- ---- before is a strict order

-- no reading is before itself
pub before-irrefl : (v : List ℕ) → before v v ≡ false
unfolding before
before-irrefl [] = refl
before-irrefl (a ∷ v) = before-cons a v v ∙ before-irrefl v

-- what is before a reading is before all that come after it
pub before-trans : (u v w : List ℕ) → before u v ≡ true → before v w ≡ true → before u w ≡ true
unfolding before
before-trans [] [] w p q = absurd (false≢true p)
before-trans u (b ∷ v) [] p q = absurd (false≢true q)
before-trans [] (b ∷ v) (c ∷ w) p q = refl
before-trans (a ∷ u) [] w p q = absurd (false≢true p)
before-trans (a ∷ u) (b ∷ v) (c ∷ w) p q =
    elim (tri a b) [
      | lt h ↦ elim (tri b c) [ lt k ↦ before-lt a c u w (omega arith) | eq k ↦ before-lt a c u w (omega arith) | gt k ↦ clash (before (b ∷ v) (c ∷ w)) q (before-gt b c v w k) ]
      | eq h ↦
          elim (tri b c) [
            | lt k ↦ before-lt a c u w (omega arith)
            | eq k ↦ before-eq a c u w (h ∙ k) ∙ before-trans u v w (sym (before-eq a b u v h) ∙ p) (sym (before-eq b c v w k) ∙ q)
            | gt k ↦ clash (before (b ∷ v) (c ∷ w)) q (before-gt b c v w k)
          ]
      | gt h ↦ clash (before (a ∷ u) (b ∷ v)) p (before-gt a b u v h)
    ]

-- no two readings are before one another
pub before-asym : (v w : List ℕ) → before v w ≡ true → before w v ≡ false
before-asym v w h = refuted (before w v) (λ k. clash (before v v) (before-trans v w v h k) (before-irrefl v))

-- ---- up_to is before, the other way round

-- what is not before a reading has the reading up to it
pub not-before : (v w : List ℕ) → before v w ≡ false → up_to w v ≡ true
unfolding up_to
not-before v w h = ap not h

-- what has a reading up to it is not before the reading
pub up_to-not-before : (v w : List ℕ) → up_to w v ≡ true → before v w ≡ false
unfolding up_to
up_to-not-before v w h = not-true (before v w) h

-- what is not up to a reading has the reading before it
pub not-up_to : (v w : List ℕ) → up_to v w ≡ false → before w v ≡ true
unfolding up_to
not-up_to v w h = not-false (before w v) h

-- what has a reading before it is not up to the reading
pub before-not-up_to : (v w : List ℕ) → before w v ≡ true → up_to v w ≡ false
unfolding up_to
before-not-up_to v w h = ap not h

-- ---- up_to is a total order

-- a reading is up to itself
pub up_to-refl : (v : List ℕ) → up_to v v ≡ true
up_to-refl v = not-before v v (before-irrefl v)

-- what is before a reading is up to it
pub before-up_to : (v w : List ℕ) → before v w ≡ true → up_to v w ≡ true
before-up_to v w h = not-before w v (before-asym v w h)

-- what is up to a reading and not before it is the reading
pub up_to-split : (v w : List ℕ) → up_to v w ≡ true → before v w ≡ false → v ≡ w
up_to-split v w h n = elim (lex v w) [ ahead e ↦ clash (before v w) e n | equal e ↦ e | behind e ↦ clash (before w v) e (up_to-not-before w v h) ]

-- readings up to one another are one
pub up_to-antisym : (v w : List ℕ) → up_to v w ≡ true → up_to w v ≡ true → v ≡ w
up_to-antisym v w h k = up_to-split v w h (up_to-not-before v w k)

-- before, then up to, is before
pub before-up_to-trans : (u v w : List ℕ) → before u v ≡ true → up_to v w ≡ true → before u w ≡ true
before-up_to-trans u v w p q =
    elim (lex v w) [ ahead e ↦ before-trans u v w p e | equal e ↦ rw e at p | behind e ↦ clash (before w v) e (up_to-not-before w v q) ]

-- up to, then before, is before
pub up_to-before-trans : (u v w : List ℕ) → up_to u v ≡ true → before v w ≡ true → before u w ≡ true
up_to-before-trans u v w p q =
    elim (lex u v) [ ahead e ↦ before-trans u v w e q | equal e ↦ rw e q | behind e ↦ clash (before v u) e (up_to-not-before v u p) ]

-- what is up to a reading is up to all that the reading is up to
pub up_to-trans : (u v w : List ℕ) → up_to u v ≡ true → up_to v w ≡ true → up_to u w ≡ true
up_to-trans u v w p q = forced (up_to u w) (λ n. clash (before w v) (before-up_to-trans w u v (not-up_to u w n) p) (up_to-not-before w v q))

-- of two readings, one is up to the other
pub up_to-total : (v w : List ℕ) → up_to v w ≡ false → up_to w v ≡ true
up_to-total v w h = before-up_to w v (not-up_to v w h)
