-- One word lies under another where their first difference stands inside both and the first word is smaller there. Neither is then a beginning of
-- the other, so the relation survives whatever is put behind or in front of both.
--     v ≪ w, v ≼ w    specs/Under, passed on
--     Short v w       v lies under w, or w goes on where v ends: what `before` of `words` tests
-- In order: the two relations and what may be put around them; their bridges to `before` and to the first difference of sequences.
use Rattle.words.proofs.Plain.{ℕ, zero, suc, ◌<◌, ◌≤◌, arith, ◌≡◌, refl, ap, ◌∙◌, true, ◌&&◌, false≢true, List, [], ◌∷◌, ◌++◌, ltb, eqb, length, ltb-true}
use Rattle.words.proofs.Plain.{eqb-true, lt-ltb, eq-eqb}
use Rattle.words.specs.Order.{before}
use Rattle.words.proofs.Split.{left, right, either, either_left, either-right, both, both_left, both_right}
use Rattle.words.proofs.Sequence.{sec, Less}
pub use Rattle.shades_laws.specs.Under.{◌≪◌, here, later, ◌≼◌, is, under}

-- what lies under a word under w lies under w
pub under-trans : {u v w : List ℕ} → u ≪ v → v ≪ w → u ≪ w
under-trans (here {a} p) (here {b} q) = let h : a < b = omega arith in here h
under-trans (here {a} p) (later {b} q s) = let h : a < b = omega arith in here h
under-trans (later {a} p r) (here {b} q) = let h : a < b = omega arith in here h
under-trans (later p r) (later q s) = later (p ∙ q) (under-trans r s)

-- a word does not lie under itself
pub under-irrefl : {v w : List ℕ} → v ≡ w → v ≪ w → ⊥
under-irrefl e (here {a} {b} p) = let h : a ≡ b = cc in omega arith
under-irrefl e (later p r) = under-irrefl (cc) r

-- no two words lie under one another
pub under-asym : {v w : List ℕ} → v ≪ w → w ≪ v → ⊥
under-asym r s = under-irrefl refl (under-trans r s)

-- what is put behind the lower word changes nothing
pub under-longer : {v w : List ℕ} (u : List ℕ) → v ≪ w → (v ++ u) ≪ w
under-longer u (here p) = here p
under-longer u (later p r) = later p (under-longer u r)

-- what is put behind the higher word changes nothing
pub under-extended : {v w : List ℕ} (u : List ℕ) → v ≪ w → v ≪ (w ++ u)
under-extended u (here p) = here p
under-extended u (later p r) = later p (under-extended u r)

-- what is put in front of both changes nothing
pub under-behind : (u : List ℕ) {v w : List ℕ} → v ≪ w → (u ++ v) ≪ (u ++ w)
under-behind [] r = r
under-behind (a ∷ u) r = later refl (under-behind u r)

-- no word lies under its own beginning
pub not-under-beginning : (v u : List ℕ) → (v ++ u) ≪ v → ⊥
not-under-beginning (a ∷ v) u (here p) = omega arith
not-under-beginning (a ∷ v) u (later p r) = not-under-beginning v u r
not-under-beginning [] u x' = elim x' [ ]

-- the same of ≼
pub upto-behind : (u : List ℕ) {v w : List ℕ} → v ≼ w → (u ++ v) ≼ (u ++ w)
upto-behind u (is e) = is (ap (λ x. u ++ x) e)
upto-behind u (under r) = under (under-behind u r)

-- ≪ and ≼ one after the other
pub under-upto : {u v w : List ℕ} → u ≪ v → v ≼ w → u ≪ w
under-upto r (is e) = rw e at r
under-upto r (under s) = under-trans r s

-- ≼ and ≪ one after the other
pub upto-under : {u v w : List ℕ} → u ≼ v → v ≪ w → u ≪ w
upto-under (is e) s = rw e s
upto-under (under r) s = under-trans r s

-- ≼ twice
pub upto-trans : {u v w : List ℕ} → u ≼ v → v ≼ w → u ≼ w
upto-trans (is e) s = rw e s
upto-trans (under r) s = under (under-upto r s)

-- ---- the order of readings

-- v lies under w, or w goes on where v ends
pub data Short (v w : List ℕ) : Type 0 where
  lower : v ≪ w → Short v w
  opening : (u : List ℕ) → w ≡ v ++ u → 0 < length u → Short v w

-- a word under w stands before w
pub under-before : {v w : List ℕ} → v ≪ w → before v w ≡ true
unfolding before
under-before (here {a} {b} {v} {w} p) = either_left (ltb a b) (eqb a b && before v w) (lt-ltb a b p)
under-before (later {a} {b} {v} {w} p r) = either-right (ltb a b) (eqb a b && before v w) (both (eqb a b) (before v w) (eq-eqb a b p) (under-before r))

-- a word that stands before w lies under it or opens it
pub before-short : (v w : List ℕ) → before v w ≡ true → Short v w
unfolding before
before-short [] [] h = absurd (false≢true h)
before-short [] (b ∷ w) h = opening (b ∷ w) refl (omega arith)
before-short (a ∷ v) [] h = absurd (false≢true h)
before-short (a ∷ v) (b ∷ w) h =
    elim (either (ltb a b) (eqb a b && before v w) h) [
      | left e ↦ lower (here (ltb-true a b e))
      | right _ e ↦ onward (eqb-true a b (both_left (eqb a b) (before v w) e)) (before-short v w (both_right (eqb a b) (before v w) e))
    ]
  where
    onward : a ≡ b → Short v w → Short (a ∷ v) (b ∷ w)
    onward e (lower r) = lower (later e r)
    onward e (opening u q l) = opening u (cc) l

-- a word that agrees with w for j places, and ends there or is smaller there, stands before w
pub before-place : (v w : List ℕ) (j : ℕ) → j < length w → j ≤ length v → ((m : ℕ) → m < j → sec v m ≡ sec w m) → (j < length v → sec v j < sec w j) → before v w ≡ true
unfolding before
before-place [] [] j p q h l = absurd (omega arith)
before-place [] (b ∷ w) j p q h l = refl
before-place (a ∷ v) [] j p q h l = absurd (omega arith)
before-place (a ∷ v) (b ∷ w) zero p q h l = either_left (ltb a b) (eqb a b && before v w) (lt-ltb a b (l (omega arith)))
before-place (a ∷ v) (b ∷ w) (suc j) p q h l =
    either-right (ltb a b) (eqb a b && before v w) (both (eqb a b) (before v w) (eq-eqb a b (h 0 (omega arith)))
    (before-place v w j (omega arith) (omega arith) (λ m k. h (suc m) (omega arith)) (λ k. l (omega arith))))

-- ---- the first difference of sequences

-- a first difference at place i, inside both words
pub difference-under : (v w : List ℕ) (i : ℕ) → i < length v → i < length w → ((m : ℕ) → m < i → sec v m ≡ sec w m) → sec v i < sec w i → v ≪ w
difference-under [] w i p q h l = absurd (omega arith)
difference-under (a ∷ v) [] i p q h l = absurd (omega arith)
difference-under (a ∷ v) (b ∷ w) zero p q h l = here l
difference-under (a ∷ v) (b ∷ w) (suc i) p q h l = later (h 0 (omega arith)) (difference-under v w i (omega arith) (omega arith) (λ m k. h (suc m) (omega arith)) l)

-- the same, where the first difference is a witness
pub less-under : (v w : List ℕ) (n : ℕ) → n ≤ length v → n ≤ length w → Less (sec v) (sec w) n → v ≪ w
less-under v w n p q l = difference-under v w l.at (omega arith) (omega arith) l.agree l.less
