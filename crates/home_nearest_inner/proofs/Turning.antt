-- The search for the first turn of v that comes as near to w as the two are apart, and the turns of w that come near to itself.
--     NotYet v w i                                               no turn of v by less than i comes so near
--     not-yet-start, not-yet-on, not-yet-found, not-yet-never    from the first turn on, until one does; one does
--     FarTurns d w j                                             no turn by 1 up to j comes nearer than d
--     turned-start, turned_on, turned-near, turned-all           from the first turn on, until one does or half are passed
use Rattle.words.proofs.Plain.{ℕ, ◌+◌, ◌-◌, ◌<◌, ◌≤◌, min, arith, ◌≡◌, sym, ap, true, false, List, length, eq-eqb, ne_eqb}
use Rattle.words.specs.Turn.{turn}
use Rattle.words.proofs.Split.{lt, eq, gt, tri, refuted}
use Rattle.words.proofs.Search.{least-is}
use Rattle.rings.specs.Alike.{differing, apart}
use Rattle.ring_home_laws.proofs.Alike.{apart-at}
use Rattle.home_spec.specs.Turns.{as_near, nearest_turn, steady}
use Rattle.home_turns_laws.proofs.Steady.{steady-each, each-steady, half-steady}

-- ---- the nearest turn

-- no turn by less than i comes as near
pub record NotYet (v w : List ℕ) (i : ℕ) : Type 0 where
  pub within : i ≤ length v
  pub far : (j : ℕ) → j < i → differing (turn j v) w ≡ apart v w → ⊥

pub not-yet-start : {v w : List ℕ} → NotYet v w 0
not-yet-start = record { within = omega arith; far = λ j h e. omega arith }

module _ {v w : List ℕ} {i : ℕ} (f : NotYet v w i) {best d : ℕ} (b : best ≡ apart v w) (q : d ≡ min (differing (turn i v) w) (best + 1)) (h : i < length v) where
  -- this one does not
  pub not-yet-on : (d ≡ best → ⊥) → NotYet v w (i + 1)
  not-yet-on o =
      record {
        within = omega arith;
        far = λ j m e. elim (tri j i) [ lt l ↦ f.far j l e | eq l ↦ o (omega (arith, ap (λ (x : ℕ). differing (turn x v) w) l)) | gt l ↦ omega arith ];
      }

  -- this one does
  pub not-yet-found : d ≡ best → i ≡ nearest_turn v w
  unfolding nearest_turn as_near
  not-yet-found e =
      sym (least-is (length v) (as_near v w) i h (eq-eqb (differing (turn i v) w) (apart v w) (omega arith)) (λ j m. ne_eqb (differing (turn j v) w) (apart v w) (f.far j m)))

-- one does
pub not-yet-never : {v w : List ℕ} {i : ℕ} → 0 < length v → NotYet v w i → length v ≤ i → ⊥
not-yet-never {v = v} {w = w} z f h = at (apart-at v w z)
  where
    at : (j : ℕ) × (j < length v) × (differing (turn j v) w ≡ apart v w) → ⊥
    at (j, l, e) = f.far j (omega arith) e

-- ---- the turns of w that come near to itself

-- no turn by 1 up to j comes nearer than d
pub record FarTurns (d : ℕ) (w : List ℕ) (j : ℕ) : Type 0 where
  pub some : 1 ≤ j
  pub within : j ≤ length w
  pub far : (i : ℕ) → 0 < i → i < j → d ≤ differing (turn i w) w

pub turned-start : {d : ℕ} {w : List ℕ} → 0 < length w → FarTurns d w 1
turned-start z = record { some = omega arith; within = omega arith; far = λ i y h. absurd (omega arith) }

module _ {d : ℕ} {w : List ℕ} {j : ℕ} (f : FarTurns d w j) {r : ℕ} (e : r ≡ min (differing (turn j w) w) d) (b : j ≤ length w - j) where
  -- one turn more
  pub turned_on : d ≤ r → FarTurns d w (j + 1)
  turned_on h =
      record {
        some = omega arith;
        within = omega (arith, f.some);
        far = λ i z l. elim (tri i j) [ lt o ↦ f.far i z o | eq o ↦ rw o (omega arith) | gt o ↦ absurd (omega arith) ];
      }

  -- one that comes near decides
  pub turned-near : r < d → false ≡ steady d w
  turned-near l = sym (refuted (steady d w) (λ s. omega (arith, steady-each d w s j f.some (omega (arith, f.some, f.within)))))

-- none of half of them does
pub turned-all : {d : ℕ} {w : List ℕ} {j : ℕ} → FarTurns d w j → length w - j < j → true ≡ steady d w
turned-all {d = d} {w = w} {j = j} f h = sym (each-steady d w (half-steady d w j (omega (arith, f.within)) f.far))
