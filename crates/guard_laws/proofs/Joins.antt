-- Which words may join a guarded set.
--     joins-clear, joins-behind, joins-steady    what the test says: w is clear of those taken, and its other side of those taken and of w, and w is steady
--     joins-more                   one that may join leaves the set guarded
--     joins-not                    there is a reason against one that may not
use Rattle.words.proofs.Plain.{ℕ, suc, ◌<◌, ◌≤◌, arith, ◌≡◌, sym, ap, subst, ◌∙◌, Bool, true, false, ◌&&◌, List, [], ◌∷◌, ◌++◌, length, get_or}
use Rattle.words.specs.{Order.before, Turn.turn}
use Rattle.words.proofs.Split.{passes, fails, test, lt, eq, gt, tri, both, both_left, both_right, clash}
use Rattle.words.proofs.Readings.{All}
use Rattle.rings.specs.Alike.{differing, apart, mirrored}
use Rattle.home_spec.specs.Turns.{steady, Steady}
use Rattle.home_turns_laws.proofs.Steady.{steady-each, not-steady}
use Rattle.set_spec.specs.{Greedy.clear, Worth.Spread}
use Rattle.set_laws.proofs.Lists.{length_more, at_old, at_new, all-place}
use Rattle.set_laws.proofs.Worth.{clear_at, not-clear, spread-more, near-one}
use Rattle.guard_spec.specs.{Sides.Guarded, Choice.joins}
use Rattle.guard_spec.specs.Worth.{Crossed, near, behind, sided, unsteady}
use Rattle.guard_laws.proofs.Sides.{Long, guarded-spread, guarded-cross, guarded-of}

module _ (d : ℕ) (ts : List (List ℕ)) (w : List ℕ) where
  -- the other side of w is clear of those taken and of w
  abbrev across : Bool
  across = clear d (ts ++ (w ∷ [])) (mirrored w)

  pub joins-clear : joins d ts w ≡ true → clear d ts w ≡ true
  unfolding joins
  joins-clear h = both_left (clear d ts w) (across && steady d w) h

  pub joins-behind : joins d ts w ≡ true → clear d (ts ++ (w ∷ [])) (mirrored w) ≡ true
  unfolding joins
  joins-behind h = both_left across (steady d w) (both_right (clear d ts w) (across && steady d w) h)

  pub joins-steady : joins d ts w ≡ true → steady d w ≡ true
  unfolding joins
  joins-steady h = both_right across (steady d w) (both_right (clear d ts w) (across && steady d w) h)

  -- one that may join leaves the set guarded
  pub joins-more : (n : ℕ) → 0 < n → Long n ts → length w ≡ n → Guarded d ts → joins d ts w ≡ true → Long n (ts ++ (w ∷ [])) × Guarded d (ts ++ (w ∷ []))
  joins-more n z long size g h = (longer, record { spread = guarded-of n d (ts ++ (w ∷ [])) z longer spread cross; steady = steadies })
    where
      more : length (ts ++ (w ∷ [])) ≡ suc (length ts)
      more = length_more ts w

      -- what holds of those taken and of w holds of all
      each : (P : List ℕ → Type 0) → ((j : ℕ) → j < length ts → P (get_or ts j [])) → P w → (j : ℕ) → j < length (ts ++ (w ∷ [])) → P (get_or (ts ++ (w ∷ [])) j [])
      each P f p j l =
          elim (tri j (length ts)) [
            | lt q ↦ subst P (sym (at_old ts w j q)) (f j q)
            | eq q ↦ subst P (sym (ap (λ (x : ℕ). get_or (ts ++ (w ∷ [])) x []) q ∙ at_new ts w)) p
            | gt q ↦ absurd (omega (arith, more))
          ]

      longer : Long n (ts ++ (w ∷ []))
      longer = each (λ t. length t ≡ n) long size

      steadies : (j : ℕ) → j < length (ts ++ (w ∷ [])) → Steady d (get_or (ts ++ (w ∷ [])) j [])
      steadies = each (Steady d) g.steady (steady-each d w (joins-steady h))

      spread : Spread d (ts ++ (w ∷ []))
      spread = spread-more d ts w (guarded-spread n d ts z long g.spread) (joins-clear h)

      cross : (i j : ℕ) → i ≤ j → j < length (ts ++ (w ∷ [])) → d ≤ apart (get_or (ts ++ (w ∷ [])) i []) (mirrored (get_or (ts ++ (w ∷ [])) j []))
      cross i j b l =
          elim (tri j (length ts)) [
            | lt q ↦ rw (at_old ts w i (omega arith), at_old ts w j q) (guarded-cross n d ts z long g.spread i j (omega arith) q)
            | eq q ↦
                let last : get_or (ts ++ (w ∷ [])) j [] ≡ w = ap (λ (x : ℕ). get_or (ts ++ (w ∷ [])) x []) q ∙ at_new ts w in
                rw last (clear_at d (ts ++ (w ∷ [])) (mirrored w) (joins-behind h) i (omega arith))
            | gt q ↦ absurd (omega (arith, more))
          ]

  -- there is a reason against one that may not
  pub joins-not : All (λ t. before t w ≡ true) ts → joins d ts w ≡ false → Crossed d ts w
  unfolding joins
  joins-not a h =
      elim (test (clear d ts w)) [
        | fails e ↦ near (near-one d ts w a e)
        | passes e ↦ elim (test across) [
          | fails f ↦ opposite (not-clear d (ts ++ (w ∷ [])) (mirrored w) f)
          | passes f ↦ elim (test (steady d w)) [
            | passes s ↦ clash (clear d ts w && (across && steady d w)) (both (clear d ts w) (across && steady d w) e (both across (steady d w) f s)) h
            | fails s ↦ turned (not-steady d w s)
          ]
        ]
      ]
    where
      opposite : (i : ℕ) × (i < length (ts ++ (w ∷ []))) × (apart (get_or (ts ++ (w ∷ [])) i []) (mirrored w) < d) → Crossed d ts w
      opposite (i, l, q) =
          elim (tri i (length ts)) [
            | lt o ↦ behind i o (all-place a i o) (rw (at_old ts w i o) at q)
            | eq o ↦ sided (rw (at_new ts w) at (rw o at q))
            | gt o ↦ absurd (omega (arith, length_more ts w))
          ]

      turned : (j : ℕ) × (0 < j) × (j < length w) × (differing (turn j w) w < d) → Crossed d ts w
      turned (j, z, l, q) = unsteady (record { by = j; some = z; inside = l; near = q })
