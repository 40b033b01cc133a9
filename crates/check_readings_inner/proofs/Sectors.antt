-- The sectors of one reading, and of two, settled by scans.
--     reading-bad, reading-good        one reading
--     former-bad, former-good          the first of two readings
--     latter-bad, latter-good          the second of two readings
use Rattle.words.proofs.Plain.{ℕ, ◌+◌, ◌<◌, ◌≤◌, arith, refl, sym, ◌∙◌, List, ◌++◌, length, length-append, List·get_d-append, get_or-append-add}
use Rattle.words.proofs.Sequence.{sec, place}
use Rattle.refusal.specs.Calls.{Below, ask_reading, ask_two}
use Rattle.check_numbers_inner.specs.Scan.{Scanned}
use Rattle.check_numbers_inner.proofs.Parts.{BelowTo, Bad, Part, part-bad, part-good, nothing}

-- ---- one reading

module _ (w : List ℕ) (k r : ℕ) (s : Scanned w k r) where
  whole : Part (ask_reading w k) 0 k w
  whole = record { fits = omega arith; same = λ i j e h. place (sec w) i j (omega arith); limits = λ i j e h. refl }

  pub reading-bad : r < length w → Bad (ask_reading w k) r
  reading-bad h = part-bad (ask_reading w k) 0 k w whole (nothing (ask_reading w k)) r s r (omega arith) h

  pub reading-good : length w ≤ r → Below w (λ i. k)
  reading-good h = part-good (ask_reading w k) 0 k w whole (nothing (ask_reading w k)) r s h (length w) (omega arith)

-- ---- two readings

module _ (v w : List ℕ) (k : ℕ) where
  former : Part (ask_two v w k) 0 k v
  former =
      record {
        fits = simp length-append (omega arith);
        same = λ i j e h. place (sec (v ++ w)) i j (omega arith) ∙ List·get_d-append v w 0 j h;
        limits = λ i j e h. refl;
      }

  latter : Part (ask_two v w k) (length v) k w
  latter =
      record {
        fits = simp length-append (omega arith);
        same = λ i j e h. place (sec (v ++ w)) i (length v + j) (sym e) ∙ get_or-append-add v w j 0;
        limits = λ i j e h. refl;
      }

  -- the first reading
  module _ (r : ℕ) (s : Scanned v k r) where
    pub former-bad : r < length v → Bad (ask_two v w k) r
    former-bad h = part-bad (ask_two v w k) 0 k v former (nothing (ask_two v w k)) r s r (omega arith) h

    pub former-good : length v ≤ r → BelowTo (ask_two v w k) (length v)
    former-good h =
        part-good (ask_two v w k) 0 k v former (nothing (ask_two v w k)) r s h (length v) (omega arith)

  -- the second, after it
  module _ (low : BelowTo (ask_two v w k) (length v)) (r : ℕ) (s : Scanned w k r) where
    pub latter-bad : r < length w → Bad (ask_two v w k) (length v + r)
    latter-bad h = part-bad (ask_two v w k) (length v) k w latter low r s (length v + r) refl h

    pub latter-good : length w ≤ r → Below (v ++ w) (λ i. k)
    latter-good h =
        part-good (ask_two v w k) (length v) k w latter low r s h (length (v ++ w)) (simp length-append (omega arith))
