-- From the checks of a reading to its place.
--     passed-reading, reading-passed    a reading that passed 1, 2, 3 is one of n and k, and the other way
--     passed-listable                   and where k ^ n is not above 4096 its strip can be written
--     place-asked                       so that what `place_in` asks of the strip and the reading holds
use Rattle.words.proofs.Plain.{ℕ, ◌^◌, ◌≤◌, arith, ◌≡◌, refl, sym, subst, false, List, ltb, length, ltb-false}
use Rattle.words.specs.Readings.{Sized, Shaded, Reading}
use Rattle.refusal.specs.{Order.Passed, Calls.one_reading}
use Rattle.limits_spec.specs.Limits.{Listable}
use Rattle.strip_spec.specs.{Strip.strip, Places.OnePlace}
use Rattle.strip_laws.proofs.{Pieces.length-strip, Once.one_place}

pub passed-reading : (w : List ℕ) (k : ℕ) → Passed (one_reading w k) → Reading (length w) k w
passed-reading w k p = record { long = refl; shades = p.0.0.0.1 }

pub reading-passed : (n k : ℕ) (w : List ℕ) → Sized n → Shaded k → Reading n k w → Passed (one_reading w k)
reading-passed n k w a b r = ((((((subst Sized (sym r.long) a, tt), b), λ i h. r.shades i (omega (arith, r.long))), tt), tt), refl)

module _ (w : List ℕ) (k : ℕ) (p : Passed (one_reading w k)) where
  pub passed-listable : false ≡ ltb 4096 (k ^ length w) → Listable 4096 k (length w)
  passed-listable e = record { sized = p.0.0.0.0.0.0; shaded = p.0.0.0.0.1; few = ltb-false 4096 (k ^ length w) (sym e) }

  pub place-asked : (s : List ℕ) → Listable 4096 k (length w) → s ≡ strip (length w) k → (length s ≤ 4096) × ((length w ≤ 64) × ((q : ℕ) × OnePlace s w q))
  place-asked s l e =
      rw e (omega (arith, length-strip (length w) k l.sized.0 (omega (arith, l.shaded.0)), l.few), (l.sized.1, one_place (length w) k l.sized.0 l.shaded.0 w (passed-reading w k p)))
