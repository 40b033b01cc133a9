-- A ring of a guarded set that is seen with sectors misread.
--     front-seen, back-seen    seen from either side with at most e misread it is told from all others and their other sides, where 2 e is below d
use Rattle.words.proofs.Plain.{ℕ, ◌+◌, ◌*◌, ◌<◌, ◌≤◌, arith, ◌≡◌, List, [], length, get_or}
use Rattle.rings.specs.Alike.{apart, mirrored}
use Rattle.set_spec.specs.Worth.{Spread}
use Rattle.guard_spec.specs.Sides.{sides}
use Rattle.guard_laws.proofs.Sides.{Long, length-sides, front_at, back_at, sides-long, alone}

-- the rings of a guarded set, and a reading r
module _ (n d e : ℕ) (ts : List (List ℕ)) (z : 0 < n) (long : Long n ts) (g : Spread d (sides ts)) (small : 2 * e < d) (r : List ℕ) (size : length r ≡ n) where
  others : (i j : ℕ) → i < length (sides ts) → j < length (sides ts) → (i ≡ j → ⊥) → apart r (get_or (sides ts) i []) ≤ e → e < apart r (get_or (sides ts) j [])
  others = alone n d e e (sides ts) r (sides-long n d ts z long) size g (omega arith)

  -- a ring seen from the front with at most e sectors misread is told from every other ring, and from every ring seen from behind, itself too
  pub front-seen : (t : ℕ) → t < length ts → apart r (get_or ts t []) ≤ e →
      ((j : ℕ) → j < length ts → (t ≡ j → ⊥) → e < apart r (get_or ts j [])) × ((j : ℕ) → j < length ts → e < apart r (mirrored (get_or ts j [])))
  front-seen t h near =
      let m = length-sides ts in
      let at : apart r (get_or (sides ts) t []) ≤ e = rw (front_at ts t h) near in
      (λ j l f. rw (front_at ts j l) at (others t j (omega arith) (omega arith) f at), λ j l. rw (back_at ts j l) at (others t (length ts + j) (omega arith) (omega arith) (λ q. omega arith) at))

  -- a ring seen from behind with at most e sectors misread is told from every other ring seen from behind, and from every ring, itself too
  pub back-seen : (t : ℕ) → t < length ts → apart r (mirrored (get_or ts t [])) ≤ e →
      ((j : ℕ) → j < length ts → e < apart r (get_or ts j [])) × ((j : ℕ) → j < length ts → (t ≡ j → ⊥) → e < apart r (mirrored (get_or ts j [])))
  back-seen t h near =
      let m = length-sides ts in
      let at : apart r (get_or (sides ts) (length ts + t) []) ≤ e = rw (back_at ts t h) near in (
        λ j l. rw (front_at ts j l) at (others (length ts + t) j (omega arith) (omega arith) (λ q. omega arith) at),
        λ j l f. rw (back_at ts j l) at
            (others (length ts + t) (length ts + j) (omega arith) (omega arith) (λ q. f (omega arith)) at),
      )
