-- A start from the all-zero ring and the steps from it until Done, of whatever kind of prenecklace, as their contracts tell them.
--     start-zeros, long, many    the start hands out the all-zero ring, and was not refused: n and k are at least 1
--     start-walk                 the steps from it are the full walk from the all-zero ring
--     walk_steps                 steps from a record do what the full walk from its ring does
--     steps-end                  so from every record that a start hands out they come to Done
use Rattle.std.specs.Prelude.{Ok}
use Rattle.words.proofs.Plain.{ℕ, ◌+◌, ◌<◌, arith, ◌≡◌, refl, sym, subst, ap, ◌∙◌, Bool, true, none, some, List, ◌∷◌, length}
use Rattle.words.specs.Readings.{Sized, Shaded, Reading}
use Rattle.rings.specs.Prenecklace.{prenecklace}
use Rattle.rings.specs.Steps.{moves, FullWalk, done, step}
use Rattle.ring_laws.proofs.FullWalk.{next-facts, walk-exists, zeros, length-zeros}
use Rattle.walk_spec.specs.{declared.Walk.Walk, Record.ring_of, Record.walk_of}
use Rattle.walk_spec.specs.Says.{StartSays, Steps, ends, goes}
use Rattle.walk_record_laws.proofs.{Good.ring_of_lem, Good.walk-good, Sums.steps-walk}

-- ---- the steps are a full walk

module _ (n k : ℕ) (first : Walk) (started : StartSays (zeros n) k first (Ok tt)) where
  -- the ring that the start hands out is the all-zero ring
  pub start-zeros : ring_of first ≡ zeros n
  start-zeros = ap ring_of started.1 ∙ ring_of_lem k (zeros n)

  -- it was not refused, so n and k are at least 1
  pub long : 0 < n
  long = omega (arith, length-zeros n, started.0.0.0.0.0.0.0)

  pub many : 0 < k
  many = omega (arith, started.0.0.0.0.0.1.0)

  -- the steps are the full walk from the all-zero ring
  pub start-walk : (kind : List ℕ → Bool) {rings : List (List ℕ)} {m : ℕ} → Steps kind first rings m → FullWalk kind k (zeros n) rings m
  start-walk kind s = rw (ap (λ (x : Walk). x.k) started.1, start-zeros) at (steps-walk kind s)

-- ---- they come to Done

module _ (kind : List ℕ → Bool) (only : (u : List ℕ) → kind u ≡ true → prenecklace u ≡ true) (n k : ℕ) (sized : Sized n) (shaded : Shaded k) where
  -- steps from the record of a prenecklace do what its full walk does
  pub walk_steps : {w : List ℕ} {rings : List (List ℕ)} {m : ℕ} → Reading n k w → prenecklace w ≡ true → FullWalk kind k w rings m → Steps kind (walk_of k w) rings m
  walk_steps r p (done {w = w} e) =
      ends {v = walk_of k w}
      (record { good = walk-good n k w sized shaded r p; next = rw (ring_of_lem k w) e; handed = refl; counted = ap (λ (u : List ℕ). moves k u none) (sym (ring_of_lem k w)) })
  walk_steps r p (step {w = w} {v = v} {rings = rings} {m = m} e f) =
      let g = next-facts kind k w v e in
      subst (λ (u : List ℕ). Steps kind (walk_of k w) (u ∷ rings) (moves k w (some v) + m)) (ring_of_lem k v) (goes {v = walk_of k v}
      (record { good = walk-good n k w sized shaded r p; to = v; next = rw (ring_of_lem k w) e; handed = refl; counted = ap (λ (u : List ℕ). moves k u (some v)) (sym (ring_of_lem k w)) })
      (walk_steps (subst (λ (x : ℕ). Reading x k v) r.long g.0) (only v g.2) f))

-- so from every record that a start hands out they come to Done
pub steps-end : (kind : List ℕ → Bool) → ((u : List ℕ) → kind u ≡ true → prenecklace u ≡ true) → (s : List ℕ) (k : ℕ) (v : Walk) → StartSays s k v (Ok tt) →
    (rings : List (List ℕ)) × (m : ℕ) × Steps kind v rings m
steps-end kind only s k v (checks, is) =
    let f = walk-exists kind k s in
    let r : Reading (length s) k s = record { long = refl; shades = checks.0.0.0.1 } in
    (f.0, f.1, rw is (walk_steps kind only (length s) k checks.0.0.0.0.0.0 checks.0.0.0.0.1 r checks.1 f.2))
