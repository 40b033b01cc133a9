-- One ring from each mirror pair (02, request c), of the rings that `walk::start` and `walk::next_bracelet` hand out one after another until Done.
--     pairs-bracelets          all rings handed out are bracelets of n and k
--     pairs-order              in increasing order
--     pairs-once               of each ring and its mirror image exactly one is handed out, exactly once
--     pairs-even               each even-handed ring is handed out, exactly once: it stands for itself
--     arrivals-end             from every record that a start hands out, whatever prenecklace it is of, they come to Done
--     pairs-handed-out         for every n and k of the page there is what the sentences speak of
-- The calls are spoken of by their contracts, which no two answers satisfy (`walk_spec` and `walk_bracelet_spec`, proofs/Unique): so the answers here are the
-- code's.
use Rattle.std.specs.Prelude.{Ok}
use Rattle.words.proofs.Plain.{ℕ, ◌≡◌, refl, sym, subst, true, List, ◌∷◌}
use Rattle.words.specs.Readings.{Sized, Shaded, Reading}
use Rattle.words.proofs.Readings.{All, Increasing}
use Rattle.rings.specs.{Alike.bracelet, Steps.FullWalk}
use Rattle.ring_laws.proofs.{Words.necklace-prenecklace, FullWalk.zeros}
use Rattle.bracelet_laws.specs.Pairs.{OneOfEachPair, EvenForItself}
use Rattle.bracelet_laws.proofs.Words.{bracelet-necklace}
use Rattle.bracelet_laws.proofs.Pairs.{walk-bracelets, walk-order, walk-pairs, walk-even}
use Rattle.walk_spec.specs.{declared.Walk.Walk, Record.ring_of, Says.StartSays, Says.Steps}
use Rattle.walk_spec.specs.Says as says
use Rattle.walk_laws.specs.Arrivals.{Arrivals, PairsHandedOut, ends, goes}
use Rattle.walk_laws.proofs.Started.{start-zeros, long, many, start-walk, steps-end}
use Rattle.walk_laws.proofs.OneRing.{handed_out}

-- ---- steps to the next bracelet are steps of that kind

-- with the moves that they do not report
arrivals-steps : {w : Walk} {rings : List (List ℕ)} → Arrivals w rings → (m : ℕ) × Steps bracelet w rings m
arrivals-steps (ends p) = (_, says.ends (record { good = p.good; next = p.next; handed = p.kept; counted = refl }))
arrivals-steps (goes p s) = (_, says.goes (record { good = p.good; to = p.to; next = p.next; handed = p.handed; counted = refl }) (arrivals-steps s).1)

-- and without them
steps-arrivals : {w : Walk} {rings : List (List ℕ)} {m : ℕ} → Steps bracelet w rings m → Arrivals w rings
steps-arrivals (says.ends p) = ends (record { good = p.good; next = p.next; kept = p.handed })
steps-arrivals (says.goes p s) = goes (record { good = p.good; to = p.to; next = p.next; handed = p.handed }) (steps-arrivals s)

-- ---- the sentences

module _ (n k : ℕ) (out : PairsHandedOut n k) where
  -- the steps are the full walk by bracelets from the all-zero ring
  walked : (m : ℕ) × FullWalk bracelet k (zeros n) out.rings m
  walked = let s = arrivals-steps out.steps in (s.0, start-walk n k out.first out.started bracelet s.1)

  -- all rings handed out are bracelets of n and k
  pub pairs-bracelets : All (λ u. Reading n k u × (bracelet u ≡ true)) (ring_of out.first ∷ out.rings)
  pairs-bracelets = rw (start-zeros n k out.first out.started) (walk-bracelets n k (long n k out.first out.started)
      (many n k out.first out.started) out.rings walked.0 walked.1)

  -- in increasing order
  pub pairs-order : Increasing (ring_of out.first ∷ out.rings)
  pairs-order = rw (start-zeros n k out.first out.started) (walk-order n k (long n k out.first out.started) (many n k out.first out.started) out.rings walked.0 walked.1)

  -- of each ring and its mirror image exactly one is handed out, exactly once
  pub pairs-once : OneOfEachPair n k (ring_of out.first) out.rings
  pairs-once = subst (λ (u : List ℕ). OneOfEachPair n k u out.rings) (sym (start-zeros n k out.first out.started))
      (walk-pairs n k (long n k out.first out.started) (many n k out.first out.started) out.rings walked.0 walked.1)

  -- an even-handed ring stands for itself
  pub pairs-even : EvenForItself n k (ring_of out.first) out.rings
  pairs-even = subst (λ (u : List ℕ). EvenForItself n k u out.rings) (sym (start-zeros n k out.first out.started))
      (walk-even n k (long n k out.first out.started) (many n k out.first out.started) out.rings walked.0 walked.1)

-- ---- steps come to Done

-- from every record that a start hands out, steps to the next bracelet come to Done
pub arrivals-end : (s : List ℕ) (k : ℕ) (v : Walk) → StartSays s k v (Ok tt) → (rings : List (List ℕ)) × Arrivals v rings
arrivals-end s k v p = let e = steps-end bracelet (λ u h. necklace-prenecklace u (bracelet-necklace u h)) s k v p in (e.0, steps-arrivals e.2)

-- for every n and k of the page a start from the all-zero ring is not refused, and the steps from it come to Done
pub pairs-handed-out : (n k : ℕ) → Sized n → Shaded k → PairsHandedOut n k
pairs-handed-out n k sized shaded =
    let h = handed_out n k sized shaded in
    let s = arrivals-end (zeros n) k h.first h.started in
    record { first = h.first; started = h.started; rings = s.0; steps = s.1 }
