-- The counts that a walk carries, through the contracts alone (02, m): one for each shade of the present ring, and 0 for the shades from k up.
--     accepted-carries    of any record that passes its checks
--     start-carries       of the record that a start hands out
--     step-carries        of the record that a step hands on, of whatever kind
--     arrival-carries     and of the one that a step to the next bracelet does
use Rattle.std.specs.Prelude.{Ok}
use Rattle.words.proofs.Plain.{ℕ, ◌<◌, ◌≤◌, arith, ◌≡◌, sym, ap, ◌∙◌, Bool, List, length, get_or, List·get_d-eq-default}
use Rattle.words.specs.Order.{same}
use Rattle.words.proofs.Split.{lt, eq, gt, tri, both_right}
use Rattle.words.proofs.{Search.length-tab, Search.get_d-tab, Lex.same_true}
use Rattle.rings.specs.{Alike.bracelet, Counts.occurs, Counts.counts_of}
use Rattle.ring_laws.proofs.FullWalk.{next-facts}
use Rattle.shades_laws.proofs.Occurs.{occurs-past}
use Rattle.refusal.specs.Order.{Passed}
use Rattle.walk_spec.specs.{declared.Walk.Walk, declared.Outcome.TheVariants.Moved, Says.StartSays, Says.StepSays}
use Rattle.walk_spec.specs.Record.{ring_of, shade_counts, walk_of, on_walk, walk_asked}
use Rattle.walk_record_laws.proofs.Good.{good-ready, ring_of_lem}
use Rattle.walk_bracelet_spec.specs.declared.Arrival.TheVariants as A
use Rattle.walk_bracelet_spec.specs.Says.{ArrivalSays}
use Rattle.walk_laws.specs.Carries.{Carries}

-- counts that are a ring's, in a record of k shades whose ring has no others
counts-carry : (w : Walk) → w.k ≤ 16 → w.counts ≡ shade_counts (ring_of w) → ((i : ℕ) → i < length (ring_of w) → get_or (ring_of w) i 0 < w.k) → Carries w
unfolding counts_of
counts-carry w few e low =
    record {
      size = ap length e ∙ length-tab 16 (λ b. occurs b (ring_of w));
      each = λ b h. ap (λ (x : List ℕ). get_or x b 0) e ∙ get_d-tab 16 (λ x. occurs x (ring_of w)) b 0 (omega arith);
      past = λ b h. ap (λ (x : List ℕ). get_or x b 0) e ∙ beyond b h;
    }
  where
    beyond : (b : ℕ) → w.k ≤ b → get_or (shade_counts (ring_of w)) b 0 ≡ 0
    beyond b h = go (tri b 16)
      where
        longer : 16 ≤ b → get_or (shade_counts (ring_of w)) b 0 ≡ 0
        longer q = List·get_d-eq-default (shade_counts (ring_of w)) 0 {n = b} (omega (arith, length-tab 16 (λ x. occurs x (ring_of w))))

        go : Rattle.words.proofs.Split.Tri b 16 → get_or (shade_counts (ring_of w)) b 0 ≡ 0
        go (lt q) = get_d-tab 16 (λ x. occurs x (ring_of w)) b 0 q ∙ occurs-past b w.k (ring_of w) low h
        go (eq q) = longer (omega arith)
        go (gt q) = longer (omega arith)

-- any record that passes its checks
pub accepted-carries : (w : Walk) → length w.ring ≡ 64 → Passed (walk_asked w) → Carries w
accepted-carries w size good =
    let own = both_right (on_walk (ring_of w) w.class) (same w.counts (shade_counts (ring_of w))) good.1 in
    let ready = good-ready w good size in
    counts-carry w ready.few (same_true w.counts (shade_counts (ring_of w)) own) ready.reading.shades

-- the record of a ring of k shades
ring-carries : (k : ℕ) (v : List ℕ) → k ≤ 16 → ((i : ℕ) → i < length v → get_or v i 0 < k) → Carries (walk_of k v)
ring-carries k v few low = counts-carry (walk_of k v) few (ap shade_counts (sym (ring_of_lem k v))) (rw (ring_of_lem k v) low)

-- the record that a start hands out
pub start-carries : (s : List ℕ) (k : ℕ) (v : Walk) → StartSays s k v (Ok tt) → Carries v
start-carries s k v says = rw says.1 (ring-carries k s says.0.0.0.0.0.1.1 says.0.0.0.0.1)

-- the record that a step hands on
pub step-carries : (kind : List ℕ → Bool) (w v : Walk) (m : ℕ) → StepSays kind w v (Ok (Moved m)) → Carries v
step-carries kind w v m says =
    let f = next-facts kind w.k (ring_of w) says.to says.next in
    rw says.handed (ring-carries w.k says.to says.good.0.0.0.0.1.1 (λ i h. f.0.shades i (omega (arith, f.0.long))))

-- and the one that a step to the next bracelet does
pub arrival-carries : (w v : Walk) → ArrivalSays w v (Ok A.Moved) → Carries v
arrival-carries w v says =
    let f = next-facts bracelet w.k (ring_of w) says.to says.next in
    rw says.handed (ring-carries w.k says.to says.good.0.0.0.0.1.1 (λ i h. f.0.shades i (omega (arith, f.0.long))))
