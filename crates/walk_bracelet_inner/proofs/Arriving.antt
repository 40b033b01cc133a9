-- The step to the next bracelet: what the checks give it, and that a start from the ring it comes to makes the record of that ring.
--     good-reading                  the ring of a record that passed its checks is a reading from which the next bracelet can be sought
--     arrived-long, arrived-ring    the ring that it comes to, laid over the first n sectors of the given one
--     arrived-passed, arrived       a start from it is not refused, and hands out its record, as a step that moved promises
--     ended                         where there is no next bracelet the record is handed back
use Rattle.std.specs.Prelude.{Result, Ok, Err}
use Rattle.words.proofs.Plain.{ℕ, arith, ◌≡◌, refl, sym, ap, ◌∙◌, true, none, some, List, ◌++◌, length, take, drop, take-append_seam}
use Rattle.words.specs.Readings.{Reading}
use Rattle.rings.specs.{Prenecklace.prenecklace, Alike.bracelet, Steps.next_of}
use Rattle.ring_laws.proofs.{Words.necklace-prenecklace, FullWalk.next-facts}
use Rattle.bracelet_laws.proofs.Words.{bracelet-necklace}
use Rattle.refusal.specs.{declared.Refusal.Refusal, Order.Passed, Calls.one_reading, Calls.walk_start}
use Rattle.refusal.proofs.Unique.{never_both}
use Rattle.walk_spec.specs.{declared.Walk.Walk, Says.StartSays}
use Rattle.walk_spec.specs.Record.{ring_of, walk_of, walk_asked}
use Rattle.walk_record_laws.proofs.Good.{good-ready, good-long}
use Rattle.bracelet_next_inner.specs.Going.{ByteReading}
use Rattle.walk_bracelet_spec.specs.Says.{Onward, Last}

module _ (w : Walk) (good : Passed (walk_asked w)) (size : length w.ring ≡ 64) where
  pub good-reading : ByteReading w.k (ring_of w)
  good-reading =
      let r = good-ready w good size in
      record { pos = r.pos; some-shades = omega (arith, r.shades); shades = omega (arith, r.few); reading = r.reading }

  module _ (v : List ℕ) (next : next_of bracelet w.k (ring_of w) ≡ some v) where
    reading : Reading (length (ring_of w)) w.k v
    reading = (next-facts bracelet w.k (ring_of w) v next).0

    pub arrived-long : length v ≡ w.n
    arrived-long = reading.long ∙ good-long w good size

    -- the first n sectors are the ring
    pub arrived-ring : take w.n (v ++ drop w.n w.ring) ≡ v
    arrived-ring = ap (λ (x : ℕ). take x (v ++ drop w.n w.ring)) (sym arrived-long) ∙ take-append_seam v (drop w.n w.ring)

    -- it passes the checks of a reading
    pub arrived-passed : Passed (one_reading v w.k)
    arrived-passed =
        let r = good-ready w good size in
        let l = reading.long in
        (((((((omega (arith, r.pos), omega (arith, r.fits)), tt), (r.shades, r.few)), λ i b. reading.shades i (omega arith)), tt), tt), refl)

    -- and is a prenecklace, so that a start from it hands out its record
    arrived-is : (to : Walk) (answer : Result Unit Refusal) → StartSays v w.k to answer → to ≡ walk_of w.k v
    arrived-is to (Ok _) says = says.1
    arrived-is to (Err r) says = absurd (never_both (walk_start v w.k (prenecklace v)) r says.0 (arrived-passed.0, on))
      where
        on : prenecklace v ≡ true
        on = necklace-prenecklace v (bracelet-necklace v (next-facts bracelet w.k (ring_of w) v next).2)

    -- what is promised of a step that moved
    pub arrived : (to : Walk) (answer : Result Unit Refusal) → StartSays v w.k to answer → Onward w to
    arrived to answer says = record { good = good; to = v; next = next; handed = arrived-is to answer says }

-- what is promised of a step that is Done
pub ended : (w : Walk) → Passed (walk_asked w) → next_of bracelet w.k (ring_of w) ≡ none → Last w w
ended w good next = record { good = good; next = next; kept = refl }
