-- The search for the next ring, over the arrays that hold it: the first n sectors of an array of 64.
--     Standing cs n k start ring p              what the loop of `seek` knows: the next ring above `ring` is that above `start`
--     seek-start, seek-none, seek-asks          the loop starts; there is no place to raise; what repeating asks
--     headed                                    what is repeated is a Lyndon word
--     last_raised n start ring                   the place that was raised last, or 0
--     seek-right                                the place that is raised lies further right than that before: there are at most n rounds
--     seek-few, seek-counts                     what was raised so far is counted, and is at most n
--     seek-size, seek-run, seek-last, seek-falls, seek_found, seek-on    what is raised is a ring, or the search goes on from there
--     Rounded, rounded                          all of that, behind a place that was raised
--     answers-soon                              so whatever the answer, at most n places were raised
--     above-opening, above-asks                 the reading is a prenecklace; what repeating asks where it is none
--     above-size, above-run, above-found, above_on, above-answers    its longest beginning that is one is repeated: that is the ring, or the search goes on from there
use Rattle.words.proofs.Plain.{ℕ, zero, suc, ◌+◌, ◌-◌, ◌<◌, ◌≤◌, arith, ◌≡◌, refl, sym, ap, ◌∙◌, subst, true, false, true≢false, some, List, ◌++◌, length, take}
use Rattle.words.proofs.Plain.{drop, set, length-set, length-append, length-drop, length-take, take_at, length-take-le, get_or-take, get_or-set_same}
use Rattle.words.proofs.{Plain.get_or-set_other, Sequence.sec}
use Rattle.words.specs.Order.{before, up_to, same}
use Rattle.words.proofs.Split.{lt, eq, gt, tri, clash, test, passes, fails}
use Rattle.words.proofs.Lex.{same_refl, same_false, before-less, before-irrefl, before-up_to, up_to-refl, up_to-before-trans}
use Rattle.rings.specs.{Prenecklace.lyn, Counts.counted_necklace, Steps.next_of}
use Rattle.ring_laws.proofs.Run.{Pre, Run, pre-shorter, lyn-through}
use Rattle.ring_laws.proofs.{Raise.raise-lyn, Words.pre-of, Lyndon.run-prenecklace, Lyndon.run-lyn, FullWalk.next-facts}
use Rattle.shades_next_inner.specs.{declared.Sought.Sought, Runs.Repeatable, Runs.Repeats, Above.Finds, Raised.raised_to}
use Rattle.classify_inner.specs.Beginning.{LongestPrenecklace}
use Rattle.shades_raise_inner.specs.Places.{CountedRing, Blocked, Begun, Headed, PlaceFound}
use Rattle.shades_raise_inner.specs.Ready.{Ready, Opening}
use Rattle.shades_next_inner.proofs.Stepping.{Step, step-none, step-found, step-on, Further, further-right, Lifts, raise-step, Settles, settles-keeps, settles-rises, settle_step}
use Rattle.shades_next_inner.proofs.Raised.{raised-few, raised-none, raised-more, raised-settled, raised-from}

-- ---- a new ring in the first n sectors

-- an array whose first n sectors are t
record Holds (t : List ℕ) (n : ℕ) (next : List ℕ) : Type 0 where
  size : length next ≡ 64
  front : take n next ≡ t

-- t in front of what stood behind the first n sectors
holds : (t : List ℕ) (n : ℕ) (ring : List ℕ) → length t ≡ n → n ≤ 64 → length ring ≡ 64 → Holds t n (t ++ drop n ring)
holds t n ring e h size = record { size = omega (arith, length-append t (drop n ring), length-drop n ring); front = take_at t (drop n ring) n e }

-- a step leaves a prenecklace in the array
step-opening : (cs : List ℕ) (n k : ℕ) (w t next : List ℕ) → Ready w n k cs → Step cs n k (take n w) t → take n next ≡ t → Opening next n k cs
step-opening cs n k w t next ready step e = record {
  ready = record { pos = ready.pos; size = ready.size; shades = ready.shades; many = ready.many; whole = ready.whole; reading = rw e step.reading };
  pre = rw e step.pre;
}

-- what is repeated is a Lyndon word
pub headed : (w : List ℕ) (n p : ℕ) → n ≤ length w → Run (sec (take n w)) (length (take n w)) p → Headed w n p
headed w n p room r = record { some = λ h. r.pos; lyn = λ h. lyn-through (sec (take n w)) (sec w) p (λ m q. get_or-take n w m 0 (omega (arith, r.fits, length-take-le n w room))) r.lyn }

-- ---- the loop of `seek`

-- the place, counted from 1, that was raised last, or 0 where none was: what stands up to there is repeated, so it is the lyn
unfoldable pub last_raised : ℕ → List ℕ → List ℕ → ℕ
last_raised n start ring = elim (same (take n start) (take n ring)) [ true ↦ 0 | false ↦ lyn (take n ring) ]

-- none was
pub last_none : (n : ℕ) (start : List ℕ) → last_raised n start start ≡ 0
unfolding last_raised
last_none n start = rw (same_refl (take n start), last_raised)

-- one was
last_some : (n : ℕ) (start ring : List ℕ) (i : ℕ) → before (take n start) (take n ring) ≡ true → Run (sec (take n ring)) (length (take n ring)) i → last_raised n start ring ≡ i
unfolding last_raised
last_some n start ring i up r =
    rw (
      same_false (take n start) (take n ring) (λ e. clash (before (take n start) (take n ring)) up (subst (λ x. before (take n start) x ≡ false) e (before-irrefl (take n start)))),
      last_raised,
    ) (run-lyn (take n ring) i r)

-- the next ring above `ring` is that above `start`; p is the place, counted from 1, that was raised last, or 0
pub record Standing (cs : List ℕ) (n k : ℕ) (start ring : List ℕ) (p : ℕ) : Type 0 where
  pub size : length ring ≡ 64
  pub opening : Opening ring n k cs
  pub next : next_of (counted_necklace cs) k (take n ring) ≡ next_of (counted_necklace cs) k (take n start)
  pub begun : length (take n start) ≡ n
  pub reached : up_to (take n start) (take n ring) ≡ true
  pub within : p ≤ n
  pub fresh : p ≡ 0 → take n start ≡ take n ring
  pub further : 0 < p → Further cs n k (take n ring) p

pub seek-start : {cs : List ℕ} {n k : ℕ} {start : List ℕ} → length start ≡ 64 → Opening start n k cs → Standing cs n k start start (last_raised n start start)
seek-start {n = n} {start = start} size p =
    record {
      size = size;
      opening = p;
      next = refl;
      begun = p.ready.reading.long;
      reached = up_to-refl (take n start);
      within = omega (arith, last_none n start);
      fresh = λ h. refl;
      further = λ h. absurd (omega (arith, last_none n start));
    }

-- a place was raised, and what stands before it repeated: next is then the ring, and q places were raised before
pub record Rounded (cs : List ℕ) (n k : ℕ) (start : List ℕ) (p i q : ℕ) (next : List ℕ) : Type 0 where
  pub size : length next ≡ 64
  pub run : Run (sec (take n next)) (length (take n next)) i
  pub falls : n - last_raised n start next < n - p
  pub few : q ≤ n
  pub counts : q + 1 ≡ raised_to (take n start) (take n next)
  pub found : true ≡ counted_necklace cs (take n next) → Finds start n k cs (record { some = true; ring = next; raised = q + 1 })
  pub on : false ≡ counted_necklace cs (take n next) → Standing cs n k start next (last_raised n start next)

module _ {cs : List ℕ} {n k : ℕ} {start ring : List ℕ} {p : ℕ} (at : Standing cs n k start ring p) {i b : ℕ} (found : PlaceFound ring n k cs (record { end = i; shade = b })) where
  long : length (take n ring) ≡ n
  long = at.opening.ready.reading.long

  -- the sectors of the ring, and of its first n
  same-sector : (m : ℕ) → m < n → sec (take n ring) m ≡ sec ring m
  same-sector m h = get_or-take n ring m 0 h

  -- what is blocked of the array is blocked of its first n sectors
  still-blocked : (x c : ℕ) → x < n → Blocked cs n k ring x c → Blocked cs n k (take n ring) x c
  still-blocked x c h blocked v r agree = blocked v r (λ m q. agree m q ∙ same-sector m (omega arith))

  -- where no place can be raised there is no ring above
  no-ring : i ≡ 0 → (u : List ℕ) → CountedRing cs n k u → before (take n ring) u ≡ true → ⊥
  no-ring z u r up =
      let d = rw r.reading.long at (before-less (take n ring) u (long ∙ sym r.reading.long) up) in
      found.blocked d.at (sec u d.at) (omega arith) d.bound (omega (arith, d.less, same-sector d.at d.bound)) (r.reading.shades d.at d.bound) u r
      (λ m q. sym (d.agree m q) ∙ same-sector m (omega (arith, d.bound))) refl

  -- where a place was raised before, this one lies further right
  beyond : 0 < p → p < i
  beyond h = further-right cs n k (take n ring) p i long (at.further h) (λ l c y q r x. still-blocked l c q (found.blocked l c y q (omega (arith, r, same-sector l q)) x))

  -- where no place can be raised none was before
  unraised : i ≡ 0 → raised_to (take n start) (take n ring) ≡ 0
  unraised z = raised-none (take n start) (take n ring) (at.fresh (elim (tri p 0) [ lt h ↦ absurd (omega arith) | eq h ↦ h | gt h ↦ absurd (omega (arith, beyond h)) ]))

  -- no place can be raised; q were
  pub seek-none : i ≡ 0 → {q : ℕ} → q ≡ raised_to (take n start) (take n ring) → Finds start n k cs (record { some = false; ring = ring; raised = q })
  seek-none z counted = record {
    ring = λ e. absurd (true≢false (sym e));
    raised = λ e. absurd (true≢false (sym e));
    done = λ e. sym at.next ∙ step-none cs n k (take n ring) long (no-ring z);
    unraised = λ e. counted ∙ unraised z;
  }

  -- no more were raised than there are sectors
  seek-few : (q : ℕ) → q ≡ raised_to (take n start) (take n ring) → q ≤ n
  seek-few q counted = omega (arith, raised-few (take n start) (take n ring), long)

  module _ (z : i ≡ 0 → ⊥) where
    -- the place lies further right than that before
    pub seek-right : p < i
    seek-right = elim (tri p 0) [ lt h ↦ absurd (omega arith) | eq h ↦ omega arith | gt h ↦ beyond h ]

    inside : i - 1 < n
    inside = omega (arith, found.within)

    room : i - 1 < length ring
    room = omega (arith, inside, at.size, at.opening.ready.size)

    -- the first n sectors with the place raised
    lifted-low : (m : ℕ) → m < i - 1 → sec (take n (set ring (i - 1) b)) m ≡ sec (take n ring) m
    lifted-low m h = get_or-take n (set ring (i - 1) b) m 0 (omega (arith, inside)) ∙ get_or-set_other ring (i - 1) m b 0 (λ e. omega arith) ∙ sym (same-sector m (omega (arith, inside)))

    lifted-here : sec (take n (set ring (i - 1) b)) (i - 1) ≡ b
    lifted-here = get_or-take n (set ring (i - 1) b) (i - 1) 0 inside ∙ get_or-set_same ring (i - 1) b 0 room

    rises : sec (take n ring) (i - 1) < b
    rises = omega (arith, found.above (omega arith), same-sector (i - 1) inside)

    lifted-long : length (take n (set ring (i - 1) b)) ≡ n
    lifted-long = length-take-le n (set ring (i - 1) b) (omega (arith, length-set ring (i - 1) b, at.size, at.opening.ready.size))

    -- the sectors up to the place are a prenecklace
    opening-pre : Pre (sec (take n ring)) (suc (i - 1))
    opening-pre = pre-shorter (sec (take n ring)) n (suc (i - 1)) (omega (arith, inside)) (rw long at (pre-of (take n ring) at.opening.pre))

    -- what repeating asks
    pub seek-asks : Repeatable (take n (set ring (i - 1) b)) i
    seek-asks = record {
      pos = omega arith;
      fits = omega (arith, lifted-long, found.within);
      lyn =
          let e : suc (i - 1) ≡ i = omega arith in
          rw e at (raise-lyn (sec (take n ring)) (sec (take n (set ring (i - 1) b))) (i - 1) opening-pre (λ m h. sym (lifted-low m h)) (omega (arith, rises, lifted-here)));
    }

    module _ {t : List ℕ} (rep : Repeats i (take n (set ring (i - 1) b)) t) where
      whole : length t ≡ n
      whole = rep.long ∙ lifted-long

      lifts : Lifts n k (take n ring) t (i - 1) b
      lifts = record {
        long = whole;
        inside = inside;
        run = let e : i ≡ suc (i - 1) = omega arith in rw (whole, e) at rep.run;
        keeps = λ m h. rep.keeps m (omega arith) ∙ lifted-low m h;
        here = rep.keeps (i - 1) (omega arith) ∙ lifted-here;
        rises = rises;
        known = found.known (omega arith);
      }

      step : Step cs n k (take n ring) t
      step =
          raise-step cs n k (take n ring) t (i - 1) b at.opening.ready.reading lifts
          (λ x c h q r y. still-blocked x c q (found.blocked x c (omega arith) q (omega (arith, r, same-sector x q)) y))
          (λ c h q. still-blocked (i - 1) c inside (found.between c (omega arith) (omega (arith, h, same-sector (i - 1) inside)) q))

      next-holds : Holds t n (t ++ drop n (set ring (i - 1) b))
      next-holds = holds t n (set ring (i - 1) b) whole at.opening.ready.size (length-set ring (i - 1) b ∙ at.size)

      -- the array keeps its length
      seek-size : length (t ++ drop n (set ring (i - 1) b)) ≡ 64
      seek-size = next-holds.size

      -- what the test of the new ring asks
      seek-run : Run (sec (take n (t ++ drop n (set ring (i - 1) b)))) (length (take n (t ++ drop n (set ring (i - 1) b)))) i
      seek-run = rw next-holds.front rep.run

      risen : before (take n start) (take n (t ++ drop n (set ring (i - 1) b))) ≡ true
      risen = rw next-holds.front (up_to-before-trans (take n start) (take n ring) t at.reached step.above)

      -- the place that was raised last is now this one
      seek-last : last_raised n start (t ++ drop n (set ring (i - 1) b)) ≡ i
      seek-last = last_some n start (t ++ drop n (set ring (i - 1) b)) i risen seek-run

      -- fewer places are left behind it
      pub seek-falls : n - last_raised n start (t ++ drop n (set ring (i - 1) b)) < n - p
      seek-falls = omega (arith, seek-last, seek-right, found.within)

      -- one place more was raised
      pub seek-counts : (q : ℕ) → q ≡ raised_to (take n start) (take n ring) → q + 1 ≡ raised_to (take n start) (take n (t ++ drop n (set ring (i - 1) b)))
      seek-counts q counted = rw next-holds.front (omega (arith, more))
        where
          more : raised_to (take n start) t ≡ suc (raised_to (take n start) (take n ring))
          more =
              raised-more (take n start) (take n ring) t (i - 1) p (long ∙ sym whole) (at.begun ∙ sym whole) at.reached
              (omega (arith, inside, whole)) (subst (λ (x : ℕ). Run (sec t) x (suc (i - 1))) (sym whole) lifts.run) lifts.keeps
              (omega (arith, lifts.here, rises)) at.fresh (λ h. subst (λ (x : ℕ). Run (sec (take n ring)) x p) (sym long) (at.further h).run) (omega (arith, seek-right))

      -- it is a ring of the counts
      seek_found : true ≡ counted_necklace cs (take n (t ++ drop n (set ring (i - 1) b))) → (q : ℕ) → q ≡ raised_to (take n start) (take n ring) →
          Finds start n k cs (record { some = true; ring = t ++ drop n (set ring (i - 1) b); raised = q + 1 })
      seek_found h q counted = record {
        ring = λ e. rw next-holds.front (sym at.next ∙ step-found cs n k (take n ring) long t step (sym (rw next-holds.front at h)));
        raised = λ e. seek-counts q counted;
        done = λ e. absurd (true≢false e);
        unraised = λ e. absurd (true≢false e);
      }

      -- it is none
      seek-on : false ≡ counted_necklace cs (take n (t ++ drop n (set ring (i - 1) b))) →
          Standing cs n k start (t ++ drop n (set ring (i - 1) b)) (last_raised n start (t ++ drop n (set ring (i - 1) b)))
      seek-on h = rw seek-last (record {
        size = next-holds.size;
        opening = step-opening cs n k ring t (t ++ drop n (set ring (i - 1) b)) at.opening.ready step next-holds.front;
        next = rw next-holds.front (sym (step-on cs n k (take n ring) long t step (sym (rw next-holds.front at h))) ∙ at.next);
        further =
            λ y. rw next-holds.front (record { run = rw whole at rep.run; other = sym (rw next-holds.front at h); ring = other-ring.ring; known = other-ring.known; agree = as-begun });
        reached = before-up_to (take n start) (take n (t ++ drop n (set ring (i - 1) b))) risen;
        within = found.within;
        begun = at.begun;
        fresh = λ y. absurd (omega arith);
      })
        where
          other-ring : Begun cs n k ring (i - 1) b
          other-ring = found.begun (omega arith)

          as-begun : (m : ℕ) → m < i → sec other-ring.ring m ≡ sec t m
          as-begun m q =
              elim (tri m (i - 1)) [
                | lt e ↦ other-ring.agree m e ∙ sym (same-sector m (omega (arith, inside))) ∙ sym (lifts.keeps m e)
                | eq e ↦ ap (sec other-ring.ring) e ∙ other-ring.here ∙ sym lifts.here ∙ ap (sec t) (sym e)
                | gt e ↦ absurd (omega arith)
              ]

      pub rounded : {q : ℕ} → q ≡ raised_to (take n start) (take n ring) → Rounded cs n k start p i q (t ++ drop n (set ring (i - 1) b))
      rounded {q = q} counted =
          record {
            size = seek-size;
            run = seek-run;
            falls = seek-falls;
            few = seek-few q counted;
            counts = seek-counts q counted;
            found = λ h. seek_found h q counted;
            on = seek-on;
          }

-- ---- how many places are raised

-- at most n, whatever the answer
pub answers-soon : (w : List ℕ) (n k : ℕ) (cs : List ℕ) (r : Sought) → Finds w n k cs r → r.raised ≤ n
answers-soon w n k cs r a =
    elim (test r.some) [
      | passes e ↦ omega (arith, a.raised e, raised-few (take n w) (take n r.ring), length-take n r.ring)
      | fails e ↦ omega (arith, a.unraised e)
    ]

-- ---- where the search starts

module _ {cs : List ℕ} {n k : ℕ} {start : List ℕ} (size : length start ≡ 64) (ready : Ready start n k cs) {e p : ℕ} (opened : LongestPrenecklace (take n start) (record { end = e; lyn = p })) where
  start-long : length (take n start) ≡ n
  start-long = ready.reading.long

  -- the reading is a prenecklace
  pub above-opening : e ≡ n → Opening start n k cs × Headed start n p
  above-opening h = (record { ready = ready; pre = run-prenecklace (take n start) p run }, headed start n p (omega (arith, ready.size, size)) run)
    where
      run : Run (sec (take n start)) (length (take n start)) p
      run = let q : e ≡ length (take n start) = h ∙ sym start-long in rw q at opened.run

  -- what repeating its longest beginning that is one asks
  pub above-asks : Repeatable (take n start) p
  above-asks = record { pos = opened.run.pos; fits = omega (arith, opened.run.fits, opened.within); lyn = opened.run.lyn }

  module _ (other : e ≡ n → ⊥) {t : List ℕ} (rep : Repeats p (take n start) t) where
    settled-long : length t ≡ n
    settled-long = rep.long ∙ start-long

    settles : Settles n (take n start) t e p
    settles = record {
      long = settled-long;
      inside = omega (arith, opened.within, start-long);
      opening = opened.run;
      breaks = opened.breaks (omega (arith, opened.within, start-long));
      run = rw settled-long at rep.run;
      keeps = rep.keeps;
    }

    settled : Step cs n k (take n start) t
    settled = settle_step n (take n start) t e p settles cs k ready.reading

    settled-holds : Holds t n (t ++ drop n start)
    settled-holds = holds t n start settled-long ready.size size

    -- the array keeps its length
    pub above-size : length (t ++ drop n start) ≡ 64
    above-size = settled-holds.size

    -- what the test of the new ring asks
    pub above-run : Run (sec (take n (t ++ drop n start))) (length (take n (t ++ drop n start))) p
    above-run = rw settled-holds.front rep.run

    -- no place was raised
    settled-unraised : raised_to (take n start) t ≡ 0
    settled-unraised =
        raised-settled (take n start) t e p (settled-long ∙ sym start-long) rep.run settles.opening.fits
        (omega (arith, settled-long, settles.inside)) (settles-keeps n (take n start) t e p settles)

    -- and none more on the way to a greater ring
    settled-counts : (u : List ℕ) → next_of (counted_necklace cs) k t ≡ some u → raised_to t u ≡ raised_to (take n start) u
    settled-counts u q =
        let f = next-facts (counted_necklace cs) k t u q in
        sym (raised-from (take n start) t e p (settled-long ∙ sym start-long) rep.run
        settles.opening.fits (omega (arith, settled-long, settles.inside)) (settles-keeps n (take n start) t e p settles)
        u f.0.long (before-up_to t u f.1) (settles-rises n (take n start) t e p settles))

    -- it is a ring of the counts
    pub above-found : true ≡ counted_necklace cs (take n (t ++ drop n start)) → Finds start n k cs (record { some = true; ring = t ++ drop n start; raised = 0 })
    above-found h = record {
      ring = λ e. rw settled-holds.front (step-found cs n k (take n start) start-long t settled (sym (rw settled-holds.front at h)));
      raised = λ e. rw settled-holds.front (sym settled-unraised);
      done = λ e. absurd (true≢false e);
      unraised = λ e. absurd (true≢false e);
    }

    -- it is none
    module _ (h : false ≡ counted_necklace cs (take n (t ++ drop n start))) where
      pub above_on : Opening (t ++ drop n start) n k cs × Headed (t ++ drop n start) n p
      above_on = (step-opening cs n k start t (t ++ drop n start) ready settled settled-holds.front, headed (t ++ drop n start) n p (omega (arith, above-size, ready.size)) above-run)

      pub above-answers : {r : Sought} → Finds (t ++ drop n start) n k cs r → Finds start n k cs r
      above-answers {r = r} a = record {
        ring = λ q. on ∙ a.ring q;
        raised = λ q. rw settled-holds.front at (a.raised q) ∙ settled-counts (take n r.ring) (rw settled-holds.front at (a.ring q));
        done = λ q. on ∙ a.done q;
        unraised = a.unraised;
      }
        where
          on : next_of (counted_necklace cs) k (take n start) ≡ next_of (counted_necklace cs) k (take n (t ++ drop n start))
          on = rw settled-holds.front (step-on cs n k (take n start) start-long t settled (sym (rw settled-holds.front at h)))
