-- The loop of `choose`. The walk has come to a ring, and the choice from the Lyndon words above it, from those taken so far on, is the set.
--     Along rule n k d want w p q t    that invariant: the walk w, the places p, their tallies q and the number taken t
--     started, along-start          the walk starts from the all-zero ring, which is taken where n is 1 and the rule is that of 02, 'g', and then its tally is one of shade 0
--     Turned, turned                a step to a next Lyndon word, which is offered; fewer readings are above
--     along-ended                   there is none: not full
--     along-full                    there are enough
use Rattle.std.specs.Prelude.{Result, Ok, Err}
use Rattle.words.proofs.Plain.{ℕ, zero, suc, ◌-◌, ◌<◌, ◌≤◌, arith, ◌≡◌, refl, sym, ap, subst, ◌∙◌, true, false, none, some, List, [], ◌∷◌, eqb, length}
use Rattle.words.proofs.Plain.{get_or, take, length-append, length-set, ext_get_or, get_or-take, length-take-le, lt-ltb, eq-eqb, ne_eqb}
use Rattle.walk_spec.proofs.Unique.{one-start}
use Rattle.words.specs.{Order.before, Search.tab}
use Rattle.words.specs.Readings.{Sized, Reading, readings, count}
use Rattle.words.proofs.Split.{passes, fails, test, lt, eq, gt, tri}
use Rattle.rings.specs.{Necklace.lyndon, Prenecklace.prenecklace, Open.open-all, Steps.next_of, Counts.occurs, Counts.counts_of}
use Rattle.ring_laws.proofs.{Classes.lyndon-necklace, Words.necklace-prenecklace}
use Rattle.ring_laws.proofs.FullWalk.{next-facts, fewer-above, zeros, length-zeros, zeros-at, zeros-reading, zeros-prenecklace}
use Rattle.refusal.specs.{declared.Refusal.Refusal, Order.Passed}
use Rattle.refusal.proofs.Unique.{never_both}
use Rattle.walk_spec.specs.{declared.Walk.Walk, declared.Started.Started, declared.Outcome.Outcome}
use Rattle.walk_spec.specs.declared.Outcome.TheVariants.{Moved, Done}
use Rattle.walk_spec.specs.Record.{ring_of, walk_of, walk_asked}
use Rattle.walk_spec.specs.Says.{StartSays, StepSays, Onto, Ended}
use Rattle.walk_record_laws.proofs.Good.{ring_of_lem, walk-good}
use Rattle.walk_laws.proofs.OneRing.{handed_out}
use Rattle.set_spec.specs.Greedy.{greedy_by, far_from, clear, lyndons, picked}
use Rattle.set_spec.specs.Places.{laid}
use Rattle.set_pick_spec.specs.{Order.Askable, Says.SetChosen}
use Rattle.guard_spec.specs.{declared.Rule.Rule, declared.Rule.TheVariants.Plain, declared.Rule.TheVariants.Guarded}
use Rattle.guard_spec.specs.Choice.{joins, guarded, may_join, chosen_by}
use Rattle.set_words_inner.specs.Says.{zero_taken}
use Rattle.set_clear_inner.specs.Says.{tally_at, HoldsSet, Comparable}
use Rattle.set_places_inner.specs.Says.{OfferSays}
use Rattle.set_laws.proofs.Kept.{rest, rest-step, rest_end, lyndons-one, lyndons-more}
use Rattle.set_laws.proofs.Choice.{greedy-take, greedy-skip, greedy-none, greedy-enough, offered_by, offered-most, greedy-offer}
use Rattle.set_laws.proofs.{Worth.nothing-near, Places.laid-length, Places.laid-zeros}

-- ---- the invariant

pub record Along (rule : Rule) (n k d want : ℕ) (w : Walk) (p q : List ℕ) (t : ℕ) : Type 0 where
  pub last : List ℕ
  pub set : List (List ℕ)
  pub walk : w ≡ walk_of k last
  pub reading : Reading n k last
  pub pre : prenecklace last ≡ true
  pub holds : HoldsSet n k set p q t
  pub within : t ≤ want
  pub rests : greedy_by (may_join rule d) (want - length set) set (rest k last) ≡ chosen_by rule n k d want

-- ---- the start

pub zeros-part : (n m : ℕ) → n ≤ m → take n (zeros m) ≡ zeros n
zeros-part n m h =
    let e : length (take n (zeros m)) ≡ n = length-take-le n (zeros m) (omega (arith, length-zeros m)) in
    ext_get_or 0 (take n (zeros m)) (zeros n) (e ∙ sym (length-zeros n)) (λ i b. get_or-take n (zeros m) i 0 (rw e at b) ∙ zeros-at m i ∙ sym (zeros-at n i))

-- whatever a start from the all-zero ring answers, it hands out that ring's record
pub started : {n k d want : ℕ} → Askable n k d want → {v : List ℕ} (w : Walk) (a : Result Unit Refusal) → v ≡ zeros n → StartSays v k w a → w ≡ walk_of k (zeros n)
started {n = n} {k = k} ask w a e p =
    let o = handed_out n k (omega (arith, ask.numbers.sized)) ask.numbers.shaded in
    let q : StartSays (zeros n) k w a = rw e at p in
    ap (λ (x : Started). x.walk) (one-start (zeros n) k w o.first a (Ok tt) q o.started) ∙ o.started.1

-- at most one ring is taken at the start
pub taken-few : (rule : Rule) (n t : ℕ) → t ≡ zero_taken rule n → t ≤ 1
taken-few Plain n t e = elim (test (eqb n 1)) [ passes q ↦ omega (arith, rw q at e) | fails q ↦ omega (arith, rw q at e) ]
taken-few Guarded n t e = omega arith

-- the tally of the one sector 0
one-zero : tally_at (lib.ListN.set (zeros 512) 0 1) 0 ≡ counts_of 16 (zeros 1)
unfolding counts_of tab occurs
one-zero = refl

-- the one sector 0 joins no guarded set
zero-kept-out : (d : ℕ) → 1 ≤ d → joins d [] (zeros 1) ≡ false
unfolding joins clear far_from open-all
zero-kept-out d h = rw (lt-ltb 0 d h) refl

-- the set is chosen from the Lyndon words
chosen-from : (rule : Rule) (n k d want : ℕ) → chosen_by rule n k d want ≡ greedy_by (may_join rule d) want [] (lyndons n k)
unfolding picked guarded
chosen-from Plain n k d want = refl
chosen-from Guarded n k d want = refl

module _ {n k d want : ℕ} {w : Walk} (t : ℕ) (ask : Askable n k d want) (e : w ≡ walk_of k (zeros n)) where
  -- none is taken, and all that may join stand above the all-zero ring
  none-taken : (rule : Rule) → t ≡ 0 → greedy_by (may_join rule d) want [] (lyndons n k) ≡ greedy_by (may_join rule d) want [] (rest k (zeros n)) → Along
      rule n k d want w (zeros 768) (lib.ListN.set (zeros 512) 0 t) t
  none-taken rule g f =
      record {
        last = zeros n;
        set = [];
        walk = e;
        reading = zeros-reading n k (omega (arith, ask.numbers.shaded));
        pre = zeros-prenecklace n;
        holds = record {
          places = laid-zeros [] (λ j y. refl);
          number = g;
          each = λ j b. absurd (omega arith);
          room = length-set (zeros 512) 0 t ∙ length-zeros 512;
          tallies = λ j b. absurd (omega arith);
        };
        within = omega arith;
        rests = ap (λ (x : ℕ). greedy_by (may_join rule d) x [] (rest k (zeros n))) zero-less ∙ sym f ∙ sym (chosen-from rule n k d want);
      }
    where
      zero-less : want - 0 ≡ want
      zero-less = omega arith

  -- the one sector 0 is taken
  one-taken : n ≡ 1 → t ≡ 1 → Along Plain n k d want w (zeros 768) (lib.ListN.set (zeros 512) 0 t) t
  one-taken q g =
      record {
        last = zeros n;
        set = zeros 1 ∷ [];
        walk = e;
        reading = zeros-reading n k (omega (arith, ask.numbers.shaded));
        pre = zeros-prenecklace n;
        holds = record {
          places = laid-zeros (zeros 1 ∷ []) blank;
          number = g;
          each = λ j b. let z : j ≡ 0 = omega arith in rw (z, q) (zeros-reading 1 k (omega (arith, ask.numbers.shaded)));
          room = length-set (zeros 512) 0 t ∙ length-zeros 512;
          tallies = λ j b. let z : j ≡ 0 = omega arith in rw (z, g) one-zero;
        };
        within = omega (arith, ask.settable);
        rests =
            sym (chosen-from Plain n k d want ∙ rw q (ap (greedy_by (clear d) want []) (lyndons-one k (omega (arith, ask.numbers.shaded))) ∙ ap
            (λ (x : ℕ). greedy_by (clear d) x [] (zeros 1 ∷ rest k (zeros 1))) more-one ∙ first-clear));
      }
    where
      blank : (j y : ℕ) → get_or (get_or (zeros 1 ∷ []) j []) y 0 ≡ 0
      blank zero y = zeros-at 1 y
      blank (suc j) y = refl

      more-one : want ≡ suc (want - 1)
      more-one = omega (arith, ask.settable)

      first-clear : greedy_by (clear d) (suc (want - 1)) [] (zeros 1 ∷ rest k (zeros 1)) ≡ greedy_by (clear d) (want - 1) (zeros 1 ∷ []) (rest k (zeros 1))
      first-clear = greedy-take (clear d) (want - 1) [] (rest k (zeros 1)) (zeros 1) (nothing-near d (zeros 1))

  -- the one sector 0 is offered to a guarded set, and left out
  one_left : n ≡ 1 → greedy_by (joins d) want [] (lyndons n k) ≡ greedy_by (joins d) want [] (rest k (zeros n))
  one_left q =
      rw q (ap (greedy_by (joins d) want []) (lyndons-one k (omega (arith, ask.numbers.shaded))) ∙ ap (λ (x : ℕ). greedy_by (joins d) x [] (zeros 1 ∷ rest k (zeros 1))) more-one
      ∙ greedy-skip (joins d) (want - 1) [] (rest k (zeros 1)) (zeros 1) (zero-kept-out d (omega (arith, ask.settable))) ∙ ap (λ (x : ℕ). greedy_by (joins d) x [] (rest k (zeros 1))) (sym more-one))
    where
      more-one : want ≡ suc (want - 1)
      more-one = omega (arith, ask.settable)

  -- where there are more sectors the all-zero ring is no Lyndon word
  two-start : (rule : Rule) → 1 < n → t ≡ 0 → Along rule n k d want w (zeros 768) (lib.ListN.set (zeros 512) 0 t) t
  two-start rule q g = none-taken rule g (ap (greedy_by (may_join rule d) want []) (lyndons-more n k (omega arith)))

  pub along-start : (rule : Rule) → t ≡ zero_taken rule n → Along rule n k d want w (zeros 768) (lib.ListN.set (zeros 512) 0 t) t
  along-start Plain f =
      elim (tri n 1) [ lt q ↦ absurd (omega (arith, ask.numbers.sized)) | eq q ↦ one-taken q (rw (eq-eqb n 1 q) at f) | gt q ↦ two-start Plain q (rw (ne_eqb n 1 (λ z. omega arith)) at f) ]
  along-start Guarded f =
      elim (tri n 1) [ lt q ↦ absurd (omega (arith, ask.numbers.sized)) | eq q ↦ none-taken Guarded f (one_left q) | gt q ↦ two-start Guarded q f ]

-- ---- a turn

record Came (k : ℕ) (u : List ℕ) (w' : Walk) : Type 0 where
  pub ring : List ℕ
  pub next : next_of lyndon k u ≡ some ring
  pub handed : w' ≡ walk_of k ring

-- what is known behind a step to the record w', before and after its ring is offered
pub record Turned (rule : Rule) (n k d want : ℕ) (w : Walk) (p q : List ℕ) (t : ℕ) (w' : Walk) : Type 0 where
  pub places : length p ≡ 768
  pub tallies : length q ≡ 512
  pub size : n ≤ length w'.ring
  pub asked : Comparable p q t (take n w'.ring) w'.counts k × (t < 32)
  pub less : count (before (ring_of w')) (readings n k) < count (before (ring_of w)) (readings n k)
  pub on : (r : ℕ) (p' q' : List ℕ) → OfferSays rule k d p q t (take n w'.ring) r p' q' → Along rule n k d want w' p' q' r

module _ {rule : Rule} {n k d want : ℕ} (ask : Askable n k d want) {w : Walk} {p q : List ℕ} {t : ℕ} (a : Along rule n k d want w p q t) where
  sized : Sized n
  sized = omega (arith, ask.numbers.sized)

  came : {w' : Walk} {m : ℕ} → StepSays lyndon w w' (Ok (Moved m)) → Came k a.last w'
  came {w' = w'} {m = m} s = let o : Onto lyndon (walk_of k a.last) w' m = rw a.walk at s in record { ring = o.to; next = rw (ring_of_lem k a.last) at o.next; handed = o.handed }

  good : Passed (walk_asked w)
  good = rw a.walk (walk-good n k a.last sized ask.numbers.shaded a.reading a.pre)

  stops : (w' : Walk) (o : Result Outcome Refusal) → ((m : ℕ) → o ≡ Ok (Moved m) → ⊥) → StepSays lyndon w w' o → next_of lyndon k a.last ≡ none
  stops w' (Ok (Moved m)) t s = absurd (t m refl)
  stops w' (Ok (Done m)) t s = let o : Ended lyndon (walk_of k a.last) w' m = rw a.walk at s in rw (ring_of_lem k a.last) at o.next
  stops w' (Err r) t s = absurd (never_both (walk_asked w) r s.0 good)

  -- none is left
  pub along-ended : (w' : Walk) (o : Result Outcome Refusal) → ((m : ℕ) → o ≡ Ok (Moved m) → ⊥) → StepSays lyndon w w' o → t < want → SetChosen n k d want (chosen_by rule n k d want) p t false
  along-ended w' o b s h =
      let e = stops w' o b s in
      let f : a.set ≡ chosen_by rule n k d want = sym (greedy-none (may_join rule d) (want - length a.set) a.set) ∙ ap
      (greedy_by (may_join rule d) (want - length a.set) a.set) (sym (rest_end k a.last e)) ∙ a.rests in
      record {
        asked = ask;
        places = a.holds.places ∙ ap laid f;
        number = a.holds.number ∙ ap length f;
        full = sym (ne_eqb (length (chosen_by rule n k d want)) want (λ z. omega (arith, z, a.holds.number, ap length f)));
      }

  -- there are enough
  pub along-full : want ≤ t → SetChosen n k d want (chosen_by rule n k d want) p t true
  along-full h =
      let f : a.set ≡ chosen_by rule n k d want = sym (greedy-enough (may_join rule d) (want - length a.set) a.set (rest k a.last) (omega (arith, a.holds.number))) ∙ a.rests in
      record {
        asked = ask;
        places = a.holds.places ∙ ap laid f;
        number = a.holds.number ∙ ap length f;
        full = sym (eq-eqb (length (chosen_by rule n k d want)) want (omega (arith, a.within, a.holds.number, ap length f)));
      }

  module _ {w' : Walk} (c : Came k a.last w') where
    came-reading : Reading n k c.ring
    came-reading = subst (λ x. Reading x k c.ring) a.reading.long (next-facts lyndon k a.last c.ring c.next).0

    came-ring : take n w'.ring ≡ c.ring
    came-ring = rw (c.handed, ← came-reading.long) (ring_of_lem k c.ring)

    came-size : n ≤ length w'.ring
    came-size = rw c.handed (omega (arith, length-append c.ring (zeros (64 - length c.ring)), came-reading.long))

    -- the record has the ring and its shade counts
    came-asked : t < want → Comparable p q t (take n w'.ring) w'.counts k × (t < 32)
    came-asked h =
        rw (came-ring) (
          record {
            fit = rw came-reading.long (record { some = ask.numbers.sized.0; short = ask.short; shaded = ask.numbers.shaded });
            reading = rw came-reading.long came-reading;
            counts = ap (λ (x : Walk). x.counts) c.handed;
            stock = rw came-reading.long (record { set = a.set; holds = a.holds });
            most = omega (arith, ask.settable);
          },
          omega (arith, ask.settable),
        )

    -- fewer readings are above
    along-less : count (before (ring_of w')) (readings n k) < count (before (ring_of w)) (readings n k)
    along-less =
        rw (c.handed, a.walk, ring_of_lem k c.ring, ring_of_lem k a.last) (fewer-above n k a.last c.ring came-reading (next-facts lyndon k a.last c.ring c.next).1)

    along-on : {r : ℕ} {p' q' : List ℕ} → t < want → OfferSays rule k d p q t (take n w'.ring) r p' q' → Along rule n k d want w' p' q' r
    along-on {r = r} {p' = p'} {q' = q'} h o =
        let o' : OfferSays rule k d p q t c.ring r p' q' = rw came-ring at o in
        let now : HoldsSet n k (offered_by (may_join rule d) a.set c.ring) p' q' r = subst
        (λ x. HoldsSet x k a.set p q t → HoldsSet x k (offered_by (may_join rule d) a.set c.ring) p' q' r) came-reading.long
        (o' a.set) a.holds in
        record {
          last = c.ring;
          set = offered_by (may_join rule d) a.set c.ring;
          walk = c.handed;
          reading = came-reading;
          pre = necklace-prenecklace c.ring (lyndon-necklace c.ring (next-facts lyndon k a.last c.ring c.next).2);
          holds = now;
          within = omega (arith, now.number, offered-most (may_join rule d) a.set c.ring, a.holds.number);
          rests =
              sym (greedy-offer (may_join rule d) want a.set (rest k c.ring) c.ring (omega (arith, a.holds.number))) ∙ ap
              (greedy_by (may_join rule d) (want - length a.set) a.set) (sym (rest-step k a.last c.ring c.next)) ∙ a.rests;
        }

  -- a step that moved leads to a word that can be offered
  pub turned : {w' : Walk} {m : ℕ} → t < want → StepSays lyndon w w' (Ok (Moved m)) → Turned rule n k d want w p q t w'
  turned h s =
      let c = came s in
      record {
        places = rw a.holds.places (laid-length a.set);
        tallies = a.holds.room;
        size = came-size c;
        asked = came-asked c h;
        less = along-less c;
        on = λ r p' q' o. along-on c h o;
      }
