-- From a reading to a greater prenecklace with no ring of the counts between.
--     Step cs n k w v                   v is such a prenecklace, from w
--     step-found, step-on, step-none    it is the next ring; it is none, and the next ring above it is that above w; there is no ring above w
--     Further, further-right            some ring begins as w does up to a place; the place that is raised next lies further right
--     repeat-floor, repeat-shades       a prenecklace that begins like a repetition is not below it; the shades of a repetition
--     Lifts, raise-step                 a place is raised, and what stands before it is repeated
--     Settles, settles-within, settles-keeps, settles-rises, settle_step    the longest beginning that is a prenecklace is repeated
use Rattle.words.proofs.Plain.{ℕ, suc, ◌-◌, ◌%◌, ◌<◌, ◌≤◌, arith, ◌≡◌, refl, sym, ◌∙◌, subst, true, false, none, some, List, length, ext_get_or}
use native.Mathlib.Nat.{mod-lt}
use Rattle.words.specs.{Order.before, Order.up_to, Readings.Reading, Readings.readings}
use Rattle.words.proofs.Split.{lt, eq, gt, tri, both, both_left, both_right, agree, clash, refuted}
use Rattle.words.proofs.Sequence.{sec, Less, Cmp, below, alike, above, cmp, place, one_more, less-asym}
use Rattle.words.proofs.Lex.{Lex, ahead, equal, behind, lex, before-less, less-before, not-less-up_to, before-trans, up_to-not-before}
use Rattle.words.proofs.Readings.{all-weaken, readings-all, first-is, first-nothing, first_cong}
use Rattle.rings.specs.{Prenecklace.prenecklace, Counts.counted_necklace, Steps.above_of, Steps.next_of}
use Rattle.ring_laws.proofs.{Run.Pre, Run.Run, Repeat.run_rep, Raise.run-floor, Words.pre-of, Words.necklace-prenecklace}
use Rattle.ring_laws.proofs.Lyndon.{run-prenecklace}
use Rattle.shades_raise_inner.specs.Places.{CountedRing, Blocked}
use Rattle.shades_raise_inner.proofs.Blocking.{ring-necklace}

-- v is a prenecklace above w, and no ring of the counts lies between
pub record Step (cs : List ℕ) (n k : ℕ) (w v : List ℕ) : Type 0 where
  pub reading : Reading n k v
  pub pre : prenecklace v ≡ true
  pub above : before w v ≡ true
  pub least : (u : List ℕ) → CountedRing cs n k u → before w u ≡ true → up_to v u ≡ true

module _ (cs : List ℕ) (n k : ℕ) (w : List ℕ) (long : length w ≡ n) where
  -- what passes the test of the next ring
  passing : (w : List ℕ) (u : List ℕ) → Reading n k u → above_of (counted_necklace cs) w u ≡ true → CountedRing cs n k u × (before w u ≡ true)
  unfolding above_of
  passing w u r h = (record { reading = r; counted = both_right (before w u) (counted_necklace cs u) h }, both_left (before w u) (counted_necklace cs u) h)

  -- there is no ring above w
  pub step-none : ((u : List ℕ) → CountedRing cs n k u → before w u ≡ true → ⊥) → next_of (counted_necklace cs) k w ≡ none
  unfolding next_of
  step-none h =
      rw long
      (first-nothing n k (above_of (counted_necklace cs) w) (λ u r. refuted (above_of (counted_necklace cs) w u) (λ p. let (ring, up) = passing w u r p in h u ring up)))

  module _ (v : List ℕ) (step : Step cs n k w v) where
    -- it is the next ring
    pub step-found : counted_necklace cs v ≡ true → next_of (counted_necklace cs) k w ≡ some v
    unfolding next_of above_of
    step-found h =
        rw long
        (first-is n k (above_of (counted_necklace cs) w) v step.reading (both (before w v) (counted_necklace cs v) step.above h)
        (λ u r p. let (ring, up) = passing w u r p in step.least u ring up))

    -- it is none, and the next ring above it is that above w
    pub step-on : counted_necklace cs v ≡ false → next_of (counted_necklace cs) k w ≡ next_of (counted_necklace cs) k v
    unfolding next_of above_of
    step-on h =
        rw (long, step.reading.long)
        (first_cong (above_of (counted_necklace cs) w) (above_of (counted_necklace cs) v) (readings n k)
        (all-weaken (λ u r. agree (above_of (counted_necklace cs) w u) (above_of (counted_necklace cs) v u) (further u r) (nearer u)) (readings-all n k)))
      where
        further : (u : List ℕ) → Reading n k u → above_of (counted_necklace cs) w u ≡ true → above_of (counted_necklace cs) v u ≡ true
        further u r p = let (ring, up) = passing w u r p in both (before v u) (counted_necklace cs u) (beyond u ring (step.least u ring up) (lex v u)) ring.counted
          where
            beyond : (u : List ℕ) → CountedRing cs n k u → up_to v u ≡ true → Lex v u → before v u ≡ true
            beyond u ring low (ahead e) = e
            beyond u ring low (equal e) = clash (counted_necklace cs v) (rw (← e) at ring.counted) h
            beyond u ring low (behind e) = clash (before u v) e (up_to-not-before u v low)

        nearer : (u : List ℕ) → above_of (counted_necklace cs) v u ≡ true → above_of (counted_necklace cs) w u ≡ true
        nearer u p = both (before w u) (counted_necklace cs u) (before-trans w v u step.above (both_left (before v u) (counted_necklace cs u) p)) (both_right (before v u) (counted_necklace cs u) p)

-- ---- repetitions

-- a prenecklace that begins like a repetition is not below it
repeat-floor : (t v : ℕ → ℕ) (n p : ℕ) → Run t n p → Pre v n → ((m : ℕ) → m < p → v m ≡ t m) → Less v t n → ⊥
repeat-floor t v n p r pre same l =
    elim (tri l.at p) [
      | lt h ↦ omega (arith, l.less, same l.at h)
      | eq h ↦ run-floor t v n p r pre l (omega arith)
      | gt h ↦ run-floor t v n p r pre l (omega arith)
    ]

-- a repetition has the shades of what it repeats
repeat-shades : (t : ℕ → ℕ) (n p k : ℕ) → Run t n p → ((m : ℕ) → m < p → t m < k) → (m : ℕ) → m < n → t m < k
repeat-shades t n p k r low m h = rw (run_rep t n p r m h) (low (m % p) (mod-lt m r.pos))

-- a ring is a prenecklace
ring-pre : (cs : List ℕ) (n k : ℕ) (v : List ℕ) → CountedRing cs n k v → Pre (sec v) n
ring-pre cs n k v ring = rw ring.reading.long at (pre-of v (necklace-prenecklace v (ring-necklace cs n k v ring)))

module _ (cs : List ℕ) (n k p : ℕ) (w t : List ℕ) (long : length w ≡ n) (size : length t ≡ n) (run : Run (sec t) n p) (up : Less (sec w) (sec t) n) (shades : (m : ℕ) → m < p → sec t m < k) where
  -- a repetition above w, to which each ring that differs from w later than the repetition does is blocked or not below
  repeat-step : ((v : List ℕ) → (ring : CountedRing cs n k v) → (d : Less (sec w) (sec v) n) → up.at ≤ d.at → Less (sec v) (sec t) n → ⊥) → Step cs n k w t
  repeat-step later = record {
    reading = record { long = size; shades = repeat-shades (sec t) n p k run shades };
    pre = run-prenecklace t p (rw size run);
    above = less-before w t (long ∙ sym size) (rw size up);
    least = λ v ring h. not-less-up_to t v (size ∙ sym ring.reading.long) (λ l. below v ring (rw ring.reading.long at (before-less w v (long ∙ sym ring.reading.long) h)) (rw size at l));
  }
    where
      below : (v : List ℕ) → CountedRing cs n k v → Less (sec w) (sec v) n → Less (sec v) (sec t) n → ⊥
      below v ring d l =
          elim (tri d.at up.at) [
            | lt h ↦ less-asym (sec v) (sec t) n l
                (record { at = d.at; bound = d.bound; agree = λ m q. sym (up.agree m (omega arith)) ∙ d.agree m q; less = omega (arith, d.less, up.agree d.at h) })
            | eq h ↦ later v ring d (omega arith) l
            | gt h ↦ later v ring d (omega arith) l
          ]

-- where a place was raised before: t repeats its first p sectors and is no ring of the counts, but some ring begins so
pub record Further (cs : List ℕ) (n k : ℕ) (t : List ℕ) (p : ℕ) : Type 0 where
  pub run : Run (sec t) n p
  pub other : counted_necklace cs t ≡ false
  pub ring : List ℕ
  pub known : CountedRing cs n k ring
  pub agree : (m : ℕ) → m < p → sec ring m ≡ sec t m

-- the ring leaves t behind the part that is repeated, and so the place that is raised next lies further right
pub further-right : (cs : List ℕ) (n k : ℕ) (t : List ℕ) (p e : ℕ) → length t ≡ n → Further cs n k t p → ((l b : ℕ) → e ≤ l → l < n → sec t l < b → b < k → Blocked cs n k t l b) → p < e
further-right cs n k t p e long f blocked = go (cmp (sec t) (sec v) n)
  where
    v : List ℕ
    v = f.ring

    far : (i : ℕ) → (sec v i ≡ sec t i → ⊥) → p ≤ i
    far i q = elim (tri i p) [ lt h ↦ absurd (q (f.agree i h)) | eq h ↦ omega arith | gt h ↦ omega arith ]

    go : Cmp (sec t) (sec v) n → p < e
    go (above d) = absurd (run-floor (sec t) (sec v) n p f.run (ring-pre cs n k v f.known) d (far d.at (λ q. omega (arith, d.less))))
    go (alike h) =
        clash (counted_necklace cs v) f.known.counted
        (subst (λ x. counted_necklace cs x ≡ false) (ext_get_or 0 t v (long ∙ sym f.known.reading.long) (λ i l. h i (omega (arith, long)))) f.other)
    go (below d) = elim (tri d.at e) [ lt h ↦ omega (arith, far d.at (λ q. omega (arith, d.less))) | eq h ↦ absurd (hit (omega arith)) | gt h ↦ absurd (hit (omega arith)) ]
      where
        hit : e ≤ d.at → ⊥
        hit h = blocked d.at (sec v d.at) h d.bound d.less (f.known.reading.shades d.at d.bound) v f.known (λ m q. sym (d.agree m q)) refl

-- t has the first l sectors of w, then the greater shade b, and repeats these
pub record Lifts (n k : ℕ) (w t : List ℕ) (l b : ℕ) : Type 0 where
  pub long : length t ≡ n
  pub inside : l < n
  pub run : Run (sec t) n (suc l)
  pub keeps : (m : ℕ) → m < l → sec t m ≡ sec w m
  pub here : sec t l ≡ b
  pub rises : sec w l < b
  pub known : b < k

-- a place is raised, and what stands before it is repeated
module _ (cs : List ℕ) (n k : ℕ) (w t : List ℕ) (l b : ℕ) (reading : Reading n k w) (up : Lifts n k w t l b) where
  risen : Less (sec w) (sec t) n
  risen = record { at = l; bound = up.inside; agree = λ m h. sym (up.keeps m h); less = omega (arith, up.here, up.rises) }

  pub raise-step : ((x c : ℕ) → l < x → x < n → sec w x < c → c < k → Blocked cs n k w x c) → ((c : ℕ) → sec w l < c → c < b → Blocked cs n k w l c) → Step cs n k w t
  unfolding risen
  raise-step blocked between = repeat-step cs n k (suc l) w t reading.long up.long up.run risen shades later
    where
      shades : (m : ℕ) → m < suc l → sec t m < k
      shades m h =
          elim (tri m l) [
            | lt e ↦ rw (up.keeps m e) (reading.shades m (omega (arith, up.inside)))
            | eq e ↦ rw (e, up.here) up.known
            | gt e ↦ absurd (omega arith)
          ]

      later : (v : List ℕ) → (ring : CountedRing cs n k v) → (d : Less (sec w) (sec v) n) → l ≤ d.at → Less (sec v) (sec t) n → ⊥
      later v ring d h low =
          elim (tri l d.at) [
            | lt e ↦ blocked d.at (sec v d.at) e d.bound d.less (ring.reading.shades d.at d.bound) v ring (λ m q. sym (d.agree m q)) refl
            | eq e ↦ at_place e
            | gt e ↦ absurd (omega arith)
          ]
        where
          as_before : l ≡ d.at → (m : ℕ) → m < l → sec v m ≡ sec w m
          as_before e m q = sym (d.agree m (omega arith))

          alike : l ≡ d.at → sec v l ≡ b → (m : ℕ) → m < suc l → sec v m ≡ sec t m
          alike e q = one_more (λ m. sec v m ≡ sec t m) l (λ m z. as_before e m z ∙ sym (up.keeps m z)) (q ∙ sym up.here)

          at_place : l ≡ d.at → ⊥
          at_place e =
              elim (tri (sec v l) b) [
                | lt q ↦ between (sec v l) (omega (arith, d.less, place (sec w) l d.at e, place (sec v) l d.at e)) q v ring (as_before e) refl
                | eq q ↦ repeat-floor (sec t) (sec v) n (suc l) up.run (ring-pre cs n k v ring) (alike e q) low
                | gt q ↦ less-asym (sec v) (sec t) n low (record { at = l; bound = up.inside; agree = λ m y. up.keeps m y ∙ sym (as_before e m y); less = omega (arith, up.here) })
              ]

-- the first e sectors of w are a prenecklace whose lyn is p, with the next one they are none, and t repeats the first p
pub record Settles (n : ℕ) (w t : List ℕ) (e p : ℕ) : Type 0 where
  pub long : length t ≡ n
  pub inside : e < n
  pub opening : Run (sec w) e p
  pub breaks : sec w e < sec w (e - p)
  pub run : Run (sec t) n p
  pub keeps : (m : ℕ) → m < p → sec t m ≡ sec w m

-- the longest beginning that is a prenecklace is repeated
module _ (n : ℕ) (w t : List ℕ) (e p : ℕ) (s : Settles n w t e p) where
  pub settles-within : p ≤ e
  settles-within = s.opening.fits

  -- below place e nothing changes, and there a greater shade stands
  pub settles-keeps : (m : ℕ) → m < e → sec t m ≡ sec w m
  settles-keeps m h = run_rep (sec t) n p s.run m (omega (arith, s.inside)) ∙ s.keeps (m % p) (mod-lt m s.opening.pos) ∙ sym (run_rep (sec w) e p s.opening m h)

  pub settles-rises : sec w e < sec t e
  settles-rises =
      omega (arith, s.breaks, settles-keeps (e - p) (omega (arith, s.opening.pos, s.opening.fits)), s.run.again e (e - p) (omega (arith, s.opening.fits)) s.inside)

  settles-risen : Less (sec w) (sec t) n
  settles-risen = record { at = e; bound = s.inside; agree = λ m h. sym (settles-keeps m h); less = settles-rises }

  pub settle_step : (cs : List ℕ) (k : ℕ) → Reading n k w → Step cs n k w t
  unfolding settles-risen
  settle_step cs k reading =
      repeat-step cs n k p w t reading.long s.long s.run settles-risen (λ m h. rw (s.keeps m h) (reading.shades m (omega (arith, s.opening.fits, s.inside))))
      (λ v ring d h. repeat-floor (sec t) (sec v) n p s.run (ring-pre cs n k v ring) (λ m q. sym (d.agree m (omega (arith, s.opening.fits))) ∙ sym (s.keeps m q)))
