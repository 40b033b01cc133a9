-- Places that no ring of the counts raises.
--     ring-occurs          each shade stands in a ring as often as the counts say
--     blocked-exceeds      what stands before the place is already more than the counts allow
--     blocked-barred       the shade is barred
--     blocked-hopeless     nothing can end so as the counts leave it
--     begun-fitting        the shade fits: some ring goes on with it
--     find-part, find-fits, find-start                               how far the first sectors fit into the counts
--     Ahead, reach-start, reach-none, reach-asks, reach-stop, reach-more, reach-end    how far a ring may follow w
--     find-asks, Tried, find-found, find-more, find-end              one place after the other, from there back
use Rattle.words.proofs.Plain.{ℕ, suc, ◌+◌, ◌-◌, ◌<◌, ◌≤◌, arith, ◌≡◌, refl, sym, ap, ◌∙◌, subst, true, false, List, ◌∷◌, ◌++◌, append_assoc, length, get_or}
use Rattle.words.proofs.Plain.{take, drop, set, take-append-drop, List·get_d-append, List·get_d-eq-default, split_at, length-take-le, get_or-take, get_or_at}
use Rattle.words.proofs.{Plain.ext_get_or, Plain.take-take, Sequence.sec}
use Rattle.words.proofs.Split.{lt, eq, gt, tri, both, both_left, both_right}
use Rattle.rings.specs.{Necklace.necklace, Prenecklace.prenecklace}
use Rattle.rings.specs.Counts.{occurs, has_counts, counted_necklace}
use Rattle.words.specs.Sum.{sum_of}
use Rattle.ring_laws.proofs.Run.{pre-shorter, pre-through, lyn-through}
use Rattle.ring_laws.proofs.{Words.pre-of, Words.of-pre, Lyndon.lyndon-of}
use Rattle.shades_laws.proofs.Copies.{occurs-append}
use Rattle.shades_lift_inner.specs.Lifts.{Barred, Fitting, Liftable, LiftedTo}
use Rattle.shades_lift_inner.proofs.Barring.{counts-long, less_one, first-tell}
use Rattle.shades_raise_inner.specs.Places.{CountedRing, Blocked, Begun, Seeking, Headed, PlaceFound}
use Rattle.shades_tally_inner.specs.Remaining.{Remains, Exceeds, Fittable, Fitted}
use Rattle.shades_tally_inner.specs.declared.Fit.{Fit}
use Rattle.shades_raise_inner.specs.Ready.{Ready, Opening}
use Rattle.shades_completable_inner.specs.Completion.{Completing, Hopeless, Decides}
use Rattle.shades_tally_inner.proofs.Tallying.{counts-at, counts_end, occurs-at, occurs-past}
use Rattle.shades_tally_inner.proofs.Leaving.{sum-le, remains-sum, remains-more, remains-less, remains-le, exceeds-one, exceeds-longer}

-- a beginning of a prenecklace is a prenecklace
pub beginning-pre : (w : List ℕ) (n m : ℕ) → m ≤ n → n ≤ length w → prenecklace (take n w) ≡ true → prenecklace (take m w) ≡ true
beginning-pre w n m h room pre =
    of-pre (take m w) (rw (length-take-le m w (omega arith))
    (pre-through (sec (take n w)) (sec (take m w)) m (λ i k. get_or-take n w i 0 (omega arith) ∙ sym (get_or-take m w i 0 k))
    (pre-shorter (sec (take n w)) n m h (rw (length-take-le n w room) at (pre-of (take n w) pre)))))

module _ (cs : List ℕ) (n k : ℕ) (v : List ℕ) (ring : CountedRing cs n k v) where
  -- a ring of counts is a necklace
  pub ring-necklace : necklace v ≡ true
  unfolding counted_necklace
  ring-necklace = both_left (necklace v) (has_counts cs v) ring.counted

  -- a shade that is counted stands in it as often as its count says
  pub ring-known : (b : ℕ) → b < length cs → occurs b v ≡ get_or cs b 0
  unfolding counted_necklace
  ring-known = counts-at cs v (both_right (necklace v) (has_counts cs v) ring.counted)

  -- and each other does not stand in it
  pub ring-past : length cs ≡ k → (b : ℕ) → length cs ≤ b → occurs b v ≡ 0
  ring-past e b h = occurs-past b k v (λ i l. ring.reading.shades i (omega (arith, ring.reading.long))) (omega arith)

  -- the sectors before a place and those from it on
  module _ (w : List ℕ) (l : ℕ) (inside : l < n) (room : l ≤ length w) (agree : (m : ℕ) → m < l → sec v m ≡ sec w m) where
    same-beginning : take l v ≡ take l w
    same-beginning =
        ext_get_or 0 (take l v) (take l w) (short ∙ sym (length-take-le l w room))
        (λ m h. let k : m < l = omega (arith, short) in get_or-take l v m 0 k ∙ agree m k ∙ sym (get_or-take l w m 0 k))
      where
        short : length (take l v) ≡ l
        short = length-take-le l v (omega (arith, ring.reading.long))

    pub split-ring : v ≡ take l w ++ sec v l ∷ drop (suc l) v
    split-ring = split_at v l 0 (omega (arith, ring.reading.long)) ∙ ap (λ u. u ++ sec v l ∷ drop (suc l) v) same-beginning

    -- a shade stands in the ring as often as before the place and from it on
    pub split-occurs : (b : ℕ) → occurs b v ≡ occurs b (take l w) + occurs b (sec v l ∷ drop (suc l) v)
    split-occurs b = ap (occurs b) split-ring ∙ occurs-append b (take l w) (sec v l ∷ drop (suc l) v)

    -- and from it on as often as the counts leave beside what stands before
    pub left-occurs : (rem : List ℕ) → length cs ≡ k → Remains cs (take l w) rem → (x : ℕ) → occurs x (sec v l ∷ drop (suc l) v) ≡ get_or rem x 0
    left-occurs rem many r x =
        elim (tri x (length cs)) [
          | lt h ↦ omega (arith, r.left x h, ring-known x h, split-occurs x)
          | eq h ↦ past (omega arith)
          | gt h ↦ past (omega arith)
        ]
      where
        past : length cs ≤ x → occurs x (sec v l ∷ drop (suc l) v) ≡ get_or rem x 0
        past h = omega (arith, r.past x h, ring-past many x h, split-occurs x)

module _ (cs : List ℕ) (n k : ℕ) (w : List ℕ) (l b : ℕ) (inside : l < n) (room : l ≤ length w) where
  -- what stands before the place is already more than the counts allow
  pub blocked-exceeds : Exceeds cs (take l w) → Blocked cs n k w l b
  blocked-exceeds x v ring agree e = omega (arith, x.often, ring-known cs n k v ring x.shade x.known, split-occurs cs n k v ring w l inside room agree x.shade)

  -- the shade is barred
  pub blocked-barred : (rem : List ℕ) → length cs ≡ k → Remains cs (take l w) rem → Barred (take l w) b rem → Blocked cs n k w l b
  blocked-barred rem many r barred v ring agree e =
      barred (drop (suc l) v) (λ x. sym (ap (λ a. occurs x (a ∷ drop (suc l) v)) e) ∙ left-occurs cs n k v ring w l inside room agree rem many r x)
      (subst (λ u. necklace u ≡ true) (split-ring cs n k v ring w l inside room agree ∙ ap (λ a. take l w ++ a ∷ drop (suc l) v) e) (ring-necklace cs n k v ring))

  -- no necklace begins with the first p sectors and ends with what the counts leave beside the first m
  pub blocked-hopeless : (p m : ℕ) (rem : List ℕ) → p ≤ m → m ≤ l → length cs ≡ k → Remains cs (take m w) rem → Hopeless (take p w) rem → Blocked cs n k w l b
  blocked-hopeless p m rem h q many r hopeless v ring agree e =
      hopeless (drop p (take m w)) (sec v m ∷ drop (suc m) v) (left-occurs cs n k v ring w m (omega arith) (omega arith) before rem many r)
      (subst (λ u. necklace u ≡ true) (split-ring cs n k v ring w m (omega arith) (omega arith) before ∙ parted) (ring-necklace cs n k v ring))
    where
      before : (i : ℕ) → i < m → sec v i ≡ sec w i
      before i z = agree i (omega arith)

      parted : take m w ++ sec v m ∷ drop (suc m) v ≡ take p w ++ (drop p (take m w) ++ sec v m ∷ drop (suc m) v)
      parted =
          ap (λ u. u ++ sec v m ∷ drop (suc m) v) (sym (take-append-drop p (take m w)) ∙ ap (λ u. u ++ drop p (take m w)) (take-take p m w h))
          ∙ append_assoc (take p w) (drop p (take m w)) (sec v m ∷ drop (suc m) v)

-- ---- where a ring goes on

-- the shade fits
pub begun-fitting : (cs : List ℕ) (k : ℕ) (w : List ℕ) (l b : ℕ) (rem : List ℕ) → l ≤ length w → length cs ≡ k → ((m : ℕ) → m < l → sec w m < k) →
    Remains cs (take l w) rem → Fitting (take l w) b rem →
    Begun cs (sum_of cs) k w l b
unfolding counted_necklace
begun-fitting cs k w l b rem room many known r f = record {
  ring = v;
  known = record {
    reading = record { long = counts-long v cs counts; shades = λ i h. below (sec v i) (occurs-at v i (omega (arith, counts-long v cs counts))) };
    counted = both (necklace v) (has_counts cs v) f.whole (sym (counts_end cs v (length cs) (omega arith) (λ x h. counts x)));
  };
  agree = λ m h. List·get_d-append (take l w) (b ∷ f.rest) 0 m (omega (arith, short)) ∙ get_or-take l w m 0 h;
  here = get_or_at (take l w) b f.rest 0 l short;
}
  where
    v : List ℕ
    v = take l w ++ b ∷ f.rest

    short : length (take l w) ≡ l
    short = length-take-le l w room

    past : (x : ℕ) → length cs ≤ x → occurs x v ≡ get_or cs x 0
    past x h =
        omega (
          arith,
          occurs-append x (take l w) (b ∷ f.rest),
          f.letters x,
          r.past x h,
          List·get_d-eq-default cs 0 {n = x} h,
          occurs-past x k (take l w) (λ i q. let i< : i < l = omega (arith, short) in rw (get_or-take l w i 0 i<) (known i i<)) (omega arith),
        )

    counts : (x : ℕ) → occurs x v ≡ get_or cs x 0
    counts x =
        elim (tri x (length cs)) [
          | lt h ↦ omega (arith, occurs-append x (take l w) (b ∷ f.rest), f.letters x, r.left x h)
          | eq h ↦ past x (omega arith)
          | gt h ↦ past x (omega arith)
        ]

    below : (x : ℕ) → 0 < occurs x v → x < k
    below x h =
        elim (tri x k) [
          | lt e ↦ e
          | eq e ↦ absurd (omega (arith, counts x, List·get_d-eq-default cs 0 {n = x} (omega arith)))
          | gt e ↦ absurd (omega (arith, counts x, List·get_d-eq-default cs 0 {n = x} (omega arith)))
        ]

-- ---- one place after the other, from the last on

module _ {w : List ℕ} {n k : ℕ} {cs : List ℕ} (size : length w ≡ 64) (p : Opening w n k cs) where
  -- each sector is a shade
  known-shade : (m : ℕ) → m < n → sec w m < k
  known-shade m h = rw (get_or-take n w m 0 h) at (p.ready.reading.shades m h)

  -- a shade that is counted
  counted-shade : (m : ℕ) → m < n → sec w m < length cs
  counted-shade m h = rw p.ready.many (known-shade m h)

  few-counts : length cs ≤ 16
  few-counts = omega (arith, p.ready.many, p.ready.shades)

  -- the first sectors, of which there are fewer than n
  module _ (q : ℕ) (short : q < n) where
    pub find-part : q ≤ length w
    find-part = omega (arith, p.ready.size)

    front_long : length (take q w) ≡ q
    front_long = length-take-le q w find-part

    -- each of them has a count
    pub find-fits : Fittable cs (take q w)
    find-fits = record { few = few-counts; known = λ i h. let b : i < q = omega (arith, front_long) in rw (get_or-take q w i 0 b) (counted-shade i (omega arith)) }

    module _ {r : Fit} (f : Fitted cs (take q w) r) where
      fit-remains : Remains cs (take r.end w) r.rem
      fit-remains = subst (λ u. Remains cs u r.rem) (take-take r.end q w (omega (arith, f.within, front_long))) f.remains

      -- where they no longer fit, or no sector but one follows them, no place behind is looked at
      pub find-start : (r.end ≡ q → suc q ≡ n) → Seeking w n k cs r.end r.rem
      find-start last = record {
        inside = omega (arith, f.within, front_long);
        remains = fit-remains;
        past = record {
          within = omega (arith, f.within, front_long);
          blocked = λ l b h m c t. elim (tri r.end q) [
            | lt x ↦ blocked-exceeds cs n k w l b m (omega (arith, p.ready.size))
                (exceeds-longer cs w (suc r.end) l h (subst (Exceeds cs) (take-take (suc r.end) q w (omega arith)) (f.exceeds (omega (arith, front_long)))))
            | eq x ↦ absurd (omega (arith, last x))
            | gt x ↦ absurd (omega (arith, f.within, front_long))
          ];
        };
      }

      -- they all fit
      pub reach-start : (r.end < q → ⊥) → Remains cs (take q w) r.rem
      reach-start h = subst (λ x. Remains cs (take x w) r.rem) (let e : r.end ≡ q = omega (arith, f.within, front_long) in e) fit-remains

  -- ---- one place after the other, from there back

  -- what is asked of the shades at the place
  pub find-asks : {i : ℕ} {rem : List ℕ} → Seeking w n k cs i rem → Liftable w i k rem
  find-asks {i = i} {rem = rem} at = record {
    size = size;
    slots = at.remains.size;
    inside = omega (arith, at.inside, p.ready.size);
    shades = p.ready.shades;
    past = λ x h. at.remains.past x (omega (arith, p.ready.many));
    room = omega (arith, p.ready.whole, p.ready.size, remains-sum cs (take i w) rem at.remains);
    pre = beginning-pre w n (suc i) (omega (arith, at.inside)) (omega (arith, p.ready.size)) p.pre;
    low = known-shade i at.inside;
  }

-- the place i was tried, where it can be raised to r
pub record Tried (w : List ℕ) (n k : ℕ) (cs : List ℕ) (i : ℕ) (rem : List ℕ) (r : ℕ) : Type 0 where
  pub size : length w ≡ 64
  pub opening : Opening w n k cs
  pub at : Seeking w n k cs i rem
  pub up : LiftedTo w i k rem r

module _ {w : List ℕ} {n k : ℕ} {cs : List ℕ} {i : ℕ} {rem : List ℕ} {r : ℕ} (t : Tried w n k cs i rem r) where
  -- each shade between is blocked
  blocked-here : (b : ℕ) → sec w i < b → b < r → Blocked cs n k w i b
  blocked-here b m q = blocked-barred cs n k w i b t.at.inside (omega (arith, t.at.inside, t.opening.ready.size)) rem t.opening.ready.many t.at.remains (t.up.lifted.barred b m q)

  -- a place that cannot be raised joins those behind it
  past-here : (r < k → ⊥) → (l b : ℕ) → i ≤ l → l < n → sec w l < b → b < k → Blocked cs n k w l b
  past-here h l b m q v u =
      elim (tri i l) [
        | lt x ↦ t.at.past.blocked l b (omega arith) q v u
        | eq x ↦ subst (λ y. sec w y < b → Blocked cs n k w y b) x (λ s. blocked-here b s (omega arith)) v
        | gt x ↦ absurd (omega arith)
      ]

  -- the place can be raised
  pub find-found : r < k → PlaceFound w n k cs (record { end = i + 1; shade = r })
  find-found h =
      let e : i + 1 - 1 ≡ i = omega arith in
      record {
        within = omega (arith, t.at.inside);
        blocked = λ l b m. t.at.past.blocked l b (omega arith);
        above = λ q. rw e t.up.lifted.above;
        known = λ q. h;
        between = λ b q. rw e (blocked-here b);
        begun = λ q. rw e (subst (λ x. Begun cs x k w i r) t.opening.ready.whole
            (begun-fitting cs k w i r rem (omega (arith, t.at.inside, t.opening.ready.size)) t.opening.ready.many
            (λ m h. known-shade t.size t.opening m (omega (arith, t.at.inside))) t.at.remains (t.up.fitting h)));
      }

  -- it cannot, and it is the first
  pub find-end : (r < k → ⊥) → i ≡ 0 → PlaceFound w n k cs (record { end = 0; shade = 0 })
  find-end h e = record {
    within = omega arith;
    blocked = λ l b m. past-here h l b (omega arith);
    above = λ q. absurd (omega arith);
    known = λ q. absurd (omega arith);
    between = λ b q. absurd (omega arith);
    begun = λ q. absurd (omega arith);
  }

  -- it cannot, and there is one before it
  pub find-more : (r < k → ⊥) → (i ≡ 0 → ⊥) → Seeking w n k cs (i - 1) (set rem (sec w (i - 1)) (get_or rem (sec w (i - 1)) 0 + 1))
  find-more h z = record {
    inside = omega (arith, t.at.inside);
    remains =
        remains-less cs w rem (i - 1) (omega (arith, t.at.inside, t.opening.ready.size))
        (rw t.opening.ready.many (known-shade t.size t.opening (i - 1) (omega (arith, t.at.inside)))) (omega (arith, t.opening.ready.many, t.opening.ready.shades))
        (subst (λ x. Remains cs (take x w) rem) (let e : i ≡ i - 1 + 1 = omega arith in e) t.at.remains);
    past = record { within = omega (arith, t.at.inside); blocked = λ l b m. past-here h l b (omega arith) };
  }

  -- the sector before it is a shade that has a count
  pub find-shade : (i ≡ 0 → ⊥) → sec w (i - 1) < 16
  find-shade z = omega (arith, known-shade t.size t.opening (i - 1) (omega (arith, t.at.inside)), t.opening.ready.shades)

  pub find-count : (b : ℕ) → get_or rem b 0 ≤ 64
  find-count b = omega (arith, remains-le cs (take i w) rem b t.at.remains, t.opening.ready.whole, t.opening.ready.size)

-- ---- following the sectors from place q on

-- the first i sectors fit into the counts, and the first q of them are a Lyndon word
pub record Ahead (w : List ℕ) (n k : ℕ) (cs : List ℕ) (q i : ℕ) (rem : List ℕ) : Type 0 where
  pub size : length w ≡ 64
  pub opening : Opening w n k cs
  pub head : Headed w n q
  pub short : q < n
  pub from : q ≤ i
  pub inside : i < n
  pub left : Remains cs (take i w) rem

module _ {w : List ℕ} {n k : ℕ} {cs : List ℕ} {q i : ℕ} {rem : List ℕ} (a : Ahead w n k cs q i rem) where
  abbrev ready : Ready w n k cs
  ready = a.opening.ready

  known : sec w i < length cs
  known = counted-shade a.size a.opening i a.inside

  few : length cs ≤ 16
  few = few-counts a.size a.opening

  abbrev shade : ℕ
  shade = sec w i

  in_array : i < length w
  in_array = omega (arith, ready.size, a.size, a.inside)

  -- none is left of the sector
  pub reach-none : get_or rem shade 0 ≡ 0 → Seeking w n k cs i rem
  reach-none z = record {
    inside = a.inside;
    remains = a.left;
    past =
        record {
          within = omega (arith, a.inside);
          blocked =
              λ l b h m c t. blocked-exceeds cs n k w l b m (omega (arith, ready.size, a.size)) (exceeds-longer cs w (suc i) l h (exceeds-one cs w rem i in_array known few a.left z));
        };
  }

  -- none follows it
  pub reach-end : (i + 1 < n → ⊥) → Seeking w n k cs i rem
  reach-end z = record { inside = a.inside; remains = a.left; past = record { within = omega (arith, a.inside); blocked = λ l b h m. absurd (omega arith) } }

  pub reach-shade : sec w i < 16
  reach-shade = omega (arith, known, few)

  -- one is left, and it is taken
  module _ (z : get_or rem shade 0 ≡ 0 → ⊥) where
    abbrev taken : List ℕ
    taken = less_one rem shade

    more : Remains cs (take (i + 1) w) taken
    more = remains-more cs w rem i in_array known few a.left z

    told : (x : ℕ) → get_or (take k taken) x 0 ≡ get_or taken x 0
    told = first-tell k taken (omega (arith, more.size, ready.shades)) (λ x h. more.past x (omega (arith, ready.many)))

    -- what is asked of the pool
    pub reach-asks : Completing (take q w) (take k taken)
    reach-asks = record {
      lyndon-al = lyndon-of (take q w) (omega (arith, long, a.head.some a.short)) (rw long (lyn-through (sec w) (sec (take q w)) q (λ m h. sym (get_or-take q w m 0 h)) (a.head.lyn a.short)));
      small = omega (arith, long, ready.size, a.short);
      shades = omega (arith, length-take-le k taken (omega (arith, more.size, ready.shades)), ready.shades);
      room = omega (arith, sum-le (take k taken) taken (λ x. omega (arith, told x)), remains-sum cs (take (i + 1) w) taken more, ready.whole, ready.size);
    }
      where
        long : length (take q w) ≡ q
        long = length-take-le q w (omega (arith, ready.size, a.size, a.short))

    -- it leaves none: no place behind can be raised
    pub reach-stop : Decides (take q w) (take k taken) false → Seeking w n k cs i (set taken shade (get_or taken shade 0 + 1))
    reach-stop d = record {
      inside = a.inside;
      remains = remains-less cs w taken i in_array known few more;
      past = record {
        within = omega (arith, a.inside);
        blocked = λ l b h m c t. blocked-hopeless cs n k w l b m (omega (arith, ready.size, a.size)) q (i + 1)
            taken (omega (arith, a.from)) (omega arith) ready.many more (λ u v e y. d.no refl u v (λ x. e x ∙ sym (told x)) y);
      };
    }

    -- it leaves some, and another sector follows
    pub reach-more : i + 1 < n → Ahead w n k cs q (i + 1) taken
    reach-more h = record { size = a.size; opening = a.opening; head = a.head; short = a.short; from = omega (arith, a.from); inside = h; left = more }

    pub reach-count : (x : ℕ) → get_or taken x 0 ≤ 64
    reach-count x = omega (arith, remains-le cs (take (i + 1) w) taken x more, ready.whole, ready.size)
