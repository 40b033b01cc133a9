-- A record that passed its checks is the record of its ring; and what the code's tests of a class say.
--     tight                                      a class that is no Loose
--     off-loose, off-other, on-class             the answers of `on_walk`
--     off-class, off-counts, on-record           how the last check of a record ends
--     good-ready, good-tail, good-is             what the checks of a record show
--     start-off, start-on, start_is              what a start tests, and the record that it makes
--     ring_of_lem, walk-good                         the record of a ring passes its checks
--     moved-is                   the record that a step makes is the record of its ring
--     went-period                the lyn of the necklace that a step came to is its period
use Rattle.words.proofs.Plain.{ℕ, ◌+◌, ◌-◌, ◌<◌, ◌≤◌, arith, ◌≡◌, refl, sym, ap, ◌∙◌, inr, Bool, true, false, ◌&&◌, some, List, ◌++◌, eqb, length, get_or, take}
use Rattle.words.proofs.Plain.{drop, replicate, List·get_d-append, length-drop, length-replicate, get_or-replicate, take-append_seam, get_or-append-add, ext_get_or}
use Rattle.words.proofs.Plain.{get_or-take, get_or-drop, length-take-le, take_all, eq-eqb, ne_eqb, lt-ltb, le-ltb}
use Rattle.words.specs.Order.{same}
use Rattle.words.specs.Readings.{Sized, Shaded, Reading}
use Rattle.words.proofs.Split.{lt, eq, gt, tri, both, both_left, not_left, not_right, clash, refuted}
use Rattle.words.proofs.Lex.{same_refl}
use Rattle.rings.specs.{declared.Class.Class, Necklace.necklace, Necklace.period, Prenecklace.prenecklace, Prenecklace.lyn}
use Rattle.rings.specs.declared.Class.TheVariants.{Loose, Opening, Repeating, Single}
use Rattle.rings.specs.Class.{class_of, same_class, is_loose, loose_place, look_at}
use Rattle.rings.specs.Steps.{next_of}
use Rattle.ring_laws.proofs.Lyndon.{lyn-run}
use Rattle.ring_laws.proofs.Classes.{period-lyn, look-other, same_class_lem, same-class-refl, loose-class, tight-class}
use Rattle.ring_laws.proofs.FullWalk.{next-facts, zeros, zeros-at}
use Rattle.refusal.specs.{declared.Refusal.Refusal, declared.Refusal.TheVariants.OffWalk, Order.Passed, Order.Given}
use Rattle.refusal.specs.Calls.{ring_limit, walk_record, walk_start, one_reading}
use Rattle.walk_spec.specs.declared.Walk.{Walk}
use Rattle.walk_kind_laws.specs.declared.Kind as K
use Rattle.walk_kind_laws.specs.Kinds.{kind_of, class_at, ReadyToStep}
use Rattle.walk_spec.specs.Record.{ring_of, laid_out, shade_counts, walk_of, on_walk, walk_asked}
use Rattle.walk_kind_laws.proofs.ByLyn.{kind-only, class-at}

-- ---- the answers of `on_walk`

-- a class that is no Loose
pub tight : (c : Class) → ((p : ℕ) → c ≡ Loose p → ⊥) → is_loose c ≡ false
tight (Loose p) h = absurd (h p refl)
tight (Opening p) h = refl
tight (Repeating p) h = refl
tight Single h = refl

module _ (v : List ℕ) (c found : Class) (is : found ≡ class_of v) where
  pub off-loose : (p : ℕ) → found ≡ Loose p → (on_walk v c ≡ false) × (OffWalk p ≡ OffWalk (look_at v))
  unfolding on_walk look_at
  off-loose p e =
      let q : class_of v ≡ Loose p = sym is ∙ e in
      (not_left (prenecklace v) (same_class c (class_of v)) (loose-class v (ap is_loose q)), ap (λ (x : Class). OffWalk (loose_place x)) (sym q))

  module _ (h : (p : ℕ) → found ≡ Loose p → ⊥) where
    pre : prenecklace v ≡ true
    pre = tight-class v (rw is at (tight found h))

    pub off-other : (c ≡ found → ⊥) → (on_walk v c ≡ false) × (OffWalk 0 ≡ OffWalk (look_at v))
    unfolding on_walk
    off-other n =
        (not_right (prenecklace v) (same_class c (class_of v)) (refuted (same_class c (class_of v)) (λ t. n (same_class_lem c (class_of v) t ∙ sym is))), ap OffWalk (sym (look-other v pre)))

    pub on-class : c ≡ found → on_walk v c ≡ true
    unfolding on_walk
    on-class e = both (prenecklace v) (same_class c (class_of v)) pre (rw (e, is) (same-class-refl (class_of v)))

-- ---- a record that passed its checks

-- the checks but the last passed; the last passes, or fails by the class, or by the counts
module _ (w : Walk) (sectors : Passed (walk_record w.n w.k w.ring true)) where
  -- the last check's two halves
  on_class : Bool
  on_class = on_walk (ring_of w) w.class

  on_counts : Bool
  on_counts = same w.counts (shade_counts (ring_of w))

  pub off-class : on_walk (ring_of w) w.class ≡ false → (r : Refusal) → r ≡ OffWalk (look_at (ring_of w)) → Given (walk_asked w) r
  unfolding on_class on_counts
  off-class f r q = inr (sectors.0, (q, λ t. clash (on_class && on_counts) t (not_left on_class on_counts f)))

  -- the class is right, and the counts are compared with the ring's own
  module _ (on : on_walk (ring_of w) w.class ≡ true) (own : List ℕ) (b : Bool) (made : own ≡ shade_counts (ring_of w)) (told : b ≡ same w.counts own) where
    compared : b ≡ on_counts
    unfolding on_counts
    compared = told ∙ ap (same w.counts) made

    pub on-record : b ≡ true → Passed (walk_asked w)
    unfolding on_class on_counts
    on-record h = (sectors.0, both on_class on_counts on (sym compared ∙ h))

    -- the ring is a prenecklace, so there is no sector to look at
    pub off-counts : b ≡ false → Given (walk_asked w) (OffWalk 0)
    unfolding on_class on_counts on_walk
    off-counts h =
        let l = look-other (ring_of w) (both_left (prenecklace (ring_of w)) (same_class w.class (class_of (ring_of w))) on) in
        inr (sectors.0, (ap OffWalk (sym l), λ t. clash (on_class && on_counts) t (not_right on_class on_counts (sym compared ∙ h))))

-- its sectors are below k up to n, and below 1 past it
limit-low : (n k i : ℕ) → i < n → ring_limit n k i ≡ k
limit-low n k i h = rw (lt-ltb i n h, ring_limit)

limit-past : (n k i : ℕ) → n ≤ i → ring_limit n k i ≡ 1
limit-past n k i h = rw (le-ltb i n h, ring_limit)

module _ (w : Walk) (good : Passed (walk_asked w)) (size : length w.ring ≡ 64) where
  fits : w.n ≤ 64
  fits = good.0.0.0.0.0.0.1

  own : prenecklace (ring_of w) ≡ true
  unfolding on_walk
  own = both_left (prenecklace (ring_of w)) (same_class w.class (class_of (ring_of w))) (both_left (on_walk (ring_of w) w.class) (same w.counts (shade_counts (ring_of w))) good.1)

  pub good-long : length (ring_of w) ≡ w.n
  good-long = length-take-le w.n w.ring (omega (arith, fits))

  pub good-ready : ReadyToStep w.k (ring_of w)
  good-ready =
      record {
        pos = omega (arith, good-long, good.0.0.0.0.0.0.0);
        fits = omega (arith, good-long, fits);
        shades = good.0.0.0.0.1.0;
        few = good.0.0.0.0.1.1;
        reading = record { long = refl; shades = λ i b. low i (omega (arith, good-long)) };
        pre = own;
      }
    where
      low : (i : ℕ) → i < w.n → get_or (ring_of w) i 0 < w.k
      low i b = rw (get_or-take w.n w.ring i 0 b) (omega (arith, good.0.0.0.1 i (omega (arith, fits)), limit-low w.n w.k i b))

  -- the sectors past n are 0
  pub good-tail : drop w.n w.ring ≡ replicate (64 - w.n) 0
  good-tail =
      ext_get_or 0 (drop w.n w.ring) (replicate (64 - w.n) 0) (length-drop w.n w.ring ∙ ap (λ (x : ℕ). x - w.n) size ∙ sym (length-replicate (64 - w.n) 0))
      (λ i b.
      let l : w.n + i < length w.ring = omega (arith, length-drop w.n w.ring) in
      let z : get_or w.ring (w.n + i) 0 ≡ 0 = omega (arith, good.0.0.0.1 (w.n + i) l, limit-past w.n w.k (w.n + i) (omega arith)) in
      get_or-drop w.n w.ring i 0 ∙ z ∙ sym (get_or-replicate (64 - w.n) i 0 0 (omega (arith, length-drop w.n w.ring))))

-- the record that a step makes is the record of its ring
module _ (kind : K.Kind) (w : Walk) (v : List ℕ) (p : ℕ) (good : Passed (walk_asked w)) (size : length w.ring ≡ 64)
    (next : next_of (kind_of kind) w.k (ring_of w) ≡ some v) (is : lyn v ≡ p) where
  pub moved-long : length v ≡ w.n
  moved-long = (next-facts (kind_of kind) w.k (ring_of w) v next).0.long ∙ good-long w good size

  -- its counts are those of its first n sectors
  pub moved-is : (cs : List ℕ) → cs ≡ shade_counts (take w.n (v ++ drop w.n w.ring)) → record
      { n = w.n; k = w.k; ring = v ++ drop w.n w.ring; class = class_at w.n p; counts = cs } ≡ walk_of w.k v
  moved-is cs e =
      λ i.
      record {
        n = sym moved-long i;
        k = w.k;
        ring = ap (λ (t : List ℕ). v ++ t) (good-tail w good size ∙ ap (λ (x : ℕ). replicate (64 - x) 0) (sym moved-long)) i;
        class = class i;
        counts = (e ∙ ap shade_counts (ap (λ (x : ℕ). take x (v ++ drop w.n w.ring)) (sym moved-long) ∙ take-append_seam v (drop w.n w.ring))) i;
      }
    where
      class : class_at w.n p ≡ class_of v
      class =
          sym
          (class-at v (lyn v) (lyn-run v (omega (arith, moved-long, (good-ready w good size).pos, good-long w good size))
          (kind-only kind v (next-facts (kind_of kind) w.k (ring_of w) v next).2))
          ∙ ap (λ (x : ℕ). class_at x (lyn v)) moved-long
          ∙ ap (class_at w.n) is)

-- the lyn of the necklace that a step came to is its period
pub went-period : (k : ℕ) (s v : List ℕ) (p : ℕ) → 0 < length s → next_of necklace k s ≡ some v → lyn v ≡ p → p ≡ period v
went-period k s v p z e is =
    let f = next-facts necklace k s v e in
    sym (period-lyn v (omega (arith, f.0.long)) f.2 ∙ is)

-- ---- a start, from a reading that passed 1, 2, 3

module _ (s : List ℕ) (k : ℕ) (found : Class) (passed : Passed (one_reading s k)) (is : found ≡ class_of s) where
  pub start-off : (p : ℕ) → found ≡ Loose p → Given (walk_start s k (prenecklace s)) (OffWalk p)
  unfolding look_at
  start-off p e =
      let q : class_of s ≡ Loose p = sym is ∙ e in
      inr (
        passed.0,
        (
          ap (λ (x : Class). OffWalk (loose_place x)) (sym q) ∙ ap (λ (x : List ℕ). OffWalk (look_at x)) (sym (take_all (length s) s (omega arith))),
          λ t. clash (prenecklace s) t (loose-class s (ap is_loose q)),
        ),
      )

  pub start-on : ((p : ℕ) → found ≡ Loose p → ⊥) → Passed (walk_start s k (prenecklace s))
  start-on h = (passed.0, tight-class s (rw is at (tight found h)))

  pub start_is : (ring cs : List ℕ) → ring ≡ laid_out s → cs ≡ shade_counts (take (length s) ring) → record { n = length s; k = k; ring = ring; class = found; counts = cs } ≡ walk_of k s
  start_is ring cs e f =
      λ i.
      record {
        n = length s;
        k = k;
        ring = e i;
        class = is i;
        counts = (f ∙ ap shade_counts (ap (take (length s)) e ∙ take-append_seam s (zeros (64 - length s)))) i;
      }

-- ---- the record of a ring passes its checks

-- its ring
pub ring_of_lem : (k : ℕ) (v : List ℕ) → ring_of (walk_of k v) ≡ v
ring_of_lem k v = take-append_seam v (zeros (64 - length v))

pub walk-good : (n k : ℕ) (v : List ℕ) → Sized n → Shaded k → Reading n k v → prenecklace v ≡ true → Passed (walk_asked (walk_of k v))
unfolding on_walk
walk-good n k v sized shaded reading pre =
    let e = reading.long in (
      ((((((omega arith, omega arith), tt), shaded), below), tt), tt),
      rw (ring_of_lem k v) (both (on_walk v (class_of v)) (same (shade_counts v) (shade_counts v))
          (both (prenecklace v) (same_class (class_of v) (class_of v)) pre (same-class-refl (class_of v))) (same_refl (shade_counts v))),
    )
  where
    below : (i : ℕ) → i < length (laid_out v) → get_or (laid_out v) i 0 < ring_limit (length v) k i
    below i h =
        elim (tri i (length v)) [
          | lt l ↦ rw (limit-low (length v) k i l, List·get_d-append v (zeros (64 - length v)) 0 i l) (reading.shades i (omega (arith, reading.long)))
          | eq l ↦ past i (omega arith)
          | gt l ↦ past i (omega arith)
        ]
      where
        past : (i : ℕ) → length v ≤ i → get_or (laid_out v) i 0 < ring_limit (length v) k i
        past i l =
            let q : length v + (i - length v) ≡ i = omega arith in
            let z : get_or (laid_out v) i 0 ≡ 0 = ap (λ (x : ℕ). get_or (laid_out v) x 0) (sym q) ∙ get_or-append-add v (zeros (64 - length v)) (i - length v) 0
            ∙ zeros-at (64 - length v) (i - length v) in
            omega (arith, z, limit-past (length v) k i l)
