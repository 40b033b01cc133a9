-- The loop over the places: a ring compared with the readings that they hold, the last one first.
--     all-cong               two tests that agree below a number
--     stock-length           the places are 768 sectors
--     ClearFrom d p t w i    w is at least d apart from the readings in the places i to t
--     clear_in_lem               read from the places, the test by distance is that of the definition
--     one-good, pair-good    a ring, and two of them, pass the checks of the library
--     place-length, place-room    the reading in a place, and that it and its tally lie inside
--     part-asked             the part of the places that the code lends is a reading, and the part of the tallies has its counts
--     clear-ends, clear-all      the loop
use Rattle.words.proofs.Plain.{ℕ, zero, suc, ◌+◌, ◌-◌, ◌*◌, ◌<◌, ◌≤◌, arith, ◌≡◌, refl, sym, ap, subst, ◌∙◌, Bool, true, false, List, [], ◌++◌, length, get_or}
use Rattle.words.proofs.Plain.{take, drop, length-append, List·get_d-append, get_or-append-add}
use Rattle.words.specs.{Search.all_below, Readings.Reading}
use Rattle.words.proofs.Split.{lt, eq, gt, tri, clash, refuted}
use Rattle.words.proofs.Search.{all-at, all_of}
use Rattle.rings.specs.Counts.{counts_of}
use Rattle.refusal.specs.{Order.Passed, Calls.one_reading, Calls.two_readings}
use Rattle.set_spec.specs.{Greedy.far_from, Greedy.clear, Places.laid, Places.place_at}
use Rattle.set_laws.proofs.Places.{laid-length, place-laid}
use Rattle.set_clear_inner.specs.Says.{Fit, HoldsSet, Stocked, Comparable, clear_in}

-- two tests that agree below a number
pub all-cong : (n : ℕ) (f g : ℕ → Bool) → ((i : ℕ) → i < n → f i ≡ g i) → all_below n f ≡ all_below n g
unfolding all_below
all-cong zero f g h = refl
all-cong (suc n) f g h = rw (h n (omega arith), all-cong n f g (λ i b. h i (omega arith))) refl

-- the places are 768 sectors
pub stock-length : {n k : ℕ} {p q : List ℕ} {t : ℕ} → Stocked n k p q t → length p ≡ 768
stock-length s = rw s.holds.places (laid-length s.set)

-- w is at least d apart from the readings in the places i to t
pub record ClearFrom (d : ℕ) (p : List ℕ) (t : ℕ) (w : List ℕ) (i : ℕ) : Type 0 where
  pub some : i ≤ t
  pub far : (j : ℕ) → i ≤ j → j < t → far_from d (place_at (length w) p j) w ≡ true

-- all places were looked at
pub clear-all : {d : ℕ} {p : List ℕ} {t : ℕ} {w : List ℕ} {i : ℕ} → ClearFrom d p t w i → i ≤ 0 → true ≡ clear_in (length w) d p t w
clear-all {d = d} {p = p} {t = t} {w = w} a h = sym (all_of t (λ j. far_from d (place_at (length w) p j) w) (λ j l. a.far j (omega arith) l))

-- read from the places, it is the test of the definition
pub clear_in_lem : {n k : ℕ} {ts : List (List ℕ)} {p q : List ℕ} {t : ℕ} (d : ℕ) (w : List ℕ) → n ≤ 24 → t ≤ 32 → HoldsSet n k ts p q t → clear_in n d p t w ≡ clear d ts w
unfolding clear
clear_in_lem {n = n} {ts = ts} d w short most h =
    rw (h.places, h.number) (all-cong (length ts) (λ j. far_from d (place_at n (laid ts) j) w) (λ j. far_from d (get_or ts j []) w)
    (λ j b. ap (λ (x : List ℕ). far_from d x w) (place-laid n ts j short (omega (arith, h.number)) b (h.each j b).long)))

-- ---- the checks of the library

-- a ring of n and k passes those of a call on one reading
pub one-good : (w : List ℕ) (k : ℕ) → Fit (length w) k → Reading (length w) k w → Passed (one_reading w k)
one-good w k fit r = (((((((fit.some, omega (arith, fit.short)), tt), fit.shaded), r.shades), tt), tt), refl)

-- two of them pass those of a call on two
pub pair-good : (v w : List ℕ) (k : ℕ) → Fit (length w) k → Reading (length w) k v → Reading (length w) k w → Passed (two_readings v w k)
pair-good v w k fit q r = (((((((omega (arith, q.long, fit.some), omega (arith, q.long, fit.short)), sym q.long), fit.shaded), below), tt), tt), refl)
  where
    past : (i : ℕ) → length w ≤ i → i < length w + length w → get_or (v ++ w) i 0 < k
    past i l m =
        let e : length v + (i - length w) ≡ i = omega (arith, q.long) in
        let f : get_or (v ++ w) i 0 ≡ get_or w (i - length w) 0 = ap (λ (x : ℕ). get_or (v ++ w) x 0) (sym e) ∙ get_or-append-add v w (i - length w) 0 in
        rw f (r.shades (i - length w) (omega arith))

    below : (i : ℕ) → i < length (v ++ w) → get_or (v ++ w) i 0 < k
    below i h =
        let s : i < length w + length w = omega (arith, length-append v w, q.long) in
        elim (tri i (length w)) [
          | lt l ↦ rw (List·get_d-append v w 0 i (omega (arith, q.long))) (q.shades i l)
          | eq l ↦ past i (omega arith) s
          | gt l ↦ past i (omega arith) s
        ]

-- ---- the places

-- the reading in place j, and the ring
module _ {p q : List ℕ} {t : ℕ} {w c : List ℕ} {k : ℕ} (a : Comparable p q t w c k) (j : ℕ) (b : j < t) where
  there : j < length a.stock.set
  there = omega (arith, a.stock.holds.number)

  place_is : place_at (length w) p j ≡ get_or a.stock.set j []
  place_is =
      rw a.stock.holds.places
      (place-laid (length w) a.stock.set j a.fit.short (omega (arith, a.most, a.stock.holds.number)) there (a.stock.holds.each j there).long)

  place-reading : Reading (length w) k (place_at (length w) p j)
  place-reading = rw place_is (a.stock.holds.each j there)

  pub place-length : length (place_at (length w) p j) ≡ length w
  place-length = place-reading.long

  -- its sectors and its tally lie inside
  pub place-room : (24 * j + length w ≤ length p) × (16 * j + 16 ≤ length q)
  place-room = (omega (arith, stock-length a.stock, a.fit.short, a.most), omega (arith, a.stock.holds.room, a.most))

  -- the parts of the places and of the tallies that the code lends
  abbrev v : List ℕ
  v = take (24 * j + length w - 24 * j) (drop (24 * j) p)

  part-is : v ≡ place_at (length w) p j
  part-is = let m : 24 * j + length w - 24 * j ≡ length w = omega arith in rw m refl

  part-counts : take (16 * j + 16 - 16 * j) (drop (16 * j) q) ≡ counts_of 16 v
  part-counts = let m : 16 * j + 16 - 16 * j ≡ 16 = omega arith in rw m (a.stock.holds.tallies j there) ∙ ap (counts_of 16) (sym (part-is ∙ place_is))

  -- they are what the test asks for
  pub part-asked : Passed (two_readings v w k) × ((take (16 * j + 16 - 16 * j) (drop (16 * j) q) ≡ counts_of 16 v) × (c ≡ counts_of 16 w))
  part-asked =
      (subst (λ x. Passed (two_readings x w k)) (sym part-is) (pair-good (place_at (length w) p j) w k a.fit place-reading a.reading), (part-counts, a.counts))

  -- what it tells
  module _ (d : ℕ) {r : Bool} (e : r ≡ far_from d v w) where
    told : r ≡ far_from d (place_at (length w) p j) w
    told = e ∙ ap (λ (x : List ℕ). far_from d x w) part-is

    -- one that is nearer decides the test
    pub clear-ends : r ≡ false → false ≡ clear_in (length w) d p t w
    clear-ends l =
        sym (refuted (clear_in (length w) d p t w) (λ h. clash (far_from d (place_at (length w) p j) w) (all-at t (λ j. far_from d (place_at (length w) p j) w) h j b) (sym told ∙ l)))
