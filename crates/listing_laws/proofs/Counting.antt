-- How many rings and how many moves a listing has behind it when it stands at a ring.
--     rings_to, moves_to                      specs/Standing, passed on
--     count-bound                           no test passes for more readings of n and k than there are, k to the power n
--     zeros-up_to                            the all-zero ring is the least reading
--     rings-start, rings-next, rings-end    one ring at the all-zero ring, one more at each next, all at the last
--     rings-bound, moves-bound              never more than k to the power n
--     moves-begin, moves_next               no moves at the all-zero ring, and the moves of each step more
--     last-low, last-moves, moves-end       the last ring has only k - 1, no moves are left there, and all prenecklaces but one were moved to
use Rattle.words.proofs.Plain.{ℕ, zero, suc, ◌+◌, ◌-◌, ◌*◌, ◌^◌, ◌<◌, ◌≤◌, arith, ◌≡◌, refl, sym, ap, ◌∙◌, Bool, true, false, ◌&&◌, none, some, List, length}
use Rattle.words.proofs.Plain.{get_or, replicate, length-replicate, get_or-replicate}
use native.Mathlib.Nat.{pow-zero, pow-succ', suc-mul, zero-mul}
use Rattle.words.specs.Order.{before, up_to, same}
use Rattle.words.specs.Readings.{Reading, readings, bit, total, count}
use Rattle.words.proofs.Split.{lt, eq, gt, tri, Test, passes, fails, test, both, not_right, refuted, clash}
use Rattle.words.proofs.{Sequence.sec, Sequence.Less, Readings.readings-all, Readings.nothing-first}
use Rattle.words.proofs.Lex.{Lex, ahead, equal, behind, lex, same_refl, same_false, before-irrefl, before-trans, before-asym, before-up_to, before-not-up_to}
use Rattle.words.proofs.Lex.{up_to-refl, up_to-split, up_to-before-trans, not-before, not-less-up_to}
use Rattle.words.proofs.Count.{sum_below, sum-cong, total-cons, total-le, count-split, count-cong, count-one}
use Rattle.rings.specs.{Necklace.necklace, Prenecklace.prenecklace, Next.last_low}
use Rattle.rings.specs.Steps.{above_of, next_of, passed, moves, how_many}
use Rattle.ring_laws.proofs.{Repeat.Turned, Words.of-neck, Next.low-or-full, Next.none_before}
use Rattle.ring_laws.proofs.Moves.{before-not-same, after-not-same, moves-start, moves-full, moves-join}
use Rattle.ring_laws.proofs.FullWalk.{next-facts, length-zeros, zeros-at, zeros-reading, zeros-necklace, walk-sum, walk-exists, walk-moves}
use Rattle.listing_spec.specs.Listing.{zero_ring}
unfoldable pub use Rattle.listing_laws.specs.Standing.{rings_to, moves_to}

-- ---- how many readings there are

sum_same : (k a : ℕ) → sum_below k (λ b. a) ≡ k * a
unfolding sum_below
sum_same zero a = sym (zero-mul a)
sum_same (suc k) a = rw (sum_same k a, suc-mul k a)

-- there are k to the power n readings
ones : (n k : ℕ) → total (λ w. 1) (readings n k) ≡ k ^ n
unfolding readings total
ones zero k = sym (pow-zero k)
ones (suc n) k =
    total-cons n k (λ w. 1) ∙ sum-cong k (λ b. total (λ w. 1) (readings n k)) (λ b. k ^ n) (λ b l. ones n k) ∙ sum_same k (k ^ n) ∙ sym (pow-succ' k n)

-- so no test passes for more
pub count-bound : (f : List ℕ → Bool) (n k : ℕ) → count f (readings n k) ≤ k ^ n
count-bound f n k = rw (sym (ones n k)) (total-le (λ w. bit (f w)) (λ w. 1) (readings n k) (λ w r. at_most (f w)) (readings-all n k))
  where
    at_most : (b : Bool) → bit b ≤ 1
    at_most true = omega arith
    at_most false = omega arith

-- ---- rings

-- nothing is below the all-zero ring
pub zeros-up_to : (n k : ℕ) (v : List ℕ) → Reading n k v → up_to (zero_ring n) v ≡ true
zeros-up_to n k v r =
    not-less-up_to (zero_ring n) v (length-zeros n ∙ sym r.long) (λ l. omega (arith, l.less, zeros-at n l.at))

pub rings-bound : (k : ℕ) (v : List ℕ) → rings_to k v ≤ k ^ length v
unfolding rings_to
rings-bound k v = count-bound (λ u. necklace u && up_to u v) (length v) k

-- the all-zero ring is the first
pub rings-start : (n k : ℕ) → 0 < k → rings_to k (zero_ring n) ≡ 1
unfolding rings_to
rings-start n k z =
    rw (length-zeros n) (count-cong (λ u. necklace u && up_to u (zero_ring n)) (same (zero_ring n)) (readings n k) one (readings-all n k) ∙ count-one n k (zero_ring n) (zeros-reading n k z))
  where
    one : (u : List ℕ) → Reading n k u → (necklace u && up_to u (zero_ring n)) ≡ same (zero_ring n) u
    one u r =
        elim (lex (zero_ring n) u) [
          | ahead l ↦ rw (before-not-up_to u (zero_ring n) l, before-not-same (zero_ring n) u l) (not_right (necklace u) false refl)
          | equal e ↦ rw (← e, zeros-necklace n, up_to-refl (zero_ring n), same_refl (zero_ring n))
          | behind l ↦ clash (up_to (zero_ring n) u) (zeros-up_to n k u r) (before-not-up_to (zero_ring n) u l)
        ]

-- x is the next necklace after v
module _ (k : ℕ) (v x : List ℕ) (next : next_of necklace k v ≡ some x) where
  -- u is not above x where it is not above v, or is x
  split-ring : (u : List ℕ) → Reading (length v) k u → bit (necklace u && up_to u x) ≡ bit (necklace u && up_to u v) + bit (same x u)
  split-ring u r =
      let f = next-facts necklace k v x next in
      elim (lex u v) [
        | ahead l ↦ low (before-up_to u v l) (before-trans u v x l f.1)
        | equal e ↦ low (rw e (up_to-refl v)) (rw e f.1)
        | behind l ↦ high f.2 (f.3 u r l) l (test (necklace u))
      ]
    where
      low : up_to u v ≡ true → before u x ≡ true → bit (necklace u && up_to u x) ≡ bit (necklace u && up_to u v) + bit (same x u)
      low a b = rw (a, before-up_to u x b, after-not-same x u b) (omega arith)

      at : up_to x u ≡ true → Lex u x → bit (up_to u x) ≡ bit (same x u)
      at h (ahead a) = clash (up_to x u) h (before-not-up_to x u a)
      at h (equal e) = rw (e, up_to-refl x, same_refl x)
      at h (behind b) = rw (before-not-up_to u x b, before-not-same x u b)

      high : necklace x ≡ true → (necklace u ≡ true → up_to x u ≡ true) → before v u ≡ true → Test (necklace u) → bit (necklace u && up_to u x) ≡ bit (necklace u && up_to u v) + bit (same x u)
      high q h l (fails p) = rw (p, same_false x u (λ e. clash (necklace u) (rw e at q) p)) (omega arith)
      high q h l (passes p) = rw (p, before-not-up_to u v l) (omega (arith, at (h p) (lex u x)))

  -- one ring more
  pub rings-next : rings_to k x ≡ suc (rings_to k v)
  unfolding rings_to
  rings-next =
      let f = next-facts necklace k v x next in
      rw f.0.long (omega (
        arith,
        count-split (λ u. necklace u && up_to u x) (λ u. necklace u && up_to u v) (same x) (readings (length v) k) split-ring (readings-all (length v) k),
        count-one (length v) k x f.0,
      ))

  -- u is passed on the way to x where it is passed on the way to v or from v on
  split-move : (z u : List ℕ) → up_to z v ≡ true → before v x ≡ true → bit (passed z (some x) u) ≡ bit (passed z (some v) u) + bit (passed v (some x) u)
  unfolding passed above_of
  split-move z u up gap =
      elim (lex u v) [
        | ahead l ↦ rw (before-up_to u v l, before-up_to u x (before-trans u v x l gap), before-asym u v l) (low (before z u && prenecklace u))
        | equal e ↦ rw (e, up_to-refl v, before-up_to v x gap, before-irrefl v) (low (before z v && prenecklace v))
        | behind l ↦ rw (before-not-up_to u v l, l, up_to-before-trans z v u up l) (high (prenecklace u) (up_to u x))
      ]
    where
      low : (a : Bool) → bit (a && true) ≡ bit (a && true) + bit (false && prenecklace u && true)
      low a = omega arith

      high : (a b : Bool) → bit (a && b) ≡ bit (a && false) + bit (a && b)
      high true b = omega arith
      high false b = omega arith

  -- and the moves of the step
  pub moves_next : Reading (length v) k v → moves_to k x ≡ moves_to k v + moves k v (some x)
  unfolding moves_to moves
  moves_next reading =
      let f = next-facts necklace k v x next in
      let z = zero_ring (length v) in
      rw (f.0.long, length-zeros (length v))
      (count-split (passed z (some x)) (passed z (some v)) (passed v (some x)) (readings (length v) k) (λ u r. split-move z u (zeros-up_to (length v) k v reading) f.1) (readings-all (length v) k))

pub moves-bound : (k : ℕ) (v : List ℕ) → moves_to k v ≤ k ^ length v
unfolding moves_to moves
moves-bound k v =
    let z = zero_ring (length v) in
    rw (length-zeros (length v)) (count-bound (passed z (some v)) (length v) k)

pub moves-begin : (n k : ℕ) → moves_to k (zero_ring n) ≡ 0
unfolding moves_to
moves-begin n k = rw (length-zeros n) (moves-start k (zero_ring n))

-- ---- the last ring

-- the ring of n sectors that are all k - 1
top : ℕ → ℕ → List ℕ
top n k = replicate n (k - 1)

top-at : (n k i : ℕ) → i < n → get_or (top n k) i 0 ≡ k - 1
unfolding top
top-at n k i h = get_or-replicate n i (k - 1) 0 h

unfold-top : (n k : ℕ) → top n k ≡ replicate n (k - 1)
unfolding top
unfold-top n k = refl

length-top : (n k : ℕ) → length (top n k) ≡ n
unfolding top
length-top n k = length-replicate n (k - 1)

top-reading : (n k : ℕ) → 0 < k → Reading n k (top n k)
top-reading n k z = record { long = length-top n k; shades = λ i b. rw (top-at n k i b) (omega arith) }

-- it is a necklace: each turn is itself
top-necklace : (n k : ℕ) → necklace (top n k) ≡ true
top-necklace n k = of-neck (top n k) neck
  where
    neck : (i : ℕ) (t : ℕ → ℕ) → i < length (top n k) → Turned (sec (top n k)) (length (top n k)) i t → Less t (sec (top n k)) (length (top n k)) → ⊥
    neck i t b q l =
        let m = l.at in
        let w : m < n = omega (arith, l.bound, length-top n k) in
        elim (tri (i + m) (length (top n k))) [
          | lt h ↦ omega (arith, l.less, q.low m (i + m) refl h, top-at n k m w, top-at n k (i + m) (omega (arith, length-top n k)))
          | eq h ↦ omega (arith, l.less, q.high m 0 (omega arith) l.bound, top-at n k m w, top-at n k 0 (omega arith))
          | gt h ↦ omega (arith, l.less, q.high m (i + m - length (top n k)) (omega arith) l.bound, top-at n k m w, top-at n k (i + m - length (top n k)) (omega (arith, length-top n k)))
        ]

module _ (n k : ℕ) (v : List ℕ) (z : 0 < k) (reading : Reading n k v) (none_left : next_of necklace k v ≡ none) where
  -- no necklace lies above
  above-none : (u : List ℕ) → Reading n k u → necklace u ≡ true → before v u ≡ false
  unfolding next_of above_of
  above-none u r q =
      refuted (before v u) (λ b. clash (above_of necklace v u) (both (before v u) (necklace u) b q) (nothing-first (length v) k (above_of necklace v) none_left u (rw reading.long r)))

  -- so all rings have been listed
  pub rings-end : rings_to k v ≡ how_many necklace n k
  unfolding rings_to how_many
  rings-end = rw reading.long (count-cong (λ u. necklace u && up_to u v) necklace (readings n k) all (readings-all n k))
    where
      all : (u : List ℕ) → Reading n k u → (necklace u && up_to u v) ≡ necklace u
      all u r = elim (test (necklace u)) [ passes q ↦ rw (q, not-before v u (above-none u r q)) | fails q ↦ rw q ]

  -- v is the ring of k - 1 alone, where no sector can be raised
  pub last-low : last_low k v ≡ 0
  last-low =
      let r = top-reading n k z in
      let e : last_low k (top n k) ≡ 0 = (low-or-full n k (top n k) r).1 (unfold-top n k) in
      let up = not-before (top n k) v (none_before k (top n k) v e (rw (length-top n k) reading)) in
      (low-or-full n k v reading).1 (up_to-split v (top n k) up (above-none (top n k) r (top-necklace n k)) ∙ unfold-top n k)

  -- from which no moves are left
  pub last-moves : moves k v none ≡ 0
  last-moves = moves-full k v last-low none

  -- so the listing has moved to every prenecklace but the first
  pub moves-end : suc (moves_to k v) ≡ how_many prenecklace n k
  unfolding moves_to
  moves-end =
      let f = walk-exists necklace k (zero_ring n) in
      let s = walk-sum necklace n k z f.0 f.1 f.2 in
      rw reading.long (omega (arith, s, walk-moves necklace k f.2, to_end (lex (zero_ring n) v)))
    where
      to_end : Lex (zero_ring n) v → moves k (zero_ring n) none ≡ moves k (zero_ring n) (some v)
      to_end (ahead l) = omega (arith, moves-join k (zero_ring n) v (reading.long ∙ sym (length-zeros n)) l, last-moves)
      to_end (equal e) = omega (arith, last-moves, ap (λ (u : List ℕ). moves k u none) e, ap (λ (u : List ℕ). moves k (zero_ring n) (some u)) e, moves-start k (zero_ring n))
      to_end (behind l) = clash (up_to (zero_ring n) v) (zeros-up_to n k v reading) (before-not-up_to (zero_ring n) v l)
