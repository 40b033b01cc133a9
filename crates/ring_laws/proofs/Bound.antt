-- How many moves a step can take (demand 3). w is any prenecklace of n sectors, at least one.
--     next_here, next-skip, moves-skip    the step by its first move: the next prenecklace is the answer, or the answer is the answer from there, one move more
--     lyn-rises       each move raises lyn, once it is below n
--     bound-lyn       from a prenecklace of lyn p below n, at most n - p moves lead to the next necklace
--     bound-necklace  from any prenecklace at most (n + 1) / 2 moves, rounded down, lead to the next necklace, or to Done
--     bound-last      0 at the last ring
use Rattle.words.proofs.Plain.{ℕ, zero, suc, ◌+◌, ◌-◌, ◌/◌, ◌%◌, ◌<◌, ◌≤◌, arith, ◌≡◌, refl, sym, ⊎_elim, Bool, true, false, Option, none, some, List, length}
use native.Mathlib.Nat.{mod-lt, mod-le, mod-eq-sub-mod, eq-zero-or-pos}
use Rattle.words.specs.{Order.before, Order.up_to, Readings.Reading, Readings.readings}
use Rattle.words.proofs.Split.{lt, eq, gt, tri, Test, passes, fails, test, agree, both, both_left, both_right, clash}
use Rattle.words.proofs.Lex.{ahead, equal, behind, lex, before-trans, before-up_to, before-not-up_to}
use Rattle.words.proofs.Readings.{readings-all, all-weaken, first_cong, first_some}
use Rattle.words.proofs.Sequence.{sec}
use Rattle.rings.specs.{Necklace.necklace, Prenecklace.prenecklace, Prenecklace.lyn}
use Rattle.rings.specs.Next.{last_low, next_prenecklace, raised}
use Rattle.rings.specs.Steps.{above_of, next_of, moves}
use Rattle.ring_laws.proofs.{Raise.low-past, Raise.low-far, Words.necklace-prenecklace}
use Rattle.ring_laws.proofs.Lyndon.{lyn-run, run-necklace}
use Rattle.ring_laws.proofs.Next.{raised_at, low-le, length-next, next-before, next-reading, next-prenecklace, next-lyn-low, next-up_to}
use Rattle.ring_laws.proofs.Moves.{Reaches, moves-first, moves-full}
use Rattle.ring_laws.proofs.Walk.{Kind, walk_start_lem, walk-found}

module _ (kind : List ℕ → Bool) (only : Kind kind) (k : ℕ) (w : List ℕ) (reading : Reading (length w) k w) (pre : prenecklace w ≡ true) (z : 0 < last_low k w) where
  -- the next prenecklace is the answer, after one move
  pub next_here : kind (next_prenecklace k w) ≡ true → (next_of kind k w ≡ some (next_prenecklace k w)) × (1 ≡ moves k w (some (next_prenecklace k w)))
  next_here q = walk-found kind k w w 0 (walk_start_lem kind k w reading pre) only z q

  -- or the answer is the one from there
  pub next-skip : kind (next_prenecklace k w) ≡ false → next_of kind k w ≡ next_of kind k (next_prenecklace k w)
  unfolding next_of above_of
  next-skip q = rw (length-next k w) (first_cong (above_of kind w) (above_of kind (next_prenecklace k w)) (readings (length w) k) (all-weaken both-above (readings-all (length w) k)))
    where
      strictly : (u : List ℕ) → kind u ≡ true → up_to (next_prenecklace k w) u ≡ true → before (next_prenecklace k w) u ≡ true
      strictly u p h =
          elim (lex (next_prenecklace k w) u) [
            | ahead l ↦ l
            | equal e ↦ clash (kind u) p (rw e at q)
            | behind l ↦ clash (up_to (next_prenecklace k w) u) h (before-not-up_to (next_prenecklace k w) u l)
          ]

      both-above : (u : List ℕ) → Reading (length w) k u → above_of kind w u ≡ above_of kind (next_prenecklace k w) u
      both-above u r =
          agree (above_of kind w u) (above_of kind (next_prenecklace k w) u) (λ h.
          let p = both_right (before w u) (kind u) h in
          both (before (next_prenecklace k w) u) (kind u) (strictly u p (next-up_to k w z pre u r (only u p) (both_left (before w u) (kind u) h))) p)
          (λ h.
          both (before w u) (kind u) (before-trans w (next_prenecklace k w) u (next-before k w z)
          (both_left (before (next_prenecklace k w) u) (kind u) h)) (both_right (before (next_prenecklace k w) u) (kind u) h))

  -- the answer from a prenecklace is not below it
  reaches : (c : List ℕ) (answer : Option (List ℕ)) → next_of kind k c ≡ answer → Reaches c answer
  unfolding next_of above_of
  reaches c none e = tt
  reaches c (some v) e = before-up_to c v (both_left (before c v) (kind v) (first_some (length c) k (above_of kind c) v e).1)

  pub moves-skip : kind (next_prenecklace k w) ≡ false → moves k w (next_of kind k w) ≡ suc (moves k (next_prenecklace k w) (next_of kind k (next_prenecklace k w)))
  moves-skip q =
      rw (next-skip q)
      (moves-first k w reading pre z (next_of kind k (next_prenecklace k w)) (reaches (next_prenecklace k w) (next_of kind k (next_prenecklace k w)) refl))

module _ (k : ℕ) (w : List ℕ) (reading : Reading (length w) k w) (pos : 0 < length w) (pre : prenecklace w ≡ true) where
  -- each move raises lyn, once it is below n
  pub lyn-rises : 0 < last_low k w → lyn w < length w → lyn w < last_low k w
  lyn-rises z h =
      omega (arith, low-past (sec w) (length w) (lyn w) (lyn-run w pos pre) k (last_low k w - 1) (sec (raised (last_low k w) w)) (raised_at k w z) h)

  -- a cut copy at the end makes it jump past every whole copy
  pub lyn-jumps : 0 < last_low k w → 0 < length w % lyn w → length w - length w % lyn w < last_low k w
  lyn-jumps z h =
      omega (arith, low-far (sec w) (length w) (lyn w) (lyn-run w pos pre) k (last_low k w - 1) (sec (raised (last_low k w) w)) (raised_at k w z) h)

  -- a prenecklace of lyn n is a necklace
  full-necklace : lyn w ≡ length w → necklace w ≡ true
  full-necklace e = run-necklace w (lyn w) (lyn-run w pos pre) (rw e (native.Mathlib.Nat.mod_self (length w)))

  -- no necklace: lyn is below n, and a cut copy stands at the end
  pub not_full : necklace w ≡ false → lyn w < length w
  not_full h =
      elim (tri (lyn w) (length w)) [ lt l ↦ l | eq l ↦ clash (necklace w) (full-necklace l) h | gt l ↦ absurd (omega (arith, (lyn-run w pos pre).fits)) ]

  pub cut-copy : necklace w ≡ false → 0 < length w % lyn w
  cut-copy h = ⊎_elim (λ e. clash (necklace w) (run-necklace w (lyn w) (lyn-run w pos pre) e) h) (λ l. l) (eq-zero-or-pos (length w % lyn w))

-- 0 moves at the last ring
pub bound-last : (kind : List ℕ → Bool) (k : ℕ) (w : List ℕ) → last_low k w ≡ 0 → moves k w (next_of kind k w) ≡ 0
bound-last kind k w z = moves-full k w z (next_of kind k w)

-- from a prenecklace whose lyn is below n
pub bound-lyn : (f k : ℕ) (w : List ℕ) → Reading (length w) k w → 0 < length w → prenecklace w ≡ true → lyn w < length w → length w - lyn w < f →
    moves k w (next_of necklace k w) ≤ length w - lyn w
bound-lyn zero k w reading pos pre h b = absurd (omega arith)
bound-lyn (suc f) k w reading pos pre h b =
    elim (tri 0 (last_low k w)) [
      | lt z ↦ elim (test (necklace (next_prenecklace k w))) [
        | passes q ↦ found z q
        | fails q ↦ on z q
            (bound-lyn f k (next_prenecklace k w) (again z) (omega (arith, length-next k w)) (next-prenecklace k w z pre)
            (not_full k (next_prenecklace k w) (again z) (omega (arith, length-next k w)) (next-prenecklace k w z pre) q)
            (omega (arith, length-next k w, next-lyn-low k w z pre, lyn-rises k w reading pos pre z h)))
      ]
      | eq z ↦ omega (arith, bound-last necklace k w (sym z))
      | gt z ↦ absurd (omega arith)
    ]
  where
    again : 0 < last_low k w → Reading (length (next_prenecklace k w)) k (next_prenecklace k w)
    again z = rw (length-next k w) (next-reading k w z (length w) reading)

    found : 0 < last_low k w → necklace (next_prenecklace k w) ≡ true → moves k w (next_of necklace k w) ≤ length w - lyn w
    found z q =
        let e = next_here necklace necklace-prenecklace k w reading pre z q in
        rw e.0 (omega (arith, e.1))

    on : 0 < last_low k w → necklace (next_prenecklace k w) ≡ false → moves k (next_prenecklace k w) (next_of necklace k (next_prenecklace k w)) ≤ length
        (next_prenecklace k w) - lyn (next_prenecklace k w) →
        moves k w (next_of necklace k w) ≤ length w - lyn w
    on z q l =
        omega (arith, moves-skip necklace necklace-prenecklace k w reading pre z q, length-next k w, next-lyn-low k w z pre, lyn-rises k w reading pos pre z h)

-- the remainder of a number by one not above it leaves room for that one once more
mod-room : (n p : ℕ) → 0 < p → p ≤ n → n % p + p ≤ n
mod-room n p z h = omega (arith, mod-eq-sub-mod h, mod-le (n - p) p)

-- from a prenecklace that is no necklace, at most as many moves as its cut copy has sectors
pub bound-cut : (k : ℕ) (w : List ℕ) → Reading (length w) k w → 0 < length w → prenecklace w ≡ true → necklace w ≡ false → moves k w (next_of necklace k w) ≤ length w % lyn w
bound-cut k w reading pos pre h =
    elim (tri 0 (last_low k w)) [ lt z ↦ go z (test (necklace (next_prenecklace k w))) | eq z ↦ omega (arith, bound-last necklace k w (sym z)) | gt z ↦ absurd (omega arith) ]
  where
    short : 0 < length w % lyn w
    short = cut-copy k w reading pos pre h

    go : (z : 0 < last_low k w) → Test (necklace (next_prenecklace k w)) → moves k w (next_of necklace k w) ≤ length w % lyn w
    go z (passes q) =
        let e = next_here necklace necklace-prenecklace k w reading pre z q in
        rw e.0 (omega (arith, e.1, short))
    go z (fails q) =
        let v = next_prenecklace k w in
        let e = length-next k w in
        let r : Reading (length v) k v = rw e (next-reading k w z (length w) reading) in
        let p = next-prenecklace k w z pre in
        let l : 0 < length v = omega arith in
        omega (
          arith,
          moves-skip necklace necklace-prenecklace k w reading pre z q,
          bound-lyn (suc (length v - lyn v)) k v r l p (not_full k v r l p q) (omega arith),
          next-lyn-low k w z pre,
          lyn-jumps k w reading pos pre z short,
          low-le k w,
        )

-- from any prenecklace at most (n + 1) / 2 moves, rounded down, lead to the next necklace; all the moves there are, where there is none
pub bound-necklace : (k : ℕ) (w : List ℕ) → Reading (length w) k w → 0 < length w → prenecklace w ≡ true → moves k w (next_of necklace k w) ≤ (length w + 1) / 2
bound-necklace k w reading pos pre =
    elim (tri 0 (last_low k w)) [ lt z ↦ go z (test (necklace (next_prenecklace k w))) | eq z ↦ omega (arith, bound-last necklace k w (sym z)) | gt z ↦ absurd (omega arith) ]
  where
    go : (z : 0 < last_low k w) → Test (necklace (next_prenecklace k w)) → moves k w (next_of necklace k w) ≤ (length w + 1) / 2
    go z (passes q) =
        let e = next_here necklace necklace-prenecklace k w reading pre z q in
        rw e.0 (omega (arith, e.1))
    go z (fails q) =
        let v = next_prenecklace k w in
        let e = length-next k w in
        let r : Reading (length v) k v = rw e (next-reading k w z (length w) reading) in
        let p = next-prenecklace k w z pre in
        let l : 0 < length v = omega arith in
        let run = lyn-run v l p in
        omega (
          arith,
          moves-skip necklace necklace-prenecklace k w reading pre z q,
          bound-cut k v r l p q,
          mod-room (length v) (lyn v) run.pos run.fits,
          mod-lt (length v) run.pos,
        )
