-- No step goes further than the ceilings (02, request h; demand 3).
--     low-copy             the last place that can be raised is not before the start of a copy of the run
--     copy_start           a run shorter than n has a copy, whole or cut, that starts in the second half
--     moves-past           once a place is raised, at most the places behind it are raised before a Lyndon word comes: one move each
--     within-half          from a prenecklace that is no Lyndon word at most n / 2 moves lead to the next one, or to Done
--     lyndon-ceiling       from any prenecklace at most n / 2 + 1: request h
--     necklace-ceiling     demand 3's bound in the same words
use Rattle.words.proofs.Plain.{ℕ, zero, suc, ◌+◌, ◌-◌, ◌*◌, ◌/◌, ◌%◌, ◌<◌, ◌≤◌, arith, ◌≡◌, sym, ap, ◌∙◌, false, List}
use native.Mathlib.Nat.{mod-lt, mod-le, mod-eq-sub-mod, div-add-mod', mul-mod_left}
use Rattle.words.proofs.Split.{lt, eq, gt, tri, passes, fails, test, clash}
use Rattle.words.proofs.Sequence.{sec}
use Rattle.rings.specs.{Necklace.necklace, Necklace.lyndon, Prenecklace.lyn}
use Rattle.rings.specs.Next.{last_low, next_prenecklace, raised}
use Rattle.ring_laws.proofs.{Run.Run, Repeat.run_rep, Raise.Raised, Raise.low_first, Lyndon.lyn-run, Classes.lyndon-lyn}
use Rattle.ring_laws.proofs.{Next.raised_at, Next.next-lyn-low, Bound.lyn-rises, Bound.bound-necklace, Sums.lyndon-prenecklace}
use Rattle.ring_ceiling_laws.specs.Ceiling.{PrenecklaceOf, step_moves, Ceiling, necklace_ceiling, LyndonCeilingHolds}
use Rattle.ring_ceiling_laws.proofs.FirstMove.{own-reading, own-pos, low-inside, next_of, step-none, step-one, step-more}

-- ---- where copies of a run start

-- each copy starts with the least shade, so where any place can be raised, the last is not before a copy's start
low-copy : (a : ℕ → ℕ) (n p : ℕ) → Run a n p → (k j : ℕ) (b : ℕ → ℕ) → Raised k a n j b → (m : ℕ) → m < n → m % p ≡ 0 → m ≤ j
low-copy a n p r k j b raised m h e =
    elim (tri m j) [
      | lt l ↦ omega arith
      | eq l ↦ omega arith
      | gt l ↦ absurd (omega (arith, raised.full m l h, raised.low, low_first a n p r j raised.inside, run_rep a n p r m h ∙ ap a e))
    ]

-- the last multiple of p below n: at most p places follow it, and at least p stand before it
copy_start : (n p : ℕ) → 0 < p → p < n → (s : ℕ) × (s < n) × (s % p ≡ 0) × (n - s ≤ n / 2)
copy_start n p z h = (n - 1 - (n - 1) % p, omega (arith, mod-le (n - 1) p), start, omega (arith, mod-lt (n - 1) z, room))
  where
    start : (n - 1 - (n - 1) % p) % p ≡ 0
    start =
        let e : n - 1 - (n - 1) % p ≡ (n - 1) / p * p = omega (arith, div-add-mod' (n - 1) p) in
        rw e (mul-mod_left ((n - 1) / p) p)

    room : (n - 1) % p + p ≤ n - 1
    room =
        let l : p ≤ n - 1 = omega arith in
        omega (arith, mod-eq-sub-mod l, mod-le (n - 1 - p) p)

-- ---- the moves to the next Lyndon word

module _ (n k : ℕ) (w : List ℕ) (at : PrenecklaceOf n k w) where
  -- the run of a prenecklace: its lyn over and over
  run : Run (sec w) n (lyn w)
  run = rw at.reading.long at (lyn-run w (own-pos n k w at) at.pre)

  -- a prenecklace that is no Lyndon word has its lyn below n
  short-lyn : lyndon w ≡ false → lyn w < n
  short-lyn h =
      elim (tri (lyn w) n) [
        | lt l ↦ l
        | eq l ↦ clash (lyndon w) ((lyndon-lyn w (own-pos n k w at) at.pre).1 (l ∙ sym at.reading.long)) h
        | gt l ↦ absurd (omega (arith, run.fits))
      ]

  -- the place that is raised is not before the start of a copy
  low-start : 0 < last_low k w → (m : ℕ) → m < n → m % lyn w ≡ 0 → m < last_low k w
  low-start z m h e =
      omega (
        arith,
        low-copy (sec w) n (lyn w) run k (last_low k w - 1) (sec (raised (last_low k w) w)) (rw at.reading.long at (raised_at k w z)) m h e,
      )

module _ (n k : ℕ) (w : List ℕ) (at : PrenecklaceOf n k w) (z : 0 < last_low k w) where
  -- the place that is raised next lies past the one that was raised, where no Lyndon word has come
  low-rises : lyndon (next_prenecklace k w) ≡ false → 0 < last_low k (next_prenecklace k w) → last_low k w < last_low k (next_prenecklace k w)
  low-rises q y =
      let v = next_prenecklace k w in
      let next = next_of n k w at z in
      omega (
        arith,
        lyn-rises k v (own-reading n k v next) (own-pos n k v next) next.pre y (omega (arith, short-lyn n k v next q, next.reading.long)),
        next-lyn-low k w z at.pre,
      )

-- each move raises a place further right, and raising the last makes a Lyndon word: at most one move for each place from the one that is raised on
moves-past : (f n k : ℕ) (w : List ℕ) → PrenecklaceOf n k w → 0 < last_low k w → n - last_low k w < f → step_moves lyndon k w ≤ suc (n - last_low k w)
moves-past zero n k w at z b = absurd (omega arith)
moves-past (suc f) n k w at z b =
    elim (test (lyndon v)) [
      | passes q ↦ omega (arith, step-one n k w at z lyndon lyndon-prenecklace q)
      | fails q ↦ elim (tri 0 (last_low k v)) [
        | lt y ↦ omega (arith, more q, low-rises n k w at z q y, low-inside n k v next, moves-past f n k v next y (omega (arith, low-rises n k w at z q y, low-inside n k v next)))
        | eq y ↦ omega (arith, more q, step-none n k v next lyndon (sym y))
        | gt y ↦ absurd (omega arith)
      ]
    ]
  where
    v : List ℕ
    v = next_prenecklace k w

    next : PrenecklaceOf n k (next_prenecklace k w)
    next = next_of n k w at z

    more : lyndon (next_prenecklace k w) ≡ false → step_moves lyndon k w ≡ suc (step_moves lyndon k (next_prenecklace k w))
    more q = step-more n k w at z lyndon lyndon-prenecklace q

-- from a prenecklace that is no Lyndon word at most half of n
within-half : (n k : ℕ) (w : List ℕ) → PrenecklaceOf n k w → lyndon w ≡ false → step_moves lyndon k w ≤ n / 2
within-half n k w at h =
    elim (tri 0 (last_low k w)) [
      | lt z ↦ go z (copy_start n (lyn w) (run n k w at).pos (short-lyn n k w at h))
      | eq z ↦ omega (arith, step-none n k w at lyndon (sym z))
      | gt z ↦ absurd (omega arith)
    ]
  where
    go : 0 < last_low k w → (s : ℕ) × (s < n) × (s % lyn w ≡ 0) × (n - s ≤ n / 2) → step_moves lyndon k w ≤ n / 2
    go z (s, l, d, b) = omega (arith, moves-past (suc (n - last_low k w)) n k w at z (omega arith), low-start n k w at z s l d)

-- request h: from any prenecklace at most half of n, rounded down, plus 1; Done included
pub lyndon-ceiling : LyndonCeilingHolds
lyndon-ceiling n k w at =
    elim (tri 0 (last_low k w)) [
      | lt z ↦ elim (test (lyndon (next_prenecklace k w))) [
        | passes q ↦ omega (arith, step-one n k w at z lyndon lyndon-prenecklace q)
        | fails q ↦ omega (arith, step-more n k w at z lyndon lyndon-prenecklace q, within-half n k (next_prenecklace k w) (next_of n k w at z) q)
      ]
      | eq z ↦ omega (arith, step-none n k w at lyndon (sym z))
      | gt z ↦ absurd (omega arith)
    ]

-- demand 3's bound, in the same words
pub necklace-ceiling : (n k : ℕ) → Ceiling necklace n k (necklace_ceiling n)
unfolding step_moves
necklace-ceiling n k w at = omega (arith, bound-necklace k w (own-reading n k w at) (own-pos n k w at) at.pre, at.reading.long)
