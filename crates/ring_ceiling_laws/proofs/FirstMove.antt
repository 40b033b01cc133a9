-- What a step reports, by its first move. w is a prenecklace of n and k; the laws of `ring_laws` (Bound, Next), said of `PrenecklaceOf` and `step_moves`.
--     some-shade       there is a shade: k is at least 1
--     next_of          the next prenecklace is one of the same n and k
--     step-none        no sector can be raised: 0 moves
--     step-one         the next prenecklace is of the kind: 1 move
--     step-more        it is not: one move more than from there
--     next-lyndon      the next prenecklace is a Lyndon word where the place that was raised is the last
use Rattle.words.proofs.Plain.{ℕ, suc, ◌<◌, ◌≤◌, arith, ◌≡◌, sym, ◌∙◌, Bool, true, false, List, length}
use Rattle.words.specs.Readings.{Reading}
use Rattle.rings.specs.{Necklace.lyndon, Next.last_low, Next.next_prenecklace}
use Rattle.ring_laws.proofs.{Classes.run-lyndon, Walk.Kind}
use Rattle.ring_laws.proofs.Next.{low-le, length-next, next-reading, next-prenecklace, next-is-run}
use Rattle.ring_laws.proofs.Bound.{next_here, moves-skip, bound-last}
use Rattle.ring_ceiling_laws.specs.Ceiling.{PrenecklaceOf, step_moves}

module _ (n k : ℕ) (w : List ℕ) (at : PrenecklaceOf n k w) where
  -- there is a shade
  pub some-shade : 0 < k
  some-shade = omega (arith, at.reading.shades 0 at.pos)

  -- it is a reading of its own length
  pub own-reading : Reading (length w) k w
  own-reading = rw at.reading.long at.reading

  -- and not empty
  pub own-pos : 0 < length w
  own-pos = omega (arith, at.pos, at.reading.long)

  -- the place that is raised next, counted from 1, is one of its places
  pub low-inside : last_low k w ≤ n
  low-inside = omega (arith, low-le k w, at.reading.long)

  -- no sector can be raised: no moves
  pub step-none : (kind : List ℕ → Bool) → last_low k w ≡ 0 → step_moves kind k w ≡ 0
  unfolding step_moves
  step-none kind z = bound-last kind k w z

  module _ (z : 0 < last_low k w) where
    -- the next prenecklace is one of the same n and k
    pub next_of : PrenecklaceOf n k (next_prenecklace k w)
    next_of = record { pos = at.pos; reading = next-reading k w z n at.reading; pre = next-prenecklace k w z at.pre }

    -- a Lyndon word where the place that was raised is the last
    pub next-lyndon : last_low k w ≡ n → lyndon (next_prenecklace k w) ≡ true
    next-lyndon e =
        run-lyndon (next_prenecklace k w) (last_low k w) (next-is-run k w z at.pre) (e ∙ sym (length-next k w ∙ at.reading.long))

    module _ (kind : List ℕ → Bool) (only : Kind kind) where
      -- it is of the kind: one move
      pub step-one : kind (next_prenecklace k w) ≡ true → step_moves kind k w ≡ 1
      unfolding step_moves
      step-one q =
          let e = next_here kind only k w own-reading at.pre z q in
          rw e.0 (sym e.1)

      -- it is not: one move more than from there
      pub step-more : kind (next_prenecklace k w) ≡ false → step_moves kind k w ≡ suc (step_moves kind k (next_prenecklace k w))
      unfolding step_moves
      step-more q = moves-skip kind only k w own-reading at.pre z q
