-- Moves are counted one prenecklace at a time (01, 'Walks'; demand 3). w is where a step starts, c a prenecklace not below it.
--     moves-start      no move leads from w to w
--     moves-last       one move more leads to the prenecklace after c
--     moves-first      of the moves to an answer that lies past the next prenecklace, the first is the one to it
--     moves-full       nothing is passed where every sector is k - 1
--     moves-join       the moves to v and all moves above v are all moves above w
use Rattle.words.proofs.Plain.{ℕ, suc, ◌+◌, ◌<◌, arith, ◌≡◌, refl, Bool, true, false, ◌&&◌, Option, none, some, List, length}
use Rattle.words.specs.Order.{before, up_to, same}
use Rattle.words.specs.Readings.{Reading, readings, bit}
use Rattle.words.proofs.Split.{Test, passes, fails, test, both, both_left, both_right, not_right, refuted, clash}
use Rattle.words.proofs.Lex.{Lex, ahead, equal, behind, lex, same_true, same_refl, same_false, before-irrefl, before-trans, before-asym}
use Rattle.words.proofs.Lex.{up_to-refl, before-up_to, before-not-up_to, up_to-before-trans, up_to-not-before}
use Rattle.words.proofs.Readings.{readings-all}
use Rattle.words.proofs.Count.{count-zero, count-split, count-one}
use Rattle.rings.specs.{Prenecklace.prenecklace, Next.last_low, Next.next_prenecklace}
use Rattle.rings.specs.Steps.{above_of, passed, moves}
use Rattle.ring_laws.proofs.Next.{length-next, next-before, next-reading, next-prenecklace, next-up_to, none_before}

-- the answer is not below v
abbrev pub Reaches : List ℕ → Option (List ℕ) → Type 0
Reaches v none = Unit {0}
Reaches v (some x) = up_to v x ≡ true

-- two different words are not the same
pub before-not-same : (v w : List ℕ) → before v w ≡ true → same v w ≡ false
before-not-same v w h = same_false v w (λ e. clash (before w w) (rw e at h) (before-irrefl w))

pub after-not-same : (v w : List ℕ) → before w v ≡ true → same v w ≡ false
after-not-same v w h = same_false v w (λ e. clash (before w w) (rw e at h) (before-irrefl w))

-- no move leads from w to w
pub moves-start : (k : ℕ) (w : List ℕ) → moves k w (some w) ≡ 0
unfolding moves passed above_of
moves-start k w = count-zero (passed w (some w)) (readings (length w) k) none_passed (readings-all (length w) k)
  where
    none_passed : (u : List ℕ) → Reading (length w) k u → passed w (some w) u ≡ false
    none_passed u r =
        refuted (passed w (some w) u) (λ e.
        let a = both_left (before w u && prenecklace u) (up_to u w) e in
        clash (before w u) (both_left (before w u) (prenecklace u) a) (up_to-not-before w u (both_right (before w u && prenecklace u) (up_to u w) e)))

-- c is a prenecklace not below w, v is the least prenecklace above c: u is passed on the way to v where it is passed on the way to c, or is v
module _ (n k : ℕ) (w c v : List ℕ) (up : up_to w c ≡ true) (gap : before c v ≡ true) (prev : prenecklace v ≡ true)
    (least : (u : List ℕ) → Reading n k u → prenecklace u ≡ true → before c u ≡ true → up_to v u ≡ true) where
  split-last : (u : List ℕ) → Reading n k u → bit (passed w (some v) u) ≡ bit (passed w (some c) u) + bit (same v u)
  unfolding passed above_of
  split-last u r = elim (lex u c) [ ahead l ↦ low (before-up_to u c l) (before-trans u c v l gap) | equal e ↦ low (rw e (up_to-refl c)) (rw e gap) | behind l ↦ high l (test (prenecklace u)) ]
    where
      low : up_to u c ≡ true → before u v ≡ true → bit (before w u && prenecklace u && up_to u v) ≡ bit (before w u && prenecklace u && up_to u c) + bit (same v u)
      low a b = rw (a, before-up_to u v b, after-not-same v u b) (omega arith)

      at : prenecklace u ≡ true → before c u ≡ true → Lex u v → bit (up_to u v) ≡ bit (same v u)
      at p l (ahead a) = clash (up_to v u) (least u r p l) (before-not-up_to v u a)
      at p l (equal e) = rw (e, up_to-refl v, same_refl v)
      at p l (behind b) = rw (before-not-up_to u v b, before-not-same v u b)

      high : before c u ≡ true → Test (prenecklace u) → bit (before w u && prenecklace u && up_to u v) ≡ bit (before w u && prenecklace u && up_to u c) + bit (same v u)
      high l (fails p) =
          rw (not_right (before w u) (prenecklace u) p, same_false v u (λ e. clash (prenecklace u) (rw e at prev) p)) (omega arith)
      high l (passes p) = rw (p, up_to-before-trans w c u up l, before-not-up_to u c l) (omega (arith, at p l (lex u v)))

module _ (k : ℕ) (w c : List ℕ) (long : length c ≡ length w) (up : up_to w c ≡ true) (reading : Reading (length w) k c) (pre : prenecklace c ≡ true) (z : 0 < last_low k c) where
  -- one move more leads to the prenecklace after c
  pub moves-last : moves k w (some (next_prenecklace k c)) ≡ suc (moves k w (some c))
  unfolding moves
  moves-last =
      let v = next_prenecklace k c in
      let s = count-split (passed w (some v)) (passed w (some c)) (same v) (readings (length w) k)
      (split-last (length w) k w c v up (next-before k c z) (next-prenecklace k c z pre) (λ u r p l. next-up_to k c z pre u (rw long r) p l))
      (readings-all (length w) k) in
      omega (arith, s, count-one (length w) k v (next-reading k c z (length w) reading))

-- v is the least prenecklace above w: u is passed from w on where it is v or is passed from v on, for an answer not below v
module _ (n k : ℕ) (w v : List ℕ) (gap : before w v ≡ true) (prev : prenecklace v ≡ true) (least : (u : List ℕ) → Reading n k u → prenecklace u ≡ true → before w u ≡ true → up_to v u ≡ true) where
  above-first : (u : List ℕ) → Reading n k u → bit (above_of prenecklace w u) ≡ bit (same v u) + bit (above_of prenecklace v u)
  unfolding above_of
  above-first u r = elim (lex u v) [
    | ahead l ↦ under l (test (above_of prenecklace w u))
    | equal e ↦ rw (e, gap, prev, same_refl v, before-irrefl v)
        (omega arith)
    | behind l ↦ rw (before-trans w v u gap l, l, before-not-same v u l) (omega arith)
  ]
    where
      under : before u v ≡ true → Test (above_of prenecklace w u) → bit (before w u && prenecklace u) ≡ bit (same v u) + bit (before v u && prenecklace u)
      under l (passes a) = clash (up_to v u) (least u r (both_right (before w u) (prenecklace u) a) (both_left (before w u) (prenecklace u) a)) (before-not-up_to v u l)
      under l (fails a) = rw (a, before-asym u v l, after-not-same v u l) (omega arith)

  -- the answer's bound cuts both sides alike
  cut : (a s b t : Bool) → bit a ≡ bit s + bit b → (s ≡ true → t ≡ true) → bit (a && t) ≡ bit s + bit (b && t)
  cut true true true t e h = absurd (omega arith)
  cut true true false t e h = rw (h refl) (omega arith)
  cut true false true t e h = omega arith
  cut true false false t e h = absurd (omega arith)
  cut false true b t e h = absurd (omega arith)
  cut false false true t e h = absurd (omega arith)
  cut false false false t e h = omega arith

  split-first : (answer : Option (List ℕ)) → Reaches v answer → (u : List ℕ) → Reading n k u → bit (passed w answer u) ≡ bit (same v u) + bit (passed v answer u)
  unfolding passed
  split-first none h u r = above-first u r
  split-first (some x) h u r = cut (above_of prenecklace w u) (same v u) (above_of prenecklace v u) (up_to u x) (above-first u r) (λ e. rw (same_true v u e) at h)

module _ (k : ℕ) (w : List ℕ) (reading : Reading (length w) k w) (pre : prenecklace w ≡ true) (z : 0 < last_low k w) where
  -- of the moves to an answer that is not below the next prenecklace, the first is the one to it
  pub moves-first : (answer : Option (List ℕ)) → Reaches (next_prenecklace k w) answer → moves k w answer ≡ suc (moves k (next_prenecklace k w) answer)
  unfolding moves
  moves-first answer h =
      let v = next_prenecklace k w in
      let s = count-split (passed w answer) (same v) (passed v answer) (readings (length w) k)
      (split-first (length w) k w v (next-before k w z) (next-prenecklace k w z pre) (next-up_to k w z pre) answer h) (readings-all (length w) k)
      in
      rw (length-next k w) (omega (arith, s, count-one (length w) k v (next-reading k w z (length w) reading)))

-- nothing is passed where every sector is k - 1
pub moves-full : (k : ℕ) (w : List ℕ) → last_low k w ≡ 0 → (answer : Option (List ℕ)) → moves k w answer ≡ 0
unfolding moves passed above_of
moves-full k w z none = count-zero (passed w none) (readings (length w) k) (λ u r. rw (none_before k w u z r)) (readings-all (length w) k)
moves-full k w z (some v) = count-zero (passed w (some v)) (readings (length w) k) (λ u r. rw (none_before k w u z r)) (readings-all (length w) k)

-- the moves to v and all moves above v are all moves above w
pub moves-join : (k : ℕ) (w v : List ℕ) → length v ≡ length w → before w v ≡ true → moves k w none ≡ moves k w (some v) + moves k v none
unfolding moves passed above_of
moves-join k w v long gap =
    rw long (count-split (passed w none) (passed w (some v)) (passed v none) (readings (length w) k) split (readings-all (length w) k))
  where
    split : (u : List ℕ) → Reading (length w) k u → bit (passed w none u) ≡ bit (passed w (some v) u) + bit (passed v none u)
    split u r =
        elim (lex u v) [
          | ahead l ↦ rw (before-up_to u v l, before-asym u v l) (low (before w u && prenecklace u))
          | equal e ↦ rw (e, up_to-refl v, before-irrefl v) (low (before w v && prenecklace v))
          | behind l ↦ rw (before-not-up_to u v l, l, before-trans w v u gap l) (high (prenecklace u))
        ]
      where
        low : (a : Bool) → bit a ≡ bit (a && true) + bit (false && prenecklace u)
        low true = omega arith
        low false = omega arith

        high : (a : Bool) → bit a ≡ bit (a && false) + bit a
        high true = omega arith
        high false = omega arith
