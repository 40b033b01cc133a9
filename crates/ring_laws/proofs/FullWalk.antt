-- Full walks (01, 'Walks'; demand 3).
--     fewer-above      fewer readings lie above a greater reading
--     walk-exists      from every reading a full walk leads to its end
--     walk-moves       its moves add up to the prenecklaces above its start
--     walk-each, walk-kind, walk-increasing    it comes to each reading of the kind above its start exactly once, to nothing else, and in increasing order
--     zeros, zeros-necklace                    the all-zero ring (`rings`, specs/Steps, passed on), the first necklace
--     walk-sum, walk-sum-bound                 over the full walk by necklaces from the all-zero ring the moves add up to one less than the prenecklaces
--                                              of n and k, and to at most one less than the necklaces of lengths 1 to n together
use Rattle.words.proofs.Plain.{ℕ, zero, suc, ◌+◌, ◌-◌, ◌<◌, ◌≤◌, arith, ◌≡◌, refl, sym, ap, ◌∙◌, Bool, true, Option, none, some, List, [], ◌∷◌, length, get_or}
use Rattle.words.proofs.Plain.{replicate, length-replicate, get_or-replicate, List·get_d-eq-default}
use Rattle.words.specs.Order.{before, up_to, same}
use Rattle.words.specs.Readings.{Reading, readings, bit, total, count}
use Rattle.words.proofs.Split.{lt, eq, gt, tri, both, both_left, both_right, clash}
use Rattle.words.proofs.Sequence.{sec, Less}
use Rattle.words.proofs.Lex.{Lex, ahead, equal, behind, lex, same_refl, before-irrefl, before-trans, before-asym, before-not-up_to, before-less}
use Rattle.words.proofs.Readings.{All, nothing, also, all-weaken, Increasing, empty, more, readings-all, first_some, nothing-first}
use Rattle.words.proofs.Count.{count-split, count-one, count-zero, total-le, total-add}
use Rattle.rings.specs.{Necklace.necklace, Prenecklace.prenecklace}
use Rattle.rings.specs.Steps.{above_of, next_of, passed, moves, how_many, how_many_to, FullWalk, done, step}
pub use Rattle.rings.specs.Steps.{zeros}
use Rattle.ring_laws.proofs.{Words.of-pre, Words.of-neck, Sums.prenecklaces-necklaces}
use Rattle.ring_laws.proofs.Moves.{moves-join, before-not-same, after-not-same}

-- fewer readings lie above a greater reading
pub fewer-above : (n k : ℕ) (w v : List ℕ) → Reading n k v → before w v ≡ true → count (before v) (readings n k) < count (before w) (readings n k)
fewer-above n k w v r gap =
    omega (
      arith,
      total-le (λ u. bit (before v u) + bit (same v u)) (λ u. bit (before w u)) (readings n k) (λ u q. under u (lex v u)) (readings-all n k),
      total-add (λ u. bit (before v u)) (λ u. bit (same v u)) (readings n k),
      count-one n k v r,
    )
  where
    under : (u : List ℕ) → Lex v u → bit (before v u) + bit (same v u) ≤ bit (before w u)
    under u (ahead l) = rw (l, before-trans w v u gap l, before-not-same v u l) (omega arith)
    under u (equal q) = rw (← q, before-irrefl v, same_refl v, gap) (omega arith)
    under u (behind l) = rw (before-asym u v l, after-not-same v u l) (omega arith)

module _ (kind : List ℕ → Bool) (k : ℕ) where
  -- what the next of a kind is
  pub next-facts : (w v : List ℕ) → next_of kind k w ≡ some v → Reading (length w) k v × (before w v ≡ true) × (kind v ≡ true) ×
      ((u : List ℕ) → Reading (length w) k u → before w u ≡ true → kind u ≡ true → up_to v u ≡ true)
  unfolding next_of above_of
  next-facts w v e =
      let f = first_some (length w) k (above_of kind w) v e in
      (f.0, both_left (before w v) (kind v) f.1, both_right (before w v) (kind v) f.1, λ u r h q. f.2 u r (both (before w u) (kind u) h q))

  -- how many readings lie above w falls at each step
  falls : (w v : List ℕ) → next_of kind k w ≡ some v → count (before v) (readings (length v) k) < count (before w) (readings (length w) k)
  falls w v e =
      let f = next-facts w v e in
      rw f.0.long (fewer-above (length w) k w v f.0 f.1)

  -- from every reading a full walk leads to its end
  pub walk-exists : (w : List ℕ) → (rings : List (List ℕ)) × (m : ℕ) × FullWalk kind k w rings m
  walk-exists w = go (suc (count (before w) (readings (length w) k))) w (omega arith)
    where
      stepped : (w v : List ℕ) → next_of kind k w ≡ some v → (rings : List (List ℕ)) × (m : ℕ) × FullWalk kind k v rings m → (rings : List (List ℕ)) × (m : ℕ) × FullWalk kind k w rings m
      stepped w v e (rings, m, f) = (v ∷ rings, moves k w (some v) + m, step e f)

      look : (w : List ℕ) → ((v : List ℕ) → next_of kind k w ≡ some v → (rings : List (List ℕ)) × (m : ℕ) × FullWalk kind k v rings m) →
          (o : Option (List ℕ)) → next_of kind k w ≡ o → (rings : List (List ℕ)) × (m : ℕ) × FullWalk kind k w rings m
      look w next none e = ([], moves k w none, done e)
      look w next (some v) e = stepped w v e (next v e)

      go : (f : ℕ) (w : List ℕ) → count (before w) (readings (length w) k) < f → (rings : List (List ℕ)) × (m : ℕ) × FullWalk kind k w rings m
      go zero w b = absurd (omega arith)
      go (suc f) w b = look w (λ v e. go f v (omega (arith, falls w v e))) (next_of kind k w) refl

  -- the moves of a full walk add up to the prenecklaces above its start
  pub walk-moves : {w : List ℕ} {rings : List (List ℕ)} {m : ℕ} → FullWalk kind k w rings m → m ≡ moves k w none
  walk-moves (done e) = refl
  walk-moves (step {w = w} {v = v} e f) =
      let g = next-facts w v e in
      omega (arith, walk-moves f, moves-join k w v g.0.long g.1)

  -- a full walk comes to readings of the kind, all above its start
  pub walk-kind : {w : List ℕ} {rings : List (List ℕ)} {m : ℕ} → FullWalk kind k w rings m → All (λ u. Reading (length w) k u × (kind u ≡ true) × (before w u ≡ true)) rings
  walk-kind (done e) = nothing
  walk-kind (step {w = w} {v = v} e f) =
      let g = next-facts w v e in
      also (g.0, g.2, g.1) (all-weaken (λ u h. (rw g.0.long at h.0, h.1, before-trans w v u g.1 h.2)) (walk-kind f))

  -- in increasing order
  pub walk-increasing : {w : List ℕ} {rings : List (List ℕ)} {m : ℕ} → FullWalk kind k w rings m → Increasing (w ∷ rings)
  walk-increasing (done e) = more nothing empty
  walk-increasing (step {w = w} {v = v} e f) = more (all-weaken (λ u h. h.2) (walk-kind (step e f))) (walk-increasing f)

  -- and to each of them exactly once
  pub walk-each : {w : List ℕ} {rings : List (List ℕ)} {m : ℕ} → FullWalk kind k w rings m → (u : List ℕ) → Reading (length w) k u → kind u ≡ true → before w u ≡ true → count (same u) rings ≡ 1
  unfolding total next_of above_of
  walk-each (done {w = w} e) u r q h = clash (above_of kind w u) (both (before w u) (kind u) h q) (nothing-first (length w) k (above_of kind w) e u r)
  walk-each (step {w = w} {v = v} e f) u r q h =
      let g = next-facts w v e in
      elim (lex v u) [
        | ahead l ↦ rw (after-not-same u v l) (omega (arith, walk-each f u (rw g.0.long r) q l))
        | equal p ↦ rw (← p, same_refl v) (omega (arith, count-zero (same u) _ (λ x y. rw (← p) (before-not-same v x y.2)) (walk-kind f)))
        | behind l ↦ clash (up_to v u) (g.3 u r h q) (before-not-up_to v u l)
      ]

-- ---- from the all-zero ring

pub length-zeros : (n : ℕ) → length (zeros n) ≡ n
length-zeros n = length-replicate n 0

pub zeros-at : (n i : ℕ) → get_or (zeros n) i 0 ≡ 0
zeros-at n i =
    elim (tri i n) [
      | lt h ↦ get_or-replicate n i 0 0 h
      | eq h ↦ List·get_d-eq-default (zeros n) 0 (omega (arith, length-zeros n))
      | gt h ↦ List·get_d-eq-default (zeros n) 0 (omega (arith, length-zeros n))
    ]

pub zeros-reading : (n k : ℕ) → 0 < k → Reading n k (zeros n)
zeros-reading n k z = record { long = length-zeros n; shades = λ i b. rw (zeros-at n i) z }

-- nothing is below it
zeros-least : (n : ℕ) (f : ℕ → ℕ) (m : ℕ) → Less f (sec (zeros n)) m → ⊥
zeros-least n f m l = omega (arith, l.less, zeros-at n l.at)

-- it is a necklace
pub zeros-necklace : (n : ℕ) → necklace (zeros n) ≡ true
zeros-necklace n = of-neck (zeros n) (λ i t b q l. zeros-least n t (length (zeros n)) l)

pub zeros-prenecklace : (n : ℕ) → prenecklace (zeros n) ≡ true
zeros-prenecklace n = of-pre (zeros n) (λ i l. zeros-least n (λ m. get_or (zeros n) (i + m) 0) (length (zeros n) - i) l)

-- the prenecklaces above it are all but one
above-zeros : (n k : ℕ) → 0 < k → how_many prenecklace n k ≡ suc (moves k (zeros n) none)
unfolding how_many moves passed above_of
above-zeros n k z =
    rw (length-zeros n)
    (omega (arith, count-split prenecklace (same (zeros n)) (passed (zeros n) none) (readings n k) split (readings-all n k), count-one n k (zeros n) (zeros-reading n k z)))
  where
    split : (u : List ℕ) → Reading n k u → bit (prenecklace u) ≡ bit (same (zeros n) u) + bit (passed (zeros n) none u)
    split u r =
        elim (lex (zeros n) u) [
          | ahead l ↦ rw (l, before-not-same (zeros n) u l) (omega arith)
          | equal e ↦ rw (← e, same_refl (zeros n), before-irrefl (zeros n), zeros-prenecklace n) (omega arith)
          | behind l ↦ absurd (zeros-least n (sec u) (length (zeros n)) (before-less u (zeros n) (r.long ∙ sym (length-zeros n)) l))
        ]

-- demand 3: the moves of a full walk from the all-zero ring, by whatever kind, add up to one less than the prenecklaces of n and k
pub walk-sum : (kind : List ℕ → Bool) (n k : ℕ) → 0 < k → (rings : List (List ℕ)) (m : ℕ) → FullWalk kind k (zeros n) rings m → suc m ≡ how_many prenecklace n k
walk-sum kind n k z rings m f = ap suc (walk-moves kind k f) ∙ sym (above-zeros n k z)

-- and to at most one less than the necklaces of lengths 1 to n together
pub walk-sum-bound : (kind : List ℕ → Bool) (n k : ℕ) → 0 < n → 0 < k → (rings : List (List ℕ)) (m : ℕ) → FullWalk kind k (zeros n) rings m → suc m ≤ how_many_to necklace n k
walk-sum-bound kind n k pos z rings m f = omega (arith, walk-sum kind n k z rings m f, prenecklaces-necklaces n k pos)
