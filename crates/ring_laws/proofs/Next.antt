-- The next prenecklace, as the page builds it, is the least prenecklace above (001, Theorem 2).
--     raised_at         the page's raising, as the sequences' (Raise)
--     next-at           the sectors of the page's next prenecklace
--     next-reading, next-is-run, next-prenecklace, next-lyn-low    it is a reading of the same n and k, a prenecklace, and its lyn is the place that was raised
--     next-before, next-up_to    it is above, and no prenecklace above is below it
--     next-some, next-none      it is the next prenecklace; where every sector is k - 1 nothing of any kind is above
--     low-or-full, next-none-full    there is a place to raise, and a next prenecklace, exactly when not every sector is k - 1
use Rattle.words.proofs.Plain.{ℕ, suc, ◌-◌, ◌%◌, ◌<◌, ◌≤◌, arith, ◌≡◌, refl, sym, ap, ◌∙◌, ◌↔◌, Bool, true, false, none, some, List, [], ◌∷◌, length, get_or}
use Rattle.words.proofs.Plain.{take, length-append, List·get_d-append, replicate, length-replicate, get_or-replicate, length-take-le, get_or-take, get_or_at, ext_get_or}
use Rattle.words.proofs.{Plain.ltb-true, Plain.ltb-false, Sequence.sec, Sequence.recast}
use native.Mathlib.Nat.{mod-lt}
use Rattle.words.specs.{Order.before, Order.up_to, Readings.Reading}
use Rattle.words.proofs.Split.{lt, eq, gt, tri, both, both_left, both_right, refuted}
use Rattle.words.proofs.Search.{greatest-le, greatest-at, greatest-none, length-tab, get_d-tab}
use Rattle.words.proofs.Lex.{before-less, less-before, not-less-up_to}
use Rattle.words.proofs.Readings.{first-is, first-nothing}
use Rattle.rings.specs.{Prenecklace.prenecklace, Prenecklace.lyn, Steps.above_of, Steps.next_of}
use Rattle.rings.specs.Next.{low_at, last_low, raised, repeated, next_prenecklace}
use Rattle.ring_laws.proofs.{Run.Run, Run.run-through, Repeat.rep, Words.pre-of, Lyndon.run-lyn, Lyndon.run-prenecklace}
use Rattle.ring_laws.proofs.Raise.{Raised, next-run, next-above, next-least, none_above}

-- ---- the place to raise

module _ (k : ℕ) (w : List ℕ) where
  pub low-le : last_low k w ≤ length w
  unfolding last_low
  low-le = greatest-le (length w) (low_at k w)

  -- the sector there can be raised
  pub low-at : 0 < last_low k w → suc (get_or w (last_low k w - 1) 0) < k
  unfolding last_low low_at
  low-at z = ltb-true (suc (get_or w (last_low k w - 1) 0)) k (greatest-at (length w) (low_at k w) z)

  -- no sector behind it can
  pub low-none : (m : ℕ) → last_low k w ≤ m → m < length w → k ≤ suc (get_or w m 0)
  unfolding last_low low_at
  low-none m h b =
      let e : suc m - 1 ≡ m = omega arith in
      rw e at (ltb-false (suc (get_or w (suc m - 1) 0)) k (greatest-none (length w) (low_at k w) (suc m) (omega arith) (omega arith)))

-- ---- the first i sectors, the last of them raised

pub length-raised : (i : ℕ) (w : List ℕ) → 0 < i → i ≤ length w → length (raised i w) ≡ i
unfolding raised
length-raised i w z h =
    omega (arith, length-append (take (i - 1) w) (suc (get_or w (i - 1) 0) ∷ []), length-take-le (i - 1) w (omega arith))

pub raised-low : (i : ℕ) (w : List ℕ) (m : ℕ) → i ≤ length w → m < i - 1 → get_or (raised i w) m 0 ≡ get_or w m 0
unfolding raised
raised-low i w m h b =
    List·get_d-append (take (i - 1) w) (suc (get_or w (i - 1) 0) ∷ []) 0 m (omega (arith, length-take-le (i - 1) w (omega arith))) ∙ get_or-take (i - 1) w m 0 b

pub raised-last : (i : ℕ) (w : List ℕ) → i ≤ length w → get_or (raised i w) (i - 1) 0 ≡ suc (get_or w (i - 1) 0)
unfolding raised
raised-last i w h = get_or_at (take (i - 1) w) (suc (get_or w (i - 1) 0)) [] 0 (i - 1) (length-take-le (i - 1) w (omega arith))

pub length-repeated : (n : ℕ) (u : List ℕ) → length (repeated n u) ≡ n
unfolding repeated
length-repeated n u = length-tab n (λ m. get_or u (m % length u) 0)

pub repeated-at : (n : ℕ) (u : List ℕ) (m : ℕ) → m < n → get_or (repeated n u) m 0 ≡ get_or u (m % length u) 0
unfolding repeated
repeated-at n u m h = get_d-tab n (λ m. get_or u (m % length u) 0) m 0 h

-- ---- the next prenecklace

pub length-next : (k : ℕ) (w : List ℕ) → length (next_prenecklace k w) ≡ length w
unfolding next_prenecklace
length-next k w = length-repeated (length w) (raised (last_low k w) w)

module _ (k : ℕ) (w : List ℕ) (z : 0 < last_low k w) where
  -- the place that is raised, counted from 0
  j : ℕ
  j = last_low k w - 1

  pub place-raised : suc (last_low k w - 1) ≡ last_low k w
  place-raised = omega arith

  pub raised_at : Raised k (sec w) (length w) (last_low k w - 1) (sec (raised (last_low k w) w))
  raised_at =
      record {
        inside = omega (arith, low-le k w);
        low = low-at k w z;
        full = λ m h b. low-none k w m (omega arith) b;
        keep = λ m h. sym (raised-low (last_low k w) w m (low-le k w) h);
        rise = raised-last (last_low k w) w (low-le k w);
      }

  pub next-at : (m : ℕ) → m < length w → rep (suc (last_low k w - 1)) (sec (raised (last_low k w) w)) m ≡ get_or (next_prenecklace k w) m 0
  unfolding next_prenecklace
  next-at m h =
      sym (repeated-at (length w) (raised (last_low k w) w) m h ∙ ap (λ (x : ℕ). get_or (raised (last_low k w) w) (m % x) 0) (length-raised (last_low k w) w z (low-le k w) ∙ sym place-raised))

  pub next-before : before w (next_prenecklace k w) ≡ true
  next-before =
      less-before w (next_prenecklace k w) (sym (length-next k w)) (rw (length-next k w)
      (recast (sec w) (rep (suc (last_low k w - 1)) (sec (raised (last_low k w) w))) (sec w) (sec (next_prenecklace k w)) (length w) (λ m h. refl) next-at
      (next-above k (sec w) (length w) (last_low k w - 1) (sec (raised (last_low k w) w)) raised_at)))

  -- each sector is one of w's or the raised one
  pub next-reading : (n : ℕ) → Reading n k w → Reading n k (next_prenecklace k w)
  next-reading n reading =
      record {
        long = length-next k w ∙ reading.long;
        shades = λ i b. rw (← (next-at i (omega (arith, reading.long)))) (below (i % suc (last_low k w - 1)) (mod-lt i (omega arith)));
      }
    where
      below : (m : ℕ) → m < suc (last_low k w - 1) → get_or (raised (last_low k w) w) m 0 < k
      below m b =
          elim (tri m (last_low k w - 1)) [
            | lt e ↦ rw (raised-low (last_low k w) w m (low-le k w) e) (reading.shades m (omega (arith, low-le k w, reading.long)))
            | eq e ↦ rw (e, raised-last (last_low k w) w (low-le k w)) (low-at k w z)
            | gt e ↦ absurd (omega arith)
          ]

  module _ (pre : prenecklace w ≡ true) where
    -- the run of the next prenecklace: its lyn is the place that was raised
    pub next-is-run : Run (sec (next_prenecklace k w)) (length (next_prenecklace k w)) (last_low k w)
    next-is-run =
        rw (length-next k w) (rw place-raised at
        (run-through (rep (suc (last_low k w - 1)) (sec (raised (last_low k w) w))) (sec (next_prenecklace k w)) (length w) (suc (last_low k w - 1)) next-at
        (next-run k (sec w) (length w) (last_low k w - 1) (sec (raised (last_low k w) w)) raised_at (pre-of w pre))))

    pub next-prenecklace : prenecklace (next_prenecklace k w) ≡ true
    next-prenecklace = run-prenecklace (next_prenecklace k w) (last_low k w) next-is-run

    pub next-lyn-low : lyn (next_prenecklace k w) ≡ last_low k w
    next-lyn-low = run-lyn (next_prenecklace k w) (last_low k w) next-is-run

    -- no prenecklace above w is below it
    pub next-up_to : (v : List ℕ) → Reading (length w) k v → prenecklace v ≡ true → before w v ≡ true → up_to (next_prenecklace k w) v ≡ true
    next-up_to v reading prev up =
        not-less-up_to (next_prenecklace k w) v (length-next k w ∙ sym reading.long) (λ l.
        next-least k (sec w) (length w) (last_low k w - 1) (sec (raised (last_low k w) w)) raised_at (pre-of w pre) (sec v) (rw reading.long at (pre-of v prev)) reading.shades
        (rw reading.long at (before-less w v (sym reading.long) up))
        (recast (sec v) (sec (next_prenecklace k w)) (sec v) (rep (suc (last_low k w - 1)) (sec (raised (last_low k w) w))) (length w) (λ m h. refl) (λ m h. sym (next-at m h))
        (rw (length-next k w) at l)))

    -- it is the next prenecklace
    pub next-some : Reading (length w) k w → next_of prenecklace k w ≡ some (next_prenecklace k w)
    unfolding next_of above_of
    next-some reading =
        first-is (length w) k (above_of prenecklace w) (next_prenecklace k w) (next-reading (length w) reading)
        (both (before w (next_prenecklace k w)) (prenecklace (next_prenecklace k w)) next-before next-prenecklace)
        (λ u r h. next-up_to u r (both_right (before w u) (prenecklace u) h) (both_left (before w u) (prenecklace u) h))

-- where no sector can be raised nothing is above, of whatever kind
pub none_before : (k : ℕ) (w v : List ℕ) → last_low k w ≡ 0 → Reading (length w) k v → before w v ≡ false
none_before k w v z reading =
    refuted (before w v) (λ up.
    none_above k (sec w) (sec v) (length w) (λ m b. low-none k w m (omega arith) b) reading.shades (rw reading.long at (before-less w v (sym reading.long) up)))

pub next-none : (kind : List ℕ → Bool) (k : ℕ) (w : List ℕ) → last_low k w ≡ 0 → next_of kind k w ≡ none
unfolding next_of above_of
next-none kind k w z =
    first-nothing (length w) k (above_of kind w) (λ u reading. rw (none_before k w u z reading))

-- there is a place to raise exactly when not every sector is k - 1
pub low-or-full : (n k : ℕ) (w : List ℕ) → Reading n k w → (last_low k w ≡ 0) ↔ (w ≡ replicate n (k - 1))
low-or-full n k w reading = (
  λ z. ext_get_or 0 w (replicate n (k - 1)) (reading.long ∙ sym (length-replicate n (k - 1))) (λ i b. top i z (rw reading.long at b) ∙ sym (get_or-replicate n i (k - 1) 0 (rw reading.long at b))),
  λ e. elim (tri 0 (last_low k w)) [
    | lt z ↦ absurd (omega (arith, low-at k w z, same-sector e (last_low k w - 1) (omega (arith, low-le k w, reading.long))))
    | eq z ↦ sym z
    | gt z
        ↦ absurd (omega arith)
  ],
)
  where
    top : (i : ℕ) → last_low k w ≡ 0 → i < n → get_or w i 0 ≡ k - 1
    top i z b = omega (arith, low-none k w i (omega arith) (omega (arith, reading.long)), reading.shades i b)

    same-sector : w ≡ replicate n (k - 1) → (i : ℕ) → i < n → get_or w i 0 ≡ k - 1
    same-sector e i b = ap (λ (u : List ℕ). get_or u i 0) e ∙ get_or-replicate n i (k - 1) 0 b

-- there is a next prenecklace exactly when the reading is not all k - 1
pub next-none-full : (n k : ℕ) (w : List ℕ) → Reading n k w → prenecklace w ≡ true → (next_of prenecklace k w ≡ none) ↔ (w ≡ replicate n (k - 1))
next-none-full n k w reading pre = (
  λ e. (low-or-full n k w reading).0 (elim (tri 0 (last_low k w)) [
    | lt z ↦ absurd
        (let q = next-some k w z pre (rw reading.long reading) in let x : ◌≡◌ {A = ℕ} 0 1 = cc in omega arith)
    | eq z ↦ sym z
    | gt z ↦ absurd
        (omega arith)
  ]),
  λ e. next-none prenecklace k w ((low-or-full n k w reading).1 e),
)
