-- What the search and the loop of a move rest on, over plain lists.
--     Over k w i, over-start, over-more, over-found, over_none    no place past i can be raised
--     Copied u v i m, copied-start, copied_more, copied-end       the copying: the first m sectors of v repeat the first i of u
--     round-in, round-on, round-back                              the place to copy from, which is m % i
use Rattle.words.proofs.Plain.{ℕ, suc, ◌+◌, ◌-◌, ◌%◌, ◌<◌, ◌≤◌, add-one, arith, ◌≡◌, refl, sym, ap, ◌∙◌, false, List, length, get_or, set, length-set}
use Rattle.words.proofs.Plain.{get_or-set_same, get_or-set_other, ext_get_or, lt-ltb, le-ltb}
use native.Mathlib.Nat.{mod-lt, mod-eq_of_lt, mod_self, mod-add-mod}
use Rattle.words.specs.Search.{greatest}
use Rattle.words.proofs.Split.{lt, eq, gt, tri, clash}
use Rattle.words.proofs.Search.{greatest-is, greatest-at, greatest-le}
use Rattle.rings.specs.Next.{low_at, last_low, raised, repeated}
use Rattle.ring_laws.proofs.Next.{length-raised, raised-low, raised-last, length-repeated, repeated-at}

-- ---- the last place to raise

-- no place past i, counted from 1, can be raised
abbrev pub Over : ℕ → List ℕ → ℕ → Type 0
Over k w i = (m : ℕ) → i < m → m ≤ length w → low_at k w m ≡ false

pub over-start : (k : ℕ) (w : List ℕ) → Over k w (length w)
over-start k w m h b = absurd (omega arith)

pub over-more : (k : ℕ) (w : List ℕ) (i : ℕ) → 0 < i → Over k w i → k ≤ get_or w (i - 1) 0 + 1 → Over k w (i - 1)
unfolding low_at
over-more k w i z h l m b d =
    elim (tri i m) [
      | lt e ↦ h m e d
      | eq e ↦ rw (← e) (le-ltb (suc (get_or w (i - 1) 0)) k (omega arith))
      | gt e ↦ absurd (omega arith)
    ]

pub over_none : (k : ℕ) (w : List ℕ) → Over k w 0 → 0 ≡ last_low k w
unfolding last_low
over_none k w h =
    let g = greatest (length w) (low_at k w) in
    elim (tri 0 g) [ lt z ↦ clash (low_at k w g) (greatest-at (length w) (low_at k w) z) (h g z (greatest-le (length w) (low_at k w))) | eq z ↦ z | gt z ↦ absurd (omega arith) ]

pub over-found : (k : ℕ) (w : List ℕ) (p : ℕ) → p < length w → Over k w (p + 1) → get_or w p 0 + 1 < k → p + 1 ≡ last_low k w
unfolding last_low low_at
over-found k w p b h l =
    let e : p + 1 - 1 ≡ p = omega arith in
    sym (greatest-is (length w) (low_at k w) (p + 1) (omega arith) (omega arith) (rw e (lt-ltb (suc (get_or w p 0)) k (omega arith))) h)

-- ---- the copying

-- the first m sectors of v repeat the first i of u
pub record Copied (u v : List ℕ) (i m : ℕ) : Type 0 where
  pub long : length v ≡ length u
  pub done : (x : ℕ) → x < m → get_or v x 0 ≡ get_or u (x % i) 0

pub copied-start : (u : List ℕ) (i : ℕ) → Copied u u i i
copied-start u i = record { long = refl; done = λ x h. rw (mod-eq_of_lt h) }

pub copied_more : (u v : List ℕ) (i m from : ℕ) → 0 < i → i ≤ m → Copied u v i m → from ≡ m % i → m < length v → Copied u (set v m (get_or v from 0)) i (m + 1)
copied_more u v i m from z b c e h = record { long = length-set v m (get_or v from 0) ∙ c.long; done = at }
  where
    here : get_or v from 0 ≡ get_or u (m % i) 0
    here =
        let l : from < i = rw e (mod-lt m z) in
        c.done from (omega arith) ∙ ap (λ (y : ℕ). get_or u y 0) (mod-eq_of_lt l ∙ e)

    at : (x : ℕ) → x < m + 1 → get_or (set v m (get_or v from 0)) x 0 ≡ get_or u (x % i) 0
    at x q =
        elim (tri x m) [
          | lt l ↦ get_or-set_other v m x (get_or v from 0) 0 (λ y. omega arith) ∙ c.done x l
          | eq l ↦ rw l (get_or-set_same v m (get_or v from 0) 0 h ∙ here)
          | gt l ↦ absurd (omega arith)
        ]

-- the place to copy from, for the next sector: one on, or the first again
module _ (i m from : ℕ) (z : 0 < i) (e : from ≡ m % i) where
  pub round-in : from < i
  round-in = rw e (mod-lt m z)

  next-round : (m + 1) % i ≡ (from + 1) % i
  next-round = rw e (sym (mod-add-mod m i 1))

  pub round-on : (from + 1 ≡ i → ⊥) → from + 1 ≡ (m + 1) % i
  round-on h = sym (next-round ∙ mod-eq_of_lt (omega (arith, round-in)))

  pub round-back : from + 1 ≡ i → 0 ≡ (m + 1) % i
  round-back h = sym (next-round ∙ ap (λ (x : ℕ). x % i) h ∙ mod_self i)

-- where u is w with the sector at place i raised, the copying gives what the page says
pub copied-end : (w v : List ℕ) (p m : ℕ) → p < length w → Copied (set w p (get_or w p 0 + 1)) v (p + 1) m → length v ≤ m → v ≡ repeated (length w) (raised (p + 1) w)
copied-end w v p m b c h =
    ext_get_or 0 v (repeated (length w) (raised (p + 1) w)) (long ∙ sym (length-repeated (length w) (raised (p + 1) w))) (λ x q.
    c.done x (omega arith) ∙ start (x % (p + 1)) (mod-lt x (omega arith)) ∙ ap (λ (y : ℕ). get_or (raised (p + 1) w) (x % y) 0)
    (sym (length-raised (p + 1) w (omega arith) (omega arith))) ∙ sym (repeated-at (length w) (raised (p + 1) w) x (omega (arith, long))))
  where
    long : length v ≡ length w
    long = c.long ∙ length-set w p (get_or w p 0 + 1)

    same : p + 1 - 1 ≡ p
    same = omega arith

    start : (x : ℕ) → x < p + 1 → get_or (set w p (get_or w p 0 + 1)) x 0 ≡ get_or (raised (p + 1) w) x 0
    start x q =
        elim (tri x p) [
          | lt e ↦ get_or-set_other w p x (get_or w p 0 + 1) 0 (λ y. omega arith) ∙ sym (raised-low (p + 1) w x (omega arith) (omega arith))
          | eq e ↦ rw e (get_or-set_same w p (get_or w p 0 + 1) 0 b ∙ add-one (get_or w p 0) ∙ sym (rw same at (raised-last (p + 1) w (omega arith))))
          | gt e ↦ absurd (omega arith)
        ]
