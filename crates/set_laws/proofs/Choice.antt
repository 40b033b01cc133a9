-- The greedy choice by any test of what may join, a word at a time. ts are taken, ws are to come.
--     greedy-take, greedy-skip      the next word may join, or it may not
--     greedy-none, greedy-enough    there is none left, or there are enough
--     offered-yes, offered-no, offered-most, greedy-offer    the set after a word was offered, and the choice from it on
--     Extends ts us                 us has the words of ts at their places; `greedy-begins`: what is taken stays taken
--     greedy-most                   no more are taken than wanted
--     greedy-increasing             they are taken in increasing order
--     greedy-all                    what holds of all words holds of all taken
--     greedy-keeps                  what holds of the set at the start, and is kept by each word that joins, holds of the set
--     greedy-looked, greedy-last    each word taken is one of those looked at, and where enough are taken the last taken is the last looked at
--     looked-begins, short-looked   the words looked at are a beginning of the words, and all of them where fewer are taken than wanted
--     greedy-settles                each word looked at is taken, or there is a reason against it
use Rattle.words.proofs.Plain.{ℕ, zero, suc, ◌+◌, ◌-◌, ◌<◌, ◌≤◌, arith, ◌≡◌, refl, sym, ap, ◌∙◌, true, false, List, [], ◌∷◌, ◌++◌, length, get_or}
use Rattle.words.specs.Order.{before}
use Rattle.words.proofs.Split.{Test, passes, fails, test}
use Rattle.words.proofs.Readings.{All, nothing, also, all-weaken, all_append, Increasing, empty, more, increasing-append}
use Rattle.set_spec.specs.Greedy.{May, greedy_by, looked_by}
unfoldable pub use Rattle.set_spec.specs.Greedy.{offered_by}
use Rattle.set_spec.specs.Worth.{OneOf, last_taken}
use Rattle.set_laws.proofs.Lists.{length_more, at_old, at_new, Begins, none_yet, one_more}

-- ---- the next word

pub greedy-take : (may : May) (left : ℕ) (ts ws : List (List ℕ)) (w : List ℕ) → may ts w ≡ true → greedy_by may (suc left) ts (w ∷ ws) ≡ greedy_by may left (ts ++ (w ∷ [])) ws
unfolding greedy_by
greedy-take may left ts ws w q = rw (q, greedy_by) refl

pub greedy-skip : (may : May) (left : ℕ) (ts ws : List (List ℕ)) (w : List ℕ) → may ts w ≡ false → greedy_by may (suc left) ts (w ∷ ws) ≡ greedy_by may (suc left) ts ws
unfolding greedy_by
greedy-skip may left ts ws w q = rw (q, greedy_by) refl

pub greedy-none : (may : May) (left : ℕ) (ts : List (List ℕ)) → greedy_by may left ts [] ≡ ts
unfolding greedy_by
greedy-none may zero ts = refl
greedy-none may (suc left) ts = refl

pub greedy-enough : (may : May) (left : ℕ) (ts ws : List (List ℕ)) → left ≡ 0 → greedy_by may left ts ws ≡ ts
unfolding greedy_by
greedy-enough may left ts ws e = rw e refl

pub offered-yes : (may : May) (ts : List (List ℕ)) (w : List ℕ) → may ts w ≡ true → offered_by may ts w ≡ ts ++ (w ∷ [])
unfolding offered_by
offered-yes may ts w q = rw (q, offered_by) refl

pub offered-no : (may : May) (ts : List (List ℕ)) (w : List ℕ) → may ts w ≡ false → offered_by may ts w ≡ ts
unfolding offered_by
offered-no may ts w q = rw (q, offered_by) refl

-- one more at most
pub offered-most : (may : May) (ts : List (List ℕ)) (w : List ℕ) → length (offered_by may ts w) ≤ suc (length ts)
offered-most may ts w =
    elim (test (may ts w)) [
      | passes e ↦ rw (offered-yes may ts w e) (omega (arith, length_more ts w))
      | fails e ↦ rw (offered-no may ts w e) (omega arith)
    ]

-- the choice goes on from it
pub greedy-offer : (may : May) (want : ℕ) (ts ws : List (List ℕ)) (w : List ℕ) → length ts < want → greedy_by may (want - length ts) ts (w ∷ ws) ≡
    greedy_by may (want - length (offered_by may ts w)) (offered_by may ts w) ws
greedy-offer may want ts ws w h = go (want - suc (length ts)) (omega arith) (test (may ts w))
  where
    go : (left : ℕ) → want - length ts ≡ suc left → Test (may ts w) → greedy_by may (want - length ts) ts (w ∷ ws) ≡ greedy_by may (want - length (offered_by may ts w)) (offered_by may ts w) ws
    go left e (passes q) =
        let f : want - length (ts ++ (w ∷ [])) ≡ left = omega (arith, length_more ts w) in
        rw (offered-yes may ts w q, e, f) (greedy-take may left ts ws w q)
    go left e (fails q) = rw (offered-no may ts w q, e) (greedy-skip may left ts ws w q)

-- ---- the choice

-- us has the words of ts, each at its place
abbrev pub Extends : List (List ℕ) → List (List ℕ) → Type 0
Extends ts us = (i : ℕ) → i < length ts → (i < length us) × (get_or us i [] ≡ get_or ts i [])

-- what is taken stays taken, at its place
pub greedy-begins : (may : May) (left : ℕ) (ts ws : List (List ℕ)) → Extends ts (greedy_by may left ts ws)
unfolding greedy_by
greedy-begins may zero ts ws i h = (h, refl)
greedy-begins may (suc left) ts [] i h = (h, refl)
greedy-begins may (suc left) ts (w ∷ ws) i h =
    elim (test (may ts w)) [
      | passes e ↦
          let r = greedy-begins may left (ts ++ (w ∷ [])) ws i (omega (arith, length_more ts w)) in
          rw (e, greedy_by) (r.0, r.1 ∙ at_old ts w i h)
      | fails e ↦ rw (e, greedy_by) (greedy-begins may (suc left) ts ws i h)
    ]

-- no more are taken than wanted
pub greedy-most : (may : May) (left : ℕ) (ts ws : List (List ℕ)) → length (greedy_by may left ts ws) ≤ length ts + left
unfolding greedy_by
greedy-most may zero ts ws = omega arith
greedy-most may (suc left) ts [] = omega arith
greedy-most may (suc left) ts (w ∷ ws) =
    elim (test (may ts w)) [
      | passes e ↦ rw (e, greedy_by) (omega (arith, greedy-most may left (ts ++ (w ∷ [])) ws, length_more ts w))
      | fails e ↦ rw (e, greedy_by) (greedy-most may (suc left) ts ws)
    ]

-- what holds of all taken and of all to come holds of the set
pub greedy-all : {P : List ℕ → Type 0} (may : May) (left : ℕ) (ts ws : List (List ℕ)) → All P ts → All P ws → All P (greedy_by may left ts ws)
unfolding greedy_by
greedy-all may zero ts ws a b = a
greedy-all may (suc left) ts [] a b = a
greedy-all {P} may (suc left) ts (w ∷ ws) a (also p b) =
    elim (test (may ts w)) [
      | passes e ↦ rw (e, greedy_by) (greedy-all may left (ts ++ (w ∷ [])) ws (all_append a (also p nothing)) b)
      | fails e ↦ rw (e, greedy_by) (greedy-all may (suc left) ts ws a b)
    ]

-- the words looked at are a beginning of the words
pub looked-begins : (may : May) (left : ℕ) (ts ws : List (List ℕ)) → Begins (looked_by may left ts ws) ws
unfolding looked_by
looked-begins may zero ts ws = none_yet
looked-begins may (suc left) ts [] = none_yet
looked-begins may (suc left) ts (w ∷ ws) =
    elim (test (may ts w)) [
      | passes e ↦ rw (e, looked_by) (one_more (looked-begins may left (ts ++ (w ∷ [])) ws))
      | fails e ↦ rw (e, looked_by) (one_more (looked-begins may (suc left) ts ws))
    ]

-- where fewer are taken than wanted, all were looked at
pub short-looked : (may : May) (left : ℕ) (ts ws : List (List ℕ)) → length (greedy_by may left ts ws) < length ts + left → looked_by may left ts ws ≡ ws
unfolding greedy_by looked_by
short-looked may zero ts ws h = absurd (omega arith)
short-looked may (suc left) ts [] h = refl
short-looked may (suc left) ts (w ∷ ws) h =
    elim (test (may ts w)) [
      | passes e ↦ rw (e, looked_by) (ap (λ (x : List (List ℕ)). w ∷ x) (short-looked may left (ts ++ (w ∷ [])) ws (omega (arith, length_more ts w, rw (e, greedy_by) at h))))
      | fails e ↦ rw (e, looked_by) (ap (λ (x : List (List ℕ)). w ∷ x) (short-looked may (suc left) ts ws (rw (e, greedy_by) at h)))
    ]

-- what holds of all taken before and of all looked at holds of all taken
pub greedy-looked : {P : List ℕ → Type 0} (may : May) (left : ℕ) (ts ws : List (List ℕ)) → All P ts → All P (looked_by may left ts ws) → All P (greedy_by may left ts ws)
unfolding greedy_by looked_by
greedy-looked may zero ts ws a b = a
greedy-looked may (suc left) ts [] a b = a
greedy-looked {P} may (suc left) ts (w ∷ ws) a (also p b) =
    elim (test (may ts w)) [
      | passes e ↦ rw (e, greedy_by) (greedy-looked may left (ts ++ (w ∷ [])) ws (all_append a (also p nothing)) (rw e at b))
      | fails e ↦ rw (e, greedy_by) (greedy-looked may (suc left) ts ws a (rw e at b))
    ]

-- the last of a list is that of its rest, where there is one
last_rest : (w : List ℕ) (ws : List (List ℕ)) → 0 < length ws → last_taken (w ∷ ws) ≡ last_taken ws
last_rest w [] h = absurd (omega arith)
last_rest w (v ∷ ws) h = let e : suc (suc (length ws)) - 1 ≡ suc (length ws) = omega arith in let f : suc (length ws) - 1 ≡ length ws = omega arith in rw (e, f) refl

-- the last of a list with one word more is that word
last-new : (ts : List (List ℕ)) (w : List ℕ) → last_taken (ts ++ (w ∷ [])) ≡ w
last-new ts w = let e : length (ts ++ (w ∷ [])) - 1 ≡ length ts = omega (arith, length_more ts w) in rw e (at_new ts w)

-- where one more is taken, one was looked at
looked-some : (may : May) (left : ℕ) (ts ws : List (List ℕ)) → length (greedy_by may (suc left) ts ws) ≡ length ts + suc left → 0 < length (looked_by may (suc left) ts ws)
unfolding greedy_by looked_by
looked-some may left ts [] h = absurd (omega arith)
looked-some may left ts (w ∷ ws) h = omega arith

-- where all that are wanted are taken, and one at least is, the last one taken is the last one looked at
pub greedy-last : (may : May) (left : ℕ) (ts ws : List (List ℕ)) → length (greedy_by may (suc left) ts ws) ≡ length ts + suc left → last_taken
    (greedy_by may (suc left) ts ws) ≡ last_taken (looked_by may (suc left) ts ws)
unfolding greedy_by looked_by
greedy-last may left ts [] h = absurd (omega arith)
greedy-last may zero ts (w ∷ ws) h =
    elim (test (may ts w)) [
      | passes e ↦ rw (e, greedy_by, looked_by) (last-new ts w)
      | fails e ↦ let g = rw (e, greedy_by) at h in rw (e, greedy_by, looked_by) (greedy-last may zero ts ws g ∙ sym (last_rest w (looked_by may 1 ts ws) (looked-some may zero ts ws g)))
    ]
greedy-last may (suc left) ts (w ∷ ws) h =
    elim (test (may ts w)) [
      | passes e ↦
          let us = ts ++ (w ∷ []) in
          let g : length (greedy_by may (suc left) us ws) ≡ length us + suc left = omega (arith, rw (e, greedy_by) at h, length_more ts w) in
          rw (e, greedy_by, looked_by) (greedy-last may left us ws g ∙ sym (last_rest w (looked_by may (suc left) us ws) (looked-some may left us ws g)))
      | fails e ↦
          let g = rw (e, greedy_by) at h in
          rw (e, greedy_by, looked_by) (greedy-last may (suc left) ts ws g ∙ sym (last_rest w (looked_by may (suc (suc left)) ts ws) (looked-some may (suc left) ts ws g)))
    ]

-- ---- in order

-- the words still to come are in order, and all of them behind those taken
pub record Ordered (ts ws : List (List ℕ)) : Type 0 where
  pub rising : Increasing ts
  pub coming : Increasing ws
  pub behind : All (λ t. All (λ w. before t w ≡ true) ws) ts

ordered-skip : {ts ws : List (List ℕ)} {w : List ℕ} → Ordered ts (w ∷ ws) → Ordered ts ws
ordered-skip o = record { rising = o.rising; coming = tail o.coming; behind = all-weaken (λ t. rest) o.behind }
  where
    tail : {ws : List (List ℕ)} {w : List ℕ} → Increasing (w ∷ ws) → Increasing ws
    tail (more p ps) = ps

    rest : {P : List ℕ → Type 0} {ws : List (List ℕ)} {w : List ℕ} → All P (w ∷ ws) → All P ws
    rest (also p ps) = ps

first_of : {P : List ℕ → Type 0} {ws : List (List ℕ)} {w : List ℕ} → All P (w ∷ ws) → P w
first_of (also p ps) = p

-- all taken are before the next word
ordered-head : {ts ws : List (List ℕ)} {w : List ℕ} → Ordered ts (w ∷ ws) → All (λ t. before t w ≡ true) ts
ordered-head o = all-weaken (λ t. first_of) o.behind

ordered-take : {ts ws : List (List ℕ)} {w : List ℕ} → Ordered ts (w ∷ ws) → Ordered (ts ++ (w ∷ [])) ws
ordered-take {ts} {ws} {w} o =
    record {
      rising = increasing-append ts (w ∷ []) o.rising (more nothing empty) (all-weaken (λ t h. also h nothing) (ordered-head o));
      coming = (ordered-skip o).coming;
      behind = all_append (ordered-skip o).behind (also (head o.coming) nothing);
    }
  where
    head : {ws : List (List ℕ)} {w : List ℕ} → Increasing (w ∷ ws) → All (λ v. before w v ≡ true) ws
    head (more p ps) = p

-- they are taken in increasing order
pub greedy-increasing : (may : May) (left : ℕ) (ts ws : List (List ℕ)) → Ordered ts ws → Increasing (greedy_by may left ts ws)
unfolding greedy_by
greedy-increasing may zero ts ws o = o.rising
greedy-increasing may (suc left) ts [] o = o.rising
greedy-increasing may (suc left) ts (w ∷ ws) o =
    elim (test (may ts w)) [
      | passes e ↦ rw (e, greedy_by) (greedy-increasing may left (ts ++ (w ∷ [])) ws (ordered-take o))
      | fails e ↦ rw (e, greedy_by) (greedy-increasing may (suc left) ts ws (ordered-skip o))
    ]

-- what holds of the set at the start, and is kept by each word that joins, holds of the set
pub greedy-keeps : (P : List (List ℕ) → Type 0) (Q : List ℕ → Type 0) (may : May) (left : ℕ) (ts ws : List (List ℕ)) →
    ((ts : List (List ℕ)) (w : List ℕ) → P ts → Q w → may ts w ≡ true → P (ts ++ (w ∷ []))) → All Q ws → P ts → P (greedy_by may left ts ws)
unfolding greedy_by
greedy-keeps P Q may zero ts ws keep a p = p
greedy-keeps P Q may (suc left) ts [] keep a p = p
greedy-keeps P Q may (suc left) ts (w ∷ ws) keep (also q a) p =
    elim (test (may ts w)) [
      | passes e ↦ rw (e, greedy_by) (greedy-keeps P Q may left (ts ++ (w ∷ [])) ws keep a (keep ts w p q e))
      | fails e ↦ rw (e, greedy_by) (greedy-keeps P Q may (suc left) ts ws keep a p)
    ]

-- ---- each word looked at

-- what it is for a word to be settled by a set: a word of the set is, one that may not join those taken before it is, and more words do not change that
pub record Settling (may : May) (S : List (List ℕ) → List ℕ → Type 0) : Type 0 where
  pub member : (ts : List (List ℕ)) (w : List ℕ) → OneOf ts w → S ts w
  pub kept_out : (ts : List (List ℕ)) (w : List ℕ) → All (λ t. before t w ≡ true) ts → may ts w ≡ false → S ts w
  pub stays : (ts us : List (List ℕ)) (w : List ℕ) → Extends ts us → S ts w → S us w

module _ (may : May) (S : List (List ℕ) → List ℕ → Type 0) (s : Settling may S) where
  -- a word just taken is one of the set
  took_one : (left : ℕ) (ts ws : List (List ℕ)) (w : List ℕ) → OneOf (greedy_by may left (ts ++ (w ∷ [])) ws) w
  took_one left ts ws w =
      let r = greedy-begins may left (ts ++ (w ∷ [])) ws (length ts) (omega (arith, length_more ts w)) in
      record { at = length ts; inside = r.0; is = r.1 ∙ at_new ts w }

  -- each word looked at is settled
  pub greedy-settles : (left : ℕ) (ts ws : List (List ℕ)) → Ordered ts ws → All (S (greedy_by may left ts ws)) (looked_by may left ts ws)
  unfolding greedy_by looked_by
  greedy-settles zero ts ws o = nothing
  greedy-settles (suc left) ts [] o = nothing
  greedy-settles (suc left) ts (w ∷ ws) o =
      elim (test (may ts w)) [
        | passes e ↦ rw (e, greedy_by, looked_by) (also (s.member (greedy_by may left (ts ++ (w ∷ [])) ws) w (took_one left ts ws w)) (greedy-settles left (ts ++ (w ∷ [])) ws (ordered-take o)))
        | fails e ↦ rw (e, greedy_by, looked_by) (also (s.stays ts (greedy_by may (suc left) ts ws) w (greedy-begins may (suc left) ts ws)
            (s.kept_out ts w (ordered-head o) e)) (greedy-settles (suc left) ts ws (ordered-skip o)))
      ]
