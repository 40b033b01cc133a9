-- How many places a search raises: the laws of specs/Raised.
--     raised-few                     at most as many as the answer has sectors
--     raised-none                    none, where a reading is its own answer
--     raised-more                    one more for each place that is raised, where it lies further right than those before
--     raised-settled, raised-from    none by repeating the longest beginning that is a prenecklace, and from there on as many as from the reading
use Rattle.words.proofs.Plain.{ℕ, zero, suc, ◌+◌, ◌-◌, ◌<◌, ◌≤◌, arith, ◌≡◌, refl, sym, ap, ◌∙◌, subst, Bool, true, false, ◌&&◌, not, List, [], ◌∷◌, length}
use Rattle.words.proofs.Plain.{take, ext_get_or, length-take-le, get_or-take}
use Rattle.words.specs.{Order.up_to, Order.same, Readings.bit}
use Rattle.words.proofs.Split.{lt, eq, gt, tri, both, both_left, not_left, not_right, agree, clash}
use Rattle.words.proofs.Sequence.{sec}
use Rattle.words.proofs.Lex.{same_refl, same_false, up_to-not-less}
use Rattle.word_list_spec.specs.Passing.{count_below}
use Rattle.rings.specs.{Necklace.lyndon, Open.open-all}
use Rattle.ring_laws.proofs.Run.{Lyn, Run, run-shorter, run-through, lyn-through}
use Rattle.ring_laws.proofs.{Lyndon.lyndon-of, Classes.not-lyndon}
use Rattle.shades_next_inner.specs.Raised.{new_word, raised_to}

-- ---- counting numbers below n

-- at most n
count-few : (n : ℕ) (f : ℕ → Bool) → count_below n f ≤ n
unfolding count_below
count-few zero f = omega arith
count-few (suc n) f = omega (arith, count-few n f, one (f n))
  where
    one : (b : Bool) → bit b ≤ 1
    one true = omega arith
    one false = omega arith

-- none
count_none : (n : ℕ) (f : ℕ → Bool) → ((i : ℕ) → i < n → f i ≡ false) → count_below n f ≡ 0
unfolding count_below
count_none zero f h = refl
count_none (suc n) f h = rw (h n (omega arith)) (omega (arith, count_none n f (λ i q. h i (omega arith))))

-- as many
count_same : (n : ℕ) (f g : ℕ → Bool) → ((i : ℕ) → i < n → f i ≡ g i) → count_below n f ≡ count_below n g
unfolding count_below
count_same zero f g h = refl
count_same (suc n) f g h = rw (h n (omega arith), count_same n f g (λ i q. h i (omega arith)))

-- one more
count-more : (n : ℕ) (f g : ℕ → Bool) (l : ℕ) → l < n → f l ≡ false → g l ≡ true → ((i : ℕ) → i < n → (i ≡ l → ⊥) → f i ≡ g i) → count_below n g ≡ suc (count_below n f)
unfolding count_below
count-more zero f g l h off on other = absurd (omega arith)
count-more (suc n) f g l h off on other =
    elim (tri l n) [
      | lt q ↦ rw (other n (omega arith) (λ e. omega arith)) (omega (arith, count-more n f g l q off on (λ i r. other i (omega arith))))
      | eq q ↦ rw (← q, off, on) (omega (arith, count_same l f g (λ i r. other i (omega arith) (λ e. omega arith))))
      | gt q ↦ absurd (omega arith)
    ]

-- ---- beginnings

-- beginnings of a length up to which all sectors are equal
same-take : (v w : List ℕ) (i : ℕ) → i ≤ length v → i ≤ length w → ((m : ℕ) → m < i → sec v m ≡ sec w m) → take i v ≡ take i w
same-take v w i h q e =
    ext_get_or 0 (take i v) (take i w) (length-take-le i v h ∙ sym (length-take-le i w q))
    (λ m r. let l : m < i = omega (arith, length-take-le i v h) in get_or-take i v m 0 l ∙ e m l ∙ sym (get_or-take i w m 0 l))

-- and back
take_same : (v w : List ℕ) (i : ℕ) → take i v ≡ take i w → (m : ℕ) → m < i → sec v m ≡ sec w m
take_same v w i e m h = sym (get_or-take i v m 0 h) ∙ ap (λ (u : List ℕ). sec u m) e ∙ get_or-take i w m 0 h

-- a beginning that repeats is no Lyndon word
no_word : (v : List ℕ) (p i : ℕ) → Run (sec v) (length v) p → p < i → i ≤ length v → lyndon (take i v) ≡ false
no_word v p i r h q = not-lyndon (take i v) p run (omega (arith, length-take-le i v q))
  where
    run : Run (sec (take i v)) (length (take i v)) p
    run = rw (length-take-le i v q) (run-through (sec v) (sec (take i v)) i p (λ m l. sym (get_or-take i v m 0 l)) (run-shorter (sec v) (length v) i p (omega arith) q r))

-- a beginning is new or not, whatever follows it
same_word : (w v v' : List ℕ) (i : ℕ) → take (suc i) v ≡ take (suc i) v' → new_word w v i ≡ new_word w v' i
unfolding new_word
same_word w v v' i e = ap (λ (u : List ℕ). lyndon u && not (same (take (suc i) w) u)) e

module _ (w v : List ℕ) where
  -- w begins so
  known-word : (i : ℕ) → take (suc i) w ≡ take (suc i) v → new_word w v i ≡ false
  unfolding new_word
  known-word i e = not_right (lyndon (take (suc i) v)) (not (same (take (suc i) w) (take (suc i) v))) (ap not (ap (same (take (suc i) w)) (sym e) ∙ same_refl (take (suc i) w)))

  -- it repeats
  repeated-word : (p i : ℕ) → Run (sec v) (length v) p → p < suc i → i < length v → new_word w v i ≡ false
  unfolding new_word
  repeated-word p i r h q = not_left (lyndon (take (suc i) v)) (not (same (take (suc i) w) (take (suc i) v))) (no_word v p (suc i) r h (omega arith))

  -- it is a Lyndon word, and w does not begin so
  new_word_lem : (i : ℕ) → i < length v → Lyn (sec v) (suc i) → (take (suc i) w ≡ take (suc i) v → ⊥) → new_word w v i ≡ true
  unfolding new_word
  new_word_lem i h l other =
      both (lyndon (take (suc i) v)) (not (same (take (suc i) w) (take (suc i) v)))
      (lyndon-of (take (suc i) v) (omega (arith, long)) (rw long (lyn-through (sec v) (sec (take (suc i) v)) (suc i) (λ m q. sym (get_or-take (suc i) v m 0 q)) l)))
      (ap not (same_false (take (suc i) w) (take (suc i) v) other))
    where
      long : length (take (suc i) v) ≡ suc i
      long = length-take-le (suc i) v (omega arith)

-- ---- how many

-- at most as many as the answer has sectors
pub raised-few : (w v : List ℕ) → raised_to w v ≤ length v
unfolding raised_to
raised-few w v = count-few (length v) (new_word w v)

-- none, where a reading is its own answer
pub raised-none : (w v : List ℕ) → w ≡ v → raised_to w v ≡ 0
unfolding raised_to
raised-none w v e = count_none (length v) (new_word w v) (λ i h. known-word w v i (ap (take (suc i)) e))

-- Place l of `ring` is raised and what stands up to there is repeated. Those raised before, if any, lie further left.
pub raised-more : (start ring t : List ℕ) (l p : ℕ) →
    length ring ≡ length t → length start ≡ length t → up_to start ring ≡ true →
    l < length t → Run (sec t) (length t) (suc l) → ((m : ℕ) → m < l → sec t m ≡ sec ring m) → sec ring l < sec t l →
    (p ≡ 0 → start ≡ ring) → (0 < p → Run (sec ring) (length ring) p) → p ≤ l → raised_to start t ≡ suc (raised_to start ring)
unfolding raised_to
raised-more start ring t l p long long₀ low inside run keeps rises fresh repeats left =
    rw long (count-more (length t) (new_word start ring) (new_word start t) l inside (old l inside (omega arith)) here other)
  where
    -- nothing new behind the places raised before
    old : (i : ℕ) → i < length t → l ≤ i → new_word start ring i ≡ false
    old i h q = go p fresh repeats left
      where
        go : (p : ℕ) → (p ≡ 0 → start ≡ ring) → (0 < p → Run (sec ring) (length ring) p) → p ≤ l → new_word start ring i ≡ false
        go zero f r y = known-word start ring i (ap (take (suc i)) (f refl))
        go (suc p) f r y = repeated-word start ring (suc p) i (r (omega arith)) (omega arith) (omega arith)

    here : new_word start t l ≡ true
    here =
        new_word_lem start t l inside run.lyn (λ e. up_to-not-less start ring (long₀ ∙ sym long) low (record {
          at = l;
          bound = omega arith;
          agree = λ m h. sym (keeps m h) ∙ sym (take_same start t (suc l) e m (omega arith));
          less = omega (arith, take_same start t (suc l) e l (omega arith));
        }))

    other : (i : ℕ) → i < length t → (i ≡ l → ⊥) → new_word start ring i ≡ new_word start t i
    other i h q =
        elim (tri i l) [
          | lt r ↦ same_word start ring t i (same-take ring t (suc i) (omega arith) (omega arith) (λ m y. sym (keeps m (omega arith))))
          | eq r ↦ absurd (q r)
          | gt r ↦ old i h (omega arith) ∙ sym (repeated-word start t (suc l) i run (omega arith) h)
        ]

-- t repeats a beginning of w, and agrees with w below place e, where it is greater: w is no prenecklace from there on
module _ (w t : List ℕ) (e p : ℕ) (long : length t ≡ length w) (run : Run (sec t) (length t) p) (within : p ≤ e) (inside : e < length t) (keeps : (m : ℕ) → m < e → sec t m ≡ sec w m) where
  begins : (i : ℕ) → i < e → take (suc i) w ≡ take (suc i) t
  begins i h = same-take w t (suc i) (omega arith) (omega arith) (λ m q. sym (keeps m (omega arith)))

  -- nothing in t is new
  pub raised-settled : raised_to w t ≡ 0
  unfolding raised_to
  raised-settled =
      count_none (length t) (new_word w t) (λ i h. elim (tri i e) [
        | lt q ↦ known-word w t i (begins i q)
        | eq q ↦ repeated-word w t p i run (omega arith) h
        | gt q ↦ repeated-word w t p i run (omega arith) h
      ])

  -- and what is new in a greater reading is as new to w
  pub raised-from : (u : List ℕ) → length u ≡ length t → up_to t u ≡ true → sec w e < sec t e → raised_to w u ≡ raised_to t u
  unfolding raised_to new_word
  raised-from u size low rises =
      count_same (length u) (new_word w u) (new_word t u) (λ i h. elim (tri i e) [
        | lt q ↦ ap (λ (x : List ℕ). lyndon (take (suc i) u) && not (same x (take (suc i) u))) (begins i q)
        | eq q ↦ late i h (omega arith)
        | gt q ↦ late i h (omega arith)
      ])
    where
      late : (i : ℕ) → i < length u → e ≤ i → new_word w u i ≡ new_word t u i
      late i h q = agree (new_word w u i) (new_word t u i) to from
        where
          to : new_word w u i ≡ true → new_word t u i ≡ true
          to y =
              let l : lyndon (take (suc i) u) ≡ true = both_left (lyndon (take (suc i) u)) (not (same (take (suc i) w) (take (suc i) u))) y in
              both (lyndon (take (suc i) u)) (not (same (take (suc i) t) (take (suc i) u))) l
              (ap not (same_false (take (suc i) t) (take (suc i) u) (λ x. clash (lyndon (take (suc i) u)) l (ap lyndon (sym x) ∙ no_word t p (suc i) run (omega arith) (omega arith)))))

          from : new_word t u i ≡ true → new_word w u i ≡ true
          from y =
              both (lyndon (take (suc i) u)) (not (same (take (suc i) w) (take (suc i) u)))
              (both_left (lyndon (take (suc i) u)) (not (same (take (suc i) t) (take (suc i) u))) y)
              (ap not (same_false (take (suc i) w) (take (suc i) u) (λ x. up_to-not-less t u (sym size) low (record {
                at = e;
                bound = inside;
                agree = λ m r. sym (take_same w u (suc i) x m (omega arith)) ∙ sym (keeps m r);
                less = omega (arith, take_same w u (suc i) x e (omega arith));
              }))))

-- ---- by hand: 001011 after 000111 takes three places, for 001, 00101 and 001011

sample : raised_to (0 ∷ 0 ∷ 0 ∷ 1 ∷ 1 ∷ 1 ∷ []) (0 ∷ 0 ∷ 1 ∷ 0 ∷ 1 ∷ 1 ∷ []) ≡ 3
unfolding count_below new_word raised_to open-all
sample = refl
