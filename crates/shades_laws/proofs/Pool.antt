-- The pool of words that decides whether a beginning al can be completed by given letters to a necklace. It starts as the letters, each a word, in
-- increasing order. While its least word s stands before al, the last word is taken out and joined to the last copy of s. Where only copies of s are
-- left, there is no completion.
--     Sorted w            the letters of w do not fall
--     Arranged al v xs    a rearrangement of the pool that stands clear of al ++ v
--     Pool al w xs        what holds of the pool at each step: its order, and that each necklace that begins with al and ends with the letters of w leaves an arrangement
-- The laws that a loop needs: `pool-start`, `join-pool`, `pool-stuck`, `pool-yes`; told by groups of equal words in Groups.
use Rattle.words.proofs.Plain.{ℕ, zero, suc, ◌+◌, ◌-◌, ◌<◌, ◌≤◌, arith, ◌≡◌, refl, sym, ap, ◌∙◌, subst, true, false, List, [], ◌∷◌, ◌++◌, append_assoc, length}
use Rattle.words.proofs.Plain.{get_or, set, take, replicate, length-append, length-replicate, get_or-replicate, List·get_d-append, get_or_at, take-append_seam}
use Rattle.words.proofs.{Plain.get_or-append_seam, Plain.set-append_seam, Sequence.sec, Lex.same_refl}
use Rattle.words.specs.Order.{before}
use Rattle.words.proofs.Split.{lt, eq, gt, tri}
use Rattle.rings.specs.{Necklace.necklace, Counts.occurs}
use Rattle.ring_laws.proofs.Run.{Lyn}
use Rattle.shades_laws.proofs.Under.{◌≪◌, ◌≼◌, here, is, under, upto-trans, Short, before-short}
use Rattle.words.proofs.Readings.{All, nothing, also, all-weaken, all_append}
use Rattle.shades_laws.proofs.Copies.{each-replicate, each-rearranged, copies, copies-none, copies-cons, copies-append, copies-first, Rearranged, singles, singles-rearranged}
use Rattle.shades_laws.proofs.Clear.{read, Clear, over, onto, short-last, letters-clear}
use Rattle.shades_laws.proofs.Exchange.{over-not, Exchanged, exchange}
use Rattle.shades_laws.proofs.Shape.{Rising, flat, step, Shape, settle, Ladder, ladder-top, ladder-stands, shape-first, shape-later}
use Rattle.shades_laws.proofs.Made.{Made, over-short, made-start, made-join, Completed, made-whole}

-- the letters of w do not fall
abbrev pub Sorted : List ℕ → Type 0
Sorted w = (i : ℕ) → suc i < length w → sec w i ≤ sec w (suc i)

-- a rearrangement of the pool that stands clear of al ++ v
pub record Arranged (al v : List ℕ) (xs : List (List ℕ)) : Type 0 where
  pub list : List (List ℕ)
  pub moved : Rearranged list xs
  pub clear : Clear al (al ++ v) list

-- what holds of the pool at each step
pub record Pool (al w : List ℕ) (xs : List (List ℕ)) : Type 0 where
  pub lyn : Lyn (sec al) (length al)
  pub shape : Shape (get_or xs 0 []) xs
  pub made : Made w xs
  pub arranged : (u v : List ℕ) → ((b : ℕ) → occurs b v ≡ occurs b w) → necklace (al ++ (u ++ v)) ≡ true → Arranged al (u ++ v) xs

-- ---- the start

-- a letter is at most a greater one
letter-upto : (a b : ℕ) → a ≤ b → (a ∷ []) ≼ (b ∷ [])
letter-upto a b h = elim (tri a b) [ lt e ↦ under (here e) | eq e ↦ is (ap (λ x. x ∷ []) e) | gt e ↦ absurd (omega arith) ]

-- sorted letters rise
letters-rise : (a : ℕ) (w : List ℕ) → Sorted (a ∷ w) → All (λ y. (a ∷ []) ≼ y) (singles w) × Rising (singles w)
unfolding singles
letters-rise a [] h = (nothing, flat)
letters-rise a (b ∷ w) h = go (letter-upto a b (h 0 (omega arith))) (letters-rise b w (λ i l. h (suc i) (omega arith)))
  where
    go : (a ∷ []) ≼ (b ∷ []) → All (λ y. (b ∷ []) ≼ y) (singles w) × Rising (singles w) → All (λ y. (a ∷ []) ≼ y) (singles (b ∷ w)) × Rising (singles (b ∷ w))
    go p (e, r) = (also p (all-weaken (λ y q. upto-trans p q) e), step e r)

-- sorted letters are a pool
pub pool-start : (al w : List ℕ) → Lyn (sec al) (length al) → 0 < length w → Sorted w → Pool al w (singles w)
unfolding singles
pool-start al [] lyn z h = absurd (omega arith)
pool-start al (a ∷ w) lyn z h = record {
  lyn = lyn;
  shape = go (letters-rise a w h);
  made = made-start (a ∷ w);
  arranged = λ u v e n. record { list = singles v; moved = singles-rearranged v (a ∷ w) e; clear = letters-clear al u v n };
}
  where
    go : All (λ y. (a ∷ []) ≼ y) (singles w) × Rising (singles w) → Shape (a ∷ []) ((a ∷ []) ∷ singles w)
    go (e, r) = settle (a ∷ []) (omega arith) (singles w) e r

-- ---- a step

-- the last of the copies, put to what follows
pub replicate-shift : (n : ℕ) (s : List ℕ) (r : List (List ℕ)) → replicate (suc n) s ++ r ≡ replicate n s ++ s ∷ r
replicate-shift zero s r = refl
replicate-shift (suc n) s r = ap (λ x. s ∷ x) (replicate-shift n s r)

-- joining s with g leaves each completion an arrangement
join-arranged : (al v s g : List ℕ) (n : ℕ) (xs : List (List ℕ)) → Lyn (sec al) (length al) → Short s al → Ladder s g xs →
    Arranged al v (replicate (suc n) s ++ (xs ++ g ∷ [])) → Arranged al v (replicate n s ++ (s ++ g) ∷ xs)
join-arranged al v s g n xs lyn short l r = record { list = e.new; clear = e.clear; moved = λ y. omega (arith, e.counts y, r.moved y, both-counts y) }
  where
    old : List (List ℕ)
    old = replicate (suc n) s ++ (xs ++ g ∷ [])

    some : (y : List ℕ) → 0 < copies y old → 0 < copies y r.list
    some y h = omega (arith, r.moved y)

    g-in : 0 < copies g old
    g-in = simp (copies-append, copies-cons, same_refl g) (omega arith)

    e : Exchanged al (al ++ v) s g r.list
    e =
        exchange al (al ++ v) s g (short-last al s lyn l.long short v) (ladder-top l) r.list
        (each-rearranged r.list old r.moved (ladder-stands l (suc n))) (some s (copies-first s (replicate n s ++ (xs ++ g ∷ [])))) (some g g-in)
        r.clear

    both-counts : (y : List ℕ) → copies y (replicate n s ++ (s ++ g) ∷ xs) + copies y (s ∷ g ∷ []) ≡ copies y old + copies y ((s ++ g) ∷ [])
    both-counts y = simp (copies-append, copies-cons, copies-none) (omega arith)

-- joining s with g leaves a pool
pub join-pool : (al w s g : List ℕ) (n : ℕ) (xs : List (List ℕ)) → Short s al → Ladder s g xs → Pool al w (replicate (suc n) s ++ (xs ++ g ∷ [])) → Pool al w (replicate n s ++ (s ++ g) ∷ xs)
join-pool al w s g n xs short l p =
    record {
      lyn = p.lyn;
      shape = go n;
      made = made-join w s g (replicate n s) xs (over-short (ladder-top l)) (subst (Made w) parted p.made);
      arranged = λ u v c h. join-arranged al (u ++ v) s g n xs p.lyn short l (p.arranged u v c h);
    }
  where
    go : (n : ℕ) → Shape (get_or (replicate n s ++ (s ++ g) ∷ xs) 0 []) (replicate n s ++ (s ++ g) ∷ xs)
    go zero = shape-first l
    go (suc n) = shape-later l n

    parted : replicate (suc n) s ++ (xs ++ g ∷ []) ≡ (replicate n s ++ s ∷ xs) ++ g ∷ []
    parted = replicate-shift n s (xs ++ g ∷ []) ∙ sym (append_assoc (replicate n s) (s ∷ xs) (g ∷ []))

-- ---- words by their places

-- how many copies of the least word lead, told by places
leading : (s : List ℕ) (n : ℕ) (r : List (List ℕ)) (q : ℕ) → All (λ y. y ≡ s → ⊥) r → q ≤ suc n + length r →
    ((i : ℕ) → i < q → get_or (replicate (suc n) s ++ r) i [] ≡ s) → (q < suc n + length r → get_or (replicate (suc n) s ++ r) q [] ≡ s → ⊥) → q ≡ suc n
leading s n r q e h lead stops =
    elim (tri q (suc n)) [
      | lt k ↦ absurd (stops (omega arith) (List·get_d-append (replicate (suc n) s) r [] q (rw (length-replicate (suc n) s) k) ∙ get_or-replicate (suc n) q s [] k))
      | eq k ↦ k
      | gt k ↦ past k r e h lead
    ]
  where
    past : suc n < q → (r : List (List ℕ)) → All (λ y. y ≡ s → ⊥) r → q ≤ suc n + length r → ((i : ℕ) → i < q → get_or (replicate (suc n) s ++ r) i [] ≡ s) → q ≡ suc n
    past k [] e h lead = absurd (omega arith)
    past k (x ∷ r) (also f e) h lead = absurd (f (sym (get_or_at (replicate (suc n) s) x r [] (suc n) (length-replicate (suc n) s)) ∙ lead (suc n) k))

-- the same in a pool
leading-shape : (s : List ℕ) (xs : List (List ℕ)) (p : Shape s xs) (q : ℕ) → q ≤ length xs → ((i : ℕ) → i < q → get_or xs i [] ≡ s) → (q < length xs → get_or xs q [] ≡ s → ⊥) →
    (q ≡ suc p.extra) × (length xs ≡ suc p.extra + length p.rest)
leading-shape s xs p q h lead stops = (
  leading s p.extra p.rest q (all-weaken (λ y. over-not) p.above) (omega (arith, long))
      (λ i l. ap (λ x. get_or x i []) (sym p.whole) ∙ lead i l) (λ l e. stops (omega (arith, long)) (ap (λ x. get_or x q []) p.whole ∙ e)),
  long,
)
  where
    long : length xs ≡ suc p.extra + length p.rest
    long = ap length p.whole ∙ length-append (replicate (suc p.extra) s) p.rest ∙ ap (λ x. x + length p.rest) (length-replicate (suc p.extra) s)

-- copies of a word that is too small do not stand clear
copies-not-clear : {al t s : List ℕ} (x : List ℕ) (xs : List (List ℕ)) → All (λ y. y ≡ s) (x ∷ xs) → Clear al t (x ∷ xs) → (s ++ al) ≪ t → ⊥
unfolding read
copies-not-clear x [] (also e nothing) (onto f over) low = f (rw e low)
copies-not-clear x (y ∷ xs) (also e k) (onto f c) low = copies-not-clear y xs k c low

-- where only copies of the least word are left, no necklace begins with al and ends with such letters
pub pool-stuck : (al w : List ℕ) (xs : List (List ℕ)) → Pool al w xs → ((i : ℕ) → i < length xs → get_or xs i [] ≡ get_or xs 0 []) → before (get_or xs 0 []) al ≡ true →
    (u v : List ℕ) → ((b : ℕ) → occurs b v ≡ occurs b w) → necklace (al ++ (u ++ v)) ≡ true → ⊥
pool-stuck al w xs p lead b u v c h = none-clear (p.arranged u v c h)
  where
    s : List ℕ
    s = get_or xs 0 []

    n : ℕ
    n = p.shape.extra

    all-copies : (r : List (List ℕ)) → xs ≡ replicate (suc n) s ++ r → length r ≡ 0 → All (λ y. y ≡ s) xs
    all-copies [] e l = subst (All (λ y. y ≡ s)) (sym e) (all_append (each-replicate (suc n) s refl) nothing)
    all-copies (x ∷ r) e l = absurd (omega arith)

    only-copies : All (λ y. y ≡ s) xs
    only-copies = all-copies p.shape.rest p.shape.whole (let (q, l) = leading-shape s xs p.shape (length xs) (omega arith) lead (λ k. absurd (omega arith)) in omega arith)

    none-clear : Arranged al (u ++ v) xs → ⊥
    none-clear a =
        ends a.list (each-rearranged a.list xs a.moved only-copies) a.clear
        (omega (arith, a.moved s, subst (λ x. 0 < copies s x) (sym p.shape.whole) (copies-first s (replicate n s ++ p.shape.rest))))
      where
        ends : (ys : List (List ℕ)) → All (λ y. y ≡ s) ys → Clear al (al ++ (u ++ v)) ys → 0 < copies s ys → ⊥
        ends [] e k l = let g = rw copies-none at l in omega arith
        ends (y ∷ ys) e k l = copies-not-clear y ys e k (short-last al s p.lyn p.shape.long (before-short s al b) (u ++ v))

-- where the least word does not stand before al, there is one
pub pool-yes : (al w : List ℕ) (xs : List (List ℕ)) → 0 < length al → Pool al w xs → before (get_or xs 0 []) al ≡ false → Completed al w
pool-yes al w xs z p h = made-whole al w (get_or xs 0 []) xs z p.lyn p.shape p.made h
