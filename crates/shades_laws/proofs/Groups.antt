-- The pool told by its groups. Equal words stand together, so a pool is its least word s with how many copies there are, and behind it groups, each a word and how many copies
-- there are of it. No two groups have one word, and no copy of s is among them: so copies need not be looked for.
--     spread w m f c              the groups at places f to f + c - 1: word w i, and m i copies of it
--     Beyond s g y                y is above s, as `Over` of Exchange has it, and nothing of it is g itself
--     Grouped al u s q w m f c    what holds of q copies of s and the groups at each step
-- In order: the groups as a list; joining many copies at once (`joins`); the steps: an empty last group goes (`group-dropped`), the last group takes a copy of s for each of its
-- words (`group-pushed`), each copy of s takes a word of the last group (`group-taken`); where it ends (`group-stuck`, `group-low`, `group-yes`); the letters of counts
-- as groups (`group-start`).
use Rattle.words.proofs.Plain.{ℕ, zero, suc, ◌+◌, ◌-◌, ◌<◌, ◌≤◌, arith, ◌≡◌, refl, sym, ap, ◌∙◌, subst, true, false, List, [], ◌∷◌, ◌++◌, append_assoc}
use Rattle.words.proofs.Plain.{append-nil, length, get_or, replicate, length-append, length-replicate}
use Rattle.words.specs.{Order.before, Sum.sum_of}
use Rattle.words.proofs.Split.{lt, eq, gt, tri}
use Rattle.words.proofs.Sequence.{sec}
use Rattle.words.proofs.Readings.{All, nothing, also, all-weaken, all_append}
use Rattle.rings.specs.{Necklace.necklace, Counts.occurs}
use Rattle.ring_laws.proofs.Run.{Lyn}
use Rattle.shades_laws.proofs.Under.{◌≪◌, ◌≼◌, here, is, under, under-trans, under-longer, under-extended, under-behind, Short, before-short}
use Rattle.shades_laws.proofs.Copies.{each-replicate, copies, copies-first, found, singles}
use Rattle.shades_laws.proofs.Clear.{read, Clear, clear_first, clear-back}
use Rattle.shades_laws.proofs.Exchange.{Over, higher, longer}
use Rattle.shades_laws.proofs.Shape.{Rising, flat, step, Ladder, joined-upto, joined-under, over-long}
use Rattle.shades_laws.proofs.Made.{Completed}
use Rattle.shades_laws.proofs.Pool.{Pool, Arranged, pool-start, pool-stuck, pool-yes, join-pool, replicate-shift}
use Rattle.shades_laws.proofs.Letters.{letters_from, letters, length-letters, sorted-letters}

-- ---- groups as a list

-- the groups at places f to f + c - 1
unfoldable pub spread : (ℕ → List ℕ) → (ℕ → ℕ) → ℕ → ℕ → List (List ℕ)
spread w m f zero = []
spread w m f (suc c) = replicate (m f) (w f) ++ spread w m (suc f) c

-- the last group apart
spread-last : (w : ℕ → List ℕ) (m : ℕ → ℕ) (f c g : ℕ) → f + c ≡ g → spread w m f (suc c) ≡ spread w m f c ++ replicate (m g) (w g)
unfolding spread
spread-last w m f zero g e = let q : f ≡ g = omega arith in rw q (append-nil (replicate (m g) (w g)))
spread-last w m f (suc c) g e =
    ap (λ x. replicate (m f) (w f) ++ x) (spread-last w m (suc f) c g (omega arith))
    ∙ sym (append_assoc (replicate (m f) (w f)) (spread w m (suc f) c) (replicate (m g) (w g)))

-- the same words and numbers
spread_same : (w w' : ℕ → List ℕ) (m m' : ℕ → ℕ) (f c : ℕ) → ((i : ℕ) → f ≤ i → i < f + c → w i ≡ w' i) → ((i : ℕ) → f ≤ i → i < f + c → m i ≡ m' i) → spread w m f c ≡ spread w' m' f c
unfolding spread
spread_same w w' m m' f zero p q = refl
spread_same w w' m m' f (suc c) p q =
    rw (p f (omega arith) (omega arith), q f (omega arith) (omega arith)) (ap (λ x. replicate (m' f) (w' f) ++ x)
    (spread_same w w' m m' (suc f) c (λ i h k. p i (omega arith) (omega arith)) (λ i h k. q i (omega arith) (omega arith))))

-- what holds of each group's word
spread-all : {P : List ℕ → Type 0} (w : ℕ → List ℕ) (m : ℕ → ℕ) (f c : ℕ) → ((i : ℕ) → f ≤ i → i < f + c → P (w i)) → All P (spread w m f c)
unfolding spread
spread-all w m f zero h = nothing
spread-all w m f (suc c) h = all_append (each-replicate (m f) (w f) (h f (omega arith) (omega arith))) (spread-all w m (suc f) c (λ i p q. h i (omega arith) (omega arith)))

-- empty groups in front
spread-skip : (w : ℕ → List ℕ) (m : ℕ → ℕ) (f b c g : ℕ) → f + b ≡ g → ((i : ℕ) → f ≤ i → i < g → m i ≡ 0) → spread w m f (b + c) ≡ spread w m g c
unfolding spread
spread-skip w m f zero c g e h = let q : f ≡ g = omega arith in rw q (ap (spread w m g) (let z : 0 + c ≡ c = omega arith in z))
spread-skip w m f (suc b) c g e h =
    ap (spread w m f) (let z : suc b + c ≡ suc (b + c) = omega arith in z)
    ∙ rw (h f (omega arith) (omega arith)) (spread-skip w m (suc f) b c g (omega arith) (λ i p q. h i (omega arith) q))

-- ---- rising lists

-- copies of a word that is at most each behind them
rising-copies : (n : ℕ) (x : List ℕ) {ys : List (List ℕ)} → All (λ y. x ≼ y) ys → Rising ys → Rising (replicate n x ++ ys)
rising-copies zero x h r = r
rising-copies (suc n) x h r = step (all_append (each-replicate n x (is refl)) h) (rising-copies n x h r)

-- two rising lists, each word of the first at most each of the second
rising-append : {ys zs : List (List ℕ)} → Rising ys → Rising zs → All (λ y. All (λ z. y ≼ z) zs) ys → Rising (ys ++ zs)
rising-append flat r h = r
rising-append (step k rs) r (also p h) = step (all_append k p) (rising-append rs r h)

-- groups whose words rise
spread-rising : (w : ℕ → List ℕ) (m : ℕ → ℕ) (f c : ℕ) → ((i j : ℕ) → f ≤ i → i < j → j < f + c → w i ≪ w j) → Rising (spread w m f c)
unfolding spread
spread-rising w m f zero h = flat
spread-rising w m f (suc c) h =
    rising-copies (m f) (w f) (spread-all w m (suc f) c (λ i p q. under (h f i (omega arith) (omega arith) (omega arith))))
    (spread-rising w m (suc f) c (λ i j p q r. h i j (omega arith) q (omega arith)))

-- ---- joining many copies

module _ (al u s g : List ℕ) (xs : List (List ℕ)) (short : Short s al) (long : 0 < length s) (above : All (Over s g) xs) (rising : Rising xs) (most : All (λ y. y ≼ g) xs) (top : Over s g g) where
  abbrev sg : List ℕ
  sg = s ++ g

  -- i copies of the joined word, the words between, and b copies of g in front of the last
  ladder : (i b : ℕ) → Ladder s g ((replicate i sg ++ xs) ++ replicate b g)
  ladder i b = record {
    long = long;
    above = all_append (all_append (all_append (each-replicate i sg (longer g (over-long top) refl (is refl))) above) (each-replicate b g top)) (also top nothing);
    rising =
        subst Rising (sym (append_assoc (replicate i sg ++ xs) (replicate b g) (g ∷ [])))
        (rising-append (rising-copies i sg (all-weaken (λ y. joined-upto) above) rising)
        (rising-copies b g (also (is refl) nothing) (step nothing flat))
        (all-weaken (λ y p. all_append (each-replicate b g p) (also p nothing)) (all_append (each-replicate i sg (under (joined-under long top))) most)));
  }

  -- one copy of s with one of g
  once : (i a b : ℕ) → Pool al u (replicate (suc a) s ++ ((replicate i sg ++ xs) ++ replicate (suc b) g)) → Pool al u (replicate a s ++ ((replicate (suc i) sg ++ xs) ++ replicate b g))
  once i a b p = join-pool al u s g a ((replicate i sg ++ xs) ++ replicate b g) short (ladder i b) (subst (Pool al u) (ap (λ x. replicate (suc a) s ++ x) parted) p)
    where
      parted : (replicate i sg ++ xs) ++ replicate (suc b) g ≡ ((replicate i sg ++ xs) ++ replicate b g) ++ g ∷ []
      parted = ap (λ x. (replicate i sg ++ xs) ++ x) (sym (append-nil (replicate (suc b) g)) ∙ replicate-shift b g []) ∙ sym (append_assoc (replicate i sg ++ xs) (replicate b g) (g ∷ []))

  -- x copies of s with as many of g
  joins : (x i n m a b r : ℕ) → a ≡ x + n → b ≡ x + m → r ≡ x + i → Pool al u (replicate a s ++ ((replicate i sg ++ xs) ++ replicate b g)) →
      Pool al u (replicate n s ++ ((replicate r sg ++ xs) ++ replicate m g))
  joins zero i n m a b r p q e h =
      let e₁ : a ≡ n = omega arith in
      let e₂ : b ≡ m = omega arith in
      let e₃ : r ≡ i = omega arith in
      rw e₃ (rw (e₁, e₂) at h)
  joins (suc x) i n m zero b r p q e h = absurd (omega arith)
  joins (suc x) i n m (suc a) zero r p q e h = absurd (omega arith)
  joins (suc x) i n m (suc a) (suc b) r p q e h = joins x (suc i) n m a b r (omega arith) (omega arith) (omega arith) (once i a b h)

-- ---- what is beyond s

-- y is above s: s lies under y, or y is s and more, and g lies under that rest
pub data Beyond (s g y : List ℕ) : Type 0 where
  past : s ≪ y → Beyond s g y
  more : (h : List ℕ) → 0 < length h → y ≡ s ++ h → g ≪ h → Beyond s g y

beyond-over : {s g y : List ℕ} → Beyond s g y → Over s g y
beyond-over (past r) = higher r
beyond-over (more h z e r) = longer h z e (under r)

-- what is beyond s is not empty
pub beyond-long : {s g y : List ℕ} → Beyond s g y → 0 < length y
beyond-long b = over-long (beyond-over b)

-- s joined with g lies under what is beyond s
beyond-joined : {s g y : List ℕ} → Beyond s g y → (s ++ g) ≪ y
beyond-joined {g} (past r) = under-longer g r
beyond-joined {s} {g} (more h z e r) = subst (λ x. (s ++ g) ≪ x) (sym e) (under-behind s r)

-- less is asked of the rest where the last word is less
beyond-lower : {s g l y : List ℕ} → l ≪ g → Beyond s g y → Beyond s l y
beyond-lower p (past r) = past r
beyond-lower p (more h z e r) = more h z e (under-trans p r)

-- ---- the steps

-- q copies of s, and c groups from place f on
pub record Grouped (al u s : List ℕ) (q : ℕ) (w : ℕ → List ℕ) (m : ℕ → ℕ) (f c : ℕ) : Type 0 where
  pub some : 0 < q
  pub long : 0 < length s
  pub rising : (i j : ℕ) → f ≤ i → i < j → j < f + c → w i ≪ w j
  pub beyond : (g j : ℕ) → suc g ≡ f + c → f ≤ j → j ≤ g → Beyond s (w g) (w j)
  pub few : q + length (spread w m f c) ≤ f
  pub pool : Pool al u (replicate q s ++ spread w m f c)

module _ {al u s : List ℕ} {q : ℕ} {w : ℕ → List ℕ} {m : ℕ → ℕ} where
  -- a last group without copies goes
  pub group-dropped : {f c : ℕ} (g : ℕ) → f + c ≡ g → Grouped al u s q w m f (suc c) → m g ≡ 0 → Grouped al u s q w m f c
  group-dropped {f} {c} g e p z = record {
    some = p.some;
    long = p.long;
    rising = λ i j a b d. p.rising i j a b (omega arith);
    beyond = λ h j a b d. beyond-lower (p.rising h g (omega arith) (omega arith) (omega arith)) (p.beyond g j (omega arith) b (omega arith));
    few = subst (λ x. q + length x ≤ f) less p.few;
    pool = subst (λ x. Pool al u (replicate q s ++ x)) less p.pool;
  }
    where
      less : spread w m f (suc c) ≡ spread w m f c
      less = spread-last w m f c g e ∙ ap (λ n. spread w m f c ++ replicate n (w g)) z ∙ append-nil (spread w m f c)

  -- the last group has no more copies than there are places in front
  pub group-few : {f c : ℕ} (g : ℕ) → f + c ≡ g → Grouped al u s q w m f (suc c) → q + m g ≤ f
  group-few {f} {c} g e p = omega (arith, p.few, ap length (spread-last w m f c g e), length-append (spread w m f c) (replicate (m g) (w g)), length-replicate (m g) (w g))

  -- what joining asks, for the words between and the last
  module _ {f c : ℕ} (g : ℕ) (e : f + c ≡ g) (p : Grouped al u s q w m f (suc c)) (short : Short s al) where
    abbrev words : List (List ℕ)
    words = spread w m f c

    parted : spread w m f (suc c) ≡ words ++ replicate (m g) (w g)
    parted = spread-last w m f c g e

    top : Beyond s (w g) (w g)
    top = p.beyond g g (omega arith) (omega arith) (omega arith)

    -- the pool after x joins
    joined : (x n r : ℕ) → q ≡ x + n → m g ≡ x + r → Pool al u (replicate n s ++ ((replicate x (s ++ w g) ++ words) ++ replicate r (w g)))
    joined x n r a b =
        joins al u s (w g) words short p.long
        (spread-all w m f c (λ i h k. beyond-over (p.beyond g i (omega arith) h (omega arith))))
        (spread-rising w m f c (λ i j h k l. p.rising i j h k (omega arith)))
        (spread-all w m f c (λ i h k. under (p.rising i g h (omega arith) (omega arith))))
        (beyond-over top) x 0 n r q (m g) x a b (omega arith) (subst (λ y. Pool al u (replicate q s ++ y)) parted p.pool)

    count : length (spread w m f (suc c)) ≡ length words + m g
    count = ap length parted ∙ length-append words (replicate (m g) (w g)) ∙ omega (arith, length-replicate (m g) (w g))

    -- each copy of s takes a word of the last group: those are the new least word
    pub group-taken : q ≤ m g → (m' : ℕ → ℕ) → m' g ≡ m g - q → ((i : ℕ) → (i ≡ g → ⊥) → m' i ≡ m i) → Grouped al u (s ++ w g) q w m' f (suc c)
    group-taken h m' left others = record {
      some = p.some;
      long = omega (arith, length-append s (w g), p.long);
      rising = p.rising;
      beyond = λ a j d k l. past (beyond-joined (p.beyond g j (omega arith) k (omega arith)));
      few = omega (arith, ap length becomes, length-append words (replicate (m g - q) (w g)), length-replicate (m g - q) (w g), p.few, count);
      pool =
          subst (Pool al u)
          (append_assoc (replicate q (s ++ w g)) words (replicate (m g - q) (w g)) ∙ ap (λ x. replicate q (s ++ w g) ++ x) (sym becomes))
          (joined q 0 (m g - q) (omega arith) (omega arith));
    }
      where
        becomes : spread w m' f (suc c) ≡ words ++ replicate (m g - q) (w g)
        becomes =
            spread-last w m' f c g e
            ∙ ap (λ n. spread w m' f c ++ replicate n (w g)) left
            ∙ ap (λ x. x ++ replicate (m g - q) (w g)) (spread_same w w m' m f c (λ i a b. refl) (λ i a b. others i (λ d. omega arith)))

  -- each word of the last group takes a copy of s in front, and the group comes to the front
  pub group-pushed : {f c : ℕ} (g : ℕ) → suc f + c ≡ g → Grouped al u s q w m (suc f) (suc c) → Short s al → 0 < m g → m g < q → (w' : ℕ → List ℕ) (m' : ℕ → ℕ) → w' f ≡ s ++ w g → m' f ≡ m g →
      ((i : ℕ) → f < i → i < g → w' i ≡ w i) → ((i : ℕ) → f < i → i < g → m' i ≡ m i) → Grouped al u s (q - m g) w' m' f (suc c)
  unfolding spread
  group-pushed {f} {c} g e p short z h w' m' front number words_same numbers-same = record {
    some = omega arith;
    long = p.long;
    rising = rises;
    beyond = above;
    few = omega (arith, ap length becomes, length-append (replicate (m g) (s ++ w g)) (spread w m (suc f) c), length-replicate (m g) (s ++ w g), p.few, count g e p short);
    pool =
        subst (λ x. Pool al u (replicate (q - m g) s ++ x)) (append-nil (replicate (m g) (s ++ w g) ++ spread w m (suc f) c) ∙ sym becomes)
        (joined g e p short (m g) (q - m g) 0 (omega arith) (omega arith));
  }
    where
      becomes : spread w' m' f (suc c) ≡ replicate (m g) (s ++ w g) ++ spread w m (suc f) c
      becomes =
          rw (front, number) (ap (λ x. replicate (m g) (s ++ w g) ++ x)
          (spread_same w' w m' m (suc f) c (λ i a b. words_same i (omega arith) (omega arith)) (λ i a b. numbers-same i (omega arith) (omega arith))))

      -- the word in front lies under each of the others
      first : (j : ℕ) → f < j → j < g → w' f ≪ w' j
      first j a b = rw (front, words_same j a b) (beyond-joined (p.beyond g j (omega arith) (omega arith) (omega arith)))

      rises : (i j : ℕ) → f ≤ i → i < j → j < f + suc c → w' i ≪ w' j
      rises i j a b d =
          elim (tri f i) [
            | lt k ↦ rw (words_same i k (omega arith), words_same j (omega arith) (omega arith)) (p.rising i j (omega arith) b (omega arith))
            | eq k ↦ rw (← k) (first j (omega arith) (omega arith))
            | gt k ↦ absurd (omega arith)
          ]

      -- the new last word lies under the old one
      last : (l : ℕ) → suc l ≡ f + suc c → w' l ≪ w g
      last l a =
          elim (tri f l) [
            | lt k ↦ rw (words_same l k (omega arith)) (p.rising l g (omega arith) (omega arith) (omega arith))
            | eq k ↦ rw (← k, front) (beyond-joined (top g e p short))
            | gt k ↦ absurd (omega arith)
          ]

      above : (l j : ℕ) → suc l ≡ f + suc c → f ≤ j → j ≤ l → Beyond s (w' l) (w' j)
      above l j a b d =
          elim (tri f j) [
            | lt k ↦ rw (words_same j k (omega arith)) (beyond-lower (last l a) (p.beyond g j (omega arith) (omega arith) (omega arith)))
            | eq k ↦ more (w g) (over-long (beyond-over (top g e p short))) (rw (← k) front) (last l a)
            | gt k ↦ absurd (omega arith)
          ]

-- ---- the ends

module _ {al u s : List ℕ} {q : ℕ} {w : ℕ → List ℕ} {m : ℕ → ℕ} {f c : ℕ} (p : Grouped al u s q w m f c) where
  -- s is the first word of the pool
  first_word : get_or (replicate q s ++ spread w m f c) 0 [] ≡ s
  first_word = go q p.some
    where
      go : (q : ℕ) → 0 < q → get_or (replicate q s ++ spread w m f c) 0 [] ≡ s
      go zero z = absurd (omega arith)
      go (suc q) z = refl

  -- where s does not stand before al there is a completion
  pub group-yes : 0 < length al → before s al ≡ false → Completed al u
  group-yes z b = pool-yes al u (replicate q s ++ spread w m f c) z p.pool (rw first_word b)

  -- where s lies under al there is none
  pub group-low : s ≪ al → (x v : List ℕ) → ((b : ℕ) → occurs b v ≡ occurs b u) → necklace (al ++ (x ++ v)) ≡ true → ⊥
  group-low low x v k h = go (p.pool.arranged x v k h)
    where
      there : (q : ℕ) → 0 < q → 0 < copies s (replicate q s ++ spread w m f c)
      there zero z = absurd (omega arith)
      there (suc q) z = copies-first s (replicate q s ++ spread w m f c)

      go : Arranged al (x ++ v) (replicate q s ++ spread w m f c) → ⊥
      go a =
          let d = found s a.list (omega (arith, a.moved s, there q p.some)) in
          clear_first (clear-back d.front (s ∷ d.back) (subst (Clear al (al ++ (x ++ v))) d.cut a.clear))
          (under-longer (read al d.back) (under-extended (x ++ v) low))

-- where only copies of s are left, and s stands before al, there is none
pub group-stuck : {al u s : List ℕ} {q : ℕ} {w : ℕ → List ℕ} {m : ℕ → ℕ} {f : ℕ} → Grouped al u s q w m f 0 → before s al ≡ true →
    (x v : List ℕ) → ((b : ℕ) → occurs b v ≡ occurs b u) → necklace (al ++ (x ++ v)) ≡ true → ⊥
unfolding spread
group-stuck {al} {u} {s} {q} {w} {m} {f} p b =
    pool-stuck al u (replicate q s ++ []) p.pool
    (λ i h. each q i h ∙ sym (each q 0 (omega (arith, p.some, length-append (replicate q s) [], length-replicate q s))))
    (rw (each q 0 (omega (arith, p.some, length-append (replicate q s) [], length-replicate q s))) b)
  where
    each : (q i : ℕ) → i < length (replicate q s ++ []) → get_or (replicate q s ++ []) i [] ≡ s
    each zero i h = absurd (omega arith)
    each (suc q) zero h = refl
    each (suc q) (suc i) h = each q i (omega arith)

-- ---- the start

-- copies of a letter, each a word
singles-replicate : (n b : ℕ) (v : List ℕ) → singles (replicate n b ++ v) ≡ replicate n (b ∷ []) ++ singles v
unfolding singles
singles-replicate zero b v = refl
singles-replicate (suc n) b v = ap (λ x. (b ∷ []) ∷ x) (singles-replicate n b v)

-- as many words as letters
length-singles : (v : List ℕ) → length (singles v) ≡ length v
unfolding singles
length-singles [] = refl
length-singles (a ∷ v) = ap suc (length-singles v)

-- the letters of counts, each a word, are groups
letters-spread : (w : ℕ → List ℕ) (m : ℕ → ℕ) (d f : ℕ) (cs : List ℕ) → ((i j x : ℕ) → f + i ≡ j → d + i ≡ x → i < length cs → w j ≡ x ∷ []) →
    ((i j : ℕ) → f + i ≡ j → i < length cs → m j ≡ get_or cs i 0) →
    singles (letters_from d cs) ≡ spread w m f (length cs)
unfolding letters_from spread singles
letters-spread w m d f [] p q = refl
letters-spread w m d f (c ∷ cs) p q =
    singles-replicate c d (letters_from (suc d) cs)
    ∙ rw (p 0 f d (omega arith) (omega arith) (omega arith), q 0 f (omega arith) (omega arith))
    (ap (λ x. replicate c (d ∷ []) ++ x)
    (letters-spread w m (suc d) (suc f) cs (λ i j x a b h. p (suc i) j x (omega arith) (omega arith) (omega arith)) (λ i j a h. q (suc i) j (omega arith) (omega arith))))

-- the least letter that is left, and the greater ones: letter b stands at place o + b
pub group-start : (al cs : List ℕ) (o b : ℕ) (w : ℕ → List ℕ) (m : ℕ → ℕ) → Lyn (sec al) (length al) → b < length cs → ((x : ℕ) → x < b → get_or cs x 0 ≡ 0) → 0 < get_or cs b 0 → sum_of cs ≤ o →
    ((i : ℕ) → i < length cs → w (o + i) ≡ i ∷ []) → ((i : ℕ) → i < length cs → m (o + i) ≡ get_or cs i 0) → Grouped al (letters cs) (b ∷ []) (get_or cs b 0) w m (suc (o + b)) (length cs - suc b)
unfolding spread
group-start al cs o b w m lyn h none z room words numbers = record {
  some = z;
  long = omega arith;
  rising = λ i j p q r. letter-under i j (omega arith) q (omega arith);
  beyond = λ g j e p q. past (subst (λ x. x ≪ w j) (words b h) (letter-under (o + b) j (omega arith) (omega arith) (omega arith)));
  few = omega (arith, sym (ap length whole), length-append (replicate (get_or cs b 0) (b ∷ [])) rest, length-replicate (get_or cs b 0) (b ∷ []), length-singles (letters cs), length-letters 0 cs);
  pool =
      subst (Pool al (letters cs)) whole (pool-start al (letters cs) lyn (omega (
        arith,
        length-letters 0 cs,
        ap length whole,
        length-append (replicate (get_or cs b 0) (b ∷ [])) rest,
        length-replicate (get_or cs b 0) (b ∷ []),
        length-singles (letters cs),
      )) (sorted-letters 0 cs));
}
  where
    rest : List (List ℕ)
    rest = spread w m (suc (o + b)) (length cs - suc b)

    letter-under : (i j : ℕ) → o ≤ i → i < j → j < o + length cs → w i ≪ w j
    letter-under i j p q r =
        let x : o + (i - o) ≡ i = omega arith in
        let y : o + (j - o) ≡ j = omega arith in
        let less : i - o < j - o = omega arith in
        subst (λ n. w n ≪ w j) x (subst (λ n. w (o + (i - o)) ≪ w n) y (rw (words (i - o) (omega arith), words (j - o) (omega arith)) (here less)))

    all : singles (letters cs) ≡ spread w m o (length cs)
    all = letters-spread w m 0 o cs (λ i j x e f k. let a : i ≡ x = omega arith in rw (← e, ← a) (words i k)) (λ i j e k. rw (← e) (numbers i k))

    whole : singles (letters cs) ≡ replicate (get_or cs b 0) (b ∷ []) ++ rest
    whole =
        all
        ∙ ap (spread w m o) (let e : length cs ≡ b + suc (length cs - suc b) = omega arith in e)
        ∙ spread-skip w m o b (suc (length cs - suc b)) (o + b) refl
        (λ i p q. let e : o + (i - o) ≡ i = omega arith in subst (λ n. m n ≡ 0) e (numbers (i - o) (omega arith) ∙ none (i - o) (omega arith)))
        ∙ rw (words b h, numbers b h)
