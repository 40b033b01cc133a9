-- What the pool's words are: each is lowest, and together they have the letters that the pool started with. So where al does not stand behind the least of them,
-- al and the words as they stand are a necklace.
--     Made w xs           each word of the list is lowest, and together they have the letters of w
--     Completed al w      a word with the letters of w that completes al to a necklace
-- In order: words that climb from al; how the words are made (`made-start`, `made-join`); the necklace (`made-whole`, `made_none`).
use Rattle.words.proofs.Plain.{ℕ, zero, suc, ◌+◌, ◌<◌, arith, ◌≡◌, refl, sym, ap, ◌∙◌, subst, true, false, List, [], ◌∷◌, ◌++◌, append-nil, length, replicate}
use Rattle.words.proofs.{Plain.length-append, Plain.List·get_d-append, Sequence.sec}
use Rattle.words.specs.Order.{before, up_to}
use Rattle.words.proofs.Lex.{up_to-refl, before-up_to, not-before}
use Rattle.words.proofs.Readings.{All, nothing, also, all-weaken, all_append, all_left, all_right}
use Rattle.rings.specs.{Necklace.necklace, Counts.occurs}
use Rattle.ring_laws.proofs.Run.{Lyn}
use Rattle.shades_laws.proofs.Under.{◌≼◌, is, under, under-before, before-place, Short, lower, opening}
use Rattle.shades_laws.proofs.{Copies.singles, Copies.occurs-append, Clear.read, Clear.read-singles}
use Rattle.shades_laws.proofs.Exchange.{Over, higher, longer}
use Rattle.shades_laws.proofs.Shape.{Rising, flat, step, Shape}
use Rattle.shades_laws.proofs.Lowest.{Lowest, lowest-letter, lowest-join, lowest-of}
use Rattle.shades_laws.proofs.Product.{Climbs, top, up, product}

-- ---- words that climb

-- ≼ is no more than up_to
upto-up_to : {v w : List ℕ} → v ≼ w → up_to v w ≡ true
upto-up_to {v} {w} (is e) = subst (λ x. up_to v x ≡ true) e (up_to-refl v)
upto-up_to {v} {w} (under r) = before-up_to v w (under-before r)

-- a word above s stands behind s
pub over-short : {s g y : List ℕ} → Over s g y → Short s y
over-short (higher r) = lower r
over-short (longer h z e q) = opening h e z

-- a word that stands before y, as `before` has it
short-before : {s y : List ℕ} → Short s y → before s y ≡ true
short-before (lower r) = under-before r
short-before {s} {y} (opening u e z) =
    subst (λ x. before s x ≡ true) (sym e)
    (before-place s (s ++ u) (length s) (rw (length-append s u) (omega arith)) (omega arith) (λ m h. sym (List·get_d-append s u 0 m h))
    (λ h. absurd (omega arith)))

-- rising lowest words climb
rising-climbs : (x : List ℕ) {ys : List (List ℕ)} → All (λ y. up_to x y ≡ true) ys → All Lowest ys → Rising ys → Climbs x ys
rising-climbs x nothing nothing flat = top
rising-climbs x (also {w = y} h hs) (also k ks) (step r rs) = up h k (rising-climbs y (all-weaken (λ z. upto-up_to) r) ks rs)

-- copies of a lowest word in front
copies-climb : (n : ℕ) (s : List ℕ) {ys : List (List ℕ)} → Lowest s → Climbs s ys → Climbs s (replicate n s ++ ys)
copies-climb zero s k c = c
copies-climb (suc n) s k c = up (up_to-refl s) k (copies-climb n s k c)

-- the words of a pool climb from a word that is not above the least
shape-climbs : (x s : List ℕ) (xs : List (List ℕ)) → Shape s xs → All Lowest xs → up_to x s ≡ true → Climbs x xs
shape-climbs x s xs p k h = subst (Climbs x) (sym p.whole) (go (subst (All Lowest) p.whole k))
  where
    go : All Lowest (s ∷ (replicate p.extra s ++ p.rest)) → Climbs x (s ∷ (replicate p.extra s ++ p.rest))
    go (also l ls) =
        up h l (copies-climb p.extra s l
        (rising-climbs s (all-weaken (λ y o. before-up_to s y (short-before (over-short o))) p.above)
        (all_right (replicate p.extra s) p.rest ls) p.rising))

-- ---- what the pool is made of

-- each word is lowest, and together they have the letters of w
pub record Made (w : List ℕ) (xs : List (List ℕ)) : Type 0 where
  pub words : All Lowest xs
  pub letters : (b : ℕ) → occurs b (read [] xs) ≡ occurs b w

-- the letters of two lists of words
occurs-read : (b : ℕ) (xs ys : List (List ℕ)) → occurs b (read [] (xs ++ ys)) ≡ occurs b (read [] xs) + occurs b (read [] ys)
unfolding read occurs
occurs-read b [] ys = omega arith
occurs-read b (x ∷ xs) ys = omega (arith, occurs-append b x (read [] (xs ++ ys)), occurs-append b x (read [] xs), occurs-read b xs ys)

-- single letters
pub made-start : (w : List ℕ) → Made w (singles w)
unfolding singles
made-start w = record { words = letters-lowest w; letters = λ b. ap (occurs b) (read-singles [] w ∙ append-nil w) }
  where
    letters-lowest : (w : List ℕ) → All Lowest (singles w)
    letters-lowest [] = nothing
    letters-lowest (a ∷ w) = also (lowest-letter a) (letters-lowest w)

-- s joined with g
pub made-join : (w s g : List ℕ) (a b : List (List ℕ)) → Short s g → Made w ((a ++ s ∷ b) ++ g ∷ []) → Made w (a ++ (s ++ g) ∷ b)
unfolding read
made-join w s g a b h m = record {
  words = go (all_right a (s ∷ b) front) (all_right (a ++ s ∷ b) (g ∷ []) m.words);
  letters = λ x. omega (
    arith,
    m.letters x,
    occurs-read x (a ++ s ∷ b) (g ∷ []),
    occurs-read x a (s ∷ b),
    occurs-read x a ((s ++ g) ∷ b),
    occurs-append x s (read [] b),
    occurs-append x (s ++ g) (read [] b),
    occurs-append x s g,
    ap (occurs x) (append-nil g),
  );
}
  where
    front : All Lowest (a ++ s ∷ b)
    front = all_left (a ++ s ∷ b) (g ∷ []) m.words

    go : All Lowest (s ∷ b) → All Lowest (g ∷ []) → All Lowest (a ++ (s ++ g) ∷ b)
    go (also p ps) (also q nothing) = all_append (all_left a (s ∷ b) front) (also (lowest-join p q h) ps)

-- ---- the necklace

-- a word with the letters of w that completes al to a necklace
pub record Completed (al w : List ℕ) : Type 0 where
  pub rest : List ℕ
  pub letters : (b : ℕ) → occurs b rest ≡ occurs b w
  pub whole : necklace (al ++ rest) ≡ true

-- where the least word does not stand before al, the words as they stand complete al
pub made-whole : (al w s : List ℕ) (xs : List (List ℕ)) → 0 < length al → Lyn (sec al) (length al) → Shape s xs → Made w xs → before s al ≡ false → Completed al w
made-whole al w s xs z lyn p m h = record { rest = read [] xs; letters = m.letters; whole = product al xs (lowest-of al z lyn) (shape-climbs al s xs p m.words (not-before s al h)) }

-- where there are no letters al is complete
pub made_none : (al : List ℕ) → 0 < length al → Lyn (sec al) (length al) → Completed al []
unfolding read
made_none al z lyn = record { rest = []; letters = λ b. refl; whole = product al [] (lowest-of al z lyn) top }
