-- Lists of words: how many copies of a word there are, and rearrangements. That P holds of each word is `All P` of `words`, proofs/Readings.
--     copies y xs            how many words of the list are y
--     Rearranged xs ys       the two lists have as many copies of each word
--     Found y xs             the list cut at a copy of y
-- A rearrangement is told by counting, so that taking a word out on both sides is arithmetic.
-- In order: more laws of All; copies; rearrangements; the single letters of a word.
use Rattle.words.proofs.Plain.{ℕ, zero, suc, ◌+◌, ◌<◌, arith, ◌≡◌, refl, sym, ap, ◌∙◌, subst, List, [], ◌∷◌, ◌++◌, eqb, replicate}
use Rattle.words.specs.Order.{same}
use Rattle.words.specs.Readings.{bit, total, count}
use Rattle.words.proofs.Split.{passes, fails, test}
use Rattle.words.proofs.{Lex.same_refl, Lex.same_true, Count.total-append}
use Rattle.words.proofs.Readings.{All, nothing, also}
use Rattle.rings.specs.Counts.{occurs}

-- what holds of each word holds of each but the first
pub each-rest : {P : List ℕ → Type 0} {x : List ℕ} {xs : List (List ℕ)} → All P (x ∷ xs) → All P xs
each-rest (also p h) = h

-- what follows from P and Q together holds where both do
pub each-zip : {P Q R : List ℕ → Type 0} {xs : List (List ℕ)} → ((x : List ℕ) → P x → Q x → R x) → All P xs → All Q xs → All R xs
each-zip f nothing nothing = nothing
each-zip f (also {w = x} p h) (also q k) = also (f x p q) (each-zip f h k)

-- what holds of x holds of each of n copies of x
pub each-replicate : {P : List ℕ → Type 0} (n : ℕ) (x : List ℕ) → P x → All P (replicate n x)
each-replicate zero x p = nothing
each-replicate (suc n) x p = also p (each-replicate n x p)

-- ---- copies

-- how many words of the list are y
unfoldable pub copies : List ℕ → List (List ℕ) → ℕ
copies y xs = count (λ x. same x y) xs

-- the empty list has no copies
pub copies-none : (y : List ℕ) → copies y [] ≡ 0
unfolding copies total
copies-none y = refl

-- a first word counts where it is y
pub copies-cons : (y x : List ℕ) (xs : List (List ℕ)) → copies y (x ∷ xs) ≡ bit (same x y) + copies y xs
unfolding copies total
copies-cons y x xs = refl

-- two lists joined have the copies of both
pub copies-append : (y : List ℕ) (xs ys : List (List ℕ)) → copies y (xs ++ ys) ≡ copies y xs + copies y ys
unfolding copies
copies-append y xs ys = total-append (λ x. bit (same x y)) xs ys

-- there is a copy of the first word
pub copies-first : (y : List ℕ) (xs : List (List ℕ)) → 0 < copies y (y ∷ xs)
copies-first y xs = rw (copies-cons, same_refl y) (omega arith)

-- what holds of each word holds of a word with a copy
pub each_at : {P : List ℕ → Type 0} {xs : List (List ℕ)} → All P xs → (y : List ℕ) → 0 < copies y xs → P y
each_at nothing y h = absurd (let g = rw copies-none at h in omega arith)
each_at {P} (also {w = x} {ws = xs} p k) y h = elim (test (same x y)) [ passes e ↦ subst P (same_true x y e) p | fails e ↦ each_at k y (let g = rw (copies-cons, e) at h in omega arith) ]

-- what holds of the words with a copy holds of each word
pub each_of : {P : List ℕ → Type 0} (xs : List (List ℕ)) → ((y : List ℕ) → 0 < copies y xs → P y) → All P xs
each_of [] h = nothing
each_of (x ∷ xs) h = also (h x (copies-first x xs)) (each_of xs (λ y l. h y (rw copies-cons (omega arith))))

-- a list cut at a copy of y
pub record Found (y : List ℕ) (xs : List (List ℕ)) : Type 0 where
  pub front : List (List ℕ)
  pub back : List (List ℕ)
  pub cut : xs ≡ front ++ y ∷ back

-- a list with a copy of y can be cut there
pub found : (y : List ℕ) (xs : List (List ℕ)) → 0 < copies y xs → Found y xs
found y [] h = absurd (let g = rw copies-none at h in omega arith)
found y (x ∷ xs) h =
    elim (test (same x y)) [
      | passes e ↦ record { front = []; back = xs; cut = rw (same_true x y e) }
      | fails e ↦ onward (found y xs (let g = rw (copies-cons, e) at h in omega arith))
    ]
  where
    onward : Found y xs → Found y (x ∷ xs)
    onward f = record { front = x ∷ f.front; back = f.back; cut = ap (λ r. x ∷ r) f.cut }

-- ---- rearrangements

-- the two lists have as many copies of each word
abbrev pub Rearranged : List (List ℕ) → List (List ℕ) → Type 0
Rearranged xs ys = (y : List ℕ) → copies y xs ≡ copies y ys

-- what holds of each word holds of each after a rearrangement
pub each-rearranged : {P : List ℕ → Type 0} (xs ys : List (List ℕ)) → Rearranged xs ys → All P ys → All P xs
each-rearranged xs ys r h = each_of xs (λ y l. each_at h y (omega (arith, r y)))

-- ---- single letters

-- a letter occurs in two words joined as often as in both
pub occurs-append : (b : ℕ) (v w : List ℕ) → occurs b (v ++ w) ≡ occurs b v + occurs b w
unfolding occurs
occurs-append b [] w = omega arith
occurs-append b (a ∷ v) w = omega (arith, occurs-append b v w)

-- the letters of a word, each a word by itself
unfoldable pub singles : List ℕ → List (List ℕ)
singles [] = []
singles (a ∷ w) = (a ∷ []) ∷ singles w

-- no letter is the empty word
copies-of-empty : (u : List ℕ) → copies [] (singles u) ≡ 0
unfolding singles same
copies-of-empty [] = copies-none []
copies-of-empty (a ∷ u) = rw (copies-cons, copies-of-empty u)

-- the copies of a letter are its occurrences
copies-of-letter : (b : ℕ) (u : List ℕ) → copies (b ∷ []) (singles u) ≡ occurs b u
unfolding singles same occurs
copies-of-letter b [] = copies-none (b ∷ [])
copies-of-letter b (a ∷ u) = rw (copies-cons, copies-of-letter b u) (elim (test (eqb a b)) [ passes e ↦ rw e | fails e ↦ rw e ])

-- no letter is a longer word
copies-of-longer : (b c : ℕ) (y u : List ℕ) → copies (b ∷ c ∷ y) (singles u) ≡ 0
unfolding singles same
copies-of-longer b c y [] = copies-none (b ∷ c ∷ y)
copies-of-longer b c y (a ∷ u) = rw (copies-cons, copies-of-longer b c y u) (elim (test (eqb a b)) [ passes e ↦ rw e | fails e ↦ rw e ])

-- words with as many of each letter have rearranged letters
pub singles-rearranged : (v w : List ℕ) → ((b : ℕ) → occurs b v ≡ occurs b w) → Rearranged (singles v) (singles w)
singles-rearranged v w h [] = copies-of-empty v ∙ sym (copies-of-empty w)
singles-rearranged v w h (b ∷ []) = copies-of-letter b v ∙ h b ∙ sym (copies-of-letter b w)
singles-rearranged v w h (b ∷ c ∷ y) = copies-of-longer b c y v ∙ sym (copies-of-longer b c y w)
