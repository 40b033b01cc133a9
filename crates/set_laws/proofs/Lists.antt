-- Lists of words: one word more at the end, and what holds of all words, place by place.
--     length_more, at_old, at_new    one word more
--     all-place, place-all           what holds of all holds at each place, and the other way round
--     increasing-rising              a list in increasing order rises from place to place
--     Begins vs ws                   vs is a beginning of ws; of a list in increasing order it has all words up to one that it has (`begins-down`)
use Rattle.words.proofs.Plain.{ℕ, zero, suc, ◌+◌, ◌<◌, arith, ◌≡◌, refl, ◌∙◌, true, List, [], ◌∷◌, ◌++◌, length, get_or, length-append}
use Rattle.words.specs.Order.{before, up_to}
use Rattle.words.proofs.{Split.clash, Lex.up_to-not-before}
use Rattle.words.proofs.Readings.{All, nothing, also, Increasing, empty, more}

-- ---- one word more

pub length_more : (ts : List (List ℕ)) (w : List ℕ) → length (ts ++ (w ∷ [])) ≡ suc (length ts)
length_more ts w = length-append ts (w ∷ []) ∙ omega arith

pub at_old : (ts : List (List ℕ)) (w : List ℕ) (j : ℕ) → j < length ts → get_or (ts ++ (w ∷ [])) j [] ≡ get_or ts j []
at_old [] w j h = absurd (omega arith)
at_old (t ∷ ts) w zero h = refl
at_old (t ∷ ts) w (suc j) h = at_old ts w j (omega arith)

pub at_new : (ts : List (List ℕ)) (w : List ℕ) → get_or (ts ++ (w ∷ [])) (length ts) [] ≡ w
at_new [] w = refl
at_new (t ∷ ts) w = at_new ts w

-- ---- all words, place by place

pub all-place : {P : List ℕ → Type 0} {ts : List (List ℕ)} → All P ts → (j : ℕ) → j < length ts → P (get_or ts j [])
all-place nothing j h = absurd (omega arith)
all-place (also p a) zero h = p
all-place (also p a) (suc j) h = all-place a j (omega arith)

pub place-all : {P : List ℕ → Type 0} (ts : List (List ℕ)) → ((j : ℕ) → j < length ts → P (get_or ts j [])) → All P ts
place-all [] f = nothing
place-all (t ∷ ts) f = also (f 0 (omega arith)) (place-all ts (λ j h. f (suc j) (omega arith)))

pub increasing-rising : {ts : List (List ℕ)} → Increasing ts → (i j : ℕ) → i < j → j < length ts → before (get_or ts i []) (get_or ts j []) ≡ true
increasing-rising empty i j h l = absurd (omega arith)
increasing-rising (more a s) zero (suc j) h l = all-place a j (omega arith)
increasing-rising (more a s) (suc i) (suc j) h l = increasing-rising s i j (omega arith) (omega arith)
increasing-rising (more a s) i zero h l = absurd (omega arith)

-- ---- beginnings

pub data Begins : List (List ℕ) → List (List ℕ) → Type 0 where
  none_yet : {ws : List (List ℕ)} → Begins [] ws
  one_more : {w : List ℕ} {vs ws : List (List ℕ)} → Begins vs ws → Begins (w ∷ vs) (w ∷ ws)

-- a word of an increasing list that is not above one of its beginning is in the beginning
pub begins-down : {vs ws : List (List ℕ)} → Begins vs ws → Increasing ws → (i j : ℕ) → i < length vs → j < length ws → up_to (get_or ws j [])
    (get_or vs i []) ≡ true → (j < length vs) × (get_or vs j [] ≡ get_or ws j [])
begins-down none_yet s i j h l u = absurd (omega arith)
begins-down (one_more b) s i zero h l u = (omega arith, refl)
begins-down (one_more b) (more a s) zero (suc j) h l u = clash _ (all-place a j (omega arith)) (up_to-not-before _ _ u)
begins-down (one_more b) (more a s) (suc i) (suc j) h l u =
    let r = begins-down b s i j (omega arith) (omega arith) u in (omega (arith, r.0), r.1)
