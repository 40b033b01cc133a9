-- Words of eight digits each, end to end.
--     each_more, each-old, each-new     what holds of each of some words and of one more
--     last_of                           some words have a last one
--     nibbles-joined                    the digits of all words
--     floats-all                        the floats are those of the words
use Rattle.words.proofs.Plain.{ℕ, zero, suc, ◌/◌, ◌<◌, arith, ◌≡◌, refl, sym, ap, ◌∙◌, List, [], ◌∷◌, ◌++◌, map, length, get_or, length-map}
use Rattle.words.proofs.Plain.{ext_get_or}
use lib.Ieee.{Float, nan}
use Rattle.text_words_spec.specs.Words.{Nibbles}
use Rattle.strip_spec.specs.Strip.{joined}
use Rattle.sight_spec.specs.Rings.{rings_in}
use Rattle.sight_spec.proofs.Rings.{length-first, first-at}
use Rattle.desk_spec.specs.{Floats.float_of, Questions.EachNibbles}
use Rattle.desk_floats_inner.specs.Says.{FloatsSay}

-- ---- one word more

abbrev pub Each : (List ℕ → Type 0) → List (List ℕ) → Type 0
Each P ts = (j : ℕ) → j < length ts → P (get_or ts j [])

module _ (P : List ℕ → Type 0) where
  pub each_more : (ts : List (List ℕ)) (r : List ℕ) → Each P ts → P r → Each P (ts ++ (r ∷ []))
  each_more [] r f x zero h = x
  each_more [] r f x (suc j) h = absurd (omega arith)
  each_more (t ∷ ts) r f x zero h = f 0 (omega arith)
  each_more (t ∷ ts) r f x (suc j) h = each_more ts r (λ i g. f (suc i) (omega arith)) x j (omega arith)

  pub each-old : (ts : List (List ℕ)) (r : List ℕ) → Each P (ts ++ (r ∷ [])) → Each P ts
  each-old [] r f j h = absurd (omega arith)
  each-old (t ∷ ts) r f zero h = f 0 (omega arith)
  each-old (t ∷ ts) r f (suc j) h = each-old ts r (λ i g. f (suc i) (omega arith)) j (omega arith)

  pub each-new : (ts : List (List ℕ)) (r : List ℕ) → Each P (ts ++ (r ∷ [])) → P r
  each-new [] r f = f 0 (omega arith)
  each-new (t ∷ ts) r f = each-new ts r (λ i g. f (suc i) (omega arith))

pub last_of : (ts : List (List ℕ)) → 0 < length ts → (us : List (List ℕ)) × (r : List ℕ) × (ts ≡ us ++ (r ∷ []))
last_of [] h = absurd (omega arith)
last_of (t ∷ []) h = ([], t, refl)
last_of (t ∷ u ∷ ts) h = let x = last_of (u ∷ ts) (omega arith) in (t ∷ x.0, x.1, ap (λ (y : List (List ℕ)). t ∷ y) x.2)

-- ---- digits

nibbles-append : (v w : List ℕ) → Nibbles v → Nibbles w → Nibbles (v ++ w)
nibbles-append [] w p q i h = q i h
nibbles-append (a ∷ v) w p q zero h = p 0 (omega arith)
nibbles-append (a ∷ v) w p q (suc i) h = nibbles-append v w (λ j g. p (suc j) (omega arith)) q i (omega arith)

pub nibbles-joined : (ts : List (List ℕ)) → EachNibbles ts → Nibbles (joined ts)
unfolding joined
nibbles-joined [] p = λ i h. absurd (omega arith)
nibbles-joined (t ∷ ts) p = nibbles-append t (joined ts) (p 0 (omega arith)) (nibbles-joined ts (λ j h. p (suc j) (omega arith)))

-- ---- floats

float_at : (ts : List (List ℕ)) (j : ℕ) → j < length ts → get_or (map float_of ts) j nan ≡ float_of (get_or ts j [])
float_at [] j h = absurd (omega arith)
float_at (t ∷ ts) zero h = refl
float_at (t ∷ ts) (suc j) h = float_at ts j (omega arith)

pub floats-all : (s : List ℕ) (xs : List Float) (n : ℕ) → length xs ≡ n → FloatsSay s n xs → n ≡ length s / 8 → xs ≡ map float_of (rings_in 8 s)
floats-all s xs n m f e =
    let l : length (rings_in 8 s) ≡ n = length-first 8 s (length s / 8) ∙ sym e in
    ext_get_or nan xs (map float_of (rings_in 8 s)) (m ∙ sym l ∙ sym (length-map (rings_in 8 s) float_of)) (λ j g.
    let i : j < n = omega (arith, g, m) in
    f j i ∙ ap float_of (sym (first-at 8 s (length s / 8) j (omega (arith, i, e)))) ∙ sym (float_at (rings_in 8 s) j (omega (arith, i, l))))
