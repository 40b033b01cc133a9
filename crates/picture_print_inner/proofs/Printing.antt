-- From what the words behind the number print to what an input prints.
--     put-line, no_number_lem              a number in front
--     put-input, no_line               the line is all of the input, or not
use Rattle.words.proofs.Plain.{ℕ, ◌-◌, ◌<◌, ◌≤◌, arith, ◌≡◌, ap, ◌∙◌, List, ◌∷◌, map, length, take, drop}
use Rattle.text_spec.specs.{Decimal.decimal, Text.hex_of}
use Rattle.text_words_spec.specs.Words.{PieceAt}
use Rattle.picture_spec.specs.declared.Tone.{Tone}
use Rattle.desk_spec.proofs.Questions.{place-one}
use Rattle.std.specs.Prelude.{Some, None}
use Rattle.std.proofs.lemmas.List.{take_rest}
use Rattle.desk_words_inner.specs.Says.{HeadSays}
use Rattle.desk_words_inner.proofs.Heads.{rest-words}
use Rattle.picture_print_spec.specs.Prints.{ToneAsked, tone_words, ReadsTarget, ReadsPicture, PictureShows, PicturePrints}
use Rattle.picture_words_inner.specs.Says.{PictureText, ReadsTone, WordsPrinted}
use Rattle.picture_words_inner.proofs.Words.{print-as}
use Rattle.picture_print_inner.specs.Says.{LinePrints}

-- ---- the line

module _ (l : List ℕ) where
  pub no_number_lem : HeadSays l None → (q : ToneAsked) → ReadsTarget l q → ⊥
  no_number_lem h q x = h q.0 (map hex_of q.1) (tone_words q.2) x.short x.words

  pub put-line : (k at : ℕ) → HeadSays l (Some (k, at)) → (b : List ℕ) (r : ℕ) (b' : List ℕ) → WordsPrinted k (take (length l - at) (drop at l)) b r b' → LinePrints l b r b'
  put-line k at h b r b' x = print-as (ReadsTone (drop at l)) (λ q. PictureShows (k, q.0, q.1)) (ReadsTarget l) PictureShows on back b r b' (rw (take_rest l at) at x)
    where
      on : (q : List ℕ × Tone) → ReadsTone (drop at l) q → (y : ToneAsked) × ReadsTarget l y × ((u : List ℕ) → PictureShows (k, q.0, q.1) u → PictureShows y u)
      on q s = ((k, q.0, q.1), record { short = h.0; sectors = s.sectors; words = h.2 ∙ ap (λ (x : List (List ℕ)). decimal k ∷ x) s.words }, λ u y. y)

      back : (q : ToneAsked) → ReadsTarget l q → (y : List ℕ × Tone) × ReadsTone (drop at l) y
      back q y = ((q.1, q.2), record { sectors = y.sectors; words = rest-words l k at h q.0 _ y.words })

-- ---- the input

module _ (s : List ℕ) (e : ℕ) (p : PieceAt 10 s e) where
  pub no_line : 1 < length s - e → (q : ToneAsked) → ReadsPicture s q → ⊥
  no_line h q x = omega (arith, place-one 10 s x.at e x.ends p, x.alone, h)

  pub put-input : length s - e ≤ 1 → (b : List ℕ) (r : ℕ) (b' : List ℕ) → LinePrints (take e s) b r b' → PictureText (PicturePrints s) b r b'
  put-input h b r b' x = print-as (ReadsTarget (take e s)) PictureShows (ReadsPicture s) PictureShows on back b r b' x
    where
      on : (q : ToneAsked) → ReadsTarget (take e s) q → (y : ToneAsked) × ReadsPicture s y × ((u : List ℕ) → PictureShows q u → PictureShows y u)
      on q y = (q, record { at = e; ends = p; alone = omega arith; line = y }, λ u z. z)

      back : (q : ToneAsked) → ReadsPicture s q → (y : ToneAsked) × ReadsTarget (take e s) y
      back q y = (q, rw (place-one 10 s y.at e y.ends p) at y.line)
