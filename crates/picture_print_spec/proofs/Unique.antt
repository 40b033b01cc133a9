-- An input prints one text.
--     tone-one        words ask for one tone
--     one-target      a line asks for one picture
--     one_input       and an input
--     one-show        a picture that is asked for prints one text
--     one-picture     and so does an input
use Rattle.words.proofs.Plain.{ℕ, ◌≤◌, ◌≡◌, refl, sym, ap, ◌∙◌, List, [], ◌∷◌, map, take}
use Rattle.text_spec.specs.Ascii.{ascii}
use Rattle.text_spec.proofs.Digits.{decimal-one}
use Rattle.text_words_spec.proofs.Pieces.{first-same, behind-same, none-some}
use Rattle.refusal.specs.Calls.{one_reading}
use Rattle.refusal.proofs.Unique.{one-refusal, never_both}
use Rattle.picture_spec.specs.{declared.Tone.Tone, declared.Tone.TheVariants.Managed, declared.Tone.TheVariants.Levels}
use Rattle.desk_spec.specs.Texts.{refusal_text}
use Rattle.desk_spec.proofs.{Questions.spelt-same, Questions.place-one, Unique.one-asked}
use Rattle.picture_print_spec.specs.Prints.{ToneAsked, tone_words, ReadsTarget, ReadsPicture, PictureShows, drawn, refused, PicturePrints}

pub tone-one : (a b : Tone) → tone_words a ≡ tone_words b → a ≡ b
tone-one Managed Managed e = refl
tone-one Managed Levels e = absurd (none-some (ascii "levels") [] e)
tone-one Levels Managed e = absurd (none-some (ascii "levels") [] (sym e))
tone-one Levels Levels e = refl

pub one-target : (l : List ℕ) (p q : ToneAsked) → ReadsTarget l p → ReadsTarget l q → p ≡ q
one-target l (j, v, x) (k, w, y) a b =
    let e = sym a.words ∙ b.words in
    let f = behind-same _ _ _ _ e in
    let m : j ≡ k = decimal-one j k (first-same _ _ _ _ e) in
    let n : v ≡ w = spelt-same v w a.sectors b.sectors (first-same _ _ _ _ f) in
    let o : x ≡ y = tone-one x y (behind-same _ _ _ _ f) in
    λ i. (m i, n i, o i)

pub one_input : (s : List ℕ) (p q : ToneAsked) → ReadsPicture s p → ReadsPicture s q → p ≡ q
one_input s p q a b = one-target (take b.at s) p q (rw (place-one 10 s a.at b.at a.ends b.ends) at a.line) b.line

pub one-show : (q : ToneAsked) (t u : List ℕ) → PictureShows q t → PictureShows q u → t ≡ u
one-show q t u (drawn p e) (drawn p' f) = e ∙ sym f
one-show q t u (drawn p e) (refused r g f) = absurd (never_both (one_reading q.1 q.0) r g p)
one-show q t u (refused r g e) (drawn p f) = absurd (never_both (one_reading q.1 q.0) r g p)
one-show q t u (refused r g e) (refused r' g' f) = e ∙ ap refusal_text (one-refusal (one_reading q.1 q.0) r r' g g') ∙ sym f

pub one-picture : (s t u : List ℕ) → PicturePrints s t → PicturePrints s u → t ≡ u
one-picture s t u x y = one-asked (ReadsPicture s) PictureShows (one_input s) one-show t u x y
