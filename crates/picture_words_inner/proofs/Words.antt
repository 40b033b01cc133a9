-- From what is placed to what the words behind the number print.
--     drawn-put, refused-put           a picture, and a refusal's line
--     print-good, print-bad, print-as  a question that is asked, one that is not, and one of another shape
--     no-digits, put-target            digits that spell nothing, and those that do
--     put-managed, put-levels, no-levels    one word behind the number, two, and what is none
--     this-text, other_text            whether the rest of a text is that word
use Rattle.words.proofs.Plain.{ℕ, ◌+◌, ◌-◌, ◌<◌, ◌≤◌, arith, ◌≡◌, refl, sym, ap, ◌∙◌, inl, inr, Bool, true, false, not, eqb, false≢true, List, [], ◌∷◌, map, length, take, drop}
use Rattle.words.proofs.Needs.{not-true, not-false}
use Rattle.std.specs.Bool.{Decides}
use Rattle.std.specs.Cmp.Lexicographic.{pointwise}
use Rattle.std.proofs.lemmas.List.{take_rest}
use Rattle.std.proofs.lemmas.Bool.Decides.{Decides-eqb}
use Rattle.std.proofs.lemmas.Slice.Eq.{slice_eq-Decides}
use Rattle.text_spec.specs.{Ascii.ascii, Text.hex_of}
use Rattle.text_words_spec.specs.Words.{pieces, onto, PieceAt, Spelt}
use Rattle.text_words_spec.proofs.Pieces.{pieces_more, pieces-single, pieces-some, behind-same, more-two, more-first, more-rest}
use Rattle.text_words_spec.proofs.Spelling.{spelt-plain}
use Rattle.stream_spec.specs.Blocks.{Puts}
use Rattle.refusal.specs.{declared.Refusal.Refusal, Order.Given, Calls.one_reading}
use Rattle.picture_spec.specs.{declared.Tone.Tone, declared.Tone.TheVariants.Managed, declared.Tone.TheVariants.Levels}
use Rattle.std.specs.Prelude.{Ok, Err}
use Rattle.picture_spec.specs.Text.{picture_text}
use Rattle.picture_spec.specs.Says.{picture_room, draw_order, DrawSays}
use Rattle.desk_spec.specs.Texts.{refusal_text, malformed_text}
use Rattle.desk_spec.specs.Questions.{Replies, good, bad}
use Rattle.desk_texts_inner.specs.Says.{desk_room, LinePrinted}
use Rattle.picture_print_spec.specs.Prints.{tone_words, PictureShows, drawn, refused}
use Rattle.picture_words_inner.specs.Says.{PictureText, TargetPrinted, SpeltPrinted, ReadsTone, WordsPrinted}

-- ---- a target

pub drawn-put : (k : ℕ) (w : List ℕ) (tone : Tone) (b : List ℕ) (m : ℕ) (b' : List ℕ) → DrawSays tone w k b (Ok m) b' → TargetPrinted k w tone b m b'
drawn-put k w tone b m b' p =
    record { text = picture_text tone k w; says = drawn p.0.0 refl; short = omega (arith, p.1.next, p.2); placed = p.1 }

-- the room is there, so that the refusal is one of the reading
of-reading : (k : ℕ) (w : List ℕ) (m : ℕ) (r : Refusal) → picture_room ≤ m → Given (draw_order w k m) r → Given (one_reading w k) r
of-reading k w m r h (inl g) = g
of-reading k w m r h (inr g) = absurd (g.1.1 h)

pub refused-put : (k : ℕ) (w : List ℕ) (tone : Tone) (b : List ℕ) (r : Refusal) (b₁ : List ℕ) (x : ℕ) (b' : List ℕ) → picture_room ≤ length b → DrawSays tone w k b (Err r) b₁ →
    LinePrinted b₁ 0 (refusal_text r) x b' → TargetPrinted k w tone b x b'
refused-put k w tone b r b₁ x b' h p q =
    record { text = refusal_text r; says = refused r (of-reading k w (length b) r h p.0) refl; short = omega (arith, q.short); placed = rw p.1 at q.placed }

-- ---- questions

module _ {X : Type 0} (Reads : X → Type 0) (Says : X → List ℕ → Type 0) (b : List ℕ) (r : ℕ) (b' : List ℕ) where
  pub print-good : (x : X) → Reads x → PictureText (Says x) b r b' → PictureText (Replies Reads Says) b r b'
  print-good x p q = record { text = q.text; says = good x p q.says; short = q.short; placed = q.placed }

  pub print-bad : ((x : X) → Reads x → ⊥) → LinePrinted b 0 malformed_text r b' → PictureText (Replies Reads Says) b r b'
  print-bad n q = record { text = malformed_text; says = bad n refl; short = omega (arith, q.short); placed = q.placed }

-- a question of another shape
pub print-as : {X Y : Type 0} (Reads : X → Type 0) (Says : X → List ℕ → Type 0) (Reads' : Y → Type 0) (Says' : Y → List ℕ → Type 0) →
    ((x : X) → Reads x → (y : Y) × Reads' y × ((t : List ℕ) → Says x t → Says' y t)) →
    ((y : Y) → Reads' y → (x : X) × Reads x) →
    (b : List ℕ) (r : ℕ) (b' : List ℕ) → PictureText (Replies Reads Says) b r b' → PictureText (Replies Reads' Says') b r b'
print-as Reads Says Reads' Says' f g b r b' p = record { text = p.text; says = on p.text p.says; short = p.short; placed = p.placed }
  where
    on : (t : List ℕ) → Replies Reads Says t → Replies Reads' Says' t
    on t (good x u s) = let y = f x u in good y.0 y.1 (y.2 t s)
    on t (bad n e) = bad (λ y v. let x = g y v in n x.0 x.1) e

-- ---- the words behind the number

one_word : (t w : List ℕ) → Spelt t w → pieces 32 t ≡ map hex_of w ∷ []
one_word t w s = spelt-plain 32 t w (omega arith) s ∙ ap (λ (x : List ℕ). x ∷ []) s.digits

levels-word : pieces 32 (ascii "levels") ≡ ascii "levels" ∷ []
unfolding pieces onto
levels-word = refl

module _ (k : ℕ) (t : List ℕ) (e : ℕ) (p : PieceAt 32 t e) where
  -- one word
  pub put-managed : length t ≤ e → (b : List ℕ) (r : ℕ) (b' : List ℕ) → SpeltPrinted k t Managed b r b' → WordsPrinted k t b r b'
  put-managed h b r b' x = print-as (Spelt t) (λ w. PictureShows (k, w, Managed)) (ReadsTone t) (λ q. PictureShows (k, q.0, q.1)) on back b r b' x
    where
      on : (w : List ℕ) → Spelt t w → (q : List ℕ × Tone) × ReadsTone t q × ((u : List ℕ) → PictureShows (k, w, Managed) u → PictureShows (k, q.0, q.1) u)
      on w s = ((w, Managed), record { sectors = s.below; words = one_word t w s }, λ u y. y)

      back : (q : List ℕ × Tone) → ReadsTone t q → (w : List ℕ) × Spelt t w
      back (w, Managed) y = (w, record { digits = pieces-single 32 t _ y.words; below = y.sectors })
      back (w, Levels) y = absurd (omega (arith, h, more-two 32 t e p _ _ _ y.words))

  -- two words or more are not one
  not-alone : e < length t → (u : List ℕ) → pieces 32 t ≡ u ∷ [] → ⊥
  not-alone h u q = pieces-some 32 (drop (e + 1) t) (behind-same _ _ _ _ (sym (pieces_more 32 t e p h) ∙ q))

  -- and `levels`
  pub put-levels : e < length t → drop (e + 1) t ≡ ascii "levels" → (b : List ℕ) (r : ℕ) (b' : List ℕ) → SpeltPrinted k (take e t) Levels b r b' → WordsPrinted k t b r b'
  put-levels h l b r b' x = print-as (Spelt (take e t)) (λ w. PictureShows (k, w, Levels)) (ReadsTone t) (λ q. PictureShows (k, q.0, q.1)) on back b r b' x
    where
      on : (w : List ℕ) → Spelt (take e t) w → (q : List ℕ × Tone) × ReadsTone t q × ((u : List ℕ) → PictureShows (k, w, Levels) u → PictureShows (k, q.0, q.1) u)
      on w s = (
        (w, Levels),
        record {
          sectors = s.below;
          words =
              pieces_more 32 t e p h ∙ ap (λ (y : List ℕ). y ∷ pieces 32 (drop (e + 1) t)) s.digits ∙ ap (λ (y : List (List ℕ)). map hex_of w ∷ y) (ap (pieces 32) l ∙ levels-word);
        },
        λ u y. y,
      )

      back : (q : List ℕ × Tone) → ReadsTone t q → (w : List ℕ) × Spelt (take e t) w
      back (w, Managed) y = absurd (not-alone h _ y.words)
      back (w, Levels) y = (w, record { digits = more-first 32 t e p _ _ _ y.words; below = y.sectors })

  -- another word
  pub no-levels : e < length t → (drop (e + 1) t ≡ ascii "levels" → ⊥) → (q : List ℕ × Tone) → ReadsTone t q → ⊥
  no-levels h n (w, Managed) y = not-alone h _ y.words
  no-levels h n (w, Levels) y = n (pieces-single 32 (drop (e + 1) t) _ (more-rest 32 t e p _ _ _ y.words))

-- the rest of a text compared with a word
module _ (t : List ℕ) (at : ℕ) (u : List ℕ) (w : u ≡ ascii "levels") where
  told : Decides (pointwise eqb (take (length t - at) (drop at t)) u) (take (length t - at) (drop at t) ≡ u)
  told = slice_eq-Decides Decides-eqb (take (length t - at) (drop at t)) u _ refl

  pub this-text : false ≡ not (pointwise eqb (take (length t - at) (drop at t)) u) → drop at t ≡ ascii "levels"
  this-text e = sym (take_rest t at) ∙ told.0 (not-false _ (sym e)) ∙ w

  pub other_text : true ≡ not (pointwise eqb (take (length t - at) (drop at t)) u) → drop at t ≡ ascii "levels" → ⊥
  other_text e l = false≢true (sym (not-true _ (sym e)) ∙ told.1 (take_rest t at ∙ l ∙ sym w))
