-- From what stands behind a number to the question that the whole text asks.
--     rest_all                        the rest of a text
--     put-reading, no-reading         a reading stands there
--     no-pair, no_both, put_both, put-pair    two readings stand there
--     numbers, no-numbers             two numbers alone, as the listing's line has them
--     take-blank, rest-long, ask-room what is lent for a reading, and for an output
use Rattle.words.proofs.Plain.{ℕ, zero, suc, ◌+◌, ◌-◌, ◌<◌, ◌≤◌, arith, ◌≡◌, refl, sym, ap, ◌∙◌, List, [], ◌∷◌, map, length, take, drop, length-replicate}
use Rattle.words.proofs.Plain.{length-drop, take_all}
use Rattle.text_spec.specs.{Decimal.decimal, Text.hex_of}
use Rattle.text_words_spec.specs.Words.{pieces, PieceAt, Spelt}
use Rattle.text_words_spec.proofs.Pieces.{pieces_more, pieces-single, more-two, more-first, more-rest}
use Rattle.text_words_spec.proofs.Spelling.{spelt-plain}
use Rattle.std.specs.Prelude.{Result, Some, None}
use Rattle.refusal.specs.declared.Refusal.{Refusal}
use Rattle.line_spec.specs.Line.{FieldsSays}
use Rattle.desk_spec.specs.Questions.{ReadsReading, ReadsPair, ReadsNumbers, Replies}
use Rattle.desk_spec.specs.{declared.Both.Both, Answers.BothSays, Answers.blank}
use Rattle.desk_texts_inner.specs.Says.{Answered}
use Rattle.desk_texts_inner.proofs.Putting.{put_as}
use Rattle.desk_words_inner.specs.Says.{ReadsBoth, SpeltBoth, BothAsked, HeadSays}
use Rattle.desk_words_inner.proofs.Heads.{rest-words}

-- the rest of a text
pub rest_all : (t : List ℕ) (at : ℕ) → take (length t - at) (drop at t) ≡ drop at t
rest_all t at = take_all (length t - at) (drop at t) (simp length-drop (omega arith))

-- a spelt reading is its one word
one_word : (t w : List ℕ) → Spelt t w → pieces 32 t ≡ map hex_of w ∷ []
one_word t w s = spelt-plain 32 t w (omega arith) s ∙ ap (λ (x : List ℕ). x ∷ []) s.digits

module _ (t : List ℕ) where
  pub no-reading : HeadSays t None → (q : ℕ × List ℕ) → ReadsReading t q → ⊥
  no-reading h q x = h q.0 (map hex_of q.1) [] x.short x.words

  pub no-pair : HeadSays t None → (q : ℕ × List ℕ × List ℕ) → ReadsPair t q → ⊥
  no-pair h q x = h q.0 (map hex_of q.1) (map hex_of q.2 ∷ []) x.short x.words

  module _ (k at : ℕ) (h : HeadSays t (Some (k, at))) where
    -- one reading
    pub put-reading : (Says : ℕ → List ℕ → List ℕ → Type 0) (b : List ℕ) (p : ℕ) (r : Result ℕ Refusal) (b' : List ℕ) →
        Answered (Replies (Spelt (take (length t - at) (drop at t))) (Says k)) b p r b' → Answered (Replies (ReadsReading t) (λ q. Says q.0 q.1)) b p r b'
    put-reading Says b p r b' x = put_as _ _ _ _ on back b p r b' (rw (rest_all t at) at x)
      where
        on : (w : List ℕ) → Spelt (drop at t) w → (q : ℕ × List ℕ) × ReadsReading t q × ((u : List ℕ) → Says k w u → Says q.0 q.1 u)
        on w s = ((k, w), record { short = h.0; sectors = s.below; words = h.2 ∙ ap (λ (x : List (List ℕ)). decimal k ∷ x) (one_word (drop at t) w s) }, λ u y. y)

        back : (q : ℕ × List ℕ) → ReadsReading t q → (w : List ℕ) × Spelt (drop at t) w
        back q y = (q.1, record { digits = pieces-single 32 (drop at t) _ (rest-words t k at h q.0 (map hex_of q.1 ∷ []) y.words); below = y.sectors })

-- ---- two numbers

module _ (t : List ℕ) where
  pub numbers : (k n : ℕ) → FieldsSays t (Some (k, n)) → ReadsNumbers t (k, n)
  numbers k n f = record { short = f.0; second = f.1; words = f.2 }

  pub no-numbers : FieldsSays t None → (q : ℕ × ℕ) → ReadsNumbers t q → ⊥
  no-numbers f q x = f q.0 q.1 x.short x.second x.words

-- ---- outputs

-- the first bytes of an output that is 0
pub take-blank : (n m : ℕ) → n ≤ m → take n (blank m) ≡ blank n
take-blank zero m h = refl
take-blank (suc n) zero h = absurd (omega arith)
take-blank (suc n) (suc m) h = ap (λ (x : List ℕ). 0 ∷ x) (take-blank n m (omega arith))

-- how long the rest of a text is
pub rest-long : (t : List ℕ) (at : ℕ) → length (take (length t - at) (drop at t)) ≡ length t - at
rest-long t at = rw (rest_all t at) (length-drop at t)

-- what the parts of a text behind a number ask: it is short, the bytes lent for the reading are as many, and so is the output, which is 0
pub ask-room : (t : List ℕ) (at : ℕ) → length t ≤ 4095 →
    (length (take (length t - at) (drop at t)) ≤ 4095) × (length (take (length t - at) (blank 4095)) ≡ length (take (length t - at) (drop at t)))
    × (take (length t - at) (blank 4095) ≡ blank (length (take (length t - at) (drop at t))))
ask-room t at h =
    let r = rest-long t at in
    let e = take-blank (length t - at) 4095 (omega arith) in
    (omega (arith, r), ap length e ∙ length-replicate (length t - at) 0 ∙ sym r, e ∙ sym (ap (λ (x : ℕ). blank x) r))

-- ---- two readings

module _ (v : Both) (k : ℕ) (t : List ℕ) where
  -- one word, or none
  pub no_both : (e : ℕ) → PieceAt 32 t e → length t ≤ e → (q : List ℕ × List ℕ) → ReadsBoth t q → ⊥
  no_both e p h q x = omega (arith, h, more-two 32 t e p _ _ _ x.words)

  -- two words
  pub put_both : (e : ℕ) → PieceAt 32 t e → e < length t → (b : List ℕ) (p : ℕ) (r : Result ℕ Refusal) (b' : List ℕ) →
      Answered (BothAsked v k (take e t) (take (length t - (e + 1)) (drop (e + 1) t))) b p r b' → Answered (Replies (ReadsBoth t) (SpeltBoth v k)) b p r b'
  put_both e p h b at r b' x = put_as _ _ _ _ on back b at r b' (rw (rest_all t (e + 1)) at x)
    where
      on : (q : List ℕ × List ℕ) → Spelt (take e t) q.0 × Spelt (drop (e + 1) t) q.1 → (y : List ℕ × List ℕ) × ReadsBoth t y × ((u : List ℕ) → SpeltBoth v k q u → SpeltBoth v k y u)
      on q s = (
        q,
        record {
          sectors = s.0.below;
          others = s.1.below;
          words =
              pieces_more 32 t e p h ∙ ap (λ (x : List ℕ). x ∷ pieces 32 (drop (e + 1) t)) s.0.digits ∙ ap (λ (x : List (List ℕ)). map hex_of q.0 ∷ x) (one_word (drop (e + 1) t) q.1 s.1);
        },
        λ u y. y,
      )

      back : (q : List ℕ × List ℕ) → ReadsBoth t q → (y : List ℕ × List ℕ) × (Spelt (take e t) y.0 × Spelt (drop (e + 1) t) y.1)
      back q y = (
        q,
        (
          record { digits = more-first 32 t e p _ _ _ y.words; below = y.sectors },
          record { digits = pieces-single 32 (drop (e + 1) t) _ (more-rest 32 t e p _ _ _ y.words); below = y.others },
        ),
      )

  -- and a number in front of them
  pub put-pair : (j at : ℕ) → HeadSays t (Some (j, at)) → (b : List ℕ) (p : ℕ) (r : Result ℕ Refusal) (b' : List ℕ) →
      Answered (Replies (ReadsBoth (take (length t - at) (drop at t))) (SpeltBoth v j)) b p r b' → Answered (Replies (ReadsPair t) (λ q. BothSays v q.0 q.1 q.2)) b p r b'
  put-pair j at h b p r b' x = put_as _ _ _ _ on back b p r b' (rw (rest_all t at) at x)
    where
      on : (q : List ℕ × List ℕ) → ReadsBoth (drop at t) q → (y : ℕ × List ℕ × List ℕ) × ReadsPair t y × ((u : List ℕ) → SpeltBoth v j q u → BothSays v y.0 y.1 y.2 u)
      on q s = ((j, q.0, q.1), record { short = h.0; sectors = s.sectors; others = s.others; words = h.2 ∙ ap (λ (x : List (List ℕ)). decimal j ∷ x) s.words }, λ u y. y)

      back : (q : ℕ × List ℕ × List ℕ) → ReadsPair t q → (y : List ℕ × List ℕ) × ReadsBoth (drop at t) y
      back q y = ((q.1, q.2), record { sectors = y.sectors; others = y.others; words = rest-words t j at h q.0 _ y.words })
