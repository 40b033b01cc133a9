-- From a word of counts to the question that the whole text asks.
--     no-counts, no-after            there is no number in front
--     put-counts                     a number and counts
--     no_words, no-spelt, put-spelt, put-words, put-after    a number, a reading and counts
use Rattle.words.proofs.Plain.{ℕ, ◌+◌, ◌-◌, ◌<◌, ◌≤◌, arith, ◌≡◌, sym, ap, ◌∙◌, List, [], ◌∷◌, map, length, take, drop}
use Rattle.text_spec.specs.{Decimal.decimal, Text.hex_of}
use Rattle.std.specs.Prelude.{Result, Some, None}
use Rattle.refusal.specs.declared.Refusal.{Refusal}
use Rattle.text_words_spec.specs.Words.{pieces, PieceAt, Spelt}
use Rattle.text_words_spec.proofs.Pieces.{pieces_more, pieces-single, more-two, more-first, more-rest}
use Rattle.desk_spec.specs.Questions.{CountsSpelt, ReadsCounts, ReadsAfter, Replies}
use Rattle.desk_texts_inner.specs.Says.{Answered}
use Rattle.desk_texts_inner.proofs.Putting.{put_as}
use Rattle.desk_words_inner.specs.Says.{HeadSays}
use Rattle.desk_words_inner.proofs.{Heads.rest-words, Shapes.rest_all}
use Rattle.desk_counts_inner.specs.Says.{WordCounts, ReadsRing, AfterAsked}

-- a text with one word is that word
one_word : (t u cs : List ℕ) → pieces 32 t ≡ u ∷ [] → CountsSpelt u cs → WordCounts t cs
one_word t u cs e s =
    let q = pieces-single 32 t u e in
    record { alone = e ∙ ap (λ (x : List ℕ). x ∷ []) (sym q); counts = rw q s }

module _ (t : List ℕ) where
  pub no-counts : HeadSays t None → (q : ℕ × List ℕ) → ReadsCounts t q → ⊥
  no-counts h q x = h q.0 x.word [] x.short x.words

  pub no-after : HeadSays t None → (q : ℕ × List ℕ × List ℕ) → ReadsAfter t q → ⊥
  no-after h q x = h q.0 (map hex_of q.1) (x.word ∷ []) x.short x.words

  -- one word, or none
  pub no_words : (e : ℕ) → PieceAt 32 t e → length t ≤ e → (q : List ℕ × List ℕ) → ReadsRing t q → ⊥
  no_words e p h q x = omega (arith, h, more-two 32 t e p _ _ _ x.words)

  -- what spells no reading
  pub no-spelt : (s : List ℕ) → ((w : List ℕ) → Spelt s w → ⊥) → (q : List ℕ × List ℕ) → Spelt s q.0 × WordCounts t q.1 → ⊥
  no-spelt s n q x = n q.0 x.0

-- what is asked of k and counts, and of k, a reading and counts
module _ (Says : ℕ → List ℕ → List ℕ → Type 0) (t : List ℕ) (k at : ℕ) (h : HeadSays t (Some (k, at))) where
  pub put-counts : (b : List ℕ) (p : ℕ) (r : Result ℕ Refusal) (b' : List ℕ) →
      Answered (Replies (WordCounts (take (length t - at) (drop at t))) (Says k)) b p r b' → Answered (Replies (ReadsCounts t) (λ q. Says q.0 q.1)) b p r b'
  put-counts b p r b' x = put_as _ _ _ _ on back b p r b' (rw (rest_all t at) at x)
    where
      on : (cs : List ℕ) → WordCounts (drop at t) cs → (q : ℕ × List ℕ) × ReadsCounts t q × ((u : List ℕ) → Says k cs u → Says q.0 q.1 u)
      on cs s = ((k, cs), record { short = h.0; word = drop at t; counts = s.counts; words = h.2 ∙ ap (λ (x : List (List ℕ)). decimal k ∷ x) s.alone }, λ u y. y)

      back : (q : ℕ × List ℕ) → ReadsCounts t q → (cs : List ℕ) × WordCounts (drop at t) cs
      back q y = (q.1, one_word (drop at t) y.word q.1 (rest-words t k at h q.0 (y.word ∷ []) y.words) y.counts)

module _ (Says : ℕ → List ℕ → List ℕ → List ℕ → Type 0) (t : List ℕ) where
  -- the reading is spelt
  pub put-spelt : (k : ℕ) (s w : List ℕ) → Spelt s w → (b : List ℕ) (p : ℕ) (r : Result ℕ Refusal) (b' : List ℕ) →
      Answered (Replies (WordCounts t) (Says k w)) b p r b' → Answered (AfterAsked Says k s t) b p r b'
  put-spelt k s w y b p r b' x = put_as _ _ _ _ (λ cs z. ((w, cs), (y, z), λ u a. a)) (λ q z. (q.1, z.1)) b p r b' x

  -- two words
  pub put-words : (k e : ℕ) → PieceAt 32 t e → e < length t → (b : List ℕ) (p : ℕ) (r : Result ℕ Refusal) (b' : List ℕ) →
      Answered (AfterAsked Says k (take e t) (take (length t - (e + 1)) (drop (e + 1) t))) b p r b' → Answered (Replies (ReadsRing t) (λ q. Says k q.0 q.1)) b p r b'
  put-words k e p h b at r b' x = put_as _ _ _ _ on back b at r b' (rw (rest_all t (e + 1)) at x)
    where
      on : (q : List ℕ × List ℕ) → Spelt (take e t) q.0 × WordCounts (drop (e + 1) t) q.1 →
          (y : List ℕ × List ℕ) × ReadsRing t y × ((u : List ℕ) → Says k q.0 q.1 u → Says k y.0 y.1 u)
      on q s = (
        q,
        record {
          sectors = s.0.below;
          word = drop (e + 1) t;
          counts = s.1.counts;
          words =
              pieces_more 32 t e p h ∙ ap (λ (x : List ℕ). x ∷ pieces 32 (drop (e + 1) t)) s.0.digits ∙ ap (λ (x : List (List ℕ)). map hex_of q.0 ∷ x) s.1.alone;
        },
        λ u y. y,
      )

      back : (q : List ℕ × List ℕ) → ReadsRing t q → (y : List ℕ × List ℕ) × (Spelt (take e t) y.0 × WordCounts (drop (e + 1) t) y.1)
      back q y = (
        q,
        (
          record { digits = more-first 32 t e p _ _ _ y.words; below = y.sectors },
          one_word (drop (e + 1) t) y.word q.1 (more-rest 32 t e p _ _ _ y.words) y.counts,
        ),
      )

  -- and a number in front of them
  pub put-after : (j at : ℕ) → HeadSays t (Some (j, at)) → (b : List ℕ) (p : ℕ) (r : Result ℕ Refusal) (b' : List ℕ) →
      Answered (Replies (ReadsRing (take (length t - at) (drop at t))) (λ q. Says j q.0 q.1)) b p r b' →
      Answered (Replies (ReadsAfter t) (λ q. Says q.0 q.1 q.2)) b p r b'
  put-after j at h b p r b' x = put_as _ _ _ _ on back b p r b' (rw (rest_all t at) at x)
    where
      on : (q : List ℕ × List ℕ) → ReadsRing (drop at t) q → (y : ℕ × List ℕ × List ℕ) × ReadsAfter t y × ((u : List ℕ) → Says j q.0 q.1 u → Says y.0 y.1 y.2 u)
      on q s = (
        (j, q.0, q.1),
        record { short = h.0; sectors = s.sectors; word = s.word; counts = s.counts; words = h.2 ∙ ap (λ (x : List (List ℕ)). decimal j ∷ x) s.words },
        λ u y. y,
      )

      back : (q : ℕ × List ℕ × List ℕ) → ReadsAfter t q → (y : List ℕ × List ℕ) × ReadsRing (drop at t) y
      back q y = ((q.1, q.2), record { sectors = y.sectors; word = y.word; counts = y.counts; words = rest-words t j at h q.0 _ y.words })
