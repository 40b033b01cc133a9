-- From what is told of the words to what the question prints.
--     put-spelt                 the rings and the reading lie end to end
--     no-head, no_second, both-heads    two numbers in front, one after the other
--     no-sight, put-sight       k, and how many sectors may be misread, stand in front of them
use Rattle.words.proofs.Plain.{ℕ, ◌+◌, ◌-◌, arith, ◌≡◌, sym, ap, ◌∙◌, inl, inr, Bool, true, false, List, ◌∷◌, length, take, drop, length-drop}
use Rattle.words.proofs.Plain.{length-take-le, drop-drop}
use Rattle.text_spec.specs.Decimal.{decimal}
use Rattle.text_words_spec.specs.Words.{pieces}
use Rattle.text_words_spec.proofs.Pieces.{behind-same}
use Rattle.std.specs.Prelude.{Result, Some, None}
use Rattle.words.specs.Readings.{Sized}
use Rattle.refusal.specs.{declared.Refusal.Refusal, declared.Refusal.TheVariants.Length, declared.Refusal.TheVariants.Pair}
use Rattle.refusal.specs.Order.{fact, ◌▸◌, Given}
use Rattle.sight_spec.specs.declared.Sighting.{Sighting}
use Rattle.desk_spec.specs.{Questions.ReadsSight, Questions.Replies, Texts.sight_text, Answers.AnswerShows, Answers.SeenSays}
use Rattle.desk_spec.specs.Sights.{AsLong, lengths_order, SightedSays, alike, unlike}
use Rattle.desk_texts_inner.specs.Says.{Answered}
use Rattle.desk_texts_inner.proofs.Putting.{answered-on, put-good, put_as}
use Rattle.desk_words_inner.specs.Says.{HeadSays}
use Rattle.desk_words_inner.proofs.{Heads.rest-words, Shapes.rest_all}
use Rattle.desk_rings_inner.specs.Says.{ReadsRings, EndToEnd, EachSays}
use Rattle.desk_rings_inner.proofs.Spaced.{words-cons}
use Rattle.desk_sight_lengths_inner.specs.Says.{TellSays}
use Rattle.desk_sight_inner.specs.Says.{SeenAmong, HeadsSay}

-- ---- rings and a reading

-- the refusal of the lengths, where some ring is not as long
lengths-given : (r : List ℕ) (ts : List (List ℕ)) (q : Refusal) → (AsLong (length r) ts → ⊥) → Given (fact (Sized (length r)) (Length 0) ▸ fact ⊥ Pair) q → Given (lengths_order r ts) q
lengths-given r ts q n (inl x) = inl x
lengths-given r ts q n (inr x) = inr (x.0, (x.1.0, n))

module _ (u out : List ℕ) (l m k e : ℕ) (p : EndToEnd u out l m) where
  size : length p.last ≡ m - l
  size = sym (ap length p.reading) ∙ length-take-le (m - l) (drop l out) (omega (arith, length-drop l out, p.room))

  told : (b : Bool) → EachSays u (m - l) b → (a : Result Sighting Refusal) → TellSays (take l out) (take (m - l) (drop l out)) k e b a → SightedSays p.ts p.last k e a
  told true x a y = alike (λ j h. x (p.ts, p.last) p.reads j h ∙ sym size) (rw (p.rings, p.reading) at y)
  told false x a y =
      let z : TellSays (take l out) p.last k e false a = rw p.reading at y in
      let n : AsLong (length p.last) p.ts → ⊥ = λ f. x (p.ts, p.last) p.reads (λ j h. f j h ∙ size) in
      unlike n z.0 (lengths-given p.last p.ts z.0 n z.1) z.2

  pub put-spelt : (b : Bool) → EachSays u (m - l) b → (c : List ℕ) (at : ℕ) (r : Result ℕ Refusal) (c' : List ℕ) →
      Answered (AnswerShows (TellSays (take l out) (take (m - l) (drop l out)) k e b) sight_text) c at r c' → Answered (Replies (ReadsRings u) (SeenAmong k e)) c at r c'
  put-spelt b x c at r c' y =
      put-good (ReadsRings u) (SeenAmong k e) c at r c' (p.ts, p.last) p.reads (answered-on _ _ (λ t z. record { answer = z.answer; says = told b x z.answer z.says; is = z.is }) c at r c' y)

-- ---- two numbers in front

module _ (t : List ℕ) where
  pub no-head : HeadSays t None → HeadsSay t None
  no-head h k e u us s r w = h k (decimal e) (u ∷ us) s w

  module _ (k at : ℕ) (h : HeadSays t (Some (k, at))) where
    pub no_second : HeadSays (take (length t - at) (drop at t)) None → HeadsSay t None
    no_second n j e u us s r w = let m = rw (rest_all t at) at n in m e u us r (rest-words t k at h j (decimal e ∷ u ∷ us) w)

    pub both-heads : (e f : ℕ) → HeadSays (take (length t - at) (drop at t)) (Some (e, f)) → HeadsSay t (Some (k, e, at + f))
    both-heads e f x =
        let y = rw (rest_all t at) at x in (
          h.0,
          y.0,
          omega (arith, h.1, y.1, length-drop at t),
          h.2 ∙ ap (λ (z : List (List ℕ)). decimal k ∷ z) (y.2 ∙ ap (λ (z : List ℕ). decimal e ∷ pieces 32 z) (drop-drop f at t)),
        )

  pub no-sight : HeadsSay t None → (q : ℕ × ℕ × List (List ℕ) × List ℕ) → ReadsSight t q → ⊥
  no-sight h q x =
      let w = words-cons q.2 q.3 in
      h q.0 q.1 w.0 w.1 x.short x.second (x.words ∙ ap (λ (y : List (List ℕ)). decimal q.0 ∷ decimal q.1 ∷ y) w.2)

  module _ (k e at : ℕ) (h : HeadsSay t (Some (k, e, at))) (b : List ℕ) (p : ℕ) (r : Result ℕ Refusal) (b' : List ℕ) where
    pub put-sight : Answered (Replies (ReadsRings (take (length t - at) (drop at t))) (SeenAmong k e)) b p r b' →
        Answered (Replies (ReadsSight t) (λ q. SeenSays q.0 q.1 q.2 q.3)) b p r b'
    put-sight x = put_as _ _ _ _ on back b p r b' (rw (rest_all t at) at x)
      where
        on : (q : List (List ℕ) × List ℕ) → ReadsRings (drop at t) q →
            (y : ℕ × ℕ × List (List ℕ) × List ℕ) × ReadsSight t y × ((u : List ℕ) → SeenAmong k e q u → SeenSays y.0 y.1 y.2 y.3 u)
        on q s = (
          (k, e, q.0, q.1),
          record {
            short = h.0;
            second = h.1;
            rings = s.rings;
            sectors = s.sectors;
            words = h.3 ∙ ap (λ (y : List (List ℕ)). decimal k ∷ decimal e ∷ y) s.words;
          },
          λ u y. y,
        )

        back : (q : ℕ × ℕ × List (List ℕ) × List ℕ) → ReadsSight t q → (y : List (List ℕ) × List ℕ) × ReadsRings (drop at t) y
        back q y = (
          (q.2, q.3),
          record { rings = y.rings; sectors = y.sectors; words = behind-same _ _ _ _ (behind-same _ _ _ _ (sym h.3 ∙ y.words)) },
        )
