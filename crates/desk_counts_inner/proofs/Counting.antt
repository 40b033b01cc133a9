-- Counts that are read one after another.
--     Begun t cs m at        the first m of the numbers cs are those that t has in front of its place `at`
--     begun-none, begun_more     the loop: nothing is read, or one count more
--     begun-last, begun-bad, begun-end    its end: the last count, or none there
--     word-listed, word-bad      the counts of a text that is one word
use Rattle.words.proofs.Plain.{ℕ, zero, suc, ◌+◌, ◌<◌, ◌≤◌, add-one, arith, dec_lt, ◌≡◌, refl, sym, ap, ◌∙◌, List, [], ◌∷◌, ◌++◌, map, length, get_or, take}
use Rattle.words.proofs.Plain.{drop, set, length-take, length-set, length-map, length-drop, take-suc-set, get_or-take, get_or-drop, get_or-set_same, get_or-set_other}
use Rattle.words.proofs.Plain.{drop-drop, drop_at, length-take-le}
use Rattle.text_spec.specs.Decimal.{decimal}
use Rattle.text_spec.proofs.Digits.{decimal-digits}
use Rattle.text_words_spec.specs.Words.{pieces, PieceAt}
use Rattle.text_words_spec.proofs.Pieces.{pieces_more, pieces-one, pieces-plain, pieces-some, pieces-single, behind-same}
use Rattle.desk_spec.specs.Questions.{CountsSpelt}
use Rattle.std.specs.Prelude.{Option, Some, None}
use Rattle.desk_words_inner.specs.Says.{HeadAtSays}
use Rattle.desk_counts_inner.specs.Says.{LastSays, ListedSays, WordCounts, WordSays}

pub record Begun (t cs : List ℕ) (m at : ℕ) : Type 0 where
  pub within : at ≤ length t
  pub few : m ≤ at
  pub room : m ≤ length cs
  pub each : (i : ℕ) → i < m → get_or cs i 0 < 1000
  pub words : pieces 44 t ≡ map decimal (take m cs) ++ pieces 44 (drop at t)

-- ---- the loop

pub begun-none : (t cs : List ℕ) → Begun t cs 0 0
begun-none t cs = record { within = omega arith; few = omega arith; room = omega arith; each = λ i h. absurd (omega arith); words = refl }

-- what is in front of a list of texts, and one more
map_more : (cs : List ℕ) (x : ℕ) (us : List (List ℕ)) → map decimal (cs ++ (x ∷ [])) ++ us ≡ map decimal cs ++ (decimal x ∷ us)
map_more [] x us = refl
map_more (c ∷ cs) x us = ap (λ (y : List (List ℕ)). decimal c ∷ y) (map_more cs x us)

-- the numbers with one more
module _ (cs : List ℕ) (m x : ℕ) (h : m < length cs) where
  taken : take (m + 1) (set cs m x) ≡ take m cs ++ (x ∷ [])
  taken = rw (add-one m) (take-suc-set cs m x h)

  each_more : ((i : ℕ) → i < m → get_or cs i 0 < 1000) → x < 1000 → (i : ℕ) → i < m + 1 → get_or (set cs m x) i 0 < 1000
  each_more f b i l =
      elim (dec_lt i m) [
        | yes g ↦ rw (get_or-set_other cs m i x 0 (λ e. omega (arith, e, g))) (f i g)
        | no g ↦ let e : i ≡ m = omega arith in rw e (rw (get_or-set_same cs m x 0 h) b)
      ]

module _ (t cs : List ℕ) (m at : ℕ) (b : Begun t cs m at) where
  pub begun_more : m < length cs → (x e : ℕ) → HeadAtSays 44 (drop at t) (Some (x, e)) → Begun t (set cs m x) (m + 1) (at + e)
  begun_more h x e p =
      record {
        within = omega (arith, p.1, b.within, length-drop at t);
        few = omega (arith, b.few, p.3);
        room = omega (arith, h, length-set cs m x);
        each = each_more cs m x h b.each p.0;
        words =
            b.words
            ∙ ap (λ (y : List (List ℕ)). map decimal (take m cs) ++ y) (p.2 ∙ ap (λ (y : List ℕ). decimal x ∷ pieces 44 y) (drop-drop e at t))
            ∙ sym (map_more (take m cs) x _)
            ∙ ap (λ (y : List ℕ). map decimal y ++ pieces 44 (drop (at + e) t)) (sym (taken cs m x h));
      }

  -- ---- its end

  -- a number has no comma
  plain : (x : ℕ) → pieces 44 (decimal x) ≡ decimal x ∷ []
  plain x = pieces-plain 44 (decimal x) (λ i h e. omega (arith, e, (decimal-digits x i h).0))

  pub begun-last : m < length cs → (x : ℕ) → x < 1000 → drop at t ≡ decimal x → (j : ℕ) → j ≡ m + 1 → (c : List ℕ) → c ≡ set cs m x → ListedSays t (Some j) c
  begun-last h x l e j q c s = rw (q, s) (omega (arith, h, length-set cs m x), record { each = short; numbers = long })
    where
      short : (i : ℕ) → i < length (take (m + 1) (set cs m x)) → get_or (take (m + 1) (set cs m x)) i 0 < 1000
      short i g =
          let n : i < m + 1 = omega (arith, g, length-take (m + 1) (set cs m x)) in
          rw (get_or-take (m + 1) (set cs m x) i 0 n) (each_more cs m x h b.each l i n)

      long : pieces 44 t ≡ map decimal (take (m + 1) (set cs m x))
      long =
          b.words
          ∙ ap (λ (y : List (List ℕ)). map decimal (take m cs) ++ y) (ap (λ (y : List ℕ). pieces 44 y) e ∙ plain x)
          ∙ sym (snoc (take m cs))
          ∙ ap (λ (y : List ℕ). map decimal y) (sym (taken cs m x h))
        where
          snoc : (ds : List ℕ) → map decimal (ds ++ (x ∷ [])) ≡ map decimal ds ++ (decimal x ∷ [])
          snoc [] = refl
          snoc (d ∷ ds) = ap (λ (y : List (List ℕ)). decimal d ∷ y) (snoc ds)

  -- the counts that a text has behind its first
  drop-map : (n : ℕ) (ds : List ℕ) → drop n (map decimal ds) ≡ map decimal (drop n ds)
  drop-map zero ds = refl
  drop-map (suc n) [] = refl
  drop-map (suc n) (d ∷ ds) = drop-map n ds

  behind : (ds : List ℕ) → CountsSpelt t ds → pieces 44 (drop at t) ≡ map decimal (drop m ds)
  behind ds s =
      sym (drop_at (map decimal (take m cs)) (pieces 44 (drop at t)) m (length-map (take m cs) decimal ∙ length-take-le m cs b.room))
      ∙ ap (λ (y : List (List ℕ)). drop m y) (sym b.words ∙ s.numbers)
      ∙ drop-map m ds

  pub begun-bad : HeadAtSays 44 (drop at t) None → ((x : ℕ) → x < 1000 → drop at t ≡ decimal x → ⊥) → (ds : List ℕ) → CountsSpelt t ds → ⊥
  begun-bad n f ds s = go (drop m ds) (behind ds s) (λ i h. rw (get_or-drop m ds i 0) (s.each (m + i) (omega (arith, h, length-drop m ds))))
    where
      go : (es : List ℕ) → pieces 44 (drop at t) ≡ map decimal es → ((i : ℕ) → i < length es → get_or es i 0 < 1000) → ⊥
      go [] e g = pieces-some 44 (drop at t) e
      go (x ∷ []) e g = f x (g 0 (omega arith)) (pieces-single 44 (drop at t) (decimal x) e)
      go (x ∷ y ∷ es) e g = n x (decimal y) (map decimal es) (g 0 (omega arith)) e

  pub begun-end : m < length cs → HeadAtSays 44 (drop at t) None → (r : Option ℕ) (c : List ℕ) → LastSays (drop at t) cs m r c → ListedSays t r c
  begun-end h n (Some j) c s = begun-last h s.1.0 s.1.1 s.1.2 j s.0 c s.1.3
  begun-end h n None c s = begun-bad n s

-- ---- a text that is one word

module _ (t : List ℕ) (e : ℕ) (p : PieceAt 32 t e) where
  pub word-listed : length t ≤ e → (r : Option ℕ) (c : List ℕ) → ListedSays t r c → WordSays t r c
  word-listed h (Some j) c s = (s.0, record { alone = pieces-one 32 t e p h; counts = s.1 })
  word-listed h None c s = λ cs w. s cs w.counts

  -- two words or more
  pub word-bad : e < length t → (cs : List ℕ) → WordCounts t cs → ⊥
  word-bad h cs w = pieces-some 32 (drop (e + 1) t) (behind-same _ _ _ _ (sym (pieces_more 32 t e p h) ∙ w.alone))
