-- The checks of lines.
--     line-unread, line-checked    of one, which spells no ring, or that ring
--     lines_more, lines-wrong      one line more passes, or it is the first that is refused
use Rattle.words.proofs.Plain.{ℕ, ◌+◌, ◌<◌, arith, dec_lt, ◌≡◌, refl, sym, subst, inl, inr, List, [], length, get_or}
use Rattle.text_words_spec.specs.Words.{Spelt}
use Rattle.std.specs.Prelude.{Result, Ok, Err}
use Rattle.refusal.specs.{declared.Refusal.Refusal, declared.Refusal.TheVariants.Line}
use Rattle.refusal.specs.Order.{Passed, Given, CheckSays}
use Rattle.sheet_spec.specs.{declared.Sheet.Sheet, Says.target_room, Says.sheet_order}
use Rattle.sheet_print_spec.specs.Prints.{ring_in, line_order, own_order}
use Rattle.sheet_print_spec.proofs.Rings.{ring_in_lem}
use Rattle.sheet_own_inner.specs.Says.{LinesPass, WrongLine}

module _ (o : Sheet) (l : List ℕ) (i : ℕ) where
  pub line-unread : ((v : List ℕ) → Spelt l v → ⊥) → Given (line_order o l i) Line
  line-unread f = inl (refl, f (ring_in l))

  pub line-checked : (w : List ℕ) → Spelt l w → (v : Result Unit Refusal) → CheckSays (sheet_order o w i target_room) v → CheckSays (line_order o l i) v
  line-checked w s v c = go v (subst (λ (x : List ℕ). CheckSays (sheet_order o x i target_room) v) (sym e) c)
    where
      e : ring_in l ≡ w
      e = ring_in_lem l w s

      spelt : Spelt l (ring_in l)
      spelt = subst (Spelt l) (sym e) s

      go : (v : Result Unit Refusal) → CheckSays (sheet_order o (ring_in l) i target_room) v → CheckSays (line_order o l i) v
      go (Ok _) c = (spelt, c)
      go (Err r) c = inr (spelt, c)

-- ---- line after line

module _ (o : Sheet) (ls : List (List ℕ)) (j : ℕ) (l : List ℕ) (is : get_or ls j [] ≡ l) where
  -- one line more passes
  pub lines_more : Passed (line_order o l j) → LinesPass o ls j → LinesPass o ls (j + 1)
  lines_more p a i h =
      elim (dec_lt i j) [
        | yes k ↦ a i k
        | no k ↦ let q : i ≡ j = omega arith in subst (λ (x : ℕ). Passed (own_order o ls x)) (sym q) (subst (λ (x : List ℕ). Passed (line_order o x j)) (sym is) p)
      ]

  -- or it is the first that is refused
  pub lines-wrong : (r : Refusal) → Given (line_order o l j) r → j < length ls → LinesPass o ls j → WrongLine o ls r (j + 1)
  lines-wrong r g h a =
      record {
        place = j;
        number = refl;
        within = h;
        before = a;
        given = subst (λ (x : List ℕ). Given (line_order o x j) r) (sym is) g;
      }
