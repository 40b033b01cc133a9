-- An input prints one text.
--     one-wrong, one-said                    targets have one first refusal, and print one text
--     one-chosen, one-by, one_input, one-printed
use Rattle.words.proofs.Plain.{ℕ, ◌+◌, ◌<◌, arith, ◌≡◌, refl, sym, ap, ◌∙◌, List, [], length, take, drop}
use Rattle.text_words_spec.specs.Words.{pieces}
use Rattle.stream_spec.specs.Lines.{lines}
use Rattle.words.proofs.Split.{lt, eq, gt, tri}
use Rattle.refusal.specs.declared.Refusal.{Refusal}
use Rattle.refusal.specs.Order.{Checks, Passed, Given}
use Rattle.refusal.proofs.Unique.{one-refusal, never_both}
use Rattle.set_pick_spec.specs.Order.{set_order}
use Rattle.set_pick_spec.proofs.Unique.{askable-passed}
use Rattle.sheet_spec.specs.{declared.Source.Source, declared.Sheet.Sheet, Text.sheet_text}
use Rattle.sheet_spec.specs.declared.Source.TheVariants as S
use Rattle.sheet_words_spec.proofs.Unique.{one-sheet}
use Rattle.desk_spec.specs.Texts.{refusal_text}
use Rattle.desk_spec.proofs.{Questions.place-one, Unique.one-asked}
use Rattle.sheet_print_spec.specs.Prints.{SheetSays, none, wrong, whole, chosen_for, ChosenPrints, refused, taken, ReadsSheet, PrintsBy, SheetPrints}

module _ (m : ℕ) (order : ℕ → Checks) (told : ℕ → Refusal → List ℕ) (x : List ℕ) where
  -- there is one first refusal
  pub one-wrong : (j : ℕ) → ((i : ℕ) → i < j → Passed (order i)) → (r : Refusal) → Given (order j) r →
      (k : ℕ) → ((i : ℕ) → i < k → Passed (order i)) → (q : Refusal) → Given (order k) q → told j r ≡ told k q
  one-wrong j p r g k s q h =
      elim (tri j k) [
        | lt l ↦ absurd (never_both (order j) r g (s j l))
        | eq e ↦ ap (λ (y : ℕ). told y r) e ∙ ap (told k) (one-refusal (order k) r q (rw e at g) h)
        | gt l ↦ absurd (never_both (order k) q h (p k l))
      ]

  pub one-said : (t u : List ℕ) → SheetSays m order told x t → SheetSays m order told x u → t ≡ u
  one-said t u (none z e) (none y f) = e ∙ sym f
  one-said t u (none z e) (wrong j l p r g f) = absurd (omega arith)
  one-said t u (none z e) (whole l p f) = absurd (omega arith)
  one-said t u (wrong j l p r g e) (none y f) = absurd (omega arith)
  one-said t u (wrong j l p r g e) (wrong k b s q h f) = e ∙ one-wrong j p r g k s q h ∙ sym f
  one-said t u (wrong j l p r g e) (whole z s f) = absurd (never_both (order j) r g (s j l))
  one-said t u (whole z p e) (none y f) = absurd (omega arith)
  one-said t u (whole z p e) (wrong k b s q h f) = absurd (never_both (order k) q h (p k b))
  one-said t u (whole z p e) (whole y s f) = e ∙ sym f

pub one-chosen : (o : Sheet) (t u : List ℕ) → ChosenPrints o t → ChosenPrints o u → t ≡ u
one-chosen o t u (refused r g e) (refused q h f) = e ∙ ap refusal_text (one-refusal (set_order o.n o.k o.d o.wanted) r q g h) ∙ sym f
one-chosen o t u (refused r g e) (taken a x) = absurd (never_both (set_order o.n o.k o.d o.wanted) r g (askable-passed o.n o.k o.d o.wanted a))
one-chosen o t u (taken a x) (refused q h f) = absurd (never_both (set_order o.n o.k o.d o.wanted) q h (askable-passed o.n o.k o.d o.wanted a))
one-chosen o t u (taken a x) (taken b y) = one-said _ _ _ _ t u x y

-- by where the rings come from
pub one-by : (a : Source) (o : Sheet) (ls : List (List ℕ)) (t u : List ℕ) → PrintsBy a o ls t → PrintsBy a o ls u → t ≡ u
one-by S.Guarded o ls t u x y = one-chosen o t u x y
one-by S.Plain o ls t u x y = one-chosen o t u x y
one-by S.Own o ls t u x y = one-said _ _ _ _ t u x y

pub one_input : (s : List ℕ) (p q : Sheet × List (List ℕ)) → ReadsSheet s p → ReadsSheet s q → p ≡ q
one_input s (o, ls) (r, ms) a b =
    let e = place-one 10 s a.at b.at a.ends b.ends in
    let x : o ≡ r = one-sheet (pieces 32 (take b.at s)) o r (rw e at a.line) b.line in
    let y : ls ≡ ms = a.behind ∙ ap (λ (i : ℕ). lines (drop (i + 1) s)) e ∙ sym b.behind in
    λ i. (x i, y i)

pub one-printed : (s t u : List ℕ) → SheetPrints s t → SheetPrints s u → t ≡ u
one-printed s t u x y = one-asked (ReadsSheet s) (λ q. PrintsBy q.0.source q.0 q.1) (one_input s) (λ q. one-by q.0.source q.0 q.1) t u x y
