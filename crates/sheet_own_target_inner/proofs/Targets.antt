-- The target of a line.
--     line-short                   a line that has passed is not longer than a ring
--     line-placed, line-never      its target is placed, and never refused
--     line-passed, line_step       the same of a line of a text
use Rattle.words.proofs.Plain.{ℕ, ◌+◌, ◌≤◌, arith, ◌≡◌, sym, subst, Bool, true, false, List, [], eqb, length, get_or}
use Rattle.text_words_spec.proofs.Spelling.{spelt-long}
use Rattle.stream_spec.specs.Lines.{lines}
use Rattle.refusal.specs.{declared.Refusal.Refusal, Order.Passed}
use Rattle.refusal.proofs.Unique.{never_both}
use Rattle.text_spell_inner.specs.Says.{SpelledSays}
use Rattle.std.specs.Prelude.{Result, Ok, Err}
use Rattle.sheet_spec.specs.declared.Sheet.{Sheet}
use Rattle.sheet_spec.specs.Says.{target_room, sheet_order, TargetSays}
use Rattle.sheet_print_spec.specs.Prints.{ring_in, line_order, own_order}
use Rattle.sheet_print_spec.proofs.Rings.{ring_in_lem}
use Rattle.sheet_lines_inner.specs.Says.{LineReached}
use Rattle.sheet_own_target_inner.specs.Says.{LineStep}

module _ (o : Sheet) (l : List ℕ) (i : ℕ) (pass : Passed (line_order o l i)) where
  -- a line that has passed has at most 64 digits
  pub line-short : length l ≤ 64
  line-short = omega (arith, spelt-long l (ring_in l) pass.0, pass.1.0.0.0.0.0.0.0.0.0.0)

  module _ (w : List ℕ) (r : Bool) (s : SpelledSays l r w) where
    -- what was spelt is its ring
    same-ring : w ≡ ring_in l
    same-ring = go r s
      where
        go : (r : Bool) → SpelledSays l r w → w ≡ ring_in l
        go true x = sym (ring_in_lem l w x)
        go false x = absurd (x (ring_in l) pass.0)

    -- so its target is placed, and never refused
    module _ (last : Bool) (b : List ℕ) (d : Result ℕ Refusal) (b' : List ℕ) (t : TargetSays o w i last b d b') where
      placed-as : (e : Result ℕ Refusal) → d ≡ e → TargetSays o (ring_in l) i last b e b'
      placed-as e q = rw (same-ring, q) at t

      pub line-placed : (m : ℕ) → d ≡ Ok m → TargetSays o (ring_in l) i last b (Ok m) b'
      line-placed m q = placed-as (Ok m) q

      pub line-never : target_room ≤ length b → (x : Refusal) → d ≡ Err x → ⊥
      line-never room x q = never_both (sheet_order o (ring_in l) i (length b)) x (placed-as (Err x) q).0 (pass.1.0, room)

-- ---- the target of a line of a text

module _ (o : Sheet) (s : List ℕ) (i : ℕ) (l : List ℕ) (is : get_or (lines s) i [] ≡ l) where
  pub line-passed : Passed (own_order o (lines s) i) → Passed (line_order o l i)
  line-passed p = subst (λ (x : List ℕ). Passed (line_order o x i)) is p

  pub line_step : (t : ℕ) (b : List ℕ) (m e : ℕ) (b' : List ℕ) → TargetSays o (ring_in l) i (eqb (i + 1) t) b (Ok m) b' → LineReached s e (i + 1) → LineStep o s t i b m e b'
  line_step t b m e b' p g = record { target = subst (λ (x : List ℕ). TargetSays o (ring_in x) i (eqb (i + 1) t) b (Ok m) b') (sym is) p; next = g }
