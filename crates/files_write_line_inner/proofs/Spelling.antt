-- From a spelt reading to its line.
--     no-spelt, spelt-answer                   by what the writer answered of a spelt reading
--     line-long, line-headless, line-spelt     by what stands behind the number of shades
use Rattle.words.proofs.Plain.{ℕ, ◌+◌, ◌-◌, ◌<◌, ◌≤◌, arith, ◌≡◌, refl, ap, ◌∙◌, inl, inr, List, [], ◌∷◌, map, length, take, drop, length-drop}
use Rattle.text_spec.specs.{Decimal.decimal, Text.hex_of}
use Rattle.text_words_spec.specs.Words.{Spelt}
use Rattle.text_words_spec.proofs.{Pieces.pieces-single, Spelling.spelt-plain}
use Rattle.std.specs.Prelude.{Result, Ok, Err, Some, None}
use Rattle.refusal.specs.declared.Refusal.{Refusal}
use Rattle.refusal.specs.declared.Refusal.TheVariants.{Line}
use Rattle.record_spec.specs.{declared.Kind.Kind, Writes.WriteSays}
use Rattle.desk_words_inner.specs.Says.{HeadSays}
use Rattle.desk_words_inner.proofs.{Heads.rest-words, Shapes.rest_all, Shapes.no-reading}
use Rattle.files_text_inner.specs.Room.{record_room}
use Rattle.files_text_inner.proofs.Placing.{record-short, wrote-puts}
use Rattle.files_write_spec.specs.RingLines.{RingLine, unread, given}
use Rattle.files_write_line_inner.specs.Says.{unspelt, refused, RingSpelt, LineSays}

-- ---- a spelt reading

module _ (x : Kind) (k : ℕ) (t b : List ℕ) (at : ℕ) where
  -- it spells none
  pub no-spelt : ((w : List ℕ) → Spelt t w → ⊥) → RingSpelt x k t b at (Err Line) b
  no-spelt n = (unspelt n refl, refl)

  -- what the writer answered
  pub spelt-answer : (w : List ℕ) → Spelt t w → at + record_room ≤ length b → (r : Result ℕ Refusal) (d : List ℕ) → WriteSays w k x b at r d → RingSpelt x k t b at r d
  spelt-answer w s l (Ok e) d h = (w, s, wrote-puts w k x h.passed b at e d l h)
  spelt-answer w s l (Err r) d (inl g, e) = (refused w s g, e)
  spelt-answer w s l (Err r) d (inr g, e) = absurd (g.1.1 (omega (arith, record-short w k x g.0, length-drop at b, l)))

-- ---- a line

module _ (x : Kind) (s b : List ℕ) (at : ℕ) where
  pub line-long : 4095 < length s → LineSays x s b at (Err Line) b
  line-long h = (unread (λ q a. omega (arith, h, a.within)) refl, refl)

  pub line-headless : HeadSays s None → LineSays x s b at (Err Line) b
  line-headless h = (unread (λ q a. no-reading s h q a.reads) refl, refl)

  module _ (k e : ℕ) (h : HeadSays s (Some (k, e))) where
    ring-on : length s ≤ 4095 → (w : List ℕ) → Spelt (drop e s) w → RingLine s (k, w)
    ring-on l w p =
        record {
          within = l;
          reads =
              record {
                short = h.0;
                sectors = p.below;
                words = h.2 ∙ ap (λ (z : List (List ℕ)). decimal k ∷ z) (spelt-plain 32 (drop e s) w (omega arith) p ∙ ap (λ (z : List ℕ). z ∷ []) p.digits);
              };
        }

    ring-back : (q : ℕ × List ℕ) → RingLine s q → Spelt (drop e s) q.1
    ring-back q a = record { digits = pieces-single 32 (drop e s) _ (rest-words s k e h q.0 (map hex_of q.1 ∷ []) a.reads.words); below = a.reads.sectors }

    -- what was answered of what stands behind the number
    pub line-spelt : length s ≤ 4095 → (r : Result ℕ Refusal) (d : List ℕ) → RingSpelt x k (take (length s - e) (drop e s)) b at r d → LineSays x s b at r d
    line-spelt l r d p = go r (rw (rest_all s e) at p)
      where
        go : (r : Result ℕ Refusal) → RingSpelt x k (drop e s) b at r d → LineSays x s b at r d
        go (Ok a) (w, p, q) = record { text = q.text; says = record { asked = (k, w); reads = ring-on l w p; writes = q.says }; short = q.short; placed = q.placed }
        go (Err a) (unspelt n f, g) = (unread (λ q y. n q.1 (ring-back q y)) f, g)
        go (Err a) (refused w p q, g) = (given (k, w) (ring-on l w p) q, g)
