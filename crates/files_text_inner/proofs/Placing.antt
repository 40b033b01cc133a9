-- Texts and records that stand where they were placed.
--     line-short, line-puts       a record's line has room, and is what a telling shows
--     record-short, wrote-puts, bytes-puts    a record has room, what the writer wrote is its bytes, at their place, and that is what a move shows
--     answer-puts                 a ring that passes the checks is not refused where there is room
use Rattle.words.proofs.Plain.{ℕ, zero, suc, ◌+◌, ◌^◌, ◌<◌, ◌≤◌, arith, ◌≡◌, refl, sym, ap, ◌∙◌, List, [], ◌∷◌, ◌++◌, append_assoc, length, get_or, take, drop}
use Rattle.words.proofs.Plain.{length-drop, sets, sets-eq, drop-drop}
use Rattle.text_spec.specs.Put.{Placed}
use Rattle.text_fill_spec.specs.Filled.{slots, longest}
use Rattle.text_fill_spec.proofs.Laws.{filled-short}
use Rattle.refusal.specs.{declared.Refusal.Refusal, Order.Passed, Calls.one_reading}
use Rattle.refusal.proofs.Unique.{never_both}
use Rattle.record_spec.specs.{declared.Kind.Kind, declared.Kind.TheVariants.Front, declared.Kind.TheVariants.Packed}
use Rattle.record_spec.specs.Layout.{body_length}
use Rattle.std.specs.Prelude.{Result, Ok, Err}
use Rattle.std.specs.Result.{result_unwrap_or}
use Rattle.record_spec.specs.Writes.{write_order, WriteSays}
use Rattle.record_spec.proofs.Forms.{few_bytes}
use Rattle.record_spec.proofs.Wrote.{record_bytes, length-record, wrote-bytes}
use Rattle.stream_spec.specs.Blocks.{Puts}
use Rattle.files_spec.specs.declared.Job.{Job}
use Rattle.files_spec.specs.declared.Job.TheVariants as J
use Rattle.files_spec.specs.Shows.{other_kind, line_form, record_line, Filled, Shows}
use Rattle.files_spec.proofs.Unique.{bytes-filled}
use Rattle.files_text_inner.specs.Room.{record_room, PassedRing}

-- a number that the code holds has at most 20 digits
abbrev pub Few : ℕ → Type 0
Few x = x < 10 ^ 20

numbers-few : (s n k : ℕ) → Few s → Few n → Few k → (i : ℕ) → get_or (s ∷ n ∷ k ∷ []) i 0 < 10 ^ 20
numbers-few s n k a b c zero = a
numbers-few s n k a b c (suc zero) = b
numbers-few s n k a b c (suc (suc zero)) = c
numbers-few s n k a b c (suc (suc (suc i))) = omega arith

form-short : (x : Kind) (n : ℕ) → n ≤ 64 → longest (line_form x) n ≤ record_room
unfolding longest slots
form-short Front n l = omega arith
form-short Packed n l = omega arith

pub line-short : (s : ℕ) (x : Kind) (n k : ℕ) (w : List ℕ) → Few s → Few n → Few k → n ≤ 64 → length (record_line s x n k w) ≤ record_room
line-short s x n k w a b c l = omega (arith, filled-short (line_form x) (s ∷ n ∷ k ∷ []) n w (numbers-few s n k a b c), form-short x n l)

-- ---- the writer

-- bytes v stored from a place on
stored : (b v : List ℕ) (at m : ℕ) → length v ≡ m → at + m ≤ length b → sets b at v ≡ take at b ++ (v ++ drop m (drop at b))
stored b v at m e l =
    sets-eq v b at (omega arith) ∙ append_assoc (take at b) v (drop (at + length v) b) ∙ ap (λ (z : List ℕ). take at b ++ (v ++ z)) (ap (λ (i : ℕ). drop (at + i) b) e ∙ sym (drop-drop m at b))

module _ (w : List ℕ) (k : ℕ) (x : Kind) (g : Passed (one_reading w k)) where
  -- a record takes at most 68 bytes
  pub record-short : 4 + body_length x (length w) k ≤ 68
  record-short = omega (arith, few_bytes (length w) k x g.0.0.0.0.1, g.0.0.0.0.0.0.1)

  pub wrote-puts : (b : List ℕ) (at e : ℕ) (d : List ℕ) → at + record_room ≤ length b → WriteSays w k x b at (Ok e) d → Puts (Filled w k x) record_room b at e d
  wrote-puts b at e d l h =
      record {
        text = record_bytes x k w;
        says = bytes-filled w k x g;
        short = omega (arith, length-record w k x g, record-short);
        placed =
            record {
              next = omega (arith, h.follows, length-record w k x g);
              bytes = wrote-bytes w k x g b at e d h ∙ sym (stored b (record_bytes x k w) at (4 + body_length x (length w) k) (length-record w k x g) (omega (arith, record-short)));
            };
      }

  never-refused : (b : List ℕ) (at : ℕ) (r : Refusal) (d : List ℕ) → at + record_room ≤ length b → WriteSays w k x b at (Err r) d → ⊥
  never-refused b at r d l h =
      never_both (write_order w k x (drop at b) at) r h.0 (g, omega (arith, length-drop at b, record-short))

  -- so the place behind it is what the writer answers
  pub answer-puts : (b : List ℕ) (at : ℕ) (r : Result ℕ Refusal) (d : List ℕ) → at + record_room ≤ length b → WriteSays w k x b at r d → Puts (Filled w k x) record_room b at (result_unwrap_or r at) d
  answer-puts b at (Ok e) d l h = wrote-puts b at e d l h
  answer-puts b at (Err r) d l h = absurd (never-refused b at r d l h)

-- ---- what a record shows

module _ (j : Job) (s n k : ℕ) (x : Kind) (w b : List ℕ) (at r : ℕ) (d : List ℕ) where
  pub line-puts : j ≡ J.Read → Few s → Few n → Few k → n ≤ 64 → Placed b at (record_line s x n k w) r d → Puts (Shows j s n k x w) record_room b at r d
  line-puts e f g h l p = rw e (record { text = record_line s x n k w; says = refl; short = line-short s x n k w f g h l; placed = p })

  pub bytes-puts : (y : Kind) → j ≡ J.Move → y ≡ other_kind x → Puts (Filled w k y) record_room b at r d → Puts (Shows j s n k x w) record_room b at r d
  bytes-puts y e f p = rw e (rw f at p)

-- a ring of at most 64 sectors
pub answered-few : (n k : ℕ) (w : List ℕ) → PassedRing n k w → n ≤ 64
answered-few n k w a = omega (arith, a.long, a.passed.0.0.0.0.0.0.1)
