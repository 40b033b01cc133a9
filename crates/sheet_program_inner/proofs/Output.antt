-- What is written.
--     line-inside, wrong-inside    a refusal's line lies within the buffer, which keeps its length
--     ready_of, lines-ready    what an input asks for is ready, or refused
use Rattle.words.proofs.Plain.{ℕ, ◌-◌, ◌≤◌, arith, ◌≡◌, List, length, take, drop}
use Rattle.stream_spec.specs.Lines.{lines}
use Rattle.text_spec.proofs.Put.{placed-length}
use Rattle.text_spec.specs.Put.{Placed}
use Rattle.program_refusal_inner.specs.Room.{refused_line_room}
use Rattle.sheet_spec.specs.{declared.Sheet.Sheet, Says.target_room}
use Rattle.desk_texts_inner.specs.Says.{LinePrinted}
use Rattle.std.specs.Prelude.{Result, Ok, Err}
use Rattle.sheet_print_inner.specs.{declared.Rings.Rings, declared.Job.Job, declared.Stop.Stop}
use Rattle.sheet_print_inner.specs.declared.Rings.TheVariants.{Set, Own}
use Rattle.sheet_print_inner.specs.Says as Printed
use Rattle.sheet_print_inner.specs.Says.{ReadyOwn, lines_at, Prepared}
use Rattle.std.proofs.lemmas.List.{take_rest}
use Rattle.sheet_program_inner.specs.Says.{SheetReady, AnswerReady}

pub line-inside : (b t : List ℕ) (m : ℕ) (b' : List ℕ) → target_room ≤ length b → LinePrinted b 0 t m b' → (m ≤ length b) × (length b' ≡ length b)
line-inside b t m b' h s = (omega (arith, s.short, s.placed.next), placed-length b 0 t m b' s.placed)

pub wrong-inside : (b t : List ℕ) (m : ℕ) (b' : List ℕ) → target_room ≤ length b → Placed b 0 t m b' → m ≤ refused_line_room → (m ≤ length b) × (length b' ≡ length b)
wrong-inside b t m b' h p l = (omega arith, placed-length b 0 t m b' p)

pub ready_of : (s : List ℕ) (r : Result Job Stop) → Prepared s r → AnswerReady s r
ready_of s (Ok j) x = go j.rings x
  where
    go : (a : Rings) → Printed.RingsReady s j.sheet a → SheetReady s j.sheet a
    go (Set p t) y = y.0
    go (Own f t) y = (y.0, y.1)
ready_of s (Err e) x = tt

-- what a slice to the end holds
pub lines-ready : (s : List ℕ) (o : Sheet) (f t : ℕ) → ReadyOwn o (lines_at s f) t → ReadyOwn o (lines (take (length s - f) (drop f s))) t
lines-ready s o f t x = rw (take_rest s f) x
