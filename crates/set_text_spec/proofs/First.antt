-- A line's first characters decide its output: a line has at most 16, so of a longer input 17 characters tell that it is malformed.
--     prints-first       the output for the first m characters of s, m at least 17, is the output for s
--     printed-first      and so it is of the buffer
use Rattle.words.proofs.Plain.{ℕ, ◌<◌, ◌≤◌, arith, dec_lt, List, length, take, length-take, take_all}
use Rattle.set_line_spec.specs.Line.{SpellsSet}
use Rattle.set_line_spec.proofs.Four.{set-line-short}
use Rattle.guard_spec.specs.declared.Rule.{Rule}
use Rattle.set_text_spec.specs.Prints.{SetPrintsBy, malformed, spelt, PrintedBy, small, whole}

module _ (rule : Rule) (m : ℕ) (s : List ℕ) (room : 17 ≤ m) where
  -- what spells four numbers is all there
  spells-first : (n k d want : ℕ) → SpellsSet (take m s) n k d want → SpellsSet s n k d want
  spells-first n k d want p = rw (take_all m s (omega (arith, simp length-take at (set-line-short (take m s) n k d want p)))) at p

  -- a longer line spells nothing
  spells-none : m < length s → (n k d want : ℕ) → SpellsSet s n k d want → ⊥
  spells-none h n k d want p = omega (arith, set-line-short s n k d want p)

  pub prints-first : (t : List ℕ) → SetPrintsBy rule (take m s) t → SetPrintsBy rule s t
  prints-first t (malformed x e) =
      elim (dec_lt m (length s)) [
        | yes h ↦ malformed (spells-none h) e
        | no h ↦ malformed (rw (take_all m s (omega arith)) at x) e
      ]
  prints-first t (spelt n k d want p q) = spelt n k d want (spells-first n k d want p) q

  pub printed-first : (b : List ℕ) (r : ℕ) (b' : List ℕ) → PrintedBy rule (take m s) b r b' → PrintedBy rule s b r b'
  printed-first b r b' (small h e f) = small h e f
  printed-first b r b' (whole h t p m q) = whole h t (prints-first t p) m q
