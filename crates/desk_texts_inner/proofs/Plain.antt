-- A short text with numbers alone has room in a line.
--     slots-few       no character stands more often in a text than the text has characters
--     plain-short     so a short text with no ring has room in a line
use Prim.Native.Nat.{ℕ, ◌≤◌}
use mathlib.Core.List.{List, [], ◌∷◌}
use native.Mathlib.Omega.{arith}
use lib.Dec.{eqb}
use lib.ListN.{length}
use borrow.Author.Tests.{eqb-true, eqb-false}
use Rattle.words.proofs.Split.{passes, fails, test}
use Rattle.text_fill_spec.specs.Filled.{slots, longest}
use Rattle.text_fill_spec.proofs.Laws.{slots_same, slots-other}
use Rattle.desk_texts_inner.specs.Says.{desk_room, longest_plain}

pub slots-few : (c : ℕ) (t : List ℕ) → slots c t ≤ length t
unfolding slots
slots-few c [] = omega arith
slots-few c (a ∷ t) =
    elim (test (eqb a c)) [
      | passes e ↦ omega (arith, slots_same c a t (eqb-true a c e), slots-few c t)
      | fails e ↦ omega (arith, slots-other c a t (eqb-false a c e), slots-few c t)
    ]

pub plain-short : (t : List ℕ) → length t ≤ longest_plain → longest t 0 ≤ desk_room
unfolding longest
plain-short t h = omega (arith, h, slots-few 37 t)
