-- What the functions promise.
--     CheckedTargets o p t   what checking t targets promises: all pass, or the first refusal
--     ReadySet o p t         the set that o asks for, in the places p, may be printed
--     SetJudged o p t v      what is ready, or what is printed instead
--     SetPrepared o r        the set that o asks for, or what is printed instead
--     ReadyOwn o ls t        the rings of the lines ls, which are t, may be printed
--     OwnRings o ls f q r    the sheet q of the rings r, which are the lines ls from f on, is ready, where o was asked for
--     OwnPrepared o ls f r   what is printed of the lines ls, which begin at f, where o was asked for
--     RingsReady s o r       the sheet o of the rings r of the input s is ready, and is what s prints
--     Prepared s r           what is printed of an input s
use Rattle.std.specs.Prelude.{ℕ, ◌<◌, ◌≤◌, ◌≡◌, List, map, length, drop, Result, Ok, Err}
use Rattle.stream_spec.specs.Lines.{lines}
use Rattle.refusal.specs.declared.Refusal.{Refusal}
use Rattle.refusal.specs.Order.{Passed, Given}
use Rattle.set_spec.specs.Places.{set_in}
use Rattle.set_pick_spec.specs.Order.{Askable}
use Rattle.sheet_spec.specs.declared.Sheet.{Sheet}
use Rattle.sheet_spec.specs.Text.{sheet_text}
use Rattle.program_refusal_spec.specs.Text.{refused_line_text}
use Rattle.desk_spec.specs.Texts.{refusal_text}
use Rattle.sheet_print_spec.specs.Prints.{target_order, chosen_for, ChosenPrints, ring_in, own_sheet, OwnPrints, SheetPrints}
use Rattle.sheet_own_inner.specs.Says.{LinesPass}
use Rattle.sheet_places_inner.specs.Says.{SetPlaces}
use Rattle.sheet_print_inner.specs.{declared.Rings.Rings, declared.Job.Job, declared.Stop.Stop}
use Rattle.sheet_print_inner.specs.declared.Rings.TheVariants.{Set, Own}
use Rattle.sheet_print_inner.specs.declared.Stop.TheVariants.{Refused, Wrong}

abbrev pub AllPass : Sheet → List ℕ → ℕ → ℕ → Type 0
AllPass o p t m = (i : ℕ) → i < m → Passed (target_order o (set_in o.n p t) i)

-- the target j is refused, and none before it
pub record FirstWrong (o : Sheet) (p : List ℕ) (t : ℕ) (r : Refusal) : Type 0 where
  pub place : ℕ
  pub within : place < t
  pub before : AllPass o p t place
  pub given : Given (target_order o (set_in o.n p t) place) r

abbrev pub CheckedTargets : Sheet → List ℕ → ℕ → Result Unit Refusal → Type 0
CheckedTargets o p t (Ok _) = AllPass o p t t
CheckedTargets o p t (Err r) = FirstWrong o p t r

pub record ReadySet (o : Sheet) (p : List ℕ) (t : ℕ) : Type 0 where
  pub places : SetPlaces p o.n t
  pub asked : Askable o.n o.k o.d o.wanted
  pub set : set_in o.n p t ≡ chosen_for o
  pub some : 0 < t
  pub passed : AllPass o p t t

abbrev pub SetJudged : Sheet → List ℕ → ℕ → Result Unit Refusal → Type 0
SetJudged o p t (Ok _) = ReadySet o p t
SetJudged o p t (Err r) = ChosenPrints o (refusal_text r)

abbrev pub SetPrepared : Sheet → Result Rings Refusal → Type 0
SetPrepared o (Ok (Set p t)) = ReadySet o p t
SetPrepared o (Ok (Own f t)) = ⊥
SetPrepared o (Err r) = ChosenPrints o (refusal_text r)

-- ---- rings of one's own

pub record ReadyOwn (o : Sheet) (ls : List (List ℕ)) (t : ℕ) : Type 0 where
  pub number : t ≡ length ls
  pub some : 0 < t
  pub passed : LinesPass o ls t

abbrev pub OwnRings : Sheet → List (List ℕ) → ℕ → Sheet → Rings → Type 0
OwnRings o ls f q (Set p t) = ⊥
OwnRings o ls f q (Own g t) = (q ≡ own_sheet o ls) × (g ≡ f) × ReadyOwn q ls t

abbrev pub OwnPrepared : Sheet → List (List ℕ) → ℕ → Result Job Stop → Type 0
OwnPrepared o ls f (Ok j) = OwnRings o ls f j.sheet j.rings
OwnPrepared o ls f (Err (Refused r)) = OwnPrints o ls (refusal_text r)
OwnPrepared o ls f (Err (Wrong x)) = OwnPrints o ls (refused_line_text x.refusal x.line)

-- ---- an input

-- the lines from the place f of the input s on
abbrev pub lines_at : List ℕ → ℕ → List (List ℕ)
lines_at s f = lines (drop f s)

abbrev pub RingsReady : List ℕ → Sheet → Rings → Type 0
RingsReady s o (Set p t) = ReadySet o p t × SheetPrints s (sheet_text o (set_in o.n p t))
RingsReady s o (Own f t) = (f ≤ length s) × ReadyOwn o (lines_at s f) t × SheetPrints s (sheet_text o (map ring_in (lines_at s f)))

abbrev pub Prepared : List ℕ → Result Job Stop → Type 0
Prepared s (Ok j) = RingsReady s j.sheet j.rings
Prepared s (Err (Refused r)) = SheetPrints s (refusal_text r)
Prepared s (Err (Wrong x)) = SheetPrints s (refused_line_text x.refusal x.line)
