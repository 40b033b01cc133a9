-- What the command for a sheet reads, a line of words and, behind it, rings of one's own, a line each, where the words ask for those; and what it prints: the sheet, or
-- a refusal's line and nothing else.
--     SheetSays m order told x t    t is what m targets print, where order j are the checks of target j, told j r is what its refusal r prints, and x is the sheet: x; the first
--                           refusal of a target; or 13 where there is none
--     target_order o ws j    the checks of target j, which shows the ring number j of ws
--     TargetsPrint o ws t   t is what the rings ws of a set print on the sheet o
--     rule_of source         the rule of a set
--     ChosenPrints o t      what the set prints that o asks for: that, or the refusals of a set, 1, 2, 12, 13
--     digit_in c, ring_in l   the sector whose digit is c, 16 where there is none; the sectors of a line of digits
--     line_order o l i       the checks of target i, which shows the ring of the line l: 11 where that spells none, and those of a target; `line-numbers`: by their numbers
--     own_order o ls j       those of line j of ls
--     own_sheet o ls         the sheet o for rings of their own lines ls: its n is that of the first
--     OwnPrints o ls t      t is what the lines ls print on it; a refusal is told with the number of its line, counted from 1
--     ReadsSheet s q        the input s asks for the sheet q .0, and behind the line of words stand the lines q .1: for a set nothing does
--     PrintsBy source       what such an input prints, by where its rings come from
--     SheetPrints s t       t is what the input s prints: that, or `refused 11 at 0`
-- That an input prints one text: proofs/Unique. That a line which spells a ring spells `ring_in` of it: proofs/Rings.
use Rattle.std.specs.Prelude.{ℕ, ◌+◌, ◌<◌, ◌≤◌, ◌≡◌, refl, List, [], ◌∷◌, map, eqb, length, get_or, take, drop}
use Rattle.words.specs.Search.{least}
use Rattle.text_spec.specs.Ascii.{space, newline}
use Rattle.text_spec.specs.Text.{hex_of}
use Rattle.text_words_spec.specs.Words.{pieces, PieceAt, Spelt}
use Rattle.stream_spec.specs.Lines.{lines}
use Rattle.refusal.specs.declared.Refusal.{Refusal}
use Rattle.refusal.specs.declared.Refusal.TheVariants.{Set, Line}
use Rattle.refusal.specs.Order.{Checks, fact, ◌▸◌, Passed, Given, numbered}
use Rattle.guard_spec.specs.declared.Rule.{Rule}
use Rattle.guard_spec.specs.declared.Rule.TheVariants as R
use Rattle.guard_spec.specs.Choice.{chosen_by}
use Rattle.set_pick_spec.specs.Order.{set_order, Askable}
use Rattle.sheet_spec.specs.declared.Source.{Source}
use Rattle.sheet_spec.specs.declared.Source.TheVariants as S
use Rattle.sheet_spec.specs.declared.Sheet.{Sheet}
use Rattle.sheet_spec.specs.Text.{sheet_text}
use Rattle.sheet_spec.specs.Says.{target_room, sheet_order}
use Rattle.sheet_words_spec.specs.Words.{with_number_n, SheetAsked}
use Rattle.program_refusal_spec.specs.Text.{refused_line_text}
use Rattle.desk_spec.specs.Texts.{refusal_text}
use Rattle.desk_spec.specs.Questions.{Replies}

-- ---- targets

pub data SheetSays (m : ℕ) (order : ℕ → Checks) (told : ℕ → Refusal → List ℕ) (x t : List ℕ) : Type 0 where
  none : m ≡ 0 → t ≡ refusal_text Set → SheetSays m order told x t
  wrong : (j : ℕ) → j < m → ((i : ℕ) → i < j → Passed (order i)) → (r : Refusal) → Given (order j) r → t ≡ told j r → SheetSays m order told x t
  whole : 0 < m → ((i : ℕ) → i < m → Passed (order i)) → t ≡ x → SheetSays m order told x t

-- ---- the rings of a set

abbrev pub target_order : Sheet → List (List ℕ) → ℕ → Checks
target_order o ws j = sheet_order o (get_or ws j []) j target_room

abbrev pub TargetsPrint : Sheet → List (List ℕ) → List ℕ → Type 0
TargetsPrint o ws t = SheetSays (length ws) (target_order o ws) (λ j r. refusal_text r) (sheet_text o ws) t

abbrev pub rule_of : Source → Rule
rule_of S.Guarded = R.Guarded
rule_of S.Plain = R.Plain
rule_of S.Own = R.Plain

abbrev pub chosen_for : Sheet → List (List ℕ)
chosen_for o = chosen_by (rule_of o.source) o.n o.k o.d o.wanted

pub data ChosenPrints (o : Sheet) (t : List ℕ) : Type 0 where
  refused : (r : Refusal) → Given (set_order o.n o.k o.d o.wanted) r → t ≡ refusal_text r → ChosenPrints o t
  taken : Askable o.n o.k o.d o.wanted → TargetsPrint o (chosen_for o) t → ChosenPrints o t

-- ---- rings of one's own

unfoldable pub digit_in : ℕ → ℕ
digit_in c = least 16 (λ a. eqb (hex_of a) c)

unfoldable pub ring_in : List ℕ → List ℕ
ring_in l = map digit_in l

abbrev pub line_order : Sheet → List ℕ → ℕ → Checks
line_order o l i = fact (Spelt l (ring_in l)) Line ▸ sheet_order o (ring_in l) i target_room

pub line-numbers : (o : Sheet) (l : List ℕ) (i : ℕ) → numbered (line_order o l i) ≡ (11 ∷ 1 ∷ 10 ∷ 2 ∷ 3 ∷ 4 ∷ 6 ∷ 5 ∷ 10 ∷ 12 ∷ 4 ∷ 4 ∷ [])
line-numbers o l i = refl

abbrev pub own_order : Sheet → List (List ℕ) → ℕ → Checks
own_order o ls j = line_order o (get_or ls j []) j

-- a line has a digit for each sector
abbrev pub own_sheet : Sheet → List (List ℕ) → Sheet
own_sheet o ls = with_number_n (length (get_or ls 0 [])) o

abbrev pub OwnPrints : Sheet → List (List ℕ) → List ℕ → Type 0
OwnPrints o ls t = SheetSays (length ls) (own_order (own_sheet o ls) ls) (λ j r. refused_line_text r (j + 1)) (sheet_text (own_sheet o ls) (map ring_in ls)) t

-- ---- an input

pub record ReadsSheet (s : List ℕ) (q : Sheet × List (List ℕ)) : Type 0 where
  pub at : ℕ
  pub ends : PieceAt newline s at
  pub line : SheetAsked (pieces space (take at s)) q.0
  pub behind : q.1 ≡ lines (drop (at + 1) s)
  pub alone : (q.0.source ≡ S.Own → ⊥) → length s ≤ at + 1

abbrev pub PrintsBy : Source → Sheet → List (List ℕ) → List ℕ → Type 0
PrintsBy S.Guarded o ls t = ChosenPrints o t
PrintsBy S.Plain o ls t = ChosenPrints o t
PrintsBy S.Own o ls t = OwnPrints o ls t

abbrev pub SheetPrints : List ℕ → List ℕ → Type 0
SheetPrints s t = Replies (ReadsSheet s) (λ q. PrintsBy q.0.source q.0 q.1) t
