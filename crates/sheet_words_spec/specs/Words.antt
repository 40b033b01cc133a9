-- What the words of the command for a sheet mean: `N K D WANTED` for a set, or `K` for rings of one's own, and behind the numbers any wishes: `plain` for the set of
-- the plain choice, `levels` for grays in proportion, `size S`, `columns C`.
--     number_in w        the number of at most three digits that the word w spells, or 1000
--     word_of w          what a word is
--     nothing_asked      before the first word: targets of 24 mm, guarded, in the grays of a colour-managed print, in as many columns as fit
--     one_number o       one number was given: it is K, and the rings are one's own
--     meant v a         what the word v means behind those that asked for a: meant_number, meant_name; wish_for v o is a wish
--     asked us a        what the words us mean behind those that asked for a
--     fitted o          its columns: where none were asked for, as many as fit
--     SheetAsked us o   the words us ask for the sheet o
-- Lines worked out by hand: proofs/Samples. That words ask for one sheet: proofs/Unique.
use Rattle.std.specs.Prelude.{ℕ, zero, suc, ◌+◌, ◌/◌, ◌<◌, ◌≡◌, Bool, true, false, List, [], ◌∷◌, ltb}
use Rattle.words.specs.Order.{same}
use Rattle.words.specs.Search.{least}
use Rattle.text_spec.specs.Ascii.{ascii}
use Rattle.text_spec.specs.Decimal.{decimal}
use Rattle.picture_spec.specs.declared.Tone.{Tone}
use Rattle.picture_spec.specs.declared.Tone.TheVariants.{Managed, Levels}
use Rattle.sheet_spec.specs.declared.Source.{Source}
use Rattle.sheet_spec.specs.declared.Source.TheVariants as S
use Rattle.sheet_spec.specs.declared.Sheet.{Sheet}
use Rattle.sheet_words_spec.specs.declared.Word.{Word}
use Rattle.sheet_words_spec.specs.declared.Word.TheVariants as W
use Rattle.sheet_words_spec.specs.declared.Awaits.{Awaits}
use Rattle.sheet_words_spec.specs.declared.Awaits.TheVariants as A
use Rattle.sheet_words_spec.specs.declared.Asked.{Asked}

-- ---- a word

unfoldable pub number_in : List ℕ → ℕ
number_in w = least 1000 (λ x. same w (decimal x))

abbrev pub called_by : List ℕ → List ℕ → Word → Word → Word
called_by w name v next = elim (same w name) [ true ↦ v | false ↦ next ]

unfoldable pub number_or_other : ℕ → Word
number_or_other x = elim (ltb x 1000) [ true ↦ W.Number x | false ↦ W.Other ]

unfoldable pub word_of : List ℕ → Word
word_of w =
    called_by w (ascii "plain") W.Plain (called_by w (ascii "levels") W.Levels (called_by w (ascii "size") W.Size (called_by w (ascii "columns") W.Columns (number_or_other (number_in w)))))

-- ---- what it changes

abbrev pub with_number_n : ℕ → Sheet → Sheet
with_number_n x o = record { n = x; k = o.k; d = o.d; wanted = o.wanted; source = o.source; tone = o.tone; size = o.size; columns = o.columns }

abbrev pub with_number_k : ℕ → Sheet → Sheet
with_number_k x o = record { n = o.n; k = x; d = o.d; wanted = o.wanted; source = o.source; tone = o.tone; size = o.size; columns = o.columns }

abbrev pub with_number_d : ℕ → Sheet → Sheet
with_number_d x o = record { n = o.n; k = o.k; d = x; wanted = o.wanted; source = o.source; tone = o.tone; size = o.size; columns = o.columns }

abbrev pub with_wanted : ℕ → Sheet → Sheet
with_wanted x o = record { n = o.n; k = o.k; d = o.d; wanted = x; source = o.source; tone = o.tone; size = o.size; columns = o.columns }

abbrev pub with_source : Source → Sheet → Sheet
with_source x o = record { n = o.n; k = o.k; d = o.d; wanted = o.wanted; source = x; tone = o.tone; size = o.size; columns = o.columns }

abbrev pub with_tone : Tone → Sheet → Sheet
with_tone x o = record { n = o.n; k = o.k; d = o.d; wanted = o.wanted; source = o.source; tone = x; size = o.size; columns = o.columns }

abbrev pub with_size : ℕ → Sheet → Sheet
with_size x o = record { n = o.n; k = o.k; d = o.d; wanted = o.wanted; source = o.source; tone = o.tone; size = x; columns = o.columns }

abbrev pub with_columns : ℕ → Sheet → Sheet
with_columns x o = record { n = o.n; k = o.k; d = o.d; wanted = o.wanted; source = o.source; tone = o.tone; size = o.size; columns = x }

-- ---- the words one after another

abbrev pub nothing_asked : Asked
nothing_asked = record { sheet = record { n = 0; k = 0; d = 0; wanted = 0; source = S.Guarded; tone = Managed; size = 24; columns = 0 }; awaits = A.First }

-- one number was given: it is K, not N
abbrev pub one_number : Sheet → Sheet
one_number o = with_source S.Own (with_number_n 0 (with_number_k o.n o))

abbrev pub awaiting : Awaits → Sheet → Asked
awaiting a o = record { sheet = o; awaits = a }

-- the plain set is asked for of a set, once
abbrev pub plain_for : Source → Sheet → Asked
plain_for S.Guarded o = awaiting A.Wish (with_source S.Plain o)
plain_for S.Plain o = awaiting A.Wrong o
plain_for S.Own o = awaiting A.Wrong o

abbrev pub wish_for : Word → Sheet → Asked
wish_for W.Plain o = plain_for o.source o
wish_for W.Levels o = awaiting A.Wish (with_tone Levels o)
wish_for W.Size o = awaiting A.Size o
wish_for W.Columns o = awaiting A.Columns o
wish_for (W.Number x) o = awaiting A.Wrong o
wish_for W.Other o = awaiting A.Wrong o

-- a number: the next of the four, or that of a wish
abbrev pub meant_number : Awaits → ℕ → Sheet → Asked
meant_number A.First x o = awaiting A.Second (with_number_n x o)
meant_number A.Second x o = awaiting A.Third (with_number_k x o)
meant_number A.Third x o = awaiting A.Fourth (with_number_d x o)
meant_number A.Fourth x o = awaiting A.Wish (with_wanted x o)
meant_number A.Wish x o = awaiting A.Wrong o
meant_number A.Size x o = awaiting A.Wish (with_size x o)
meant_number A.Columns x o = awaiting A.Wish (with_columns x o)
meant_number A.Wrong x o = awaiting A.Wrong o

-- a name: a wish, behind the four numbers or behind one
abbrev pub meant_name : Awaits → Word → Sheet → Asked
meant_name A.First v o = awaiting A.Wrong o
meant_name A.Second v o = wish_for v (one_number o)
meant_name A.Third v o = awaiting A.Wrong o
meant_name A.Fourth v o = awaiting A.Wrong o
meant_name A.Wish v o = wish_for v o
meant_name A.Size v o = awaiting A.Wrong o
meant_name A.Columns v o = awaiting A.Wrong o
meant_name A.Wrong v o = awaiting A.Wrong o

abbrev pub meant : Word → Asked → Asked
meant (W.Number x) a = meant_number a.awaits x a.sheet
meant W.Plain a = meant_name a.awaits W.Plain a.sheet
meant W.Levels a = meant_name a.awaits W.Levels a.sheet
meant W.Size a = meant_name a.awaits W.Size a.sheet
meant W.Columns a = meant_name a.awaits W.Columns a.sheet
meant W.Other a = meant_name a.awaits W.Other a.sheet

unfoldable pub asked : List (List ℕ) → Asked → Asked
asked [] a = a
asked (w ∷ us) a = asked us (meant (word_of w) a)

-- ---- a whole line

-- as many columns as fit on the page
abbrev pub columns_for : ℕ → ℕ → ℕ
columns_for s zero = 210 / (s + 14)
columns_for s (suc c) = suc c

abbrev pub fitted : Sheet → Sheet
fitted o = with_columns (columns_for o.size o.columns) o

-- the words may end where a wish may stand, or behind one number
abbrev pub EndsWith : Awaits → Sheet → Sheet → Type 0
EndsWith A.First o q = ⊥
EndsWith A.Second o q = q ≡ fitted (one_number o)
EndsWith A.Third o q = ⊥
EndsWith A.Fourth o q = ⊥
EndsWith A.Wish o q = q ≡ fitted o
EndsWith A.Size o q = ⊥
EndsWith A.Columns o q = ⊥
EndsWith A.Wrong o q = ⊥

abbrev pub SheetAsked : List (List ℕ) → Sheet → Type 0
SheetAsked us q = let a = asked us nothing_asked in EndsWith a.awaits a.sheet q
