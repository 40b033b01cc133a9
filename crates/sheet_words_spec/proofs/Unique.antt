-- Words ask for one sheet.
--     one-sheet
use Rattle.words.proofs.Plain.{ℕ, ◌≡◌, sym, ◌∙◌, List}
use Rattle.sheet_spec.specs.declared.Sheet.{Sheet}
use Rattle.sheet_words_spec.specs.declared.Awaits.{Awaits}
use Rattle.sheet_words_spec.specs.declared.Awaits.TheVariants as A
use Rattle.sheet_words_spec.specs.Words.{nothing_asked, asked, EndsWith, SheetAsked}

one_end : (a : Awaits) (o p q : Sheet) → EndsWith a o p → EndsWith a o q → p ≡ q
one_end A.First o p q x y = absurd x
one_end A.Second o p q x y = x ∙ sym y
one_end A.Third o p q x y = absurd x
one_end A.Fourth o p q x y = absurd x
one_end A.Wish o p q x y = x ∙ sym y
one_end A.Size o p q x y = absurd x
one_end A.Columns o p q x y = absurd x
one_end A.Wrong o p q x y = absurd x

pub one-sheet : (us : List (List ℕ)) (p q : Sheet) → SheetAsked us p → SheetAsked us q → p ≡ q
one-sheet us p q x y = let a = asked us nothing_asked in one_end a.awaits a.sheet p q x y
