-- Lines worked out by hand: antt computes each.
--     a-guarded-set, a-larger-plain-set, own-rings     what they ask for
--     plain-of-own, three-numbers, five-numbers        what asks for nothing
use Rattle.words.proofs.Plain.{ℕ, ◌≡◌, refl, List, [], ◌∷◌}
use Rattle.words.specs.{Order.same, Search.least}
use Rattle.text_spec.specs.{Ascii.ascii, Decimal.decimal, Decimal.decimal_in}
use Rattle.picture_spec.specs.declared.Tone.TheVariants.{Managed, Levels}
use Rattle.sheet_spec.specs.declared.Sheet.{Sheet}
use Rattle.sheet_spec.specs.declared.Source.TheVariants as S
use Rattle.sheet_words_spec.specs.Words.{number_in, number_or_other, word_of, asked, SheetAsked}

pub a-guarded-set : SheetAsked (ascii "16" ∷ ascii "2" ∷ ascii "3" ∷ ascii "32" ∷ []) (record { n = 16; k = 2; d = 3; wanted = 32; source = S.Guarded; tone = Managed; size = 24; columns = 5 })
unfolding asked word_of number_or_other number_in same least decimal decimal_in
a-guarded-set = refl

pub a-larger-plain-set : SheetAsked (ascii "8" ∷ ascii "2" ∷ ascii "1" ∷ ascii "4" ∷ ascii "size" ∷ ascii "30" ∷ ascii "plain" ∷ ascii "levels" ∷ [])
    (record { n = 8; k = 2; d = 1; wanted = 4; source = S.Plain; tone = Levels; size = 30; columns = 4 })
unfolding asked word_of number_or_other number_in same least decimal decimal_in
a-larger-plain-set = refl

pub own-rings : SheetAsked (ascii "2" ∷ ascii "columns" ∷ ascii "3" ∷ []) (record { n = 0; k = 2; d = 0; wanted = 0; source = S.Own; tone = Managed; size = 24; columns = 3 })
unfolding asked word_of number_or_other number_in same least decimal decimal_in
own-rings = refl

-- the plain choice is one of sets, and neither two numbers nor three are a sheet
pub plain-of-own : (o : Sheet) → SheetAsked (ascii "2" ∷ ascii "plain" ∷ []) o → ⊥
unfolding asked word_of number_or_other number_in same least decimal decimal_in
plain-of-own o x = x

pub three-numbers : (o : Sheet) → SheetAsked (ascii "8" ∷ ascii "2" ∷ ascii "1" ∷ ascii "levels" ∷ []) o → ⊥
unfolding asked word_of number_or_other number_in same least decimal decimal_in
three-numbers o x = x

-- nor are five
pub five-numbers : (o : Sheet) → SheetAsked (ascii "8" ∷ ascii "2" ∷ ascii "1" ∷ ascii "4" ∷ ascii "4" ∷ []) o → ⊥
unfolding asked word_of number_or_other number_in same least decimal decimal_in
five-numbers o x = x
