-- Lines and inputs worked out by hand: antt computes each.
--     a-ring, no-ring       the sectors of two lines, of which the second has a letter that is no digit
--     no-reading            what the second prints
--     two-rings             an input that asks for rings of one's own, its second line without a newline behind it
use Rattle.words.proofs.Plain.{ℕ, ◌<◌, arith, ◌≡◌, refl, sym, ap, ◌∙◌, inl, not, false≢true, List, [], ◌∷◌, eqb, get_or, eq-eqb}
use Rattle.words.specs.{Order.same, Search.all_below, Search.least}
use Rattle.words.proofs.Search.{all-at}
use Rattle.text_spec.specs.{Ascii.ascii, Decimal.decimal, Decimal.decimal_in}
use Rattle.text_words_spec.specs.Words.{pieces, onto, PieceAt}
use Rattle.stream_spec.specs.Lines.{ended, under, last_of, lines_from, lines}
use Rattle.text_fill_spec.specs.Filled.{filled_text}
use Rattle.refusal.specs.declared.Refusal.TheVariants.{Line}
use Rattle.picture_spec.specs.declared.Tone.TheVariants.{Managed}
use Rattle.sheet_spec.specs.declared.Source.TheVariants as S
use Rattle.sheet_spec.specs.declared.Sheet.{Sheet}
use Rattle.sheet_words_spec.specs.Words.{number_in, number_or_other, word_of, asked}
use Rattle.sheet_print_spec.specs.Prints.{wrong, digit_in, ring_in, OwnPrints, ReadsSheet}

pub a-ring : ring_in (ascii "09af") ≡ 0 ∷ 9 ∷ 10 ∷ 15 ∷ []
unfolding ring_in digit_in least
a-ring = refl

pub no-ring : ring_in (ascii "1G") ≡ 1 ∷ 16 ∷ []
unfolding ring_in digit_in least
no-ring = refl

-- the input, and that its first newline stands at place 9
abbrev input : List ℕ
input = ascii "3 size 30\n0012\n0102"

first-newline : PieceAt 10 input 9
unfolding all_below
first-newline =
    record {
      within = omega arith;
      before = λ i h e. false≢true (sym (ap not (eq-eqb (get_or input i 0) 10 e)) ∙ all-at 9 (λ j. not (eqb (get_or input j 0) 10)) refl i h);
      here = λ h. refl;
    }

pub two-rings : ReadsSheet (ascii "3 size 30\n0012\n0102")
    (record { n = 0; k = 3; d = 0; wanted = 0; source = S.Own; tone = Managed; size = 30; columns = 4 }, ascii "0012" ∷ ascii "0102" ∷ [])
unfolding asked word_of number_or_other number_in same least decimal decimal_in pieces onto lines lines_from ended under last_of
two-rings = record { at = 9; ends = first-newline; line = refl; behind = refl; alone = λ h. absurd (h refl) }

-- a line that spells no ring
pub no-reading : (o : Sheet) → OwnPrints o (ascii "1G" ∷ []) (ascii "refused 11 at 0 in line 1\n")
unfolding ring_in digit_in least filled_text decimal decimal_in
no-reading o = wrong 0 (omega arith) (λ i h. absurd (omega arith)) Line (inl (refl, λ s. let h : 16 < 16 = s.below 1 (omega arith) in omega arith)) refl
