-- `program_ending_inner::place_ending` meets its contract: each text has room, and is the one of its case.
use Rattle.words.proofs.Needs.{rules}
use Rattle.words.proofs.Needs.{◌<◌, ◌^◌, arith}
use Rattle.text_spec.specs.Ascii.{ascii}
use Rattle.text_spec.proofs.{Digits.length-decimal, Put.length_two, Put.placed-none}
use Rattle.program_ending_inner.specs.declared.Ending.TheVariants.{Whole, Refused, Unread, Unwritten, TooLong, NoFile, Lost, Changed}
use Rattle.program_ending_inner.specs.Text.{ending_text}
use Rattle.program_ending_inner.proofs.Unique.{said-as}
use Rattle.program_ending_inner.proofs.place_ending.Goals as goal

pub place_two-requires : goal.place_two-requires
place_two-requires c =
    let x : c.in-Refused.x < 10 ^ 20 = search rules in
    let y : c.in-Refused.p < 10 ^ 20 = search rules in
    let l = length_two (ascii "refused ") c.in-Refused.x (ascii " at ") c.in-Refused.p in
    let m = length_two (ascii "refused ") c.in-Refused.p (ascii " at ") c.in-Refused.x in
    omega (arith, c.requires, l, m, length-decimal 19 c.in-Refused.x x, length-decimal 19 c.in-Refused.p y)

pub returns-in-Whole : goal.returns-in-Whole
unfolding ending_text
returns-in-Whole c = said-as _ Whole _ _ _ c.in-Whole.is (omega arith) (placed-none _ _)

pub returns-in-Refused : goal.returns-in-Refused
unfolding ending_text
returns-in-Refused c =
    let x : c.in-Refused.x < 10 ^ 20 = search rules in
    let y : c.in-Refused.p < 10 ^ 20 = search rules in
    let l = length_two (ascii "refused ") c.in-Refused.x (ascii " at ") c.in-Refused.p in
    said-as _ (Refused c.in-Refused.x c.in-Refused.p) _ _ _ c.in-Refused.is (omega (arith, l, length-decimal 19 c.in-Refused.x x, length-decimal 19 c.in-Refused.p y)) c.place_two.ensures

pub returns-in-Unread : goal.returns-in-Unread
unfolding ending_text
returns-in-Unread c = said-as _ Unread _ _ _ c.in-Unread.is (omega arith) c.place_text.ensures

pub returns-in-Unwritten : goal.returns-in-Unwritten
unfolding ending_text
returns-in-Unwritten c = said-as _ Unwritten _ _ _ c.in-Unwritten.is (omega arith) c.place_text-in-Unwritten.ensures

pub returns-in-TooLong : goal.returns-in-TooLong
unfolding ending_text
returns-in-TooLong c = said-as _ TooLong _ _ _ c.in-TooLong.is (omega arith) c.place_text-in-TooLong.ensures

pub returns-in-NoFile : goal.returns-in-NoFile
unfolding ending_text
returns-in-NoFile c = said-as _ NoFile _ _ _ c.in-NoFile.is (omega arith) c.place_text-in-NoFile.ensures

pub returns-in-Lost : goal.returns-in-Lost
unfolding ending_text
returns-in-Lost c = said-as _ Lost _ _ _ c.in-Lost.is (omega arith) c.place_text-in-Lost.ensures

pub returns-in-Changed : goal.returns-in-Changed
unfolding ending_text
returns-in-Changed c = said-as _ Changed _ _ _ c.in-Changed.is (omega arith) c.place_text-in-Changed.ensures
