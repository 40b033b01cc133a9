-- What a line prints, by the program.
--     Said kind s text     text is what the line s prints
--     most_of kind          so many first bytes of a line tell
--     room_of kind          no line prints more bytes
-- That they tell: proofs/Telling.
use Rattle.std.specs.Prelude.{ℕ}
use Rattle.stream_spec.specs.Texts.{Relation}
use Rattle.report_spec.specs.Lines as reports
use Rattle.report_spec.specs.Blocks as blocks
use Rattle.desk_spec.specs.Answers as desks
use Rattle.desk_texts_inner.specs.Says.{desk_room}
use Rattle.stream_kind_inner.specs.declared.Kind.{Kind}
use Rattle.stream_kind_inner.specs.declared.Kind.TheVariants.{Count, Desk}

unfoldable pub Said : Kind → Relation
Said Count = reports.Answers
Said Desk = desks.DeskAnswers

abbrev pub most_of : Kind → ℕ
most_of Count = 9
most_of Desk = 4096

abbrev pub room_of : Kind → ℕ
room_of Count = blocks.line_room
room_of Desk = desk_room
