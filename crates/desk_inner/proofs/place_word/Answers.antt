-- `desk_inner::place_word` meets its contract.
use Rattle.words.proofs.Needs.{arith, length-take}
use Rattle.std.specs.Prelude.{Ok}
use Rattle.desk_texts_inner.proofs.Putting.{put-bad}
use Rattle.desk_inner.proofs.Lines.{line-unknown, put-line}
use Rattle.desk_inner.proofs.place_word.Goals as goal

pub slice_bounds-verb_of-end : goal.slice_bounds-verb_of-end
slice_bounds-verb_of-end c = simp length-take (omega (arith, c.requires.e_in_bounds))

pub returns-in_default : goal.returns-in_default
returns-in_default c =
    put-bad _ _ (line-unknown c.args.line.now c.args.e c.requires.piece_at c.verb_of.result c.verb_of.ensures c.in_default.is) _

pub returns : goal.returns
returns c =
    put-line c.args.line.now c.args.e c.requires.piece_at c.requires.line_len_bound c.requires.e_in_bounds c.verb_of.result c.verb_of.ensures c.in-Some.v c.in-Some.is _ _ (Ok _) _ c.place_verb.ensures
