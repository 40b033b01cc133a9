-- `desk_first_inner::first_asked` meets its contract.
use Rattle.words.proofs.Needs.{arith, length-take}
use Rattle.desk_texts_inner.proofs.Putting.{answered-on}
use Rattle.desk_first_inner.proofs.Sums.{first-within}
use Rattle.desk_first_inner.proofs.first_asked.Goals as goal

pub slice_bounds-out-end : goal.slice_bounds-out-end
slice_bounds-out-end c = omega (arith, c.sum_within-n.ensures.most)

pub slice_bounds-answer_in-end : goal.slice_bounds-answer_in-end
slice_bounds-answer_in-end c = simp length-take (omega (arith, c.sum_within-n.ensures.most))

pub answer_in-requires : goal.answer_in-requires
answer_in-requires c = record { out_len_bound = simp length-take (omega (arith, c.sum_within-n.ensures.most)); desk_room_in_bounds = c.requires }

pub returns : goal.returns
returns c =
    answered-on _ _ (first-within c.args.k c.args.counts.now c.sum_within-n.result c.sum_within-n.ensures) _ _ _ _ c.answer_in.ensures
