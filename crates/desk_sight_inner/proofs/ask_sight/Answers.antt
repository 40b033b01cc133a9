-- `desk_sight_inner::ask_sight` meets its contract.
use Rattle.words.proofs.Needs.{arith}
use Rattle.desk_texts_inner.proofs.Putting.{put-bad}
use Rattle.desk_sight_inner.proofs.Asking.{put-spelt}
use Rattle.desk_sight_inner.proofs.ask_sight.Goals as goal

pub returns-in_default : goal.returns-in_default
returns-in_default c = put-bad _ _ c.in_default.ensures _

pub overflow_sub-m : goal.overflow_sub-m
overflow_sub-m c = omega (arith, c.in-Some.ensures.order)

pub answer_sight-requires : goal.answer_sight-requires
answer_sight-requires c =
    record { l_le_m = c.in-Some.ensures.order; m_in_bounds = c.in-Some.ensures.room; desk_room_in_bounds = c.requires.desk_room_in_bounds }

pub returns : goal.returns
returns c =
    put-spelt _ _ _ _ _ _ c.in-Some.ensures c.each_long-alike.result c.each_long-alike.ensures _ _ _ _ c.answer_sight.ensures
