-- `report_answers_inner::place_answer` meets its contract.
use Rattle.words.proofs.Needs.{arith}
use Rattle.text_spec.proofs.Put.{placed-length}
use Rattle.report_answers_inner.proofs.Placing.{refusal-fits, answer-refused, accepted-few, answer-counted}
use Rattle.report_answers_inner.proofs.place_answer.Goals as goal

pub place_refusal-requires : goal.place_refusal-requires
place_refusal-requires c =
    refusal-fits _ c.args.line.now c.plan_line.result c.plan_line.ensures
    c.in-Err.r c.in-Err.is _ _ c.requires

pub place_numbers-requires : goal.place_numbers-requires
place_numbers-requires c = record {
  listable = accepted-few _ c.args.line.now c.plan_line.result c.plan_line.ensures
      c.in-Ok.k c.in-Ok.n c.in-Ok.is (omega arith);
  line_room_in_bounds = c.requires;
}

pub shape_of-buf-in-Err : goal.shape_of-buf-in-Err
shape_of-buf-in-Err c = placed-length _ _ _ _ _ c.place_refusal.ensures

pub returns-in-Err : goal.returns-in-Err
returns-in-Err c =
    answer-refused c.args.line.now c.plan_line.result c.plan_line.ensures c.in-Err.r c.in-Err.is _ _ _ _
    c.place_refusal.ensures

pub shape_of-buf-in-Ok : goal.shape_of-buf-in-Ok
shape_of-buf-in-Ok c = placed-length _ _ _ _ _ c.place_numbers.ensures

pub returns-in-Ok : goal.returns-in-Ok
returns-in-Ok c =
    answer-counted c.args.line.now c.plan_line.result c.plan_line.ensures c.in-Ok.k c.in-Ok.n c.in-Ok.is _ _ _ _
    c.place_numbers.ensures
