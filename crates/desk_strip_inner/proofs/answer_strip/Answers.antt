-- `desk_strip_inner::answer_strip` meets its contract.
use Rattle.words.proofs.Needs.{ℕ, ◌^◌, arith, refl, inl, List, length-take}
use Rattle.std.specs.Prelude.{Result, Err}
use Rattle.refusal.specs.declared.Refusal.{Refusal}
use Rattle.strip_spec.specs.Says.{StripSays}
use Rattle.desk_spec.specs.{Texts.strip_text, Answers.blank}
use Rattle.desk_texts_inner.proofs.Putting.{shown-refused}
use Rattle.desk_strip_inner.proofs.Outputs.{strip-room}
use Rattle.desk_strip_inner.proofs.answer_strip.Goals as goal

pub returns-in_err-plan_numbers : goal.returns-in_err-plan_numbers
returns-in_err-plan_numbers c =
    shown-refused {A = Result Unit Refusal × List ℕ} (λ x. StripSays c.args.n c.args.k (blank (c.args.k ^ c.args.n)) x.0 x.1) (λ x. strip_text x.0 x.1)
    (Err _, blank (c.args.k ^ c.args.n)) _ (inl c.in_err-plan_numbers.ensures, refl) refl _ c.from_residual.ensures.1 _ c.args.at

pub power-m-requires : goal.power-m-requires
power-m-requires c =
    let l = c.in_ok-plan_numbers.ensures.2 in record { k_nonzero = omega (arith, l.shaded.0); e_bound = omega (arith, l.few) }

pub slice_bounds-answer_whole-end : goal.slice_bounds-answer_whole-end
slice_bounds-answer_whole-end c = simp length-take (omega (arith, c.power-m.ensures, c.in_ok-plan_numbers.ensures.2.few))

pub answer_whole-requires : goal.answer_whole-requires
answer_whole-requires c =
    let o = strip-room c.args.k c.args.n c.power-m.result c.power-m.ensures c.in_ok-plan_numbers.ensures.2.few in record { out_value = o.0; out_len_bound = o.1; desk_room_in_bounds = c.requires }
