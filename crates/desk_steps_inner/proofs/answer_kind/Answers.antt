-- `desk_steps_inner::answer_kind` meets its contract.
use Rattle.words.proofs.Needs.{◌≡◌, refl}
use Rattle.desk_spec.specs.Texts.{step_text}
use Rattle.desk_texts_inner.proofs.Putting.{put-text}
use Rattle.desk_steps_inner.proofs.Steps.{refused}
use Rattle.desk_steps_inner.proofs.answer_kind.Goals as goal

pub returns-in_err-m : goal.returns-in_err-m
returns-in_err-m c =
    refused (λ t. t ≡ step_text c.args.a c.args.ring.now) _ (rw c.in_err-m.was refl) _ c.from_residual.ensures.1 _ c.args.at

pub returns : goal.returns
returns c = put-text (λ t. t ≡ step_text c.args.a c.args.ring.now) _ _ _ _ _ (rw c.in_ok-m.was refl) c.place_outcome.ensures
