-- `desk_counted_inner::answer_in` meets its contract.
use Rattle.words.proofs.Needs.{ℕ, refl, subst, List}
use Rattle.std.specs.Prelude.{Ok, Err}
use Rattle.shades_spec.specs.Answers.{NextSays}
use Rattle.desk_texts_inner.proofs.Putting.{put-shown, shown-refused}
use Rattle.desk_counted_inner.proofs.answer_in.Goals as goal

pub returns-in_err-a : goal.returns-in_err-a
returns-in_err-a c =
    shown-refused _ _ (Err _, _) _ (rw c.requires.out_value at c.in_err-a.ensures) refl _ c.from_residual.ensures.1 _ c.args.at

pub returns : goal.returns
returns c =
    let s = subst (λ (o : List ℕ). NextSays c.args.w.now c.args.k c.args.counts.now o (Ok c.in_ok-a.a) c.next_ring.new.out) c.requires.out_value c.in_ok-a.ensures in
    put-shown _ _ (Ok _, _) s _ _ _ _ c.place_next_ring.ensures
