-- `desk_about_inner::ask_about` meets its contract.
use Rattle.words.proofs.Needs.{arith, ap, ◌∙◌, sym, not-true, not-false}
use Rattle.desk_texts_inner.proofs.Putting.{put-good, put-bad}
use Rattle.desk_spec.specs.Answers.{blank}
use Rattle.desk_about_inner.proofs.ask_about.Goals as goal

pub returns-then-not-spell : goal.returns-then-not-spell
returns-then-not-spell c =
    put-bad _ _ (rw (not-true c.spell.result
    c.if-not-spell.true-raw) at c.spell.ensures) _

pub answer_about-requires : goal.answer_about-requires
answer_about-requires c =
    let l = c.spell.auto.out ∙ c.requires.w_len in
    record {
      w_len_bound = omega (arith, l, c.requires.t_len_bound);
      out_value = c.requires.out_value ∙ ap blank (sym l);
      desk_room_in_bounds = c.requires.desk_room_in_bounds;
    }

pub returns : goal.returns
returns c =
    put-good _ _ _ _ _ _ _ (rw (not-false c.spell.result
    c.if-not-spell.false-raw) at c.spell.ensures)
    c.answer_about.ensures
