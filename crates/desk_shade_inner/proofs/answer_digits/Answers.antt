-- `desk_shade_inner::answer_digits` meets its contract.
use Rattle.words.proofs.Needs.{◌/◌, arith, ◌≡◌, refl, subst, List, length, length-take}
use Rattle.desk_texts_inner.proofs.Putting.{answered-on}
use Rattle.desk_spec.specs.Answers.{ShadesSays}
use lib.Ieee.{Float}
use Rattle.desk_shade_inner.proofs.Eights.{floats-all}
use Rattle.desk_shade_inner.proofs.answer_digits.Goals as goal

pub answer_shades-requires : goal.answer_shades-requires
answer_shades-requires c =
    record {
      in_bounds = rw c.write_floats.auto.out (simp length-take (omega (arith, c.requires.in_bounds, c.requires.s_len_bound)));
      xs_len_bound = rw c.write_floats.auto.out (simp length-take (omega (arith, c.requires.s_len_bound)));
      desk_room_in_bounds = c.requires.desk_room_in_bounds;
    }

pub returns : goal.returns
returns c =
    let l : length c.write_floats.new.out ≡ length c.args.s.now / 8 = rw c.write_floats.auto.out (simp length-take (omega (arith, c.requires.s_len_bound))) in
    let e = floats-all c.args.s.now _ _ l c.write_floats.ensures refl in
    answered-on _ _ (λ t z. subst (λ (xs : List Float). ShadesSays c.args.k xs t) e z) _ _ _ _ c.answer_shades.ensures
