-- `home::same_ring` meets its contract: what the check answers, or else whether the readings turned by their shifts are the same.
use Rattle.words.proofs.Needs.{arith, ◌∙◌, sym}
use Rattle.home.proofs.Answers.{shift_fits, same-turned}
use Rattle.home.proofs.same_ring.Goals as goal

pub same_turns-requires : goal.same_turns-requires
same_turns-requires c =
    omega (
      arith,
      (rw c.in-Ok.is at c.check_pair.ensures),
      shift_fits _ _ (omega (arith, (rw c.in-Ok.is at c.check_pair.ensures))) c.least_shift-i.ensures,
      shift_fits _ _ (omega (arith, (rw c.in-Ok.is at c.check_pair.ensures))) c.least_shift-j.ensures,
    )

pub returns-in-Ok : goal.returns-in-Ok
returns-in-Ok c = ((rw c.in-Ok.is at c.check_pair.ensures), sym (same-turned _ _ _ _ c.least_shift-i.ensures c.least_shift-j.ensures) ∙ sym c.same_turns.ensures)
