-- `desk_steps_inner::step_asked` meets its contract.
use Rattle.desk_steps_inner.proofs.Steps.{step-shown}
use Rattle.desk_steps_inner.proofs.step_asked.Goals as goal

pub returns-in-Necklace : goal.returns-in-Necklace
returns-in-Necklace c =
    rw c.in-Necklace.is (step-shown _ _ _ _ _ _ c.requires.out_value c.next_necklace-a.ensures _ _ _ _ c.answer_kind.ensures)

pub returns-in-Lyndon : goal.returns-in-Lyndon
returns-in-Lyndon c =
    rw c.in-Lyndon.is (step-shown _ _ _ _ _ _ c.requires.out_value c.next_lyndon-a.ensures _ _ _ _ c.answer_kind-in-Lyndon.ensures)

pub returns-in-Prenecklace : goal.returns-in-Prenecklace
returns-in-Prenecklace c =
    rw c.in-Prenecklace.is (step-shown _ _ _ _ _ _ c.requires.out_value c.next_prenecklace-a.ensures _ _ _ _ c.answer_kind-in-Prenecklace.ensures)
