-- `desk_texts_inner::place_refusal` meets its contract.
use Rattle.desk_texts_inner.proofs.place_refusal.Goals as goal

pub returns : goal.returns
returns c =
    rw (c.number-x.ensures, c.place-p.ensures) at c.place_plain.ensures
