-- `desk_sector_inner::place_sector` meets its contract.
use Rattle.desk_sector_inner.proofs.place_sector.Goals as goal

pub place_outside-requires : goal.place_outside-requires
place_outside-requires c = record { x_value = rw c.in-Outside.is at c.requires.own_bits; desk_room_in_bounds = c.requires.desk_room_in_bounds }

pub returns-in-Shade : goal.returns-in-Shade
returns-in-Shade c =
    rw c.in-Shade.is (rw c.from.ensures at c.place_number.ensures)

pub returns-in-Outside : goal.returns-in-Outside
returns-in-Outside c =
    rw c.in-Outside.is c.place_outside.ensures

pub returns-in-NotANumber : goal.returns-in-NotANumber
returns-in-NotANumber c =
    rw c.in-NotANumber.is c.place_words.ensures
