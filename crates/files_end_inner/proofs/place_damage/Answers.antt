-- `files_end_inner::place_damage` meets its contract: the number and the place have room, and are those of the refusal.
use Rattle.words.proofs.Needs.{rules}
use Rattle.words.proofs.Needs.{arith}
use Rattle.files_end_inner.proofs.Placing.{damage-short, damage-read, damage-move}
use Rattle.files_end_inner.proofs.place_damage.Goals as goal

pub place_two-requires : goal.place_two-requires
place_two-requires c =
    omega (
      arith,
      c.requires,
      damage-short c.number-number.result c.place-place.result (search rules) (search rules),
      damage-short c.place-place.result c.number-number.result (search rules) (search rules),
    )

pub returns-in-Read : goal.returns-in-Read
returns-in-Read c =
    damage-read _ _ _ _ _ _ _ _ c.in-Read.is c.number-number.ensures c.place-place.ensures (search rules) (search rules) c.place_two.ensures

pub returns-in-Move : goal.returns-in-Move
returns-in-Move c = damage-move _ _ _ _ c.in-Move.is
