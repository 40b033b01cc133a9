-- `desk_card_inner::one_asked` meets its contract.
use Rattle.words.proofs.Needs.{refl}
use Rattle.std.specs.Prelude.{Ok, Err}
use Rattle.desk_texts_inner.proofs.Putting.{put-shown, shown-refused}
use Rattle.desk_sector_inner.proofs.Numbers.{numbered-read}
use Rattle.desk_card_inner.proofs.Values.{answered-one}
use Rattle.desk_card_inner.proofs.one_asked.Goals as goal

pub returns-in_err-a : goal.returns-in_err-a
returns-in_err-a c =
    answered-one c.args.k c.args.xs.now c.requires.xs_len _ _ _ _ (shown-refused _ _ (Err _) _ c.in_err-a.ensures refl _ c.from_residual.ensures.1 _ c.args.at)

pub place_sector-requires : goal.place_sector-requires
place_sector-requires c = record { own_bits = numbered-read _ _ _ _ c.in_ok-a.ensures; desk_room_in_bounds = c.requires.desk_room_in_bounds }

pub returns : goal.returns
returns c =
    answered-one c.args.k c.args.xs.now c.requires.xs_len _ _ (Ok _) _ (put-shown _ _ (Ok _) c.in_ok-a.ensures _ _ _ _ c.place_sector.ensures)
