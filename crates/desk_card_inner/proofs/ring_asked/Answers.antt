-- `desk_card_inner::ring_asked` meets its contract.
use Rattle.words.proofs.Needs.{refl}
use Rattle.std.specs.Prelude.{Ok, Err}
use Rattle.desk_texts_inner.proofs.Putting.{put-shown, shown-refused}
use Rattle.desk_card_inner.proofs.Values.{answered-several, ring-said}
use Rattle.desk_card_inner.proofs.ring_asked.Goals as goal

pub returns-in_err-ring_shades : goal.returns-in_err-ring_shades
returns-in_err-ring_shades c =
    let s = ring-said c.args.k c.args.xs.now _ c.requires.out_value (Err _) _ c.in_err-ring_shades.ensures in
    answered-several c.args.k c.args.xs.now c.requires.in_bounds _ _ _ _ (shown-refused _ _ (Err _, _) _ s refl _ c.from_residual.ensures.1 _ c.args.at)

pub returns : goal.returns
returns c =
    let s = ring-said c.args.k c.args.xs.now _ c.requires.out_value (Ok _) _ c.in_ok-ring_shades.ensures in
    answered-several c.args.k c.args.xs.now c.requires.in_bounds _ _ (Ok _) _ (put-shown _ _ (Ok _, _) s _ _ _ _ c.place_ring.ensures)
