-- `record_body_inner::look` meets its contract: what classifying answers. With good numbers only a sector can be refused.
use Rattle.words.proofs.Needs.{◌∙◌, sym}
use Rattle.record_body_inner.proofs.Bodies.{only-sector, looks-away}
use Rattle.ring_laws.proofs.Classes.{necklace-class}
use Rattle.record_body_inner.proofs.look.Goals as goal

pub returns-in-Err : goal.returns-in-Err
returns-in-Err c = rw c.place.ensures (only-sector c.args.sectors.now c.args.k c.requires.0 c.requires.1 c.in-Err.r c.in-Err.ensures)

pub returns-in-Ok : goal.returns-in-Ok
returns-in-Ok c =
    (c.in-Ok.ensures.0.0.0.0.1, sym (necklace-class c.args.sectors.now _ c.in-Ok.ensures.1) ∙ sym c.is_necklace.ensures ∙ c.if-is_necklace.true)

pub returns-in-Ok-2 : goal.returns-in-Ok-2
returns-in-Ok-2 c =
    looks-away c.args.sectors.now c.args.k c.loose_place.result _ c.in-Ok.ensures.0 c.in-Ok.ensures.1 c.loose_place.ensures
    (sym (necklace-class c.args.sectors.now _ c.in-Ok.ensures.1) ∙ sym c.is_necklace.ensures ∙ c.if-is_necklace.false)
