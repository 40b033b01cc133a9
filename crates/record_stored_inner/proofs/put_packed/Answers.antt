-- `record_stored_inner::put_packed` meets its contract: the home reading stands at the front of the array, and is packed from there.
use Rattle.record_stored_inner.proofs.Stored.{pack-asks}
use Rattle.record_stored_inner.proofs.put_packed.Goals as goal

pub pack_into-requires : goal.pack_into-requires
pack_into-requires c =
    pack-asks c.args.reading.now c.args.k _ _ _ c.requires.0 c.width_of.ensures.width c.put_home.ensures c.requires.1
