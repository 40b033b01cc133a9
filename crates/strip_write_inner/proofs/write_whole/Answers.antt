-- `strip_write_inner::write_whole` meets its contract. The first n of 64 zeros are the all-zero ring.
use Rattle.words.proofs.Needs.{arith, length-take}
use Rattle.strip_write_inner.proofs.Writing.{zeros-asked, zeros-long}
use Rattle.strip_write_inner.proofs.write_whole.Goals as goal

pub slice_bounds-write_from-end : goal.slice_bounds-write_from-end
slice_bounds-write_from-end c = simp length-take (omega (arith, c.requires.listable.sized.1))

pub write_from-requires : goal.write_from-requires
write_from-requires c =
    record {
      ready_to_step = (zeros-asked 4096 c.args.n c.args.k c.args.out.now c.requires.listable c.requires.out_len).0;
      ring_value = (zeros-asked 4096 c.args.n c.args.k c.args.out.now c.requires.listable c.requires.out_len).1.0;
      out_len = (zeros-asked 4096 c.args.n c.args.k c.args.out.now c.requires.listable c.requires.out_len).1.1;
    }

pub returns : goal.returns
returns c =
    rw (zeros-long c.args.n c.requires.listable.sized.1) at c.write_from.ensures
