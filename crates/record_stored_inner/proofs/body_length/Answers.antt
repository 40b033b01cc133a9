-- `record_stored_inner::body_length` meets its contract: a packed record has at most one byte a sector.
use Rattle.words.proofs.Needs.{arith}
use Rattle.record_spec.specs.declared.Kind.TheVariants.{Packed}
use Rattle.record_spec.proofs.Forms.{few_bytes}
use Rattle.record_stored_inner.proofs.Stored.{length-told}
use Rattle.record_stored_inner.proofs.body_length.Goals as goal

pub returns-in-Packed-clause-few : goal.returns-in-Packed-clause-few
returns-in-Packed-clause-few c =
    omega (
      arith,
      length-told c.args.n c.args.k _ _ c.width_of.ensures.width c.packed_length.ensures,
      few_bytes c.args.n c.args.k Packed c.requires.1,
      c.requires.0.1,
    )
