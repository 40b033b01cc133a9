-- `walk_record_inner::lay_out` meets its contract: the reading copied over zeros.
use Rattle.word_copy_laws.proofs.Copy.{laid}
use Rattle.walk_record_inner.proofs.lay_out.Goals as goal

-- `walk_record_inner::lay_out` meets its contract: the reading copied over zeros.
pub returns : goal.returns
returns c = laid c.args.s.now _ 64 c.copy.ensures.copied
