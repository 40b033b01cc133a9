-- `files_records_end_inner::finish` meets its contract: the end is told where the block is the last.
use Rattle.words.proofs.Needs.{refl}
use Rattle.files_records_end_inner.proofs.Ends.{finish-over, finish-on}
use Rattle.files_records_end_inner.proofs.finish.Goals as goal

pub returns-then-last : goal.returns-then-last
returns-then-last c =
    finish-over c.args.job c.args.place c.args.used c.args.last c.args.out.now c.args.len _ _ c.if-last.true refl refl refl c.place_end-e.ensures

pub returns : goal.returns
returns c = finish-on c.args.job c.args.place c.args.used c.args.last c.args.out.now c.args.len _ _ c.if-last.false refl refl refl refl refl
