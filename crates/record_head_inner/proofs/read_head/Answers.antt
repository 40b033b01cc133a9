-- `record_head_inner::read_head` meets its contract: a record is refused as what stands behind its mark is.
use Rattle.words.proofs.Needs.{refl}
use Rattle.refusal.proofs.Handed.{handed_on}
use Rattle.record_spec.proofs.Forms.{behind-given}
use Rattle.record_head_inner.proofs.read_head.Goals as goal

pub returns-in_err-check_behind : goal.returns-in_err-check_behind
returns-in_err-check_behind c =
    rw (handed_on _ c.from_residual-in_err-check_behind.ensures.1)
    (behind-given c.in_ok-kind.kind c.args.rest.now c.args.start c.in_ok-kind.ensures _ c.if-rest-lt-HEAD.false c.in_err-check_behind.ensures, refl)
