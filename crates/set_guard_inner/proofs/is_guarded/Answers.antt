-- `set_guard_inner::is_guarded` meets its contract: its three tests, of which that of the other side is made with the ring reversed.
use Rattle.words.proofs.Plain.{not-true, not-false}
use Rattle.set_clear_inner.proofs.Clear.{one-good}
use Rattle.set_guard_inner.proofs.Backs.{back-asked, back-pair, not-steady-in, not-sided-in, guarded-in}
use Rattle.set_guard_inner.proofs.is_guarded.Goals as goal

pub is_steady-requires : goal.is_steady-requires
is_steady-requires c = one-good _ _ c.requires.comparable.fit c.requires.comparable.reading

pub returns-then-not-is_steady : goal.returns-then-not-is_steady
returns-then-not-is_steady c =
    not-steady-in c.requires.comparable c.requires.back_value c.args.d c.is_steady.ensures (not-true _ c.if-not-is_steady.true-raw)

pub is_far-requires : goal.is_far-requires
is_far-requires c =
    record {
      passed = (back-pair c.requires.comparable c.requires.back_value).0;
      ca_value = (back-pair c.requires.comparable c.requires.back_value).1.0;
      cb_value = (back-pair c.requires.comparable c.requires.back_value).1.1;
    }

pub returns-then-not-is_far : goal.returns-then-not-is_far
returns-then-not-is_far c =
    not-sided-in c.requires.comparable c.requires.back_value c.args.d c.is_steady.ensures c.is_far.ensures (not-true _ c.if-not-is_far.true-raw)

pub is_clear-requires : goal.is_clear-requires
is_clear-requires c = back-asked c.requires.comparable c.requires.back_value

pub returns : goal.returns
returns c =
    guarded-in c.requires.comparable c.requires.back_value c.args.d c.is_steady.ensures c.is_far.ensures
    (not-false _ c.if-not-is_steady.false-raw) (not-false _ c.if-not-is_far.false-raw) c.is_clear.ensures
