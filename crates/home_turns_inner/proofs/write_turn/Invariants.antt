-- `home_turns_inner::write_turn` meets its contract. The loop's invariant: the first m sectors are written.
use Rattle.words.specs.Turn.{turn}
use Rattle.word_copy_laws.proofs.Written.{Written}
use Rattle.home_turns_inner.proofs.write_turn.Given as goal

abbrev pub invariant-loop-m : goal.invariant-loop-m
invariant-loop-m l = Written (turn l.i l.s) l.out l.m
