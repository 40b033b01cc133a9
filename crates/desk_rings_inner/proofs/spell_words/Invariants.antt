-- `desk_rings_inner::spell_words` meets its contract: up to place i the words are spelt, and c sectors of the word under way.
use Rattle.words.proofs.Needs.{◌≤◌, ◌≡◌, length}
use Rattle.desk_rings_inner.proofs.Upto.{Upto}
use Rattle.desk_rings_inner.proofs.spell_words.Given as goal

abbrev pub invariant-loop-a : goal.invariant-loop-a
invariant-loop-a l = (length l.u ≤ length l.out) × (length l.out ≡ length l.initial.out) × Upto l.u l.out l.a-index l.m l.c
