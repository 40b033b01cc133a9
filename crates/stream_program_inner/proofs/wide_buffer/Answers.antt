-- `stream_program_inner::wide_buffer` meets its contract, by the law of so many zeros: they are not counted.
use Rattle.words.proofs.Plain.{ℕ, sym, length-replicate}
use Rattle.stream_program_inner.proofs.wide_buffer.Goals as goal

pub returns : goal.returns
returns c = sym (length-replicate {A = ℕ} 1048576 0)
