-- Whether another read follows.
--     goes-less     where it goes on, another read can be counted
use Rattle.words.proofs.Plain.{ℕ, ◌<◌, sym, Bool, true, false, false≢true}
use Rattle.program_reading_inner.specs.declared.Got.{Got}
use Rattle.program_reading_inner.specs.declared.Got.TheVariants.{Bytes, Over, Failed}
use Rattle.stream_steps_inner.specs.Says.{GoesOn}

-- where it goes on
pub goes-less : (wrote : Bool) (got : Got) (reads : ℕ) → GoesOn wrote got reads true → reads < 18446744073709551615
goes-less true (Bytes n) reads h = h
goes-less true Over reads h = absurd (false≢true (sym h))
goes-less true Failed reads h = absurd (false≢true (sym h))
goes-less false got reads h = absurd (false≢true (sym h))
