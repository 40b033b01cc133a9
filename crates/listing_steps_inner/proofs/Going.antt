-- Where another page follows, this one has bytes.
use Rattle.words.proofs.Plain.{ℕ, ◌<◌, ◌≡◌, Bool, true, false, false≢true, ltb-true}
use Rattle.listing_steps_inner.specs.Says.{goes_on}

pub goes-bytes : (wrote : Bool) (m : ℕ) → goes_on wrote m ≡ true → 0 < m
goes-bytes true m e = ltb-true 0 m e
goes-bytes false m e = absurd (false≢true e)
