-- What reading promises. How a run ended by it: `program_outcome_inner`.
--     Moved most got         what the system may answer to a read: -1 where it failed, and else how many bytes it gave
--     told_of got             what the system's answer says: -1 that the read failed, 0 that the input is over
--     GotSays r s            some bytes, and no more than the block s has
--     ended_of got at         behind `at` bytes a read that gave none: the input is over, or the read failed
--     MostSays r s           the buffer s is full, or the input ended before it was
--     BeginsWith s line      the buffer `line` holds the beginning of the input s, as much as there is room for
use Rattle.std.specs.Prelude.{ℕ, zero, suc, ◌<◌, ◌≤◌, ◌≡◌, List, length, take, ℤ, pos, negsuc}
use Rattle.program_reading_inner.specs.declared.Got.{Got}
use Rattle.program_reading_inner.specs.declared.Got.TheVariants.{Bytes, Over, Failed}
use Rattle.program_reading_inner.specs.declared.Most.{Most}
use Rattle.program_reading_inner.specs.declared.Most.TheVariants as M

-- what the system may answer to a read into a block of so many bytes: that it failed, or no more bytes than there is room for
abbrev pub Moved : ℕ → ℤ → Type 0
Moved most (negsuc k) = k ≡ 0
Moved most (pos n) = n ≤ most

abbrev pub told_of : ℤ → Got
told_of (negsuc k) = Failed
told_of (pos zero) = Over
told_of (pos (suc k)) = Bytes (suc k)

abbrev pub GotSays : Got → List ℕ → Type 0
GotSays (Bytes n) s = (0 < n) × (n ≤ length s) × (n ≡ length (take n s))
GotSays Over s = Unit
GotSays Failed s = Unit

abbrev pub ended_of : Got → ℕ → Most
ended_of (Bytes n) at = M.Failed
ended_of Over at = M.Ended at
ended_of Failed at = M.Failed

abbrev pub MostSays : Most → List ℕ → Type 0
MostSays M.Full s = Unit
MostSays (M.Ended n) s = n < length s
MostSays M.Failed s = Unit

abbrev pub BeginsWith : List ℕ → List ℕ → Type 0
BeginsWith s line = take (length line) s ≡ line
