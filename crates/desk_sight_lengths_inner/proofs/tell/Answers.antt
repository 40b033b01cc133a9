-- `desk_sight_lengths_inner::tell` meets its contract.
use Rattle.words.proofs.Needs.{arith, refl, inl, inr}
use Rattle.desk_sight_lengths_inner.proofs.tell.Goals as goal

pub returns-then-alike : goal.returns-then-alike
returns-then-alike c = rw c.if-alike.true c.sight.ensures

pub returns-then-reading-lt1 : goal.returns-then-reading-lt1
returns-then-reading-lt1 c = rw c.if-alike.false (_, inl (refl, λ s. absurd (omega (arith, c.if-reading-lt1.true, s.0))), refl)

pub returns-then-reading-gt-MOST_SECTORS : goal.returns-then-reading-gt-MOST_SECTORS
returns-then-reading-gt-MOST_SECTORS c = rw c.if-alike.false (_, inl (refl, λ s. absurd (omega (arith, c.if-reading-gt-MOST_SECTORS.true, s.1))), refl)

pub returns : goal.returns
returns c = rw c.if-alike.false (_, inr ((omega (arith, c.if-reading-lt1.false), omega (arith, c.if-reading-gt-MOST_SECTORS.false)), (refl, λ z. z)), refl)
