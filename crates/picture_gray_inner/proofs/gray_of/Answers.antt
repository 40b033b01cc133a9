-- `picture_gray_inner::gray_of` meets its contract.
use Rattle.picture_gray_inner.proofs.gray_of.Goals as goal

pub returns-in-Managed : goal.returns-in-Managed
returns-in-Managed c = rw c.in-Managed.is c.managed_gray.ensures

pub returns-in-Levels : goal.returns-in-Levels
returns-in-Levels c = rw c.in-Levels.is c.level_gray.ensures
