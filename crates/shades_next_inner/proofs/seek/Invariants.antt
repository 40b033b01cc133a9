-- `shades_next_inner::seek` meets its contract. The loop: the next ring above `ring` is that above `start`, and at each turn a place further right is raised:
-- those raised so far are counted by the words that end there (specs/Raised).
use Rattle.words.proofs.Needs.{◌-◌, ◌≡◌, take}
use Rattle.shades_next_inner.proofs.Seeking.{Standing, last_raised}
use Rattle.shades_next_inner.specs.{Raised.raised_to}
use Rattle.shades_raise_inner.specs.Places.{Headed}
use Rattle.shades_next_inner.proofs.seek.Given as goal

abbrev pub invariant-loop-place : goal.invariant-loop-place
invariant-loop-place l =
    Standing l.counts l.n l.k l.initial.ring l.ring (last_raised l.n l.initial.ring l.ring)
    × (l.raised ≡ raised_to (take l.n l.initial.ring) (take l.n l.ring))
    × Headed l.ring l.n l.lyn

abbrev pub decreases-loop-place : goal.decreases-loop-place
decreases-loop-place l = l.n - last_raised l.n l.initial.ring l.ring
