-- `converter_sides_inner::settle` meets its contract: the turn by the shift is the home reading.
use Rattle.words.proofs.Needs.{ℕ, arith, ◌∙◌, sym, ap}
use Rattle.words.specs.Turn.{turn}
use Rattle.ring_home_laws.proofs.Home.{home-turn-of, shift-lt}
use Rattle.converter_sides_inner.proofs.settle.Goals as goal

pub turn_there-requires : goal.turn_there-requires
turn_there-requires c = omega (arith, c.least_shift-i.ensures, shift-lt c.args.a.now c.requires)

pub returns : goal.returns
returns c =
    c.turn_there.ensures ∙ ap (λ (i : ℕ). turn i c.args.a.now) c.least_shift-i.ensures ∙ sym (home-turn-of c.args.a.now)
