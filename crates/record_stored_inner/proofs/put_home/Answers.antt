-- `record_stored_inner::put_home` meets its contract: the turn by the shift is the home reading.
use Rattle.words.proofs.Needs.{ℕ, arith, ◌∙◌, sym, ap}
use Rattle.words.specs.Turn.{turn}
use Rattle.ring_home_laws.proofs.Home.{home-turn-of, shift-lt}
use Rattle.record_stored_inner.proofs.put_home.Goals as goal

pub write_turn-requires : goal.write_turn-requires
write_turn-requires c = (omega (arith, c.least_shift.ensures, shift-lt c.args.reading.now c.requires.0), c.requires.1)

pub returns : goal.returns
returns c =
    c.write_turn.ensures ∙ ap (λ (i : ℕ). turn i c.args.reading.now) c.least_shift.ensures ∙ sym (home-turn-of c.args.reading.now)
