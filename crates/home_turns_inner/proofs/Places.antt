-- Turns, place by place.
--     sector-around                                     a turn's sector stands in the reading at the place around
use Rattle.words.proofs.Plain.{ℕ, ◌+◌, ◌<◌, ◌≤◌, arith, ◌≡◌, sym, List, length, get_or}
use Rattle.words.specs.Turn.{turn}
use Rattle.words.proofs.Split.{lt, eq, gt, tri}
use Rattle.words.proofs.Turn.{turn_low, turn-high}
use Rattle.home_turns_inner.specs.Around.{Around}

-- the sector at place m of a turn by i stands in the reading at the place i + m, wrapped once
pub sector-around : (w : List ℕ) (i m r : ℕ) → i ≤ length w → m < length w → Around (length w) i m r → get_or w r 0 ≡ get_or (turn i w) m 0
sector-around w i m r h l a =
    elim (tri (i + m) (length w)) [
      | lt e ↦ sym (turn_low i w m r (a.low e) a.inside)
      | eq e ↦ sym (turn-high i w h m r (a.high (omega arith)) l)
      | gt e ↦ sym (turn-high i w h m r (a.high (omega arith)) l)
    ]
