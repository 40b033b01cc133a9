-- Counting the cuts one by one.
--     none-counted     before the first cut, none is counted
--     one-counted      a cut that is not above x counts, and one above x does not
use Rattle.words.proofs.Plain.{ℕ, zero, suc, ◌+◌, ◌-◌, ◌<◌, arith, ◌≡◌, refl, Bool}
use lib.Ieee.{Float, le}
use Rattle.words.specs.Readings.{bit}
use Rattle.density_spec.specs.{declared.Card.Card, Cuts.cut, Cuts.cuts_up_to}

pub none-counted : (c : Card) (k : ℕ) (x : Float) → cuts_up_to c k x 0 ≡ 0
unfolding cuts_up_to
none-counted c k x = refl

pub one-counted : (c : Card) (k : ℕ) (x : Float) (j : ℕ) (b : Bool) → 0 < j → le (cut c k j) x ≡ b → cuts_up_to c k x (j + 1 - 1) ≡ cuts_up_to c k x (j - 1) + bit b
unfolding cuts_up_to
one-counted c k x zero b h e = absurd (omega arith)
one-counted c k x (suc i) b h e =
    let up : suc i + 1 - 1 ≡ suc i = omega arith in
    let down : suc i - 1 ≡ i = omega arith in
    rw up (rw down (rw e refl))
