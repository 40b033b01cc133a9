-- From the checks that passed, and from shifts, to what the calls answer.
--     passed-pair                                    what passed checks give
--     shift_fits                                     the reading can be turned by its shift
--     turned-home, same-turned                       turned by their shifts, readings are home, and of the same ring
--     home-back                                      the output, turned back by the shift that is answered, is the reading
use Rattle.words.proofs.Plain.{ℕ, ◌-◌, ◌<◌, ◌≤◌, arith, ◌≡◌, sym, List, length}
use Rattle.words.specs.{Order.same, Turn.turn}
use Rattle.rings.specs.{Home.home, Home.shift, Alike.same_ring}
use Rattle.ring_home_laws.proofs.Home.{shift-lt, turn-back-home}
use Rattle.refusal.specs.Order.{Passed}
use Rattle.refusal.specs.Calls.{two_readings}
use Rattle.std.specs.Prelude.{Ok}
use Rattle.home_spec.specs.declared.Home.{Home}
use Rattle.home_spec.specs.Says.{HomeSays}

-- ---- what passed checks give

-- two readings that passed are of one length
pub passed-pair : (v w : List ℕ) (k : ℕ) → Passed (two_readings v w k) → length v ≡ length w
passed-pair v w k p = sym p.0.0.0.0.0.1

-- ---- turned by their shifts

-- a reading can be turned by its shift
pub shift_fits : (w : List ℕ) (i : ℕ) → 0 < length w → i ≡ shift w → i ≤ length w
shift_fits w i z e = omega (arith, shift-lt w z)

-- turned by its shift, a reading is home
pub turned-home : (w : List ℕ) (i : ℕ) → i ≡ shift w → turn i w ≡ home w
unfolding home
turned-home w i e = rw e

-- readings turned by their shifts are the same exactly where the ring is
pub same-turned : (v w : List ℕ) (i j : ℕ) → i ≡ shift v → j ≡ shift w → same (turn i v) (turn j w) ≡ same_ring v w
unfolding same_ring
same-turned v w i j p q = rw (turned-home v i p, turned-home w j q)

-- ---- the answer of bringing home

-- turned on from the shift to the length, what bringing home writes is the reading again
pub home-back : (w : List ℕ) (k : ℕ) (b c : List ℕ) (x : Home) → HomeSays w k b (Ok x) c → turn (length w - x.shift) c ≡ w
home-back w k b c x h = rw (h.ring, h.turns) (turn-back-home w h.passed.0.0.0.0.0.0.0)
