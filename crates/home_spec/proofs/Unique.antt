-- No call has two answers, the lent output included.
--     one-homed       bringing home: one answer, and one output after it
--     one_told        same ring, even-handed, nearer and steady
--     one-distance    apart
--     one-closest     nearest
use Rattle.words.proofs.Plain.{ℕ, ◌≡◌, sym, ap, ◌∙◌, Bool, List, length}
use Rattle.std.specs.Prelude.{Result, Ok, Err}
use Rattle.refusal.specs.{declared.Refusal.Refusal, Order.Checks, Calls.two_readings, Calls.with_room}
use Rattle.refusal.proofs.Unique.{one-refusal, never_both}
use Rattle.home_spec.specs.{declared.Home.Home, declared.Nearest.Nearest}
use Rattle.home_spec.specs.Says.{HomeSays, ToldSays, DistanceSays, ClosestSays}

-- a shift and a period make one answer
abbrev homed : ℕ → ℕ → Home
homed i p = record { shift = i; period = p }

-- a distance and a shift make one answer
abbrev near : ℕ → ℕ → Nearest
near d i = record { distance = d; shift = i }

-- bringing home has one answer, and leaves the output in one way
pub one-homed : (w : List ℕ) (k : ℕ) (b : List ℕ) (x y : Result Home Refusal) (u v : List ℕ) → HomeSays w k b x u → HomeSays w k b y v → (x ≡ y) × (u ≡ v)
one-homed w k b (Ok x) (Ok y) u v s t = (ap Ok (ap (λ i. homed i x.period) (s.turns ∙ sym t.turns) ∙ ap (homed y.shift) (s.repeats ∙ sym t.repeats)), s.ring ∙ sym t.ring)
one-homed w k b (Ok x) (Err r) u v s t = absurd (never_both (with_room w k (length b)) r t.0 s.passed)
one-homed w k b (Err r) (Ok y) u v s t = absurd (never_both (with_room w k (length b)) r s.0 t.passed)
one-homed w k b (Err r) (Err o) u v s t = (ap Err (one-refusal (with_room w k (length b)) r o s.0 t.0), s.1 ∙ sym t.1)

-- a question has one answer
pub one_told : (a : Checks) (b : Bool) (x y : Result Bool Refusal) → ToldSays a b x → ToldSays a b y → x ≡ y
one_told a b (Ok x) (Ok y) s t = ap Ok (sym s.1 ∙ t.1)
one_told a b (Ok x) (Err r) s t = absurd (never_both a r t s.0)
one_told a b (Err r) (Ok y) s t = absurd (never_both a r s t.0)
one_told a b (Err r) (Err o) s t = ap Err (one-refusal a r o s t)

-- two readings have one distance
pub one-distance : (v w : List ℕ) (k : ℕ) (x y : Result ℕ Refusal) → DistanceSays v w k x → DistanceSays v w k y → x ≡ y
one-distance v w k (Ok d) (Ok e) s t = ap Ok (s.1 ∙ sym t.1)
one-distance v w k (Ok d) (Err r) s t = absurd (never_both (two_readings v w k) r t s.0)
one-distance v w k (Err r) (Ok e) s t = absurd (never_both (two_readings v w k) r s t.0)
one-distance v w k (Err r) (Err o) s t = ap Err (one-refusal (two_readings v w k) r o s t)

-- two readings have one distance, and one first turn that comes so near
pub one-closest : (v w : List ℕ) (k : ℕ) (x y : Result Nearest Refusal) → ClosestSays v w k x → ClosestSays v w k y → x ≡ y
one-closest v w k (Ok x) (Ok y) s t = ap Ok (ap (λ d. near d x.shift) (s.1 ∙ sym t.1) ∙ ap (near y.distance) (s.2 ∙ sym t.2))
one-closest v w k (Ok x) (Err r) s t = absurd (never_both (two_readings v w k) r t s.0)
one-closest v w k (Err r) (Ok y) s t = absurd (never_both (two_readings v w k) r s t.0)
one-closest v w k (Err r) (Err o) s t = ap Err (one-refusal (two_readings v w k) r o s t)
