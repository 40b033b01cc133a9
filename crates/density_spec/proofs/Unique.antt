-- No call by reflectances has two answers, the lent output included (01, 'What the words of a contract owe us').
--     in-out        a value is not both in and out
--     one_told      a value tells one thing
--     one-sector    one sector
--     one-ring      a ring: one answer, and one output after it
-- A value that is not a number is one value here: its sign and its payload are outside the floats of the logic, and no answer carries it.
use Rattle.words.proofs.Plain.{ℕ, ◌≡◌, refl, sym, ap, ◌∙◌, inl, inr, List, length}
use Rattle.std.specs.Prelude.{Result, Ok, Err}
use lib.Ieee.{Float, ne}
use lib.Ieee as I
use Rattle.words.proofs.Split.{clash}
use Rattle.refusal.specs.declared.Refusal.{Refusal}
use Rattle.refusal.proofs.Unique.{never_both, one-refusal}
use Rattle.density_spec.specs.{declared.Card.Card, declared.Sector.Sector}
use Rattle.density_spec.specs.declared.Sector.TheVariants.{Shade, Outside, NotANumber}
use Rattle.density_spec.specs.Order.{sector_order, ring_order}
use Rattle.density_spec.specs.Cuts.{In, Out, zero32, one32}
use Rattle.density_spec.specs.Says.{ShadeSays, SectorSays, RingSays}

-- a value is not both in and out
pub in-out : (x : Float) → In x → Out x → ⊥
in-out x (p, q, r) (o, inl s) = clash (I.lt x zero32) s q
in-out x (p, q, r) (o, inr s) = clash (I.lt one32 x) s r

-- a value tells one thing
pub one_told : (c : Card) (k : ℕ) (x : Float) (a b : Sector) → ShadeSays c k x a → ShadeSays c k x b → a ≡ b
one_told c k x (Shade s) (Shade t) p q = ap Shade (p.1 ∙ sym q.1)
one_told c k x (Shade s) (Outside y) p q = absurd (in-out x p.0 q.0)
one_told c k x (Shade s) NotANumber p q = clash (ne x x) q p.0.0
one_told c k x (Outside y) (Shade t) p q = absurd (in-out x q.0 p.0)
one_told c k x (Outside y) (Outside z) p q = ap Outside (p.1 ∙ sym q.1)
one_told c k x (Outside y) NotANumber p q = clash (ne x x) q p.0.0
one_told c k x NotANumber (Shade t) p q = clash (ne x x) p q.0.0
one_told c k x NotANumber (Outside z) p q = clash (ne x x) p q.0.0
one_told c k x NotANumber NotANumber p q = refl

pub one-sector : (x : Float) (k : ℕ) (c : Card) (a b : Result Sector Refusal) → SectorSays x k c a → SectorSays x k c b → a ≡ b
one-sector x k c (Ok s) (Ok t) p q = ap Ok (one_told c k x s t p.1 q.1)
one-sector x k c (Ok s) (Err r) p q = absurd (never_both (sector_order k c) r q p.0)
one-sector x k c (Err r) (Ok t) p q = absurd (never_both (sector_order k c) r p q.0)
one-sector x k c (Err r) (Err t) p q = ap Err (one-refusal (sector_order k c) r t p q)

-- ---- a ring

pub one-ring : (xs : List Float) (k : ℕ) (c : Card) (b : List ℕ) (x y : Result Unit Refusal) (u v : List ℕ) → RingSays xs k c b x u → RingSays xs k c b y v → (x ≡ y) × (u ≡ v)
one-ring xs k c b (Ok _) (Ok _) u v p q = (refl, p.1 ∙ sym q.1)
one-ring xs k c b (Ok _) (Err r) u v p q = absurd (never_both (ring_order xs k c (length b)) r q.0 p.0)
one-ring xs k c b (Err r) (Ok _) u v p q = absurd (never_both (ring_order xs k c (length b)) r p.0 q.0)
one-ring xs k c b (Err r) (Err t) u v p q = (ap Err (one-refusal (ring_order xs k c (length b)) r t p.0 q.0), p.1 ∙ sym q.1)
