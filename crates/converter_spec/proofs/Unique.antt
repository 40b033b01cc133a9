-- Converting a catalogue has one answer, and leaves the lent output in one way.
--     good-broken                      a record that is good is not refused
--     turned-sound                     a catalogue that was converted is not damaged
--     one-turned, one-damage           there is one new catalogue, or one refusal
--     sound-damaged                    and not both
--     one-convert                      no two answers satisfy the contract, the output included
use Rattle.words.proofs.Plain.{ℕ, ◌+◌, arith, ◌≡◌, refl, sym, ap, ◌∙◌, List, [], ◌++◌, length, drop}
use Rattle.refusal.specs.{declared.Refusal.Refusal, Order.Given}
use Rattle.refusal.proofs.Unique.{one-refusal, never_both}
use Rattle.record_spec.specs.{declared.Kind.TheVariants.Front, Order.After9}
use Rattle.record_spec.specs.Layout.{n_of, k_of, sectors_of}
use Rattle.record_spec.proofs.Laid.{bytes}
use Rattle.std.specs.Prelude.{Result, Ok, Err}
use Rattle.converter_spec.specs.Sides.{Side, SideMarked, front_ring}
use Rattle.converter_spec.specs.{Reads.old_order, Converts.Sound.ended, Converts.Sound.more}
use Rattle.converter_spec.specs.Converts.{Sound, Turned, Damaged, Unconverted, ConvertSays}
use Rattle.converter_spec.specs.Converts.Turned.{done, replaced}
use Rattle.converter_spec.specs.Converts.Damaged.{here, later}
use Rattle.converter_spec.specs.Converts.Unconverted.{room, damaged}
use Rattle.converter_spec.proofs.Fronts.{one_side, front_bytes}

-- ---- one record

module _ (t : List ℕ) (s : ℕ) where
  -- it is not refused where it is good
  pub good-broken : (x : Side) (r : Refusal) → SideMarked t x → After9 t → Given (old_order t s) r → ⊥
  good-broken x r k a g = never_both (old_order t s) r g ((omega (arith, a.0.1), (x, k)), a)

-- a good record is not the end
pub some_left : (t : List ℕ) → After9 t → t ≡ [] → ⊥
some_left t a e = let l : length t ≡ 0 = rw e in omega (arith, l, a.0.1)

-- ---- the whole catalogue

-- what was converted is not damaged
pub turned-sound : (t u : List ℕ) → Turned t u → Sound t
turned-sound t u (done e f) = ended e
turned-sound t u (replaced x m a f r) = more x m a (turned-sound (drop (4 + n_of t) t) (drop (4 + n_of t) u) r)

-- there is one new catalogue
pub one-turned : (t u v : List ℕ) → Turned t u → Turned t v → u ≡ v
one-turned t u v (done e f) (done g h) = f ∙ sym h
one-turned t u v (done e f) (replaced x m a g r) = absurd (some_left t a e)
one-turned t u v (replaced x m a f r) (done g h) = absurd (some_left t a g)
one-turned t u v (replaced x m a f r) (replaced y o b g q) =
    front_bytes t a x u f
    ∙ ap (λ (i : Side). bytes Front (n_of t) (k_of t) (front_ring i (sectors_of t)) ++ drop (4 + n_of t) u) (one_side t x y m o)
    ∙ ap (λ (l : List ℕ). bytes Front (n_of t) (k_of t) (front_ring y (sectors_of t)) ++ l) (one-turned (drop (4 + n_of t) t) (drop (4 + n_of t) u) (drop (4 + n_of t) v) r q)
    ∙ sym (front_bytes t b y v g)

-- there is one refusal
pub one-damage : (t : List ℕ) (s : ℕ) (r q : Refusal) → Damaged t s r → Damaged t s q → r ≡ q
one-damage t s r q (here l b) (here m c) = one-refusal (old_order t s) r q b c
one-damage t s r q (here l b) (later x m a d) = absurd (good-broken t s x r m a b)
one-damage t s r q (later x m a d) (here l b) = absurd (good-broken t s x q m a b)
one-damage t s r q (later x m a d) (later y o b e) = one-damage (drop (4 + n_of t) t) (s + 4 + n_of t) r q d e

-- and not both
pub sound-damaged : (t : List ℕ) (s : ℕ) (r : Refusal) → Sound t → Damaged t s r → ⊥
sound-damaged t s r (ended e) (here l b) = let z : length t ≡ 0 = rw e in omega (arith, z)
sound-damaged t s r (ended e) (later x m a d) = some_left t a e
sound-damaged t s r (more x m a g) (here l b) = good-broken t s x r m a b
sound-damaged t s r (more x m a g) (later y o b d) = sound-damaged (drop (4 + n_of t) t) (s + 4 + n_of t) r g d

-- ---- the call

module _ (c : List ℕ) (m : ℕ) where
  one-refused : (r q : Refusal) → Unconverted c m r → Unconverted c m q → r ≡ q
  one-refused r q (room e f) (room g h) = e ∙ sym g
  one-refused r q (room e f) (damaged g d) = absurd (f g)
  one-refused r q (damaged e d) (room g h) = absurd (h e)
  one-refused r q (damaged e d) (damaged g f) = one-damage c 0 r q d f

  never : (u : List ℕ) (r : Refusal) → m ≡ length c → Turned c u → Unconverted c m r → ⊥
  never u r e h (room g f) = f e
  never u r e h (damaged g d) = sound-damaged c 0 r (turned-sound c u h) d

-- one answer, and one output after it
pub one-convert : (c b : List ℕ) (r q : Result Unit Refusal) (d f : List ℕ) → ConvertSays c b r d → ConvertSays c b q f → (r ≡ q) × (d ≡ f)
one-convert c b (Ok _) (Ok _) d f g h = (refl, one-turned c d f g.1 h.1)
one-convert c b (Ok _) (Err q) d f g h = absurd (never c (length b) d q g.0 g.1 h.0)
one-convert c b (Err r) (Ok _) d f g h = absurd (never c (length b) f r h.0 h.1 g.0)
one-convert c b (Err r) (Err q) d f g h = (ap Err (one-refused c (length b) r q g.0 h.0), g.1 ∙ sym h.1)
