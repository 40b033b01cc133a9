-- Places, and the record that a block cuts.
--     number-moved                 a refusal that is moved keeps its number
--     damage-moved                 the damage of bytes that stand p further on is moved by p
--     damage-placed                a refusal's place lies in the bytes that are refused, and moves with them
--     Torn a s q                   the records of a, which begins at s, are good up to q, and there stands the beginning of one more
--     damage-torn                  Cut at q is that
--     begun-short                  the beginning of a record has less than 68 bytes
use Rattle.words.proofs.Plain.{ℕ, ◌+◌, ◌-◌, ◌<◌, ◌≤◌, arith, ◌≡◌, refl, sym, ap, ◌∙◌, inl, inr, List, length, get_or, take, drop, length-drop}
use Rattle.words.proofs.Plain.{length-take, get_or-take, take-take, drop-drop}
use Rattle.words.proofs.Split.{lt, eq, gt, tri}
use Rattle.refusal.specs.{declared.Refusal.Refusal, Numbers.number_of, Numbers.place_of, Order.Given}
use Rattle.refusal.specs.declared.Refusal.TheVariants as R
use Rattle.record_spec.specs.declared.Kind.TheVariants.{Front}
use Rattle.record_spec.specs.Layout.{n_of, k_of, body_of, sectors_of}
use Rattle.record_spec.specs.Order.{After7, After9, body_order, behind_order}
use Rattle.ring_laws.proofs.Classes.{look-within}
use Rattle.record_spec.proofs.{Only.drop-take, Laws.length-sectors}
use Rattle.converter_spec.specs.{Sides.Side, Sides.SideMarked, Reads.old_order, Converts.Sound, Converts.Damaged}
use Rattle.converter_spec.specs.{Converts.Sound.ended, Converts.Sound.more, Converts.Damaged.here, Converts.Damaged.later}
use Rattle.converter_blocks_spec.specs.Passes.{moved}

-- ---- places

pub number-moved : (p : ℕ) (r : Refusal) → number_of (moved p r) ≡ number_of r
number-moved p (R.Length q) = refl
number-moved p (R.Shades q) = refl
number-moved p (R.Sector q) = refl
number-moved p R.Room = refl
number-moved p (R.OffWalk q) = refl
number-moved p R.Counts = refl
number-moved p (R.Cut q) = refl
number-moved p (R.Mark q) = refl
number-moved p (R.NotHome q) = refl
number-moved p R.Pair = refl
number-moved p R.Line = refl
number-moved p R.TooMany = refl
number-moved p R.Set = refl
number-moved p R.Card = refl
number-moved p (R.Unreadable q) = refl
number-moved p (R.Retired q) = refl
number-moved p (R.Padding q) = refl

-- i further on
at : (p s i : ℕ) → p + (s + i) ≡ p + s + i
at p s i = omega arith

further : (p s i j : ℕ) → p + (s + i + j) ≡ p + s + i + j
further p s i j = omega arith

body-moved : (n k : ℕ) (b : List ℕ) (s p : ℕ) (r : Refusal) → Given (body_order Front n k b s) r → Given (body_order Front n k b (p + s)) (moved p r)
body-moved n k b s p r (inl (inl (i, e, f))) = inl (inl (i, ap (moved p) e ∙ ap R.Sector (further p s 4 i), f))
body-moved n k b s p r (inl (inr (f, (e, g)))) = inl (inr (f, (ap (moved p) e ∙ ap R.Padding (further p s 4 (n - 1)), g)))
body-moved n k b s p r (inr (f, (e, h))) = inr (f, (ap (moved p) e ∙ ap R.NotHome (further p s 4 _), h))

behind_moved : (t : List ℕ) (s p : ℕ) (r : Refusal) → Given (behind_order Front t s) r → Given (behind_order Front t (p + s)) (moved p r)
behind_moved t s p r (inl (inl (inl (e, f)))) = inl (inl (inl (ap (moved p) e ∙ ap R.Length (at p s 2), f)))
behind_moved t s p r (inl (inl (inr (l, (e, f))))) = inl (inl (inr (l, (ap (moved p) e ∙ ap R.Shades (at p s 3), f))))
behind_moved t s p r (inl (inr (l, (e, f)))) = inl (inr (l, (ap (moved p) e, f)))
behind_moved t s p r (inr (l, f)) = inr (l, body-moved _ _ _ s p r f)

pub broken-moved : (t : List ℕ) (s p : ℕ) (r : Refusal) → Given (old_order t s) r → Given (old_order t (p + s)) (moved p r)
broken-moved t s p r (inl (inl (e, l))) = inl (inl (ap (moved p) e, l))
broken-moved t s p r (inl (inr (l, (e, f)))) = inl (inr (l, (ap (moved p) e, f)))
broken-moved t s p r (inr (l, f)) = inr (l, behind_moved t s p r f)

pub damage-moved : (t : List ℕ) (s p : ℕ) (r : Refusal) → Damaged t s r → Damaged t (p + s) (moved p r)
damage-moved t s p r (here l b) = here l (broken-moved t s p r b)
damage-moved t s p r (later x m a d) =
    let e : p + (s + 4 + n_of t) ≡ p + s + 4 + n_of t = omega arith in
    later x m a (rw e at (damage-moved (drop (4 + n_of t) t) (s + 4 + n_of t) p (r) d))

-- ---- where a place lies

-- the refusal names a place in t, which begins at s; and that place moves with it
abbrev pub Placed : List ℕ → ℕ → Refusal → Type 0
Placed t s r = (place_of r < s + length t) × ((p : ℕ) → place_of (moved p r) ≡ p + place_of r)

body-placed : (t : List ℕ) (s : ℕ) (r : Refusal) → After7 Front t → Given (body_order Front (n_of t) (k_of t) (body_of Front t) s) r → Placed t s r
body-placed t s r l (inl (inl (i, e, f))) = rw e (omega (arith, f.within, length-sectors t l.1, l.1), λ p. refl)
body-placed t s r l (inl (inr (f, (e, g)))) = absurd (g refl)
body-placed t s r l (inr (f, (e, h))) =
    let q = length-sectors t l.1 in
    rw e (omega (arith, look-within (sectors_of t) (omega (arith, q, l.0.0.0)), q, l.1), λ p. refl)

behind-placed : (t : List ℕ) (s : ℕ) (r : Refusal) → 4 ≤ length t → Given (behind_order Front t s) r → Placed t s r
behind-placed t s r l (inl (inl (inl (e, f)))) = rw e (omega arith, λ p. refl)
behind-placed t s r l (inl (inl (inr (g, (e, f))))) = rw e (omega arith, λ p. refl)
behind-placed t s r l (inl (inr (g, (e, f)))) = rw e (omega arith, λ p. refl)
behind-placed t s r l (inr (g, f)) = body-placed t s r g f

broken-placed : (t : List ℕ) (s : ℕ) (r : Refusal) → 0 < length t → Given (old_order t s) r → Placed t s r
broken-placed t s r z (inl (inl (e, l))) = rw e (omega arith, λ p. refl)
broken-placed t s r z (inl (inr (l, (e, f)))) = rw e (omega arith, λ p. refl)
broken-placed t s r z (inr ((l, m), f)) = behind-placed t s r l f

pub damage-placed : (t : List ℕ) (s : ℕ) (r : Refusal) → Damaged t s r → Placed t s r
damage-placed t s r (here l b) = broken-placed t s r l b
damage-placed t s r (later x m a d) =
    let q = damage-placed (drop (4 + n_of t) t) (s + 4 + n_of t) r d in
    (omega (arith, q.0, length-drop (4 + n_of t) t, a.0.1), q.1)

-- ---- Cut

-- another number is no Cut
other : (r : Refusal) (q n : ℕ) → r ≡ R.Cut q → number_of r ≡ n → (n ≡ 7 → ⊥) → ⊥
other r q n e f g = g (sym f ∙ ap number_of e)

-- a number that is not above another is below it
below_of : (a b : ℕ) → (b ≤ a → ⊥) → a < b
below_of a b f = elim (tri a b) [ lt h ↦ h | eq h ↦ absurd (f (omega arith)) | gt h ↦ absurd (f (omega arith)) ]

-- a record that is cut
cut-behind : (t : List ℕ) (s q : ℕ) (r : Refusal) → r ≡ R.Cut q → Given (behind_order Front t s) r → (q ≡ s) × Given (behind_order Front t 0) (R.Cut 0) × (length t < 68)
cut-behind t s q r e (inl (inl (inl (f, g)))) = absurd (other r q 1 e (ap number_of f) (λ z. omega arith))
cut-behind t s q r e (inl (inl (inr (l, (f, g))))) = absurd (other r q 2 e (ap number_of f) (λ z. omega arith))
cut-behind t s q r e (inl (inr (l, (f, g)))) = (ap place_of (sym e ∙ f), inl (inr (l, (refl, g))), omega (arith, below_of (length t) (4 + n_of t) g, l.0.1))
cut-behind t s q r e (inr (l, inl (inl (i, f, g)))) = absurd (other r q 3 e (ap number_of f) (λ z. omega arith))
cut-behind t s q r e (inr (l, inl (inr (g, (f, h))))) = absurd (other r q 17 e (ap number_of f) (λ z. omega arith))
cut-behind t s q r e (inr (l, inr (g, (f, h)))) = absurd (other r q 9 e (ap number_of f) (λ z. omega arith))

pub cut-broken : (t : List ℕ) (s q : ℕ) (r : Refusal) → r ≡ R.Cut q → Given (old_order t s) r → (q ≡ s) × Given (old_order t 0) (R.Cut 0) × (length t < 68)
cut-broken t s q r e (inl (inl (f, l))) = (ap place_of (sym e ∙ f), inl (inl (refl, l)), omega (arith, below_of (length t) 4 l))
cut-broken t s q r e (inl (inr (l, (f, g)))) = absurd (other r q 8 e (ap number_of f) (λ z. omega arith))
cut-broken t s q r e (inr (l, f)) = let w = cut-behind t s q r e f in (w.0, inr (l, w.1), w.2)

pub begun-short : (t : List ℕ) → Given (old_order t 0) (R.Cut 0) → length t < 68
begun-short t h = (cut-broken t 0 0 (R.Cut 0) refl h).2

-- the bytes of a that a good record takes, and any that follow
module _ (a : List ℕ) (g : After9 a) (f : ℕ) where
  abbrev t : List ℕ
  t = take (4 + n_of a + f) a

  byte : (i : ℕ) → i < 4 → get_or t i 0 ≡ get_or a i 0
  byte i h = get_or-take (4 + n_of a + f) a i 0 (omega arith)

  same-n : n_of t ≡ n_of a
  same-n = byte 2 (omega arith)

  same-k : k_of t ≡ k_of a
  same-k = byte 3 (omega arith)

  same_body : sectors_of t ≡ sectors_of a
  same_body =
      let e : 4 + n_of a + f ≡ 4 + (n_of a + f) = omega arith in
      rw (same-n, e, drop-take 4 (n_of a + f) a) (take-take (n_of a) (n_of a + f) (drop 4 a) (omega arith))

  marked-taken : (x : Side) → SideMarked a x → SideMarked t x
  marked-taken x m = rw (byte 0 (omega arith), byte 1 (omega arith)) m

  good-taken : After9 t
  good-taken = (
    ((rw same-n g.0.0.0, rw same-k g.0.0.1), omega (arith, same-n, length-take (4 + n_of a + f) a, g.0.1)),
    ((rw (same_body, same-k) g.1.0.0, refl), rw same_body g.1.1),
  )

  behind : drop (4 + n_of t) t ≡ take f (drop (4 + n_of a) a)
  behind = rw same-n (drop-take (4 + n_of a) f a)

-- the records of a, which begins at s, are good up to q, where one more begins
pub record Torn (a : List ℕ) (s q : ℕ) : Type 0 where
  pub from : ℕ
  pub place : q ≡ s + from
  pub inside : from < length a
  pub sound : Sound (take from a)
  pub rest : Given (old_order (drop from a) 0) (R.Cut 0)

pub damage-torn : (a : List ℕ) (s q : ℕ) (r : Refusal) → r ≡ R.Cut q → Damaged a s r → Torn a s q
damage-torn a s q r e (here l b) =
    let w = cut-broken a s q r e b in
    record { from = 0; place = omega (arith, w.0); inside = l; sound = ended refl; rest = w.1 }
damage-torn a s q r e (later x m g d) =
    let w = damage-torn (drop (4 + n_of a) a) (s + 4 + n_of a) q r e d in
    record {
      from = 4 + n_of a + w.from;
      place = omega (arith, w.place);
      inside = omega (arith, w.inside, length-drop (4 + n_of a) a);
      sound = more {t = take (4 + n_of a + w.from) a} x (marked-taken a g w.from x m) (good-taken a g w.from) (rw (behind a g w.from) w.sound);
      rest = rw (drop-drop w.from (4 + n_of a) a) at w.rest;
    }
