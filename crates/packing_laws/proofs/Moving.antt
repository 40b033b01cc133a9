-- Parts of a bits moved into parts of b bits, one part at a time: what the loops that pack (b = 8) and that unpack (a = 8) have in common.
--     Moved a b v i w j h r      i parts of v are taken, j parts of w are written, and h bits are held between: the number r
--     moved-start                nothing is taken yet
--     moved-take                 one more is taken
--     moved-give, give-fits      one more is written; it has b bits
--     grown, fits-set, held-lt   what the loops need too
use Rattle.words.proofs.Plain.{ℕ, suc, ◌+◌, ◌-◌, ◌*◌, ◌/◌, ◌%◌, ◌^◌, ◌<◌, ◌≤◌, add-one, arith, ◌≡◌, refl, sym, List, length, get_or, take, set, take-suc}
use Rattle.words.proofs.Plain.{take-suc-set, get_or-set_same, get_or-set_other}
use native.Mathlib.Nat.{mod-lt, mul-zero, mul-suc, mul_assoc, add-mul}
use lib.Pow.{pow_pos, pow-add, pow_mono, split, shr_lt}
use lib.Arith.{digits_lt}
use Rattle.words.proofs.Split.{lt, eq, gt, tri}
use Rattle.packing_spec.specs.Packing.{as_one}
use Rattle.packing_laws.proofs.AsOne.{as-one-snoc}

-- the written parts, and the held bits behind them, are the taken parts as one number
pub record Moved (a b : ℕ) (v : List ℕ) (i : ℕ) (w : List ℕ) (j h r : ℕ) : Type 0 where
  pub bits : b * j + h ≡ a * i
  pub held : r < 2 ^ h
  pub number : as_one b (take j w) * 2 ^ h + r ≡ as_one a (take i v)
  pub fit : (m : ℕ) → m < j → get_or w m 0 < 2 ^ b

pub moved-start : (a b : ℕ) (v w : List ℕ) → Moved a b v 0 w 0 0 0
unfolding as_one
moved-start a b v w = record { bits = rw (mul-zero a, mul-zero b); held = omega arith; number = refl; fit = λ m l. absurd (omega arith) }

-- a number of h bits behind q, and a bits of x behind it
pub grown : (q h r a x : ℕ) → (q * 2 ^ h + r) * 2 ^ a + x ≡ q * 2 ^ (h + a) + (r * 2 ^ a + x)
grown q h r a x = rw (add-mul (q * 2 ^ h) r (2 ^ a), mul_assoc q (2 ^ h) (2 ^ a), pow-add 2 h a) (omega arith)

pub moved-take : (a b : ℕ) (v : List ℕ) (i : ℕ) (w : List ℕ) (j h r : ℕ) → Moved a b v i w j h r → i < length v → get_or v i 0 < 2 ^ a
    → (t : ℕ) → t ≡ r * 2 ^ a + get_or v i 0 → Moved a b v (i + 1) w j (h + a) t
moved-take a b v i w j h r m l z t q =
    rw (q, add-one i) (record {
      bits = omega (arith, m.bits, mul-suc a i);
      held = rw (pow-add 2 h a) (digits_lt m.held z);
      number =
          rw (take-suc v i 0 l, as-one-snoc a (take i v) (get_or v i 0), sym m.number) (sym (grown (as_one b (take j w)) h r a (get_or v i 0)));
      fit = m.fit;
    })

-- a number of at most 8 bits is a byte
pub held-lt : (r h : ℕ) → r < 2 ^ h → h ≤ 8 → r < 256
held-lt r h l g = omega (arith, pow_mono {i = h} {j = 8} g)

-- one more part of b bits behind j of them
pub fits-set : (b : ℕ) (w : List ℕ) (j x : ℕ) → j < length w → ((m : ℕ) → m < j → get_or w m 0 < 2 ^ b) → x < 2 ^ b → (m : ℕ) → m < suc j → get_or (set w j x) m 0 < 2 ^ b
fits-set b w j x l f z m g =
    elim (tri m j) [ lt q ↦ rw (get_or-set_other w j m x 0 (λ t. omega arith)) (f m q) | eq q ↦ rw (q, get_or-set_same w j x 0 l) z | gt q ↦ absurd (omega arith) ]

module _ (a b : ℕ) (v : List ℕ) (i : ℕ) (w : List ℕ) (j h r : ℕ) (m : Moved a b v i w j h r) (full : b ≤ h) where
  pub give-fits : r / 2 ^ (h - b) < 2 ^ b
  give-fits = let e : h ≡ b + (h - b) = omega arith in shr_lt b (h - b) (rw e at m.held)

  pub moved-give : j < length w → (x t : ℕ) → x ≡ r / 2 ^ (h - b) → t ≡ r % 2 ^ (h - b) → Moved a b v i (set w j x) (j + 1) (h - b) t
  moved-give l x t p q =
      let g = h - b in
      let e : b + g ≡ h = omega arith in
      rw (p, q, add-one j) (record {
        bits = omega (arith, m.bits, mul-suc b j);
        held = mod-lt r (pow_pos g);
        number =
            rw (take-suc-set w j (r / 2 ^ g) l, as-one-snoc b (take j w) (r / 2 ^ g), grown (as_one b (take j w)) b (r / 2 ^ g) g (r % 2 ^ g), split r g, e) m.number;
        fit = fits-set b w j (r / 2 ^ g) l m.fit give-fits;
      })
