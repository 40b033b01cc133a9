-- What the two forms of a record's sectors have in common: all that the contracts of reading and writing need to know of them. n sectors of k shades, and the bytes b
-- that hold them, in a record of kind x. The facts about packing are those of `packing_laws`, each cited once.
--     length-stored, length-shown      as many bytes as the form has, and as many sectors as were asked for
--     shown-stored                     what is stored is shown as it was
--     stored-shown                     bytes whose unused bits are 0 are stored again as they were
--     clear-stored                     what is stored has no other bits set
--     some_bytes, few_bytes            at least one byte, and at most one a sector
--     byte-within                      the byte of a sector is one of them
--     kind-is, not_back                a known mark tells its kind, and is not the retired one
--     behind-passed, behind-given      under a known mark a record is good, or refused, as what stands behind the mark is
--     good-behind                      a record whose numbers and length are good is good, or refused, as its bytes are
use Rattle.words.proofs.Plain.{ℕ, ◌<◌, ◌≤◌, arith, ◌≡◌, refl, inl, inr, true, List, length}
use Rattle.words.specs.Readings.{Shaded}
use Rattle.refusal.specs.{declared.Refusal.Refusal, Calls.Below}
use Rattle.refusal.specs.Order.{Passed, Given, CheckSays}
use Rattle.std.specs.Prelude.{Result, Ok, Err}
use Rattle.packing_spec.specs.{Width.width, Packing.Bytes}
use Rattle.packing_laws.proofs.Width.{shades-fit, narrow}
use Rattle.packing_laws.proofs.Lengths.{packed-some, packed-le, byte-of-lt}
use Rattle.packing_laws.proofs.Packing.{length-packed, length-unpacked, packed-clear, unpacked-packed, packed-unpacked}
use Rattle.record_spec.specs.{declared.Kind.Kind, declared.Kind.TheVariants.Front, declared.Kind.TheVariants.Packed}
use Rattle.record_spec.specs.Layout.{Marked, MarkedBack, kind_by_mark, body_length, stored, shown, byte_at, is_clear, n_of, k_of, body_of}
use Rattle.record_spec.specs.Order.{record_order, body_order, behind_order, After7, GoodRecord}

-- ---- bytes and sectors

pub length-stored : (x : Kind) (k : ℕ) (v : List ℕ) → length (stored x k v) ≡ body_length x (length v) k
length-stored Front k v = refl
length-stored Packed k v = length-packed (width k) v

pub length-shown : (x : Kind) (n k : ℕ) (b : List ℕ) → length b ≡ body_length x n k → length (shown x n k b) ≡ n
length-shown Front n k b l = l
length-shown Packed n k b l = length-unpacked (width k) n b

pub shown-stored : (x : Kind) (k : ℕ) (v : List ℕ) → Below v (λ i. k) → shown x (length v) k (stored x k v) ≡ v
shown-stored Front k v h = refl
shown-stored Packed k v h = unpacked-packed (width k) v (shades-fit k v h)

pub stored-shown : (x : Kind) (n k : ℕ) (b : List ℕ) → length b ≡ body_length x n k → Bytes b → is_clear x n k b ≡ true → stored x k (shown x n k b) ≡ b
stored-shown Front n k b l h c = refl
stored-shown Packed n k b l h c = packed-unpacked (width k) n b l h c

pub clear-stored : (x : Kind) (k : ℕ) (v : List ℕ) → Below v (λ i. k) → is_clear x (length v) k (stored x k v) ≡ true
clear-stored Front k v h = refl
clear-stored Packed k v h = packed-clear (width k) v (shades-fit k v h)

-- ---- how many bytes

module _ (n k : ℕ) where
  pub some_bytes : (x : Kind) → 1 ≤ n → Shaded k → 1 ≤ body_length x n k
  some_bytes Front z h = z
  some_bytes Packed z h = packed-some (width k) n (narrow k h).0 z

  pub few_bytes : (x : Kind) → Shaded k → body_length x n k ≤ n
  few_bytes Front h = omega arith
  few_bytes Packed h = packed-le (width k) n (omega (arith, narrow k h))

  pub byte-within : (x : Kind) (i : ℕ) → i < n → Shaded k → byte_at x k i < body_length x n k
  byte-within Front i l h = l
  byte-within Packed i l h = byte-of-lt (width k) n i (narrow k h).0 l

-- ---- the order

-- a known mark tells its kind
pub kind-is : (t : List ℕ) (x : Kind) → Marked t x → kind_by_mark t ≡ x
unfolding kind_by_mark
kind-is t Front m = rw (m.1, kind_by_mark)
kind-is t Packed m = rw (m.1, kind_by_mark)

-- and is not the retired one
pub not_back : (t : List ℕ) (x : Kind) → Marked t x → MarkedBack t → ⊥
not_back t Front q m = omega (arith, m.1, q.1)
not_back t Packed q m = omega (arith, m.1, q.1)

-- under a known mark a record is good, or refused, as what stands behind the mark is
module _ (x : Kind) (t : List ℕ) (s : ℕ) (m : Marked t x) where
  pub behind-passed : GoodRecord x t → Passed (record_order t s)
  behind-passed g = (((omega (arith, g.0.1), inl (x, m)), not_back t x m), rw (kind-is t x m) g)

  pub behind-given : (r : Refusal) → 4 ≤ length t → Given (behind_order x t s) r → Given (record_order t s) r
  behind-given r l g = inr (((l, inl (x, m)), not_back t x m), rw (kind-is t x m) g)

-- a record whose numbers and length are good is good, or refused, as its bytes are
pub good-behind : (x : Kind) (t : List ℕ) (s : ℕ) (v : Result Unit Refusal) → After7 x t → CheckSays (body_order x (n_of t) (k_of t) (body_of x t) s) v → CheckSays (behind_order x t s) v
good-behind x t s (Ok _) a g = (a, g)
good-behind x t s (Err r) a g = inr (a, g)
