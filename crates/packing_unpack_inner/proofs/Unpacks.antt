-- The loop of `unpack_into`: bytes c are moved into n sectors w of b bits.
--     Unpacks b c n i w j h r         where the loop stands: i bytes are taken, j sectors are written, h bits are held, the number r
--     unpacks-start                   nothing is taken yet
--     unpacks-more, unpacks-taken     the held bits are too few: there is one more byte, and it is taken
--     unpacks-fits, unpacks-given     they are enough: one more sector is written
--     unpacks-end                     all are written: the sectors are unpacked
-- And of `padding_clear`:
--     clear-is                        the unused low bits of the last byte, as a remainder
use Rattle.words.proofs.Plain.{ℕ, ◌+◌, ◌-◌, ◌*◌, ◌/◌, ◌%◌, ◌^◌, ◌<◌, ◌≤◌, arith, ◌≡◌, List, eqb, length, get_or, take, set, length-set, take_all}
use native.Mathlib.Nat.{mul-suc, mul-le-mul_left}
use Rattle.packing_spec.specs.Packing.{packed_length, spare, unpacked, clear_padding}
use Rattle.packing_laws.proofs.{Lengths.bits-bytes, Lengths.bytes-is, Packing.unpacked-is}
use Rattle.packing_laws.proofs.Moving.{held-lt, Moved, moved-start, moved-take, moved-give, give-fits}

pub record Unpacks (b : ℕ) (c : List ℕ) (n i : ℕ) (w : List ℕ) (j h r : ℕ) : Type 0 where
  pub moved : Moved 8 b c i w j h r
  pub given : j ≤ n
  pub few : h < 8 + b
  pub fewer : n ≤ j → h < 8
  pub narrow : b ≤ 8
  pub bytes : length c ≡ packed_length b n
  pub long : length w ≡ n

pub unpacks-start : (b : ℕ) (c : List ℕ) (n : ℕ) (w : List ℕ) → b ≤ 8 → length c ≡ packed_length b n → length w ≡ n → Unpacks b c n 0 w 0 0 0
unpacks-start b c n w k e l =
    record { moved = moved-start 8 b c w; given = omega arith; few = omega arith; fewer = λ g. omega arith; narrow = k; bytes = e; long = l }

module _ (b : ℕ) (c : List ℕ) (n i : ℕ) (w : List ℕ) (j h r : ℕ) (p : Unpacks b c n i w j h r) where
  pub unpacks-more : j < n → h < b → i < length c
  unpacks-more l f = omega (arith, p.moved.bits, mul-suc b j, mul-le-mul_left b l, bits-bytes b n, p.bytes)

  pub unpacks-taken : (l : j < n) (f : h < b) → get_or c i 0 < 256 → (t : ℕ) → t ≡ r * 2 ^ 8 + get_or c i 0 → Unpacks b c n (i + 1) w j (h + 8) t
  unpacks-taken l f z t q =
      record {
        moved = moved-take 8 b c i w j h r p.moved (unpacks-more l f) z t q;
        given = p.given;
        few = omega arith;
        fewer = λ g. absurd (omega arith);
        narrow = p.narrow;
        bytes = p.bytes;
        long = p.long;
      }

  pub unpacks-fits : b ≤ h → r / 2 ^ (h - b) < 256
  unpacks-fits f = held-lt (r / 2 ^ (h - b)) b (give-fits 8 b c i w j h r p.moved f) p.narrow

  pub unpacks-given : j < n → b ≤ h → (x s : ℕ) → x ≡ r / 2 ^ (h - b) → s ≡ r % 2 ^ (h - b) → Unpacks b c n i (set w j x) (j + 1) (h - b) s
  unpacks-given l f x s d e =
      record {
        moved = moved-give 8 b c i w j h r p.moved f (omega (arith, p.long)) x s d e;
        given = omega arith;
        few = omega (arith, p.few);
        fewer = λ g. omega (arith, p.few);
        narrow = p.narrow;
        bytes = p.bytes;
        long = simp length-set p.long;
      }

  pub unpacks-end : n ≤ j → w ≡ unpacked b n c
  unpacks-end g =
      let all : j ≡ n = omega (arith, p.given) in
      let f = p.fewer g in
      let d = bytes-is b n i h (rw all at p.moved.bits) f in
      let t : take j w ≡ w = take_all j w (omega (arith, p.long)) in
      let x : take i c ≡ c = take_all i c (omega (arith, p.bytes)) in
      unpacked-is b n r c w p.long (λ m q. p.moved.fit m (omega (arith, p.long))) (rw d.1 (rw (t, x) at p.moved.number)) (rw d.1 p.moved.held)

-- ---- the padding

pub clear-is : (b n : ℕ) (c : List ℕ) → length c ≡ packed_length b n → (r : ℕ) → r ≡ get_or c (length c - 1) 0 % 2 ^ (8 * length c - b * n) → eqb r 0 ≡ clear_padding b n c
unfolding clear_padding
clear-is b n c l r e = let s : 8 * length c - b * n ≡ spare b n = omega (arith, bits-bytes b n) in rw (e, s, l)
