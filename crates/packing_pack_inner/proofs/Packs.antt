-- The loop of `pack_into`: sectors w of b bits are moved into the bytes c.
--     Packs b w i c j h r                 where the loop stands: i sectors are taken, j bytes are written, h bits are held, the number r
--     packs-start                         nothing is taken yet
--     packs-on                            one more sector is taken, and it fills no byte
--     packs-fits, packs-room              it fills one; that is a byte, and there is room for it
--     packs-given                         it is written
--     packs-end                           all are taken and no bits are left: the bytes are packed
--     last-room, packs-last               some are left: they are the highest of one more byte, and with it the bytes are packed
use Rattle.words.proofs.Plain.{ℕ, suc, ◌+◌, ◌-◌, ◌*◌, ◌/◌, ◌%◌, ◌^◌, ◌<◌, ◌≤◌, arith, ◌≡◌, sym, ◌∙◌, List, [], ◌∷◌, ◌++◌, length, get_or, take, set, length-set}
use Rattle.words.proofs.Plain.{take-suc-set, take_all}
use native.Mathlib.Nat.{mul-le-mul_left}
use lib.Pow.{shl_lt}
use Rattle.packing_spec.specs.Packing.{BitsFit, as_one, packed_length, packed}
use Rattle.packing_laws.proofs.{AsOne.as-one-snoc, Lengths.bits-bytes, Lengths.bytes-is, Packing.packed-is}
use Rattle.packing_laws.proofs.Moving.{Moved, moved-start, moved-take, moved-give, give-fits, grown, fits-set}

pub record Packs (b : ℕ) (w : List ℕ) (i : ℕ) (c : List ℕ) (j h r : ℕ) : Type 0 where
  pub moved : Moved b 8 w i c j h r
  pub taken : i ≤ length w
  pub few : h < 8
  pub narrow : b ≤ 8
  pub sectors : BitsFit b w
  pub long : length c ≡ packed_length b (length w)

pub packs-start : (b : ℕ) (w c : List ℕ) → b ≤ 8 → BitsFit b w → length c ≡ packed_length b (length w) → Packs b w 0 c 0 0 0
packs-start b w c n f l = record { moved = moved-start b 8 w c; taken = omega arith; few = omega arith; narrow = n; sectors = f; long = l }

-- what is written and held is no more than the bytes have room for
room : (b : ℕ) (w : List ℕ) (i : ℕ) (c : List ℕ) (j h r : ℕ) → Moved b 8 w i c j h r → i ≤ length w → length c ≡ packed_length b (length w) → 8 * j + h ≤ 8 * length c
room b w i c j h r m l e = omega (arith, m.bits, mul-le-mul_left b l, bits-bytes b (length w))

-- ---- a turn: t holds one more sector

module _ (b : ℕ) (w : List ℕ) (i : ℕ) (c : List ℕ) (j h r : ℕ) (p : Packs b w i c j h r) (l : i < length w) (t : ℕ) (q : t ≡ r * 2 ^ b + get_or w i 0) where
  next : Moved b 8 w (i + 1) c j (h + b) t
  next = moved-take b 8 w i c j h r p.moved l (p.sectors i l) t q

  pub packs-on : h + b < 8 → Packs b w (i + 1) c j (h + b) t
  packs-on f = record { moved = next; taken = omega arith; few = f; narrow = p.narrow; sectors = p.sectors; long = p.long }

  pub packs-fits : 8 ≤ h + b → t / 2 ^ (h + b - 8) < 256
  packs-fits f = give-fits b 8 w (i + 1) c j (h + b) t next f

  pub packs-room : 8 ≤ h + b → j < length c
  packs-room f = omega (arith, room b w (i + 1) c j (h + b) t next (omega arith) p.long)

  pub packs-given : 8 ≤ h + b → (x s : ℕ) → x ≡ t / 2 ^ (h + b - 8) → s ≡ t % 2 ^ (h + b - 8) → Packs b w (i + 1) (set c j x) (j + 1) (h + b - 8) s
  packs-given f x s d e =
      record {
        moved = moved-give b 8 w (i + 1) c j (h + b) t next f (packs-room f) x s d e;
        taken = omega arith;
        few = omega (arith, p.few, p.narrow);
        narrow = p.narrow;
        sectors = p.sectors;
        long = simp length-set p.long;
      }

-- ---- the end

module _ (b : ℕ) (w : List ℕ) (i : ℕ) (c : List ℕ) (j h r : ℕ) (p : Packs b w i c j h r) (all : i ≡ length w) where
  whole : as_one 8 (take j c) * 2 ^ h + r ≡ as_one b w
  whole = let x : take i w ≡ w = take_all i w (omega arith) in rw x at p.moved.number

  counted : 8 * j + h ≡ b * length w
  counted = rw all at p.moved.bits

  pub packs-end : h ≡ 0 → c ≡ packed b w
  packs-end z =
      let d = bytes-is b (length w) j 0 (omega (arith, counted)) (omega arith) in
      let t : take j c ≡ c = take_all j c (omega (arith, p.long)) in
      let n : as_one 8 c * 2 ^ 0 + r ≡ as_one b w = rw (t, z) at whole in
      let k : r < 2 ^ 0 = rw z at p.moved.held in
      packed-is b w c p.long (λ m l. p.moved.fit m (omega (arith, p.long))) (rw d.1 (omega arith))

  pub last-room : 0 < h → j < length c
  last-room z = omega (arith, room b w i c j h r p.moved (omega arith) p.long)

  pub packs-last : 0 < h → (x : ℕ) → x ≡ r * 2 ^ (8 - h) → set c j x ≡ packed b w
  packs-last z x e =
      let q = p.few in
      let d = bytes-is b (length w) (suc j) (8 - h) (omega (arith, counted)) (omega arith) in
      let l = last-room z in
      let s : length (set c j x) ≡ suc j = simp length-set (omega (arith, p.long)) in
      let g : h + (8 - h) ≡ 8 = omega arith in
      let y : r * 2 ^ (8 - h) < 2 ^ 8 = rw g at (shl_lt h (8 - h) p.moved.held) in
      let t : set c j x ≡ take j c ++ (x ∷ []) = sym (take_all (suc j) (set c j x) (omega arith)) ∙ take-suc-set c j x l in
      let k : as_one b w * 2 ^ (8 - h) + 0 ≡ as_one 8 (take j c) * 2 ^ 8 + (r * 2 ^ (8 - h) + 0) = rw (g, whole) at (grown (as_one 8 (take j c)) h r (8 - h) 0) in
      packed-is b w (set c j x) (omega arith) (λ m f. fits-set 8 c j x l p.moved.fit (omega arith) m (omega arith))
      (rw (t, as-one-snoc 8 (take j c) x, d.1) (omega arith))
