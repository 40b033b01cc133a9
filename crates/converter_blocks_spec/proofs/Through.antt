-- However an old catalogue is cut into blocks, the first pass tells what converting the whole answers, and the second writes what it writes (02, j).
--     goes_on              a block of 68 bytes or more that is not refused has a whole record
--     check-whole          the first pass tells whether the whole is sound, and otherwise its first damage
--     check-converts       its verdict is the answer of converting the whole
--     write-whole          the second pass writes the new catalogue of the whole
--     write-converts       converting the whole answers Ok, and leaves those bytes
use Rattle.words.proofs.Plain.{ℕ, ◌+◌, ◌<◌, ◌≤◌, arith, ◌≡◌, refl, sym, ap, Bool, true, false, List, length, take, drop, length-drop}
use Rattle.words.proofs.Plain.{length-take, take-append-drop, take-take, take_all, drop-drop}
use Rattle.std.specs.Prelude.{Result, Ok, Err}
use Rattle.refusal.specs.declared.Refusal.{Refusal}
use Rattle.converter_spec.specs.Converts.{Sound, Turned, Damaged, SoundSays, ConvertSays}
use Rattle.converter_spec.specs.Converts.Unconverted.{room, damaged}
use Rattle.converter_spec.proofs.Unique.{turned-sound, one-damage, sound-damaged, one-convert}
use Rattle.converter_blocks_spec.specs.Blocks.{nothing, begun, StretchSays}
use Rattle.converter_blocks_spec.specs.Passes.{moved, block_of, Reaches, ChecksBlocks, Writes}
use Rattle.converter_blocks_spec.specs.Passes.ChecksBlocks.{further, good, bad}
use Rattle.converter_blocks_spec.specs.Passes.Writes.{part, rest}
use Rattle.converter_blocks_spec.proofs.Joined.{sound-joined, damage-joined, damage-lasts, turned-joined}
use Rattle.converter_blocks_spec.proofs.{Places.damage-moved, Places.begun-short, Unique.all}

-- a block of 68 bytes or more that is not refused has a whole record
pub goes_on : (b : List ℕ) (e : ℕ) → StretchSays b false (Ok e) → 68 ≤ length b → 0 < e
goes_on b e (l, s, nothing f) h = let z : length (drop e b) ≡ 0 = rw f in omega (arith, z, length-drop e b)
goes_on b e (l, s, begun f) h = omega (arith, begun-short (drop e b) f, length-drop e b)

-- ---- a block of what is left

module _ (c : List ℕ) (p : ℕ) where
  abbrev pub t : List ℕ
  t = drop p c

  -- its whole records are the first of what is left
  pub taken : (m e : ℕ) → e ≤ length (block_of c p m) → take e (block_of c p m) ≡ take e t
  taken m e l = take-take e m t (omega (arith, length-take m t))

  taken-long : (m e : ℕ) → e ≤ length (block_of c p m) → length (take e t) ≡ e
  taken-long m e l = omega (arith, length-take m t, length-take e t)

  -- and the others are what is left then
  pub ahead : (e : ℕ) → drop (p + e) c ≡ drop e t
  ahead e = sym (drop-drop e p c)

  -- the last block is all of it
  pub reached : (m : ℕ) → length c ≤ p + m → block_of c p m ≡ t
  reached m l = take_all m t (omega (arith, length-drop p c))

  damage-at : (r : Refusal) → Damaged t 0 r → Damaged t p (moved p r)
  damage-at r d = let e : p + 0 ≡ p = omega arith in rw e at (damage-moved t 0 p r d)

  bad-at : (m : ℕ) (last : Bool) (r : Refusal) → Reaches c p m last → StretchSays (block_of c p m) last (Err r) → Damaged t p (moved p r)
  bad-at m true r l (d, k) = let e = reached m l in damage-at r (rw e at d)
  bad-at m false r l (d, k) = damage-at r (rw (take-append-drop m t) at (damage-lasts (take m t) (drop m t) 0 r k d))

-- ---- the first pass

-- what is left from p on
abbrev From : List ℕ → ℕ → Result Unit Refusal → Type 0
From c p (Ok _) = Sound (drop p c)
From c p (Err r) = Damaged (drop p c) p r

check-on : (c : List ℕ) (p e : ℕ) (v : Result Unit Refusal) → Sound (take e (drop p c)) → length (take e (drop p c)) ≡ e → From c (p + e) v → From c p v
check-on c p e (Ok _) s l h = rw (take-append-drop e (drop p c)) at (sound-joined (take e (drop p c)) (drop e (drop p c)) s (rw (ahead c p e) at h))
check-on c p e (Err r) s l h =
    rw (take-append-drop e (drop p c)) at (damage-joined (take e (drop p c)) (drop e (drop p c)) p r s (rw l (rw (ahead c p e) at h)))

check-from : (c : List ℕ) (p : ℕ) (v : Result Unit Refusal) → ChecksBlocks c p v → From c p v
check-from c p v (further m e s r) = let q = taken c p m e s.0 in check-on c p e v (rw q at s.1) (taken-long c p m e s.0) (check-from c (p + e) v r)
check-from c p v (good m e l s) =
    let f = all (block_of c p m) e s.2 in
    let g = reached c p m l in
    rw (f, g) at s.1
check-from c p v (bad m last r l s) = bad-at c p m last r l s

pub check-whole : (c : List ℕ) (v : Result Unit Refusal) → ChecksBlocks c 0 v → SoundSays c v
check-whole c (Ok u) h = check-from c 0 (Ok u) h
check-whole c (Err r) h = check-from c 0 (Err r) h

-- converting answers what the verdict is
same_answer : (c b : List ℕ) (v r : Result Unit Refusal) (d : List ℕ) → length b ≡ length c → SoundSays c v → ConvertSays c b r d → r ≡ v
same_answer c b (Ok _) (Ok _) d l s h = refl
same_answer c b (Ok _) (Err r) d l s (room e f, k) = absurd (f l)
same_answer c b (Ok _) (Err r) d l s (damaged e f, k) = absurd (sound-damaged c 0 r s f)
same_answer c b (Err q) (Ok _) d l s h = absurd (sound-damaged c 0 q (turned-sound c d h.1) s)
same_answer c b (Err q) (Err r) d l s (room e f, k) = absurd (f l)
same_answer c b (Err q) (Err r) d l s (damaged e f, k) = ap Err (one-damage c 0 r q f s)

pub check-converts : (c b : List ℕ) (v r : Result Unit Refusal) (d : List ℕ) → ChecksBlocks c 0 v → length b ≡ length c → ConvertSays c b r d → r ≡ v
check-converts c b v r d g l h = same_answer c b v r d l (check-whole c v g) h

-- ---- the second pass

write-from : (c : List ℕ) (p : ℕ) (u : List ℕ) → Writes c p u → Turned (drop p c) u
write-from c p u (part {u = v} m e o d s r) =
    let q = taken c p m e s.1.0 in
    let i : Turned (take e (drop p c)) (take e d) = rw q at s.2 in
    let j : Turned (drop e (drop p c)) v = rw (ahead c p e) at (write-from c (p + e) v r) in
    rw (take-append-drop e (drop p c)) at (turned-joined (take e (drop p c)) (drop e (drop p c)) (take e d) v i j)
write-from c p u (rest m e o d l s) =
    let f = all (block_of c p m) e s.1.2 in
    let g = reached c p m l in
    rw (f, g) at s.2

pub write-whole : (c u : List ℕ) → Writes c 0 u → Turned c u
write-whole c u h = write-from c 0 u h

pub write-converts : (c b u : List ℕ) (r : Result Unit Refusal) (d : List ℕ) → Writes c 0 u → length b ≡ length c → ConvertSays c b r d → (r ≡ Ok tt) × (d ≡ u)
write-converts c b u r d g l h = one-convert c b r (Ok tt) d u h (l, write-whole c u g)
