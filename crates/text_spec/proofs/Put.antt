-- Texts put into a buffer piece after piece.
--     placed-append, placed-length           two pieces after each other are one; the buffer keeps its length
--     placed_part                            a text copied at once
--     placed-none, placed-copy, placed-whole    a text copied character by character
--     placed-sector, placed-sectors          sectors written as digits one by one
--     placed-short, placed-two, room-short, room-two    a number of one or two digits
--     length_two, length-first, length_last, length-refused, length-ring, ring-two     how long the lines are, and of which pieces
--     zero-line, zero_room, placed-zero      the line of a ring that comes with 0 moves and has period 1
--     room-first, room-moves, room-second, room-period, room-end, placed-ring        a ring's line piece after piece
use Rattle.words.proofs.Plain.{ℕ, zero, suc, ◌+◌, ◌-◌, ◌/◌, ◌%◌, ◌<◌, ◌≤◌, add-one, arith, ◌≡◌, refl, sym, ap, ◌∙◌, List, [], ◌∷◌, ◌++◌, map, append_assoc, length}
use Rattle.words.proofs.Plain.{get_or, take, drop, set, length-append, length-map, length-set, sets, length-sets, take-suc, take_all, drop-drop}
use Rattle.std.proofs.lemmas.List.Edits.{sets-eq}
use borrow.Rule.Slice.PartMut.{put_mid}
use Rattle.text_spec.specs.{Ascii.ascii, Decimal.decimal, Put.Placed}
use Rattle.text_spec.specs.Text.{two_numbers, hex_of, first_line, ring_line, last_line, refused_line}
use Rattle.text_spec.proofs.Digits.{decimal-short, decimal-two, decimal-some}

-- ---- pieces

-- two runs of stores after each other are one
sets-append : (s t b : List ℕ) (i j : ℕ) → i + length s ≡ j → sets b i (s ++ t) ≡ sets (sets b i s) j t
sets-append [] t b i j e = let q : i ≡ j = omega arith in rw q
sets-append (a ∷ s) t b i j e = sets-append s t (set b i a) (suc i) j (omega arith)

module _ (b : List ℕ) (at : ℕ) where
  -- nothing placed
  pub placed-none : Placed b at [] (at + 0) b
  placed-none = record { next = refl; bytes = refl }

  -- a piece behind a piece
  pub placed-append : (s : List ℕ) (r : ℕ) (b' t : List ℕ) (r' : ℕ) (b'' : List ℕ) → Placed b at s r b' → Placed b' r t r' b'' → Placed b at (s ++ t) r' b''
  placed-append s r b' t r' b'' p q =
      record {
        next = omega (arith, p.next, q.next, length-append s t);
        bytes = q.bytes ∙ ap (λ (x : List ℕ). sets x r t) p.bytes ∙ sym (sets-append s t b at r (sym p.next));
      }

  -- the buffer keeps its length
  pub placed-length : (t : List ℕ) (r : ℕ) (b' : List ℕ) → Placed b at t r b' → length b' ≡ length b
  placed-length t r b' p = ap length p.bytes ∙ length-sets b at t

-- one character more of a text that is placed from `at` on
pub placed_on : (b : List ℕ) (at : ℕ) (t : List ℕ) (r : ℕ) (b' : List ℕ) (a : ℕ) → Placed b at t r b' → Placed b at (t ++ (a ∷ [])) (r + 1) (set b' r a)
placed_on b at t r b' a p = placed-append b at t r b' (a ∷ []) (r + 1) (set b' r a) p (record { next = refl; bytes = refl })

-- a text copied at once: after a write to the part of the buffer that it fits
pub placed_part : (b : List ℕ) (at : ℕ) (t u : List ℕ) → at + length t ≤ length b → u ≡ t → Placed b at t (at + length t) (put_mid at (at + length t - at) b u)
placed_part b at t u h e =
    let k : at + length t - at ≡ length t = omega arith in
    record {
      next = refl;
      bytes = rw (k, e, drop-drop (length t) at b) (sym (sets-eq t b at h ∙ append_assoc (take at b) t (drop (at + length t) b)));
    }

-- a text copied up to place i, and one character more
pub placed-copy : (b : List ℕ) (at i : ℕ) (t b' : List ℕ) → i < length t → Placed b at (take i t) (at + i) b' → Placed b at (take (i + 1) t) (at + (i + 1)) (set b' (at + i) (get_or t i 0))
placed-copy b at i t b' h p =
    let e : at + i + 1 ≡ at + (i + 1) = omega arith in
    let q : take (i + 1) t ≡ take i t ++ (get_or t i 0 ∷ []) = rw (add-one i) (take-suc t i 0 h) in
    rw q (rw e at (placed_on b at (take i t) (at + i) b' (get_or t i 0) p))

-- and the whole text
pub placed-whole : (b : List ℕ) (at i : ℕ) (t b' : List ℕ) → length t ≤ i → Placed b at (take i t) (at + i) b' → Placed b at t (at + i) b'
placed-whole b at i t b' h p = rw (take_all i t h) at p

-- ---- sectors

-- the digit at place i is that of the sector at i
sector-at : (w : List ℕ) (i : ℕ) → i < length w → get_or (map hex_of w) i 0 ≡ hex_of (get_or w i 0)
sector-at [] i h = absurd (omega arith)
sector-at (a ∷ w) zero h = refl
sector-at (a ∷ w) (suc i) h = sector-at w i (omega arith)

-- sectors placed up to i, and one more
pub placed-sector : (b : List ℕ) (at i : ℕ) (w b' : List ℕ) (a : ℕ) → i < length w → a ≡ hex_of (get_or w i 0) → Placed b at (take i (map hex_of w))
    (at + i) b' → Placed b at (take (i + 1) (map hex_of w)) (at + (i + 1)) (set b' (at + i) a)
placed-sector b at i w b' a h e p =
    let q : get_or (map hex_of w) i 0 ≡ a = sector-at w i h ∙ sym e in
    rw q at (placed-copy b at i (map hex_of w) b' (simp length-map h) p)

-- all sectors
pub placed-sectors : (b : List ℕ) (at i : ℕ) (w b' : List ℕ) → length w ≤ i → Placed b at (take i (map hex_of w)) (at + i) b' → Placed b at (map hex_of w) (at + i) b'
placed-sectors b at i w b' h p = placed-whole b at i (map hex_of w) b' (simp length-map h) p

-- ---- short numbers

module _ (b : List ℕ) (at x : ℕ) where
  -- one digit
  pub placed-short : x < 10 → Placed b at (decimal x) (at + 1) (set b at (48 + x))
  placed-short h = rw (decimal-short x h) (record { next = refl; bytes = refl })

  -- two digits
  pub placed-two : 10 ≤ x → x < 100 → Placed b at (decimal x) (at + 2) (set (set b at (48 + x / 10)) (at + 1) (48 + x % 10))
  placed-two l h = rw (decimal-two x l h, add-one at) (record { next = refl; bytes = refl })

  -- and there is room for them
  pub room-short : at + length (decimal x) ≤ length b → at < length b
  room-short m = omega (arith, decimal-some x)

  pub room-two : 10 ≤ x → x < 100 → at + length (decimal x) ≤ length b → at + 1 < length b
  room-two l h m = omega (arith, ap length (decimal-two x l h))

-- ---- the lines

-- how long two numbers and their words are
pub length_two : (head : List ℕ) (x : ℕ) (middle : List ℕ) (y : ℕ) → length (two_numbers head x middle y) ≡ length head + length (decimal x) + length middle + length (decimal y) + 1
unfolding two_numbers
length_two head x middle y = simp length-append

-- the first line and the last
pub length-first : (k n : ℕ) → length (first_line k n) ≡ length (decimal k) + length (decimal n) + 16
unfolding first_line
length-first k n = simp length-append (omega arith)

pub length_last : (rings moves : ℕ) → length (last_line rings moves) ≡ length (decimal rings) + length (decimal moves) + 14
unfolding last_line
length_last rings moves = simp length-append (omega arith)

-- the line of a refusal
pub length-refused : (x : ℕ) → length (refused_line x) ≡ length (decimal x) + 9
unfolding refused_line
length-refused x = simp length-append (omega arith)

-- a ring's line is its sectors and then two numbers
pub ring-two : (w : List ℕ) (moves p : ℕ) → map hex_of w ++ two_numbers (32 ∷ []) moves (32 ∷ []) p ≡ ring_line w moves p
unfolding two_numbers ring_line
ring-two w moves p = simp append_assoc

-- and how long it is
pub length-ring : (w : List ℕ) (moves p : ℕ) → length (ring_line w moves p) ≡ length w + length (decimal moves) + length (decimal p) + 3
length-ring w moves p =
    sym (ap length (ring-two w moves p)) ∙ length-append (map hex_of w) (two_numbers (32 ∷ []) moves (32 ∷ []) p)
    ∙ rw (length-map w hex_of, length_two (32 ∷ []) moves (32 ∷ []) p) (omega arith)

-- the line of a ring that comes with 0 moves and has period 1
pub zero-line : (w : List ℕ) → map hex_of w ++ ascii " 0 1\n" ≡ ring_line w 0 1
unfolding ring_line
zero-line w = rw (decimal-short 0 (omega arith), decimal-short 1 (omega arith)) (simp append_assoc)

module _ (b : List ℕ) (at : ℕ) (w : List ℕ) (fits : at + length (ring_line w 0 1) ≤ length b) (a : ℕ) (b' : List ℕ) (sectors : Placed b at (map hex_of w) a b') where
  pub zero_room : a + length (ascii " 0 1\n") ≤ length b'
  zero_room =
      omega (arith, sectors.next, placed-length b at (map hex_of w) a b' sectors, simp length-append at (ap length (zero-line w)))

  pub placed-zero : (r : ℕ) (b'' : List ℕ) → Placed b' a (ascii " 0 1\n") r b'' → Placed b at (ring_line w 0 1) r b''
  placed-zero r b'' q = rw (zero-line w) at (placed-append b at (map hex_of w) a b' (ascii " 0 1\n") r b'' sectors q)

-- A ring's line piece after piece: a, c and d are the places behind the sectors, the first number and the second. There is room for a number wherever the whole line has room for
-- it, whichever it is; that the first is the moves and the second the period is said by what the pieces are together (`placed-ring`).
module _ (b : List ℕ) (at : ℕ) (w : List ℕ) (a : ℕ) (b₁ : List ℕ) (sectors : Placed b at (map hex_of w) a b₁) where
  first : Placed b at (map hex_of w ++ (32 ∷ [])) (a + 1) (set b₁ a 32)
  first = placed_on b at (map hex_of w) a b₁ 32 sectors

  first-length : length (set b₁ a 32) ≡ length b
  first-length = placed-length b at (map hex_of w ++ (32 ∷ [])) (a + 1) (set b₁ a 32) first

  -- for a space, and for the first number behind it
  pub room-first : at + length w < length b → (a < length b) × (a < length b₁)
  room-first h = (omega (arith, sectors.next, length-map w hex_of), omega (arith, sectors.next, length-map w hex_of, length-set b₁ a 32, first-length))

  pub room-moves : (x : ℕ) → at + length w + 1 + length (decimal x) ≤ length b → a + 1 + length (decimal x) ≤ length (set b₁ a 32)
  room-moves x h = omega (arith, sectors.next, length-map w hex_of, first-length)

  module _ (x c : ℕ) (b₂ : List ℕ) (moved : Placed (set b₁ a 32) (a + 1) (decimal x) c b₂) where
    second : Placed b at (map hex_of w ++ (32 ∷ []) ++ decimal x ++ (32 ∷ [])) (c + 1) (set b₂ c 32)
    second =
        placed_on b at (map hex_of w ++ (32 ∷ []) ++ decimal x) c b₂ 32
        (placed-append b at (map hex_of w ++ (32 ∷ [])) (a + 1) (set b₁ a 32) (decimal x) c b₂ first moved)

    second-length : length (set b₂ c 32) ≡ length b
    second-length = placed-length b at (map hex_of w ++ (32 ∷ []) ++ decimal x ++ (32 ∷ [])) (c + 1) (set b₂ c 32) second

    -- for another space, and for the second number behind it
    pub room-second : at + length w + 1 + length (decimal x) < length b → (c < length b) × (c < length b₂)
    room-second h =
        (omega (arith, sectors.next, moved.next, length-map w hex_of), omega (arith, sectors.next, moved.next, length-map w hex_of, length-set b₂ c 32, second-length))

    pub room-period : (y : ℕ) → at + length w + 2 + length (decimal x) + length (decimal y) ≤ length b → c + 1 + length (decimal y) ≤ length (set b₂ c 32)
    room-period y h = omega (arith, sectors.next, moved.next, length-map w hex_of, second-length)

    module _ (y d : ℕ) (b₃ : List ℕ) (period : Placed (set b₂ c 32) (c + 1) (decimal y) d b₃) where
      third : Placed b at (map hex_of w ++ (32 ∷ []) ++ decimal x ++ (32 ∷ []) ++ decimal y) d b₃
      third = placed-append b at (map hex_of w ++ (32 ∷ []) ++ decimal x ++ (32 ∷ [])) (c + 1) (set b₂ c 32) (decimal y) d b₃ second period

      -- for the newline
      pub room-end : at + length w + 2 + length (decimal x) + length (decimal y) < length b → (d < length b) × (d < length b₃)
      room-end h =
          let l = placed-length b at (map hex_of w ++ (32 ∷ []) ++ decimal x ++ (32 ∷ []) ++ decimal y) d b₃ third in
          let m : d < length b = omega (arith, sectors.next, moved.next, period.next, length-map w hex_of) in
          (m, omega arith)

      pub placed-ring : Placed b at (ring_line w x y) (d + 1) (set b₃ d 10)
      unfolding ring_line
      placed-ring = placed_on b at (map hex_of w ++ (32 ∷ []) ++ decimal x ++ (32 ∷ []) ++ decimal y) d b₃ 10 third
