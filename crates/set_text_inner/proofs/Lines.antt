-- The rings' lines one behind another. j of them are placed.
--     ring-room, placed-ring-text           a ring's line, its sectors and a newline
--     lines_start, lines-room, lines-on     the loop over the rings
--     taken-room                            there is room for the last line
--     word_room, number-room, full-room, placed-full, short-room, placed-short-of     the last line, piece after piece
use Rattle.words.proofs.Plain.{ℕ, ◌+◌, ◌-◌, ◌*◌, ◌<◌, ◌≤◌, add-one, arith, ◌≡◌, refl, Bool, true, false, List, map, ◌++◌, length, take, drop, length-append}
use Rattle.words.proofs.Plain.{length-map}
use Rattle.text_spec.specs.{Ascii.ascii, Decimal.decimal, Text.hex_of, Put.Placed}
use Rattle.text_spec.proofs.Put.{placed-append, placed-length}
use Rattle.set_spec.specs.Places.{place_at, set_in}
use Rattle.set_text_spec.specs.Text.{ring_text, ring_texts, full_text, taken_text}
use Rattle.set_text_spec.specs.Prints.{set_room}
use Rattle.set_text_spec.proofs.Lengths.{rings-more, length-rings, length-ring-text, length_taken}
use Rattle.set_text_inner.specs.Says.{Rings}

-- a ring's line: its sectors, placed up to a, and a newline
module _ (b : List ℕ) (at : ℕ) (w : List ℕ) (fits : at + length (ring_text w) ≤ length b) (a : ℕ) (b' : List ℕ) (sectors : Placed b at (map hex_of w) a b') where
  pub ring-room : a + length (ascii "\n") ≤ length b'
  ring-room = omega (arith, sectors.next, placed-length b at (map hex_of w) a b' sectors, length-ring-text w, length-map w hex_of)

  pub placed-ring-text : (r : ℕ) (b'' : List ℕ) → Placed b' a (ascii "\n") r b'' → Placed b at (ring_text w) r b''
  unfolding ring_text
  placed-ring-text r b'' q = placed-append b at (map hex_of w) a b' (ascii "\n") r b'' sectors q

module _ (b p : List ℕ) (n t : ℕ) (rings : Rings p n t) (room : set_room ≤ length b) where
  pub lines_start : Placed b 0 (ring_texts (set_in n p 0)) 0 b
  unfolding set_in ring_texts
  lines_start = record { next = refl; bytes = refl }

  module _ (j at : ℕ) (b' : List ℕ) (placed : Placed b 0 (ring_texts (set_in n p j)) at b') where
    -- there is room for one more
    pub lines-room : j < t → (w : List ℕ) → length w ≤ n → at + length (ring_text w) ≤ length b'
    lines-room h w l =
        omega (arith, placed.next, placed-length b 0 (ring_texts (set_in n p j)) at b' placed, length-rings n p j rings.short, length-ring-text w, rings.short, rings.most)

    -- one more
    pub lines-on : (r : ℕ) (b'' : List ℕ) → Placed b' at (ring_text (take (24 * j + n - 24 * j) (drop (24 * j) p))) r b'' → Placed b 0 (ring_texts (set_in n p (j + 1))) r b''
    unfolding set_in
    lines-on r b'' q =
        let e : 24 * j + n - 24 * j ≡ n = omega arith in
        let q' : Placed b' at (ring_text (place_at n p j)) r b'' = rw e at q in
        rw (add-one j, rings-more (set_in n p j) (place_at n p j)) (placed-append b 0 (ring_texts (set_in n p j)) at b' (ring_text (place_at n p j)) r b'' placed q')

  -- there is room for the last line
  pub taken-room : (at : ℕ) (b' : List ℕ) (full : Bool) → Placed b 0 (ring_texts (set_in n p t)) at b' → at + length (taken_text t full) ≤ length b'
  taken-room at b' full placed =
      omega (arith, placed.next, placed-length b 0 (ring_texts (set_in n p t)) at b' placed, length-rings n p t rings.short, length_taken t full rings.most, rings.most)

-- ---- the last line

full-yes : (full : Bool) → full ≡ true → full_text full ≡ ascii " full\n"
unfolding full_text
full-yes full e = rw e refl

full-no : (full : Bool) → full ≡ false → full_text full ≡ ascii " not full\n"
unfolding full_text
full-no full e = rw e refl

length-pieces : (t : ℕ) (full : Bool) → length (taken_text t full) ≡ 6 + length (decimal t) + length (full_text full)
unfolding taken_text
length-pieces t full = simp length-append refl

-- its word, its number, placed up to c, and its end
module _ (b : List ℕ) (at t : ℕ) (full : Bool) (fits : at + length (taken_text t full) ≤ length b) where
  pub word_room : at + length (ascii "taken ") ≤ length b
  word_room = omega (arith, length-pieces t full)

  module _ (a : ℕ) (b₁ : List ℕ) (word : Placed b at (ascii "taken ") a b₁) where
    pub number-room : a + length (decimal t) ≤ length b₁
    number-room = omega (arith, length-pieces t full, word.next, placed-length b at (ascii "taken ") a b₁ word)

    module _ (c : ℕ) (b₂ : List ℕ) (number : Placed b₁ a (decimal t) c b₂) where
      end-room : c + length (full_text full) ≤ length b₂
      end-room =
          omega (arith, length-pieces t full, word.next, number.next, placed-length b at (ascii "taken ") a b₁ word, placed-length b₁ a (decimal t) c b₂ number)

      placed-taken : (r : ℕ) (b₃ : List ℕ) → Placed b₂ c (full_text full) r b₃ → Placed b at (taken_text t full) r b₃
      unfolding taken_text
      placed-taken r b₃ q =
          placed-append b at (ascii "taken " ++ decimal t) c b₂ (full_text full) r b₃ (placed-append b at (ascii "taken ") a b₁ (decimal t) c b₂ word number) q

      pub full-room : full ≡ true → c + length (ascii " full\n") ≤ length b₂
      full-room e = rw (full-yes full e) at end-room

      pub placed-full : full ≡ true → (r : ℕ) (b₃ : List ℕ) → Placed b₂ c (ascii " full\n") r b₃ → Placed b at (taken_text t full) r b₃
      placed-full e r b₃ q = placed-taken r b₃ (rw (full-yes full e) q)

      pub short-room : full ≡ false → c + length (ascii " not full\n") ≤ length b₂
      short-room e = rw (full-no full e) at end-room

      pub placed-short-of : full ≡ false → (r : ℕ) (b₃ : List ℕ) → Placed b₂ c (ascii " not full\n") r b₃ → Placed b at (taken_text t full) r b₃
      placed-short-of e r b₃ q = placed-taken r b₃ (rw (full-no full e) q)
