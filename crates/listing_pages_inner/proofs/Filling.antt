-- A page's end and its beginning.
--     rows-length, page-full, page-last        what the loop promises, with nothing or the last line behind it, is what a page promises
--     zeros-part, zeros-period, start-good     the all-zero ring: its sectors, its period, its state
--     open-*, opened                           the first two lines have room, and what is placed behind them is the first page
use Rattle.words.proofs.Plain.{ℕ, ◌+◌, ◌<◌, ◌≤◌, arith, ◌≡◌, sym, ◌∙◌, true, false, List, ◌++◌, length, take}
use Rattle.words.proofs.Plain.{ext_get_or, get_or-take, length-take-le}
use native.Mathlib.Nat.{mod-one}
use Rattle.words.proofs.Sequence.{sec}
use Rattle.rings.specs.Necklace.{period}
use Rattle.ring_laws.proofs.{Run.Run, Run.lyn-one, Lyndon.period-run, FullWalk.length-zeros, FullWalk.zeros-at}
use Rattle.text_spec.specs.Text.{first_line, ring_line, last_line}
use Rattle.text_spec.specs.Put.{Placed}
use Rattle.text_spec.proofs.Digits.{length-decimal}
use Rattle.text_spec.proofs.Put.{placed-append, placed-length, length-first, length-ring}
use Rattle.limits_spec.specs.Limits.{Listable}
use Rattle.listing_spec.specs.{declared.State.State, declared.Page.Page, Listing.zero_ring, Listing.opening, Prints.most_printed}
use Rattle.listing_spec.specs.State.{GoodState, empty_state, start_state, over, on}
use Rattle.listing_spec.specs.Paging.{row_room}
use Rattle.listing_laws.proofs.Leaving.{counted_start, stands_good}
use Rattle.listing_rows_inner.specs.{declared.Rows.Rows, Says.RowsSay}
use Rattle.listing_pages_inner.specs.Says.{FillSays, OpenSays}

-- ---- a page's end

module _ (s : State) (b : List ℕ) (from : ℕ) (r : Rows) (b' : List ℕ) (p : RowsSay s b from r b') where
  pub rows-length : length b' ≡ length b
  rows-length = placed-length b from p.text r.at b' p.placed

  -- nothing behind the lines
  pub page-full : r.more ≡ true → FillSays s b from (record { length = r.at; state = r.state }) b'
  page-full e =
      record {
        text = p.text;
        rest = on p.ring r.state.rings r.state.moves;
        goes = p.full e;
        placed = p.placed;
        inside = p.inside;
        state = p.state;
      }

  -- there is room for the last line
  pub last-room : r.more ≡ false → (from ≤ r.at) × (r.at + length (last_line r.state.rings r.state.moves) ≤ length b')
  last-room e = (omega (arith, p.placed.next), omega (arith, rows-length, p.room e))

  -- the last line behind them
  module _ (e : r.more ≡ false) (end : ℕ) (b'' : List ℕ) (q : Placed b' r.at (last_line r.state.rings r.state.moves) end b'') (state : State) (is : state ≡ empty_state) where
    pub page-last : FillSays s b from (record { length = end; state = state }) b''
    page-last =
        record {
          text = p.text ++ last_line r.state.rings r.state.moves;
          rest = over;
          goes = p.ended e;
          placed = placed-append b from p.text r.at b' (last_line r.state.rings r.state.moves) end b'' p.placed q;
          inside = omega (arith, q.next, p.room e);
          state = is;
        }

-- ---- the first two lines

-- the first n of more zeros
pub zeros-part : (n m : ℕ) → n ≤ m → take n (zero_ring m) ≡ zero_ring n
zeros-part n m h =
    let e : length (take n (zero_ring m)) ≡ n = length-take-le n (zero_ring m) (omega (arith, length-zeros m)) in
    ext_get_or 0 (take n (zero_ring m)) (zero_ring n) (e ∙ sym (length-zeros n))
    (λ i b. get_or-take n (zero_ring m) i 0 (rw e at b) ∙ zeros-at m i ∙ sym (zeros-at n i))

-- the all-zero ring has period 1
pub zeros-period : (n : ℕ) → 0 < n → period (zero_ring n) ≡ 1
zeros-period n z = period-run (zero_ring n) 1 run (mod-one (length (zero_ring n)))
  where
    run : Run (sec (zero_ring n)) (length (zero_ring n)) 1
    run = record { pos = omega arith; fits = omega (arith, length-zeros n); again = λ i j e h. zeros-at n i ∙ sym (zeros-at n j); lyn = lyn-one (sec (zero_ring n)) }

module _ (k n : ℕ) (l : Listable most_printed k n) where
  first_short : length (first_line k n) ≤ 20
  first_short = omega (arith, length-first k n, length-decimal 1 k (omega (arith, l.shaded)), length-decimal 1 n (omega (arith, l.sized)))

  zero-short : length (ring_line (zero_ring n) 0 1) ≤ 69
  zero-short = omega (arith, length-ring (zero_ring n) 0 1, length-zeros n, l.sized, length-decimal 0 0 (omega arith), length-decimal 0 1 (omega arith))

  ring-is : take n (zero_ring 64) ≡ zero_ring n
  ring-is = zeros-part n 64 (omega (arith, l.sized))

  -- a state at the all-zero ring, whatever it counts
  pub start-good : (rings sum : ℕ) → rings ≤ most_printed → sum ≤ most_printed → GoodState (record { k = k; n = n; ring = zero_ring 64; rings = rings; moves = sum })
  start-good rings sum few short =
      let g = stands_good (start_state k n) (record { numbers = l; counted = rw ring-is (counted_start n k l) }) in
      record { numbers = l; reading = g.reading; member = g.member; rings = few; moves = short }

  module _ (b : List ℕ) (room : row_room ≤ length b) where
    pub open-first : 0 + length (first_line k n) ≤ length b
    open-first = omega (arith, first_short)

    module _ (first : ℕ) (b₁ : List ℕ) (p : Placed b 0 (first_line k n) first b₁) where
      pub open-ring : first + length (ring_line (take n (zero_ring 64)) 0 1) ≤ length b₁
      open-ring = rw ring-is (omega (arith, p.next, first_short, zero-short, placed-length b 0 (first_line k n) first b₁ p))

      module _ (at : ℕ) (b₂ : List ℕ) (q : Placed b₁ first (ring_line (take n (zero_ring 64)) 0 1) at b₂) where
        placed-opening : Placed b 0 (opening k n) at b₂
        unfolding opening
        placed-opening =
            let e = zeros-period n l.sized.0 in
            let q' : Placed b₁ first (ring_line (zero_ring n) 0 (period (zero_ring n))) at b₂ = rw e (rw ring-is at q) in
            placed-append b 0 (first_line k n) first b₁ (ring_line (zero_ring n) 0 (period (zero_ring n))) at b₂ p q'

        pub open-length : length b₂ ≡ length b
        open-length = placed-length b 0 (opening k n) at b₂ placed-opening

        pub open-inside : at ≤ length b₂
        open-inside = omega (arith, q.next, open-ring, placed-length b₁ first (ring_line (take n (zero_ring 64)) 0 1) at b₂ q)

        pub opened : (r : Page) (b₃ : List ℕ) → FillSays (start_state k n) b₂ at r b₃ → OpenSays k n b r b₃
        opened r b₃ f =
            let e : at ≡ length (opening k n) = omega (arith, placed-opening.next) in
            record {
              text = f.text;
              rest = f.rest;
              goes = rw (open-length, ring-is, e) at f.goes;
              placed = placed-append b 0 (opening k n) at b₂ f.text r.length b₃ placed-opening f.placed;
              inside = omega (arith, f.inside, open-length);
              state = f.state;
            }
