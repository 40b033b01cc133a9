-- The loop over the rings. `Along`: it has come from the ring v to another necklace, whose sectors and counts it holds, and what it has placed in the buffer from
-- `from` on is the beginning of the page: whatever goes on from here goes on from v with that text before it.
--     along-start                     before the first step
--     along-fits, along-size, along-ready    the ring has 64 sectors, and a step may be made
--     Came, came, stops               what a step's answer says: the ring that it came to, or that there is no ring more
--     line-short, line-room, line-further    of any ring's line, whatever its numbers: there is room for it, and it is not empty
--     came-size, came-moves           that ring's sectors, and its counts
--     along-on                        with that line, and no other, one ring more
--     says-full, says-ended           what the loop promises where it ends
use Rattle.words.proofs.Plain.{ℕ, suc, ◌+◌, ◌*◌, ◌^◌, ◌<◌, ◌≤◌, add-one, arith, ◌≡◌, refl, sym, ap, ◌∙◌, Bool, true, false, none, some, List, []}
use Rattle.words.proofs.Plain.{◌++◌, append_assoc, append-nil, length, take, drop, length-append, length-drop, take-append-drop, take_at, drop_at}
use Rattle.words.specs.{Order.before, Order.up_to, Readings.Reading}
use Rattle.words.proofs.{Split.clash, Search.least-le}
use Rattle.rings.specs.Necklace.{necklace, period, repeats_by}
use Rattle.rings.specs.Steps.{next_of, moves}
use Rattle.ring_laws.proofs.{Words.necklace-prenecklace, FullWalk.next-facts}
use Rattle.walk_kind_laws.specs.Kinds.{ReadyToStep}
use Rattle.walk_spec.specs.{declared.Outcome.Outcome, Says.WentSays}
use Rattle.walk_spec.specs.declared.Outcome.TheVariants.{Moved, Done}
use Rattle.text_spec.specs.{Text.ring_line, Text.last_line, Put.Placed}
use Rattle.text_spec.proofs.Digits.{length-decimal}
use Rattle.text_spec.proofs.Put.{placed-append, placed-length, length-ring, length_last}
use Rattle.limits_spec.specs.Limits.{Listable}
use Rattle.listing_spec.specs.{declared.State.State, Listing.row, Prints.most_printed}
use Rattle.listing_spec.specs.State.{state_ring, GoodState, Rest, over, on, state_behind}
use Rattle.listing_spec.specs.Paging.{row_room, Goes, full, total, line}
use Rattle.listing_laws.proofs.Counting.{rings_to, moves_to, rings-next, rings-bound, moves_next, moves-bound}
use Rattle.listing_rows_inner.specs.Says.{RowsSay}

pub record Along (n k : ℕ) (v tail : List ℕ) (rings₀ sum₀ : ℕ) (b : List ℕ) (from : ℕ) (ring : List ℕ) (rings sum at : ℕ) (b' : List ℕ) : Type 0 where
  pub text : List ℕ
  pub last : List ℕ
  pub laid : ring ≡ last ++ tail
  pub tail-long : n + length tail ≡ 64
  pub reading : Reading n k last
  pub member : necklace last ≡ true
  pub numbers : Listable most_printed k n
  pub counted : rings + rings_to k v ≡ rings₀ + rings_to k last
  pub summed : sum + moves_to k v ≡ sum₀ + moves_to k last
  pub few : (rings₀ ≤ most_printed) × (sum₀ ≤ most_printed)
  pub placed : Placed b from text at b'
  pub inside : at ≤ length b
  pub goes : (t : List ℕ) (rest : Rest) → Goes k (length b) last rings sum at t rest → Goes k (length b) v rings₀ sum₀ from (text ++ t) rest

-- before the first step
pub along-start : (s : State) (b : List ℕ) (from : ℕ) → GoodState s → length s.ring ≡ 64 → from ≤ length b →
    Along s.n s.k (state_ring s) (drop s.n s.ring) s.rings s.moves b from s.ring s.rings s.moves from b
along-start s b from g l h =
    record {
      text = [];
      last = state_ring s;
      laid = sym (take-append-drop s.n s.ring);
      tail-long = omega (arith, length-drop s.n s.ring, g.numbers.sized);
      reading = g.reading;
      member = g.member;
      numbers = g.numbers;
      counted = refl;
      summed = refl;
      few = (g.rings, g.moves);
      placed = none-placed;
      inside = h;
      goes = λ t rest q. q;
    }
  where
    none-placed : Placed b from [] from b
    none-placed = record { next = omega arith; bytes = refl }

-- what a step's answer says of the ring that it came to
pub record Came (k : ℕ) (last ring : List ℕ) (m p : ℕ) : Type 0 where
  pub next : next_of necklace k last ≡ some ring
  pub counted : m ≡ moves k last (some ring)
  pub repeats : p ≡ period ring

-- a ring's line is never empty, and no line of at most 64 sectors and two machine words is longer than `row_room`
pub line-some : (w : List ℕ) (m p : ℕ) → 0 < length (ring_line w m p)
line-some w m p = omega (arith, length-ring w m p)

pub line-short : (w : List ℕ) (m p : ℕ) → length w ≤ 64 → m < 2 ^ 64 → p < 2 ^ 64 → length (ring_line w m p) ≤ row_room
line-short w m p l a b = omega (arith, length-ring w m p, length-decimal 19 m (omega arith), length-decimal 19 p (omega arith))

-- so there is room for it, and it goes further
pub line-room : (room at : ℕ) (w : List ℕ) (m p : ℕ) → at + row_room ≤ room → length w ≤ 64 → m < 2 ^ 64 → p < 2 ^ 64 → at + length (ring_line w m p) ≤ room
line-room room at w m p h l x y = omega (arith, line-short w m p l x y)

pub line-further : (b : List ℕ) (at : ℕ) (w : List ℕ) (m p at' : ℕ) (b' : List ℕ) → Placed b at (ring_line w m p) at' b' → (at < at') × (length b' ≡ length b)
line-further b at w m p at' b' q = (omega (arith, q.next, line-some w m p), placed-length b at (ring_line w m p) at' b' q)

-- a period is at most one more than the length
pub period-le : (v : List ℕ) → period v ≤ suc (length v)
unfolding period
period-le v = omega (arith, least-le (length v) (λ i. repeats_by v (suc i)))

module _ {n k : ℕ} {v tail : List ℕ} {rings₀ sum₀ : ℕ} {b : List ℕ} {from : ℕ} {ring : List ℕ} {rings sum at : ℕ} {b' : List ℕ} (a : Along n k v tail rings₀ sum₀ b from ring rings sum at b') where
  -- the ring's sectors, and those past n
  taken : take n ring ≡ a.last
  taken = ap (take n) a.laid ∙ take_at a.last tail n a.reading.long

  dropped : drop n ring ≡ tail
  dropped = ap (drop n) a.laid ∙ drop_at a.last tail n a.reading.long

  pub along-fits : n ≤ 64
  along-fits = omega (arith, a.numbers.sized)

  pub along-size : length ring ≡ 64
  along-size = rw a.laid (omega (arith, length-append a.last tail, a.tail-long, a.reading.long))

  -- a step may be made
  pub along-ready : ReadyToStep k (take n ring)
  along-ready =
      rw taken (record {
        pos = omega (arith, a.reading.long, a.numbers.sized);
        fits = omega (arith, a.reading.long, a.numbers.sized);
        shades = a.numbers.shaded.0;
        few = a.numbers.shaded.1;
        reading = rw a.reading.long a.reading;
        pre = necklace-prenecklace a.last a.member;
      })

  pub came : (v' : List ℕ) (m p' : ℕ) → WentSays k (take n ring) v' (Moved m) p' → Came k a.last v' m p'
  came v' m p' w = record { next = rw taken at w.0; counted = rw taken at w.1; repeats = w.2 }

  -- a step that does not move says that there is no ring more, and leaves the ring as it was
  pub stops : (v' : List ℕ) (o : Outcome) (p' : ℕ) → ((m : ℕ) → o ≡ Moved m → ⊥) → WentSays k (take n ring) v' o p' → (next_of necklace k a.last ≡ none) × (v' ++ drop n ring ≡ ring)
  stops v' (Moved m) p' t w = absurd (t m refl)
  stops v' (Done m) p' t w = (rw taken at w.0, ap (λ (x : List ℕ). x ++ drop n ring) w.2 ∙ take-append-drop n ring)

  -- the counts so far
  pub along-rings : rings ≤ 2 * most_printed
  along-rings = omega (arith, a.counted, a.few, rings-bound k a.last, ap (λ (x : ℕ). k ^ x) a.reading.long, a.numbers.few)

  pub along-moves : sum ≤ 2 * most_printed
  along-moves = omega (arith, a.summed, a.few, moves-bound k a.last, ap (λ (x : ℕ). k ^ x) a.reading.long, a.numbers.few)

  module _ (v' : List ℕ) (m p' : ℕ) (c : Came k a.last v' m p') where
    facts : Reading (length a.last) k v' × (before a.last v' ≡ true) × (necklace v' ≡ true) ×
        ((u : List ℕ) → Reading (length a.last) k u → before a.last u ≡ true → necklace u ≡ true → up_to v' u ≡ true)
    facts = next-facts necklace k a.last v' c.next

    came-reading : Reading n k v'
    came-reading = rw a.reading.long at facts.0

    -- the ring of 64 sectors that the step leaves
    pub came-size : length (v' ++ drop n ring) ≡ 64
    came-size = rw dropped (omega (arith, length-append v' tail, came-reading.long, a.tail-long))

    -- the moves up to it
    came-sum : sum + m + moves_to k v ≡ sum₀ + moves_to k v'
    came-sum = omega (arith, a.summed, c.counted, moves_next k a.last v' c.next (rw a.reading.long a.reading))

    bound : moves_to k v' ≤ most_printed
    bound = omega (arith, moves-bound k v', ap (λ (x : ℕ). k ^ x) came-reading.long, a.numbers.few)

    pub came-moves : sum + m ≤ 2 * most_printed
    came-moves = omega (arith, came-sum, a.few, bound)

    -- the line that is written
    line-is : ring_line (take n (v' ++ drop n ring)) m p' ≡ row k a.last v'
    unfolding row
    line-is = rw (take_at v' (drop n ring) n came-reading.long, c.repeats, c.counted)

    line-fits : length (row k a.last v') ≤ row_room
    unfolding row
    line-fits =
        line-short v' (moves k a.last (some v')) (period v') (omega (arith, came-reading.long, a.numbers.sized)) (omega (arith, c.counted, came-moves))
        (omega (arith, period-le v', came-reading.long, a.numbers.sized))

    module _ (at' : ℕ) (b'' : List ℕ) (room : at + row_room ≤ length b') (q : Placed b' at (ring_line (take n (v' ++ drop n ring)) m p') at' b'') where
      placed-line : Placed b' at (row k a.last v') at' b''
      placed-line = rw line-is at q

      same-room : length b' ≡ length b
      same-room = placed-length b from a.text at b' a.placed

      goes_on : (t : List ℕ) (rest : Rest) → Goes k (length b) v' (rings + 1) (sum + m) at' t rest → Goes k (length b) v rings₀ sum₀ from ((a.text ++ row k a.last v') ++ t) rest
      goes_on t rest g =
          let h : Goes k (length b) v' (suc rings) (sum + moves k a.last (some v')) (at + length (row k a.last v')) t rest = rw (add-one rings, c.counted, placed-line.next) at g in
          rw (append_assoc a.text (row k a.last v') t) (a.goes (row k a.last v' ++ t) rest (line (omega (arith, same-room)) c.next h))

      pub along-on : Along n k v tail rings₀ sum₀ b from (v' ++ drop n ring) (rings + 1) (sum + m) at' b''
      along-on =
          record {
            text = a.text ++ row k a.last v';
            last = v';
            laid = ap (λ (t : List ℕ). v' ++ t) dropped;
            tail-long = a.tail-long;
            reading = came-reading;
            member = facts.2;
            numbers = a.numbers;
            counted = omega (arith, a.counted, rings-next k a.last v' c.next);
            summed = came-sum;
            few = a.few;
            placed = placed-append b from a.text at b' (row k a.last v') at' b'' a.placed placed-line;
            inside = omega (arith, placed-line.next, line-fits, same-room);
            goes = goes_on;
          }

-- ---- the end of the loop

module _ (s : State) (b : List ℕ) (from : ℕ) (ring : List ℕ) (rings sum at : ℕ) (b' : List ℕ)
    (a : Along s.n s.k (state_ring s) (drop s.n s.ring) s.rings s.moves b from ring rings sum at b') where
  pub keeps-length : length b' ≡ length b
  keeps-length = placed-length b from a.text at b' a.placed

  module _ (ring' : List ℕ) (same : ring' ≡ ring) (more : Bool) where
    -- the state that it leaves
    abbrev left : State
    left = record { k = s.k; n = s.n; ring = ring'; rings = rings; moves = sum }

    state-is : left ≡ state_behind s (on a.last rings sum)
    state-is = λ i. record { k = s.k; n = s.n; ring = (same ∙ a.laid) i; rings = rings; moves = sum }

    -- for want of room
    pub says-full : more ≡ true → length b' < at + row_room → RowsSay s b from (record { state = left; at = at; more = more }) b'
    says-full t h =
        record {
          text = a.text;
          ring = a.last;
          state = state-is;
          placed = a.placed;
          inside = a.inside;
          full = λ q. rw (append-nil a.text) at (a.goes [] (on a.last rings sum) (full (omega (arith, keeps-length))));
          room = λ q. clash more t q;
          ended = λ q. clash more t q;
        }

    last-short : length (last_line rings sum) ≤ row_room
    last-short = omega (arith, length_last rings sum, length-decimal 19 rings (omega (arith, along-rings a)), length-decimal 19 sum (omega (arith, along-moves a)))

    -- at the last ring
    pub says-ended : more ≡ false → at + row_room ≤ length b' → next_of necklace s.k a.last ≡ none → RowsSay s b from (record { state = left; at = at; more = more }) b'
    says-ended t h d =
        record {
          text = a.text;
          ring = a.last;
          state = state-is;
          placed = a.placed;
          inside = a.inside;
          full = λ q. clash more q t;
          room = λ q. omega (arith, keeps-length, last-short);
          ended = λ q. a.goes (last_line rings sum) over (total (omega (arith, keeps-length)) d);
        }
