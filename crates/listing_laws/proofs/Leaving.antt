-- What a page leaves. A state stands where its ring's numbers may be listed and its counts are those of its ring; a page from there leaves such a state, or none.
--     CountedSoFar, Stands                   specs/Standing, passed on
--     counted_start, counted_next_lem       a necklace with the rings and moves up to it: the all-zero ring, and the next
--     goes-true                         the ring that a page leaves is counted right
--     goes-least, goes_some             where there is room for a line a page has one, and counts one ring more unless it is the last
--     stands_good                       a state that stands is good
--     stands-behind, empty-bad          the state that a page leaves stands, or is the empty one, which is not good
use Rattle.words.proofs.Plain.{ℕ, suc, ◌+◌, ◌^◌, ◌<◌, ◌≤◌, arith, ◌≡◌, refl, sym, ap, ◌∙◌, ◌⊎◌, inl, inr, ⊎_elim, true, some, List, ◌++◌, length, take, drop}
use Rattle.words.proofs.Plain.{length-append, take_at, length-take-le}
use Rattle.words.specs.Readings.{Reading}
use Rattle.rings.specs.{Necklace.necklace, Necklace.period, Steps.next_of, Steps.moves}
use Rattle.ring_laws.proofs.FullWalk.{next-facts, length-zeros, zeros-reading, zeros-necklace}
use Rattle.text_spec.specs.Text.{last_line}
use Rattle.text_spec.proofs.Put.{length_last, length-ring}
use Rattle.limits_spec.specs.Limits.{Listable}
use Rattle.listing_spec.specs.{declared.State.State, Listing.row, Listing.zero_ring, Prints.most_printed}
use Rattle.listing_spec.specs.State.{state_ring, GoodState, empty_state, start_state, Rest, over, on, state_behind}
use Rattle.listing_spec.specs.Paging.{row_room, Goes, full, total, line, Next, bad, good}
pub use Rattle.listing_laws.specs.Standing.{CountedSoFar, Stands}
use Rattle.listing_laws.proofs.Counting.{rings_to, moves_to, rings-bound, moves-bound, rings-start, rings-next, moves-begin, moves_next}

-- ---- rings and their counts

-- what is left behind a page
abbrev pub Left : ℕ → ℕ → Rest → Type 0
Left n k over = Unit
Left n k (on v rings sum) = CountedSoFar n k v rings sum

-- the next ring
pub counted_next_lem : (n k : ℕ) (v x : List ℕ) (rings sum : ℕ) → CountedSoFar n k v rings sum → next_of necklace k v ≡ some x → CountedSoFar n k x (suc rings) (sum + moves k v (some x))
counted_next_lem n k v x rings sum c e =
    let f = next-facts necklace k v x e in
    record {
      reading = rw c.reading.long at f.0;
      member = f.2;
      rings-are = omega (arith, c.rings-are, rings-next k v x e);
      sum_is = omega (arith, c.sum_is, moves_next k v x e (rw c.reading.long c.reading));
    }

-- the ring that a page leaves
pub goes-true : {n k room : ℕ} {v : List ℕ} {rings sum at : ℕ} {text : List ℕ} {rest : Rest} → Goes k room v rings sum at text rest → CountedSoFar n k v rings sum → Left n k rest
goes-true (full h) c = c
goes-true (total h e) c = tt
goes-true {n} {k} {v = v} {rings = rings} {sum = sum} (line {x = x} h e p) c = goes-true p (counted_next_lem n k v x rings sum c e)

-- ---- a page has a line

-- no fewer rings are behind the end of a page than behind its start
abbrev pub AtLeast : ℕ → Rest → Type 0
AtLeast rings over = Unit
AtLeast rings (on v more sum) = rings ≤ more

pub goes-least : {k room : ℕ} {v : List ℕ} {rings sum at : ℕ} {text : List ℕ} {rest : Rest} → Goes k room v rings sum at text rest → AtLeast rings rest
goes-least (full h) = omega arith
goes-least (total h e) = tt
goes-least {rest = over} (line h e p) = tt
goes-least {rest = on u more sum} (line h e p) = let g = goes-least p in omega arith

-- a ring's line has characters
row-some : (k : ℕ) (v x : List ℕ) → 0 < length (row k v x)
unfolding row
row-some k v x = omega (arith, length-ring x (moves k v (some x)) (period x))

-- where there is room for a line, a page has one, and counts one ring more unless it is the last
pub goes_some : {k room : ℕ} {v : List ℕ} {rings sum at : ℕ} {text : List ℕ} {rest : Rest} → Goes k room v rings sum at text rest → at + row_room ≤ room → (0 < length text) × AtLeast (suc rings) rest
goes_some (full h) r = absurd (omega arith)
goes_some {rings = rings} {sum = sum} (total h e) r = (omega (arith, length_last rings sum), tt)
goes_some {k} {v = v} (line {x = x} {text = text} h e p) r = (omega (arith, length-append (row k v x) text, row-some k v x), goes-least p)

-- ---- states

-- such a state is good
pub stands_good : (s : State) → Stands s → GoodState s
stands_good s st =
    let v = state_ring s in
    let e : s.k ^ length v ≤ most_printed = rw st.counted.reading.long st.numbers.few in
    record {
      numbers = st.numbers;
      reading = st.counted.reading;
      member = st.counted.member;
      rings = omega (arith, st.counted.rings-are, rings-bound s.k v);
      moves = omega (arith, st.counted.sum_is, moves-bound s.k v);
    }

-- the state that a page leaves stands, or nothing follows
pub stands-behind : (s : State) (rest : Rest) → Listable most_printed s.k s.n → Left s.n s.k rest → Stands (state_behind s rest) ⊎ (state_behind s rest ≡ empty_state)
stands-behind s over l c = inr refl
stands-behind s (on v rings sum) l c = inl (record { numbers = l; counted = rw (take_at v (drop s.n s.ring) s.n c.reading.long) c })

-- the all-zero ring
pub counted_start : (n k : ℕ) → Listable most_printed k n → CountedSoFar n k (zero_ring n) 1 0
counted_start n k l =
    let z : 0 < k = omega (arith, l.shaded) in
    record { reading = zeros-reading n k z; member = zeros-necklace n; rings-are = sym (rings-start n k z); sum_is = sym (moves-begin n k) }

-- nothing follows from the empty state
pub empty-bad : GoodState empty_state → ⊥
empty-bad g = omega (arith, g.numbers.sized)
