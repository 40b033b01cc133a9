-- The whole output.
--     walk-rings, listing-total     its last line has the number of all necklaces, and one less than that of all prenecklaces, of n and k (demand 3)
--     listing-exists                k and n have a listing
--     paged-take                    what stands in the buffer is the page's text
--     pages-follow                  the pages from a state that stands are all that follows its ring
--     pages-whole                   the first page and the pages that follow are the whole output for the input
use Rattle.words.proofs.Plain.{ℕ, suc, ◌+◌, ◌<◌, ◌≤◌, arith, ◌≡◌, refl, sym, ap, ◌∙◌, ◌⊎◌, inl, inr, ⊎_elim, List, [], ◌++◌, append-nil, append_assoc, length}
use Rattle.words.proofs.Plain.{take, drop, take_at}
use Rattle.words.specs.Readings.{Reading}
use Rattle.rings.specs.{Necklace.necklace, Prenecklace.prenecklace}
use Rattle.rings.specs.Steps.{how_many, FullWalk, done, step}
use Rattle.ring_laws.proofs.FullWalk.{next-facts, length-zeros, zeros-reading, zeros-necklace, walk-sum, walk-exists}
use Rattle.text_spec.specs.Text.{last_line}
use Rattle.limits_spec.specs.Limits.{Listable}
use Rattle.listing_spec.specs.{declared.State.State, declared.Page.Page, Prints.most_printed, Prints.ListPrints}
use Rattle.listing_spec.specs.Listing.{rows, zero_ring, opening, listing_text, Listing}
use Rattle.listing_spec.specs.Prints as prints
use Rattle.listing_spec.specs.State.{state_ring, GoodState, empty_state, start_state, Rest, over, on, state_behind}
use Rattle.listing_spec.specs.Paging.{row_room, Goes, FirstPage, small, refused, listed, Next, bad, good, Paged, Pages, last, page}
use Rattle.listing_laws.proofs.Counting.{rings_to, rings-start, rings-next, rings-end}
use Rattle.listing_laws.proofs.Following.{Follows, follows-walk, Behind, goes-follows}
use Rattle.listing_laws.proofs.Leaving.{CountedSoFar, counted_start, Left, goes-true, goes_some, Stands, stands_good, stands-behind, empty-bad}

-- ---- the last line

-- a full walk by necklaces comes to as many rings as there are necklaces left
walk-rings : (k : ℕ) → 0 < k → {w : List ℕ} {rings : List (List ℕ)} {m : ℕ} → FullWalk necklace k w rings m → Reading (length w) k w → rings_to k w + length rings ≡ how_many necklace (length w) k
walk-rings k z (done {w = w} e) r = omega (arith, rings-end (length w) k w z r e)
walk-rings k z (step {w = w} {v = v} e f) r =
    let g = next-facts necklace k w v e in
    let h = walk-rings k z f (rw g.0.long g.0) in
    omega (arith, h, rings-next k w v e, ap (λ (n : ℕ). how_many necklace n k) g.0.long)

-- the number of rings, and the sum of moves
pub listing-total : (k n : ℕ) (text : List ℕ) (l : Listing k n text) → 0 < k → (suc (length l.rings) ≡ how_many necklace n k) × (suc l.sum ≡ how_many prenecklace n k)
listing-total k n text l z =
    let r = zeros-reading n k z in
    let h = walk-rings k z l.walk (rw (length-zeros n) r) in
    (omega (arith, h, rings-start n k z, ap (λ (x : ℕ). how_many necklace x k) (length-zeros n)), walk-sum necklace n k z l.rings l.sum l.walk)

-- every k and n have a listing
pub listing-exists : (k n : ℕ) → (text : List ℕ) × Listing k n text
listing-exists k n =
    let f = walk-exists necklace k (zero_ring n) in
    (listing_text k n f.0 f.1, record { rings = f.0; sum = f.1; walk = f.2; is = refl })

-- ---- page after page

-- what stands in the buffer is the page's text
pub paged-take : (P : List ℕ → State → Type 0) (b : List ℕ) (r : Page) (b' : List ℕ) (p : Paged P b r b') → take r.length b' ≡ p.text
paged-take P b r b' p = ap (take r.length) p.bytes ∙ take_at p.text (drop (length p.text) b) r.length (sym p.long)

-- t is all that follows from a state that stands, or nothing follows and t is empty
abbrev Ahead : State → List ℕ → Type 0
Ahead s t = (Stands s × Follows s.k (state_ring s) s.rings s.moves t) ⊎ ((s ≡ empty_state) × (t ≡ []))

-- so for the state that a page leaves
behind : (s : State) (rest : Rest) (t : List ℕ) → Listable most_printed s.k s.n → Left s.n s.k rest → Ahead (state_behind s rest) t → Behind s.k rest t
behind s over t l c a = ⊎_elim (λ x. absurd (empty-bad (stands_good empty_state x.0))) (λ x. x.1) a
behind s (on v rings sum) t l c a =
    let e : take s.n (v ++ drop s.n s.ring) ≡ v = take_at v (drop s.n s.ring) s.n c.reading.long in
    ⊎_elim (λ x. rw e at x.1) (λ x. absurd (omega (arith, l.sized, ap (λ (y : State). y.n) x.0))) a

-- the pages from a state
pub pages-follow : (s : State) (t : List ℕ) → Pages s t → Stands s ⊎ (s ≡ empty_state) → Ahead s t
pages-follow s t (last {b = b} {b' = b'} {r = r} room p z) (inl st) = absurd (none p.says)
  where
    none : Next s (length b) p.text r.state → ⊥
    none (bad h e f) = h (stands_good s st)
    none (good g rest q f) = omega (arith, (goes_some q (omega arith)).0, p.long)
pages-follow s t (last room p z) (inr e) = inr (e, refl)
pages-follow s t (page {b = b} {b' = b'} {t = t'} {r = r} room p z q) (inl st) = go p.says (λ y. pages-follow r.state t' q y)
  where
    go : Next s (length b) p.text r.state → (Stands r.state ⊎ (r.state ≡ empty_state) → Ahead r.state t') → Ahead s (take r.length b' ++ t')
    go (bad h e f) again = absurd (h (stands_good s st))
    go (good g rest n f) again =
        let c = goes-true n st.counted in
        let a : Ahead (state_behind s rest) t' = rw f at (again (rw f (stands-behind s rest st.numbers c))) in
        inl (st, rw (paged-take (Next s (length b)) b r b' p) (goes-follows n t' (behind s rest t' st.numbers c a)))
pages-follow s t (page {b = b} {r = r} room p z q) (inr e) = absurd (none p.says)
  where
    none : Next s (length b) p.text r.state → ⊥
    none (bad h d f) = omega (arith, p.long, ap length d)
    none (good g rest n f) = empty-bad (rw e at g)

-- all that follows the all-zero ring, behind the first two lines, is the listing
begun : (k n : ℕ) (t : List ℕ) → Listable most_printed k n → Follows k (zero_ring n) 1 0 t → Listing k n (opening k n ++ t)
unfolding listing_text
begun k n t l f =
    let z : 0 < k = omega (arith, l.shaded) in
    let w = follows-walk k z f (rw (length-zeros n) (zeros-reading n k z)) (zeros-necklace n) in
    let a : 1 + length w.others ≡ suc (length w.others) = omega arith in
    let b : 0 + w.more ≡ w.more = omega arith in
    record { rings = w.others; sum = w.more; walk = w.walk; is = ap (λ (y : List ℕ). opening k n ++ y) (rw (a, b) at w.is) }

-- the first page and the pages that follow are the whole output
pub pages-whole : (s b : List ℕ) (r : Page) (b' t : List ℕ) → row_room ≤ length b → Paged (FirstPage s (length b)) b r b' → Pages r.state t → ListPrints s (take r.length b' ++ t)
pages-whole s b r b' t room p q = rw (paged-take (FirstPage s (length b)) b r b' p) (go p.says)
  where
    go : FirstPage s (length b) p.text r.state → ListPrints s (p.text ++ t)
    go (small h e f) = absurd (omega arith)
    go (refused h x n e f) =
        ⊎_elim (λ y. absurd (empty-bad (rw f at (stands_good r.state y.0)))) (λ y. prints.refused x n (rw (y.1, append-nil p.text) e)) (pages-follow r.state t q (inr f))
    go (listed h k n u rest x g e f) =
        let l : Listable most_printed k n = x.1 in
        let c = goes-true g (counted_start n k l) in
        let a : Ahead (state_behind (start_state k n) rest) t = rw f at (pages-follow r.state t q (rw f (stands-behind (start_state k n) rest l c))) in
        let j : Listing k n (opening k n ++ (u ++ t)) = begun k n (u ++ t) l (goes-follows g t (behind (start_state k n) rest t l c a)) in
        prints.listed k n x (rw (e, append_assoc (opening k n) u t) j)
