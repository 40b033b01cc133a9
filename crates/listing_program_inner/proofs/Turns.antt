-- Page after page. Each page that is not the last has a ring's line at least, and the rings listed so far stay within the limit, so that the pages end.
--     paged-length                              a page keeps the buffer's length
--     turning-first, input-turning, turning-next    behind the first page, and behind the next, the listing stands or nothing follows
--     pages_left, pages-fall                     a bound on the pages that follow, which falls
use Rattle.words.proofs.Plain.{ℕ, zero, suc, ◌+◌, ◌-◌, ◌<◌, ◌≤◌, arith, ◌≡◌, refl, sym, ap, ◌∙◌, ◌⊎◌, inl, inr, List, [], ◌++◌, length, take, drop}
use Rattle.words.proofs.Plain.{length-append, length-take, length-drop, take_all}
use Rattle.limits_spec.specs.Limits.{Listable}
use Rattle.listing_spec.specs.{declared.State.State, declared.Page.Page, Prints.most_printed}
use Rattle.listing_spec.specs.State.{empty_state, start_state, Rest, over, on, state_behind}
use Rattle.listing_spec.specs.Paging.{row_room, FirstPage, small, refused, listed, Next, bad, good, Paged}
use Rattle.listing_laws.proofs.Leaving.{counted_start, goes-true, goes_some, AtLeast, Stands, stands_good, stands-behind, empty-bad}
use Rattle.program_reading_inner.specs.declared.Most.{Most}
use Rattle.program_reading_inner.specs.declared.Most.TheVariants as M
use Rattle.listing_program_inner.specs.Says.{FirstPageSays, Turning}

-- a page keeps the buffer's length
pub paged-length : (P : List ℕ → State → Type 0) (b : List ℕ) (r : Page) (b' : List ℕ) → Paged P b r b' → length b' ≡ length b
paged-length P b r b' p =
    ap length p.bytes ∙ omega (arith, length-append p.text (drop (length p.text) b), length-drop (length p.text) b, p.fits)

inside : (P : List ℕ → State → Type 0) (b : List ℕ) (r : Page) (b' : List ℕ) → Paged P b r b' → r.length ≤ length b
inside P b r b' p = omega (arith, p.fits, p.long)

-- behind the first page
first-stands : (s : List ℕ) (room : ℕ) (t : List ℕ) (state : State) → FirstPage s room t state → Stands state ⊎ (state ≡ empty_state)
first-stands s room t state (small h e f) = inr f
first-stands s room t state (refused h r p e f) = inr f
first-stands s room t state (listed h k n u rest p g e f) =
    rw f (stands-behind (start_state k n) rest p.1 (goes-true g (counted_start n k p.1)))

pub turning-first : (s b : List ℕ) (r : Page) (b' : List ℕ) → Paged (FirstPage s (length b)) b r b' → Turning r (length b)
turning-first s b r b' p = record { inside = inside (FirstPage s (length b)) b r b' p; stands = first-stands s (length b) p.text r.state p.says }

-- behind the first page for what was read, or behind none
none-turning : (r : Page) (m : ℕ) → r.length ≡ 0 → r.state ≡ empty_state → Turning r m
none-turning r m e f = record { inside = omega arith; stands = inr f }

pub input-turning : (most : Most) (line b : List ℕ) (r : Page) (b' : List ℕ) → FirstPageSays most line b r b' → (length b' ≡ length b) × Turning r (length b)
input-turning M.Full line b r b' p =
    let q = p line (take_all (length line) line (omega arith)) in
    (paged-length (FirstPage line (length b)) b r b' q, turning-first line b r b' q)
input-turning (M.Ended got) line b r b' p = (paged-length (FirstPage (take got line) (length b)) b r b' p, turning-first (take got line) b r b' p)
input-turning M.Failed line b r b' p = (ap length p.2, none-turning r (length b) p.0 p.1)

-- behind any other page
next-stands : (s : State) (room : ℕ) (t : List ℕ) (state : State) → Stands s ⊎ (s ≡ empty_state) → Next s room t state → Stands state ⊎ (state ≡ empty_state)
next-stands s room t state st (bad h e f) = inr f
next-stands s room t state (inl st) (good g rest p f) = rw f (stands-behind s rest st.numbers (goes-true p st.counted))
next-stands s room t state (inr e) (good g rest p f) = absurd (empty-bad (rw e at g))

pub turning-next : (s : State) (b : List ℕ) (r : Page) (b' : List ℕ) → Stands s ⊎ (s ≡ empty_state) → Paged (Next s (length b)) b r b' → Turning r (length b)
turning-next s b r b' st p = record { inside = inside (Next s (length b)) b r b' p; stands = next-stands s (length b) p.text r.state st p.says }

-- ---- how many pages follow

-- behind a state of n sectors and so many rings: none, or no more than the limit has rings left, and the last line
unfoldable pub left : ℕ → ℕ → ℕ
left zero rings = 0
left (suc n) rings = suc (most_printed - rings)

-- behind a page: none where it has no bytes
unfoldable pub behind : ℕ → ℕ → ℕ
behind zero m = 0
behind (suc l) m = suc m

unfoldable pub pages_left : Page → ℕ
pages_left r = behind r.length (left r.state.n r.state.rings)

left-some : (n rings : ℕ) → 1 ≤ n → left n rings ≡ suc (most_printed - rings)
unfolding left
left-some zero rings h = absurd (omega arith)
left-some (suc n) rings h = refl

behind-some : (l m : ℕ) → 0 < l → behind l m ≡ suc m
unfolding behind
behind-some zero m h = absurd (omega arith)
behind-some (suc l) m h = refl

behind-none : (l m : ℕ) → l ≡ 0 → behind l m ≡ 0
unfolding behind
behind-none zero m h = refl
behind-none (suc l) m h = absurd (omega arith)

-- behind a page that is not empty, fewer are left than behind the page before it
fewer : (s : State) (rest : Rest) → Stands s → Stands (state_behind s rest) ⊎ (state_behind s rest ≡ empty_state) → AtLeast (suc s.rings) rest →
    left (state_behind s rest).n (state_behind s rest).rings < left s.n s.rings
unfolding left
fewer s over st q a = omega (arith, left-some s.n s.rings st.numbers.sized.0)
fewer s (on v rings sum) st (inr e) a = absurd (omega (arith, st.numbers.sized, ap (λ (x : State). x.n) e))
fewer s (on v rings sum) st (inl f) a =
    omega (arith, left-some s.n s.rings st.numbers.sized.0, left-some s.n rings st.numbers.sized.0, (stands_good (state_behind s (on v rings sum)) f).rings)

-- a page more leaves fewer
pub pages-fall : (q : Page) (b : List ℕ) (r : Page) (b' : List ℕ) → Stands q.state ⊎ (q.state ≡ empty_state) → row_room ≤ length b → 0 < q.length →
    Paged (Next q.state (length b)) b r b' → pages_left r < pages_left q
unfolding pages_left
pages-fall q b r b' st room h p = rw (behind-some q.length (left q.state.n q.state.rings) h) (go st p.says)
  where
    none : r.length ≡ 0 → behind r.length (left r.state.n r.state.rings) < suc (left q.state.n q.state.rings)
    none e = rw (behind-none r.length (left r.state.n r.state.rings) e) (omega arith)

    go : Stands q.state ⊎ (q.state ≡ empty_state) → Next q.state (length b) p.text r.state → behind r.length
        (left r.state.n r.state.rings) < suc (left q.state.n q.state.rings)
    go x (bad g e f) = none (p.long ∙ ap length e)
    go (inr e) (good g rest n f) = absurd (empty-bad (rw e at g))
    go (inl s) (good g rest n f) =
        let some = goes_some n (omega arith) in
        let k = fewer q.state rest s (stands-behind q.state rest s.numbers (goes-true n s.counted)) some.1 in
        let k' : left r.state.n r.state.rings < left q.state.n q.state.rings = rw f k in
        rw (behind-some r.length (left r.state.n r.state.rings) (omega (arith, some.0, p.long))) (omega arith)
