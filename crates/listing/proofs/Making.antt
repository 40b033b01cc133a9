-- What makes a page.
--     paged-none                        nothing is written
--     placed-paged                      a text placed at the beginning of a buffer is the page of that text
--     refused-room, refused_says        a refusal's line
--     first_small, first-refused, first-listed    the first page: no room for a line, a refusal, a listing
--     next-none, next-filled            any other page: from a state that is not good, and from one that is
use Rattle.words.proofs.Plain.{ℕ, ◌+◌, ◌^◌, ◌<◌, ◌≤◌, arith, ◌≡◌, refl, ap, ◌∙◌, List, [], ◌++◌, length, sets-eq}
use Rattle.refusal.specs.{declared.Refusal.Refusal, Numbers.number_of}
use Rattle.text_spec.specs.{Text.refused_line, Put.Placed}
use Rattle.text_spec.proofs.{Digits.length-decimal, Put.length-refused}
use Rattle.std.specs.Prelude.{Ok, Err}
use Rattle.plan_spec.specs.Plan.{PlanSays}
use Rattle.plan_spec.proofs.Numbers.{plan-number}
use Rattle.listing_spec.specs.{declared.State.State, declared.Page.Page, Listing.opening, Prints.most_printed}
use Rattle.listing_spec.specs.State.{GoodState, empty_state}
use Rattle.listing_spec.specs.Paging.{row_room, FirstPage, small, refused, listed, Next, bad, good, Paged}
use Rattle.listing_pages_inner.specs.Says.{FillSays, OpenSays}
use Rattle.listing.specs.Says.{empty_page, RefusedPageSays}

-- a page of no bytes
paged-none : (P : List ℕ → State → Type 0) (b : List ℕ) (r : Page) → r ≡ empty_page → P [] r.state → Paged P b r b
paged-none P b r e p = record { text = []; says = p; fits = omega arith; long = ap (λ (x : Page). x.length) e; bytes = refl }

-- a text placed at the beginning
placed-paged : (P : List ℕ → State → Type 0) (b : List ℕ) (r : Page) (b' t : List ℕ) → Placed b 0 t r.length b' → length t ≤ length b → P t r.state → Paged P b r b'
placed-paged P b r b' t q h p =
    let e : 0 + length t ≡ length t = omega arith in
    record { text = t; says = p; fits = h; long = q.next ∙ e; bytes = q.bytes ∙ rw e at (sets-eq t b 0 (omega arith)) }

-- a number's line has room
pub refused-room : (at x room : ℕ) → at ≤ 64 → x < 10 ^ 20 → row_room ≤ room → at + length (refused_line x) ≤ room
refused-room at x room near h l = omega (arith, length-refused x, length-decimal 19 x h)

-- the line of the refusal's own number
pub refused_says : (r : Refusal) (x : ℕ) → x ≡ number_of r → (b : List ℕ) (p : Page) (b' : List ℕ) → Placed b 0 (refused_line x) p.length b' → p.state ≡ empty_state → RefusedPageSays r b p b'
refused_says r x e b p b' q f = record { placed = rw e at q; state = f }

module _ (s b : List ℕ) (r : Page) where
  -- no room for a line
  pub first_small : length b < row_room → r ≡ empty_page → Paged (FirstPage s (length b)) b r b
  first_small h e = paged-none (FirstPage s (length b)) b r e (small h refl (ap (λ (x : Page). x.state) e))

  -- a refusal's line fits, and is the page
  refused-fits : row_room ≤ length b → (x : Refusal) → PlanSays most_printed s (Err x) → length (refused_line (number_of x)) ≤ length b
  refused-fits h x p = omega (arith, length-refused (number_of x), length-decimal 1 (number_of x) (omega (arith, plan-number most_printed s x p)))

  pub first-refused : (b' : List ℕ) → row_room ≤ length b → (x : Refusal) → PlanSays most_printed s (Err x) → RefusedPageSays x b r b' → Paged (FirstPage s (length b)) b r b'
  first-refused b' h x p q =
      placed-paged (FirstPage s (length b)) b r b' (refused_line (number_of x)) q.placed (refused-fits h x p) (refused h x p refl q.state)

  -- a listing's first page
  pub first-listed : (b' : List ℕ) → row_room ≤ length b → (k n : ℕ) → PlanSays most_printed s (Ok (k, n)) → OpenSays k n b r b' → Paged (FirstPage s (length b)) b r b'
  first-listed b' h k n p q =
      placed-paged (FirstPage s (length b)) b r b' (opening k n ++ q.text) q.placed (omega (arith, q.inside, q.placed.next))
      (listed h k n q.text q.rest p q.goes refl q.state)

module _ (s : State) (b : List ℕ) (r : Page) where
  -- nothing follows
  pub next-none : (GoodState s → ⊥) → r ≡ empty_page → Paged (Next s (length b)) b r b
  next-none h e = paged-none (Next s (length b)) b r e (bad h refl (ap (λ (x : Page). x.state) e))

  -- a page from its beginning on
  pub next-filled : (b' : List ℕ) → GoodState s → FillSays s b 0 r b' → Paged (Next s (length b)) b r b'
  next-filled b' g q =
      placed-paged (Next s (length b)) b r b' q.text q.placed (omega (arith, q.inside, q.placed.next)) (good g q.rest q.goes q.state)
