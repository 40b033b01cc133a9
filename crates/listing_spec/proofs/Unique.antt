-- An input has one output, and an input or a state and a buffer determine the page, the state behind it and every byte of the buffer.
--     walk-one, one-listing, one-output    two full walks are one, and so are two listings of k and n, and two outputs for an input
--     goes_one                             the lines that follow a ring are determined, and what they leave
--     first_one, next_one                  so are the first page's text and state, and any other's
--     one-page, one-first, one-next        and so are the answer and the buffer afterwards
use Rattle.words.proofs.Plain.{ℕ, arith, ◌≡◌, refl, sym, ap, ◌∙◌, Bool, List, ◌∷◌, ◌++◌, length, drop}
use Rattle.rings.specs.Necklace.{necklace}
use Rattle.rings.specs.Steps.{FullWalk, done, step}
use Rattle.ring_laws.proofs.FullWalk.{walk-moves}
use Rattle.refusal.specs.{declared.Refusal.Refusal, Numbers.number_of}
use Rattle.text_spec.specs.Text.{refused_line}
use Rattle.std.specs.Prelude.{Ok, Err}
use Rattle.plan_spec.specs.Plan.{PlanSays}
use Rattle.plan_spec.proofs.Unique.{one-plan}
use Rattle.listing_spec.specs.{declared.State.State, declared.Page.Page, Prints.most_printed, Prints.ListPrints}
use Rattle.listing_spec.specs.Listing.{row, opening, listing_text, Listing}
use Rattle.listing_spec.specs.Prints as prints
use Rattle.listing_spec.specs.State.{Rest, start_state, state_behind}
use Rattle.listing_spec.specs.Paging.{Goes, full, total, line, FirstPage, small, refused, listed, Next, bad, good, Paged}

-- ---- one listing

-- two full walks from a ring are one
walk-one : (kind : List ℕ → Bool) (k : ℕ) {w : List ℕ} {rings others : List (List ℕ)} {m l : ℕ} → FullWalk kind k w rings m → FullWalk kind k w others l → rings ≡ others
walk-one kind k (done e) (done f) = refl
walk-one kind k (done e) (step f q) = absurd (let x : ◌≡◌ {A = ℕ} 0 1 = cc in omega arith)
walk-one kind k (step e p) (done f) = absurd (let x : ◌≡◌ {A = ℕ} 0 1 = cc in omega arith)
walk-one kind k (step {v = v} {rings = rings} e p) (step {v = u} {rings = others} f q) =
    let h : u ≡ v = cc in
    ap (λ (x : List ℕ). x ∷ rings) (sym h) ∙ ap (λ (x : List (List ℕ)). u ∷ x) (walk-one kind k p (rw h at q))

-- k and n have at most one listing
pub one-listing : (k n : ℕ) (s t : List ℕ) → Listing k n s → Listing k n t → s ≡ t
one-listing k n s t a b =
    let e = walk-one necklace k a.walk b.walk in
    let f : a.sum ≡ b.sum = walk-moves necklace k a.walk ∙ sym (walk-moves necklace k b.walk) in
    a.is ∙ ap (λ (x : List (List ℕ)). listing_text k n x a.sum) e ∙ ap (listing_text k n b.rings) f ∙ sym b.is

module _ (s : List ℕ) where
  -- two refusals of an input are one; nor is an input both refused and listed; and it is listed with one k and n
  refusals : (r t : Refusal) → PlanSays most_printed s (Err r) → PlanSays most_printed s (Err t) → r ≡ t
  refusals r t p q = let e = one-plan most_printed s (Err r) (Err t) p q in cc

  not-both : (r : Refusal) (k n : ℕ) → PlanSays most_printed s (Err r) → PlanSays most_printed s (Ok (k, n)) → ⊥
  not-both r k n p q = let e = one-plan most_printed s (Err r) (Ok (k, n)) p q in let z : ◌≡◌ {A = ℕ} 0 1 = cc in omega arith

  numbers : (k n k' n' : ℕ) → PlanSays most_printed s (Ok (k, n)) → PlanSays most_printed s (Ok (k', n')) → (k' ≡ k) × (n' ≡ n)
  numbers k n k' n' p q =
      let e = one-plan most_printed s (Ok (k, n)) (Ok (k', n')) p q in
      let f : ◌≡◌ {A = ℕ × ℕ} (k', n') (k, n) = cc in
      (ap (λ (x : ℕ × ℕ). x.0) f, ap (λ (x : ℕ × ℕ). x.1) f)

  -- an input has at most one output
  pub one-output : (t u : List ℕ) → ListPrints s t → ListPrints s u → t ≡ u
  one-output t u (prints.listed k n p l) (prints.listed k' n' q m) =
      let e = numbers k n k' n' p q in
      one-listing k n t u l (rw (e.0, e.1) at m)
  one-output t u (prints.listed k n p l) (prints.refused r q e) = absurd (not-both r k n q p)
  one-output t u (prints.refused r p e) (prints.listed k n q l) = absurd (not-both r k n p q)
  one-output t u (prints.refused r p e) (prints.refused r' q f) = e ∙ ap (λ (x : Refusal). refused_line (number_of x)) (refusals r r' p q) ∙ sym f

-- ---- one page

-- the lines that follow a ring, and what they leave
goes_one : {k room : ℕ} {v : List ℕ} {rings sum at : ℕ} {t u : List ℕ} {a b : Rest} → Goes k room v rings sum at t a → Goes k room v rings sum at u b → (t ≡ u) × (a ≡ b)
goes_one (full h) (full g) = (refl, refl)
goes_one (full h) (total g f) = absurd (omega arith)
goes_one (full h) (line g f q) = absurd (omega arith)
goes_one (total h e) (full g) = absurd (omega arith)
goes_one (total h e) (total g f) = (refl, refl)
goes_one (total h e) (line g f q) = absurd (let z : ◌≡◌ {A = ℕ} 0 1 = cc in omega arith)
goes_one (line h e p) (full g) = absurd (omega arith)
goes_one (line h e p) (total g f) = absurd (let z : ◌≡◌ {A = ℕ} 0 1 = cc in omega arith)
goes_one {k} {v = v} (line {x = x} {text = t} h e p) (line {x = y} {text = u} g f q) =
    let i : y ≡ x = cc in
    let j = goes_one p (rw i at q) in
    (ap (λ (z : List ℕ). row k v x ++ z) j.0 ∙ ap (λ (z : List ℕ). row k v z ++ u) (sym i), j.1)

-- the first page's text and state
first_one : (s : List ℕ) (room : ℕ) (t u : List ℕ) (a b : State) → FirstPage s room t a → FirstPage s room u b → (t ≡ u) × (a ≡ b)
first_one s room t u a b (small h e f) (small g i j) = (e ∙ sym i, f ∙ sym j)
first_one s room t u a b (small h e f) (refused g r p i j) = absurd (omega arith)
first_one s room t u a b (small h e f) (listed g k n x y p q i j) = absurd (omega arith)
first_one s room t u a b (refused h r p e f) (small g i j) = absurd (omega arith)
first_one s room t u a b (refused h r p e f) (refused g r' q i j) = (e ∙ ap (λ (x : Refusal). refused_line (number_of x)) (refusals s r r' p q) ∙ sym i, f ∙ sym j)
first_one s room t u a b (refused h r p e f) (listed g k n x y q z i j) = absurd (not-both s r k n p q)
first_one s room t u a b (listed h k n x y p q e f) (small g i j) = absurd (omega arith)
first_one s room t u a b (listed h k n x y p q e f) (refused g r z i j) = absurd (not-both s r k n z p)
first_one s room t u a b (listed h k n x y p q e f) (listed g k' n' x' y' p' q' i j) =
    let d = numbers s k n k' n' p p' in
    let l = goes_one q (rw (d.0, d.1) at q') in
    let i' : u ≡ opening k n ++ x' = rw (d.0, d.1) at i in
    let j' : b ≡ state_behind (start_state k n) y' = rw (d.0, d.1) at j in
    (e ∙ ap (λ (z : List ℕ). opening k n ++ z) l.0 ∙ sym i', f ∙ ap (state_behind (start_state k n)) l.1 ∙ sym j')

-- any other page's
next_one : (s : State) (room : ℕ) (t u : List ℕ) (a b : State) → Next s room t a → Next s room u b → (t ≡ u) × (a ≡ b)
next_one s room t u a b (bad h e f) (bad g i j) = (e ∙ sym i, f ∙ sym j)
next_one s room t u a b (bad h e f) (good g y q j) = absurd (h g)
next_one s room t u a b (good h x p f) (bad g i j) = absurd (g h)
next_one s room t u a b (good h x p f) (good g y q j) = let l = goes_one p q in (l.0, f ∙ ap (state_behind s) l.1 ∙ sym j)

-- a text and a state determine the answer and the buffer afterwards
pub one-page : (P : List ℕ → State → Type 0) → ((t u : List ℕ) (a b : State) → P t a → P u b → (t ≡ u) × (a ≡ b)) → (b : List ℕ) (r q : Page)
    (x y : List ℕ) → Paged P b r x → Paged P b q y → (r ≡ q) × (x ≡ y)
one-page P one b r q x y p g =
    let e = one p.text g.text r.state q.state p.says g.says in
    let l : r.length ≡ q.length = p.long ∙ ap length e.0 ∙ sym g.long in
    (λ i. record { length = l i; state = e.1 i }, p.bytes ∙ ap (λ (t : List ℕ). t ++ drop (length t) b) e.0 ∙ sym g.bytes)

-- the first page
pub one-first : (s b : List ℕ) (r q : Page) (x y : List ℕ) → Paged (FirstPage s (length b)) b r x → Paged (FirstPage s (length b)) b q y → (r ≡ q) × (x ≡ y)
one-first s b r q x y p g = one-page (FirstPage s (length b)) (first_one s (length b)) b r q x y p g

-- any other
pub one-next : (s : State) (b : List ℕ) (r q : Page) (x y : List ℕ) → Paged (Next s (length b)) b r x → Paged (Next s (length b)) b q y → (r ≡ q) × (x ≡ y)
one-next s b r q x y p g = one-page (Next s (length b)) (next_one s (length b)) b r q x y p g
