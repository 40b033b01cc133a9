-- What the searches of specs/Search find. Nothing else opens them.
use Rattle.words.proofs.Plain.{ℕ, zero, suc, ◌<◌, ◌≤◌, arith, ◌≡◌, refl, sym, ap, Bool, true, false, ◌&&◌, false≢true, length, get_or}
use Rattle.words.specs.Search.{all_below, some_below, least, greatest, tab}
use Rattle.words.proofs.Split.{passes, fails, test, lt, eq, gt, tri, both, both_left, both_right, either, left, right, either_left, either-right, clash}

-- ---- all_below

pub all-at : (n : ℕ) (f : ℕ → Bool) → all_below n f ≡ true → (i : ℕ) → i < n → f i ≡ true
unfolding all_below
all-at zero f h i l = absurd (omega arith)
all-at (suc n) f h i l =
    elim (tri i n) [ lt j ↦ all-at n f (both_left (all_below n f) (f n) h) i j | eq j ↦ rw j (both_right (all_below n f) (f n) h) | gt j ↦ absurd (omega arith) ]

pub all_of : (n : ℕ) (f : ℕ → Bool) → ((i : ℕ) → i < n → f i ≡ true) → all_below n f ≡ true
unfolding all_below
all_of zero f h = refl
all_of (suc n) f h = both (all_below n f) (f n) (all_of n f (λ i l. h i (omega arith))) (h n (omega arith))

-- some number fails where not all pass
pub not-all : (n : ℕ) (f : ℕ → Bool) → all_below n f ≡ false → (i : ℕ) × (i < n) × (f i ≡ false)
unfolding all_below
not-all zero f h = absurd (false≢true (sym h))
not-all (suc n) f h =
    elim (test (f n)) [
      | fails e ↦ (n, omega arith, e)
      | passes e ↦ elim (test (all_below n f))
          [ passes a ↦ clash (all_below n f && f n) (both (all_below n f) (f n) a e) h | fails a ↦ wider (not-all n f a) ]
    ]
  where
    wider : (i : ℕ) × (i < n) × (f i ≡ false) → (i : ℕ) × (i < suc n) × (f i ≡ false)
    wider (i, l, g) = (i, omega arith, g)

-- ---- some_below

pub some_of : (n : ℕ) (f : ℕ → Bool) (i : ℕ) → i < n → f i ≡ true → some_below n f ≡ true
unfolding some_below
some_of zero f i l e = absurd (omega arith)
some_of (suc n) f i l e =
    elim (tri i n) [ lt j ↦ either_left (some_below n f) (f n) (some_of n f i j e) | eq j ↦ either-right (some_below n f) (f n) (rw j at e) | gt j ↦ absurd (omega arith) ]

pub some_at : (n : ℕ) (f : ℕ → Bool) → some_below n f ≡ true → (i : ℕ) × (i < n) × (f i ≡ true)
unfolding some_below
some_at zero f h = absurd (false≢true h)
some_at (suc n) f h = elim (either (some_below n f) (f n) h) [ left e ↦ wider (some_at n f e) | right e g ↦ (n, omega arith, g) ]
  where
    wider : (i : ℕ) × (i < n) × (f i ≡ true) → (i : ℕ) × (i < suc n) × (f i ≡ true)
    wider (i, l, g) = (i, omega arith, g)

-- ---- least

pub least-le : (n : ℕ) (f : ℕ → Bool) → least n f ≤ n
unfolding least
least-le zero f = omega arith
least-le (suc n) f = elim (test (f 0)) [ passes e ↦ rw (e, least) (omega arith) | fails e ↦ rw (e, least) (omega (arith, least-le n (λ i. f (suc i)))) ]

-- the least one passes
pub least_at : (n : ℕ) (f : ℕ → Bool) → least n f < n → f (least n f) ≡ true
unfolding least
least_at zero f h = absurd (omega arith)
least_at (suc n) f h =
    elim (test (f 0)) [ passes e ↦ rw (e, least) e | fails e ↦ rw (e, least) (least_at n (λ i. f (suc i)) (let g = rw (e, least) at h in omega arith)) ]

-- nothing below it passes
pub least-none : (n : ℕ) (f : ℕ → Bool) (i : ℕ) → i < least n f → f i ≡ false
unfolding least
least-none zero f i h = absurd (omega arith)
least-none (suc n) f zero h = elim (test (f 0)) [ passes e ↦ absurd (let g = rw (e, least) at h in omega arith) | fails e ↦ e ]
least-none (suc n) f (suc i) h =
    elim (test (f 0)) [ passes e ↦ absurd (let g = rw (e, least) at h in omega arith) | fails e ↦ least-none n (λ j. f (suc j)) i (let g = rw (e, least) at h in omega arith) ]

-- what passes, with nothing below it passing, is the least
pub least-is : (n : ℕ) (f : ℕ → Bool) (i : ℕ) → i < n → f i ≡ true → ((j : ℕ) → j < i → f j ≡ false) → least n f ≡ i
least-is n f i l e none =
    elim (tri (least n f) i) [ lt h ↦ clash (f (least n f)) (least_at n f (omega arith)) (none (least n f) h) | eq h ↦ h | gt h ↦ clash (f i) e (least-none n f i h) ]

-- where something passes, the least is found
pub least_lt : (n : ℕ) (f : ℕ → Bool) (i : ℕ) → i < n → f i ≡ true → least n f < n
least_lt n f i l e = elim (tri (least n f) n) [ lt h ↦ h | eq h ↦ clash (f i) e (least-none n f i (omega arith)) | gt h ↦ absurd (omega (arith, least-le n f)) ]

-- ---- greatest

pub greatest-le : (n : ℕ) (f : ℕ → Bool) → greatest n f ≤ n
unfolding greatest
greatest-le zero f = omega arith
greatest-le (suc n) f = elim (test (f (suc n))) [ passes e ↦ rw (e, greatest) (omega arith) | fails e ↦ rw (e, greatest) (omega (arith, greatest-le n f)) ]

pub greatest-at : (n : ℕ) (f : ℕ → Bool) → 0 < greatest n f → f (greatest n f) ≡ true
unfolding greatest
greatest-at zero f h = absurd (omega arith)
greatest-at (suc n) f h =
    elim (test (f (suc n))) [ passes e ↦ rw (e, greatest) e | fails e ↦ rw (e, greatest) (greatest-at n f (rw (e, greatest) at h)) ]

-- nothing above it, up to n, passes
pub greatest-none : (n : ℕ) (f : ℕ → Bool) (i : ℕ) → greatest n f < i → i ≤ n → f i ≡ false
unfolding greatest
greatest-none zero f i h l = absurd (omega arith)
greatest-none (suc n) f i h l =
    elim (test (f (suc n))) [
      | passes e ↦ absurd (let g = rw (e, greatest) at h in omega arith)
      | fails e ↦ elim (tri i (suc n))
          [ lt j ↦ greatest-none n f i (rw (e, greatest) at h) (omega arith) | eq j ↦ rw j e | gt j ↦ absurd (omega arith) ]
    ]

pub greatest-is : (n : ℕ) (f : ℕ → Bool) (i : ℕ) → 0 < i → i ≤ n → f i ≡ true → ((j : ℕ) → i < j → j ≤ n → f j ≡ false) → greatest n f ≡ i
greatest-is n f i z l e none =
    elim (tri (greatest n f) i) [
      | lt h ↦ clash (f i) e (greatest-none n f i h l)
      | eq h ↦ h
      | gt h ↦ clash (f (greatest n f)) (greatest-at n f (omega arith)) (none (greatest n f) h (greatest-le n f))
    ]

-- ---- tab

pub length-tab : (n : ℕ) (f : ℕ → ℕ) → length (tab n f) ≡ n
unfolding tab
length-tab zero f = refl
length-tab (suc n) f = ap suc (length-tab n (λ i. f (suc i)))

pub get_d-tab : (n : ℕ) (f : ℕ → ℕ) (i d : ℕ) → i < n → get_or (tab n f) i d ≡ f i
unfolding tab
get_d-tab zero f i d h = absurd (omega arith)
get_d-tab (suc n) f zero d h = refl
get_d-tab (suc n) f (suc i) d h = get_d-tab n (λ i. f (suc i)) i d (omega arith)
