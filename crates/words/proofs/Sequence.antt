-- Words as sequences. A word is a function from places to shades together with a length n: a beginning is a smaller n, an ending is the function
-- shifted, appending a sector is going from n to suc n. Nothing here cuts or joins lists.
--     sec, from, Less    specs/Sequence, passed on
--     Cmp f g n, cmp     within n places f is below g, or they agree, or g is below f
use Rattle.words.proofs.Plain.{ℕ, zero, suc, ◌+◌, ◌<◌, ◌≤◌, arith, ◌≡◌, sym, ap, ◌∙◌, List, get_or}
pub use Rattle.words.specs.Sequence.{sec, from, Less}
use Rattle.words.proofs.Split.{Tri, lt, eq, gt, tri}

pub data Cmp (f g : ℕ → ℕ) (n : ℕ) : Type 0 where
  below : Less f g n → Cmp f g n
  alike : ((m : ℕ) → m < n → f m ≡ g m) → Cmp f g n
  above : Less g f n → Cmp f g n

-- a value at two names of one place
pub place : (a : ℕ → ℕ) (i j : ℕ) → i ≡ j → a i ≡ a j
place a i j e = ap a e

-- what holds of each place below n, and of n, holds of each below suc n
pub one_more : (P : ℕ → Type 0) (n : ℕ) → ((m : ℕ) → m < n → P m) → P n → (m : ℕ) → m < suc n → P m
one_more P n h here m l = elim (tri m n) [ lt e ↦ h m e | eq e ↦ rw e here | gt e ↦ absurd (omega arith) ]

module _ (f g : ℕ → ℕ) where
  -- a difference within n places is one within more
  pub widen : (n m : ℕ) → n ≤ m → Less f g n → Less f g m
  widen n m h l = record { at = l.at; bound = omega arith; agree = l.agree; less = l.less }

  -- a difference within n places, known to stand within fewer
  pub narrow : (n m : ℕ) (l : Less f g n) → l.at < m → Less f g m
  narrow n m l h = record { at = l.at; bound = h; agree = l.agree; less = l.less }

  -- two sequences that agree are not below one another
  pub alike-less : (n : ℕ) → ((m : ℕ) → m < n → f m ≡ g m) → Less f g n → ⊥
  alike-less n h l = omega (arith, l.less, h l.at l.bound)

  pub less-asym : (n : ℕ) → Less f g n → Less g f n → ⊥
  less-asym n p q = elim (tri p.at q.at) [
    | lt h ↦ omega (arith, p.less, q.agree p.at h)
    | eq h ↦ omega
        (arith, p.less, q.less, place f p.at q.at h, place g p.at q.at h)
    | gt h ↦ omega (arith, q.less, p.agree q.at h)
  ]

  -- the three ways
  pub cmp : (n : ℕ) → Cmp f g n
  cmp zero = alike (λ m h. absurd (omega arith))
  cmp (suc n) = elim (cmp n) [ below l ↦ below (widen n (suc n) (omega arith) l) | alike h ↦ here h (tri (f n) (g n)) | above l ↦ above (wider l) ]
    where
      wider : Less g f n → Less g f (suc n)
      wider l = record { at = l.at; bound = omega arith; agree = l.agree; less = l.less }

      here : ((m : ℕ) → m < n → f m ≡ g m) → Tri (f n) (g n) → Cmp f g (suc n)
      here h (lt e) = below (record { at = n; bound = omega arith; agree = h; less = e })
      here h (eq e) = alike (one_more (λ m. f m ≡ g m) n h e)
      here h (gt e) = above (record { at = n; bound = omega arith; agree = λ m l. sym (h m l); less = e })

pub less-trans : (f g h : ℕ → ℕ) (n : ℕ) → Less f g n → Less g h n → Less f h n
less-trans f g h n p q =
    elim (tri p.at q.at) [
      | lt e ↦ record { at = p.at; bound = p.bound; agree = λ m l. p.agree m l ∙ q.agree m (omega arith); less = omega (arith, p.less, q.agree p.at e) }
      | eq e ↦ record {
        at = p.at;
        bound = p.bound;
        agree = λ m l. p.agree m l ∙ q.agree m (omega arith);
        less = omega
            (arith, p.less, q.less, place g p.at q.at e, place h p.at q.at e);
      }
      | gt e ↦ record { at = q.at; bound = q.bound; agree = λ m l. p.agree m (omega arith) ∙ q.agree m l; less = omega (arith, q.less, p.agree q.at e) }
    ]

-- the same difference, seen through equal sequences
pub recast : (f g f' g' : ℕ → ℕ) (n : ℕ) → ((m : ℕ) → m < n → f m ≡ f' m) → ((m : ℕ) → m < n → g m ≡ g' m) → Less f g n → Less f' g' n
recast f g f' g' n p q l =
    record {
      at = l.at;
      bound = l.bound;
      agree = λ m h. sym (p m (omega (arith, l.bound))) ∙ l.agree m h ∙ q m (omega (arith, l.bound));
      less =
          omega (arith, l.less, p l.at l.bound, q l.at l.bound);
    }
