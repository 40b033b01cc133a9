-- The strip from its right end, one necklace in front at a time. Sequences only; nothing here mentions a list.
-- t is the highest shade. x is a necklace, y the next one, d the period of x, e the first place where x and y differ.
--     lift, lifted, is-lifted    the first q of a prenecklace, then only t: a Lyndon word, where x at q is below t
--     tops           past the first difference with the next necklace there are only t
--     differ-early   two necklaces differ within the period of the greater
--     Link n t x y d                what is used of two neighbours; reaches: the last copy of the first d begins before or at the first difference
--     Tail n t x s K                s is the strip of K sectors from the necklace x on; begins: it begins with x; ends: its last n sectors are t
--     Found n t x s K w             w stands in the strip from x on, or round its end; seam, keep, new, new-last: what is found from y on, and the turns of x
--     settle         each turn of x is a turn by some j in its last copy
use Rattle.words.proofs.Plain.{ℕ, zero, suc, ◌+◌, ◌-◌, ◌≤◌, ◌<◌, arith, dec_lt, ◌≡◌, refl, sym, ◌∙◌, true, false, ltb, lt-ltb, le-ltb}
use Rattle.words.proofs.Sequence.{from, Less, Cmp, below, alike, above, cmp, widen, place}
use Rattle.ring_laws.proofs.{Run.Pre, Run.Lyn, Repeat.Turned}

-- the first q of x, then only t
pub record Lifted (t n : ℕ) (x : ℕ → ℕ) (q : ℕ) (g : ℕ → ℕ) : Type 0 where
  pub low : (h : ℕ) → h < q → g h ≡ x h
  pub high : (h : ℕ) → q ≤ h → h < n → g h ≡ t

module _ (n t : ℕ) (x : ℕ → ℕ) where
  at : (i j : ℕ) → i ≡ j → x i ≡ x j
  at i j e = place x i j e

  -- Pre, place by place
  no-fall : Pre x n → (i m : ℕ) → i + m < n → ((h : ℕ) → h < m → x h ≡ x (i + h)) → x m ≤ x (i + m)
  no-fall p i m b e = elim (dec_lt (x (i + m)) (x m)) [ yes h ↦ absurd (p i (record { at = m; bound = omega arith; agree = λ h s. sym (e h s); less = h })) | no h ↦ omega arith ]

  -- x below y, which repeats its first d: they differ within the first d
  pub differ-early : (y : ℕ → ℕ) (d : ℕ) → Pre x n → 0 < d → Turned y n d y → (l : Less x y n) → l.at < d
  differ-early y d p z r l = elim (dec_lt l.at d) [
    | yes h ↦ h
    | no h ↦ absurd (omega (
      arith,
      l.less,
      l.bound,
      r.low (l.at - d) l.at (omega arith) l.bound,
      l.agree (l.at - d) (omega arith),
      at (d + (l.at - d)) l.at (omega arith),
      no-fall p d (l.at - d) (omega (arith, l.bound)) (λ m s. l.agree m (omega arith) ∙ r.low m (d + m) refl (omega (arith, l.bound)) ∙ sym (l.agree (d + m) (omega arith))),
    ))
  ]

  -- the first q, then only t, is a Lyndon word
  pub lift : (q : ℕ) (g : ℕ → ℕ) → Pre x n → 0 < q → q < n → x q < t → Lifted t n x q g → Lyn g n
  lift q g p z b l f i zi k = elim (dec_lt i q) [
    | yes h ↦ inner h (cmp x (from i x) (q - i))
    | no h ↦ record { at = 0; bound = omega arith; agree = λ m s. absurd (omega arith); less = omega (arith, f.low 0 z, f.high (i + 0) (omega arith) (omega arith), first) }
  ]
    where
      first : x 0 < t
      first = omega (arith, no-fall p q 0 (omega arith) (λ h s. absurd (omega arith)), at (q + 0) q (omega arith))

      inner : i < q → Cmp x (from i x) (q - i) → Less g (from i g) (n - i)
      inner h (below c) =
          record {
            at = c.at;
            bound = omega (arith, c.bound);
            agree = λ m s. f.low m (omega (arith, c.bound)) ∙ c.agree m s ∙ sym (f.low (i + m) (omega (arith, c.bound)));
            less = omega (arith, c.less, f.low c.at (omega (arith, c.bound)), f.low (i + c.at) (omega (arith, c.bound)));
          }
      inner h (alike e) =
          record {
            at = q - i;
            bound = omega arith;
            agree = λ m s. f.low m (omega arith) ∙ e m s ∙ sym (f.low (i + m) (omega arith));
            less = omega (arith, no-fall p i (q - i) (omega arith) e, at (i + (q - i)) q (omega arith), f.low (q - i) (omega arith), f.high (i + (q - i)) (omega arith) (omega arith));
          }
      inner h (above c) = absurd (p i (widen (from i x) x (q - i) (n - i) (omega arith) c))

  -- the lift itself
  pub lifted : ℕ → ℕ → ℕ
  lifted q h = elim (ltb h q) [ true ↦ x h | false ↦ t ]

  pub is-lifted : (q : ℕ) → Lifted t n x q (lifted q)
  unfolding lifted
  is-lifted q = record { low = λ h s. rw (lt-ltb h q s, lifted) refl; high = λ h s b. rw (le-ltb h q s, lifted) refl }

  -- past the first difference with the next necklace there are only t
  pub tops : (y : ℕ → ℕ) → Pre x n → ((h : ℕ) → h < n → x h ≤ t) → (l : Less x y n)
      → ((g : ℕ → ℕ) → Lyn g n → ((h : ℕ) → h < n → g h ≤ t) → Less x g n → Less g y n → ⊥)
      → (q : ℕ) → l.at < q → q < n → x q ≡ t
  tops y p le l none q h b = elim (dec_lt (x q) t) [ yes c ↦ absurd (go c (is-lifted q)) | no c ↦ omega (arith, le q b) ]
    where
      go : x q < t → Lifted t n x q (lifted q) → ⊥
      go c f = none (lifted q) (lift q (lifted q) p (omega arith) b c f) small up down
        where
          small : (h : ℕ) → h < n → lifted q h ≤ t
          small h s = elim (dec_lt h q) [ yes r ↦ omega (arith, f.low h r, le h s) | no r ↦ omega (arith, f.high h (omega arith) s) ]

          up : Less x (lifted q) n
          up = record { at = q; bound = b; agree = λ m s. sym (f.low m s); less = omega (arith, f.high q (omega arith) b) }

          down : Less (lifted q) y n
          down = record { at = l.at; bound = l.bound; agree = λ m s. f.low m (omega arith) ∙ l.agree m s; less = omega (arith, l.less, f.low l.at h) }

pub record Link (n t : ℕ) (x y : ℕ → ℕ) (d : ℕ) : Type 0 where
  pub e : ℕ
  pub agree : (h : ℕ) → h < e → x h ≡ y h
  pub tops : (q : ℕ) → e < q → q < n → x q ≡ t
  pub pos : 0 < d
  pub fits : d ≤ n
  pub reach : n ≤ e + d
  pub round : Turned x n d x

-- the last copy of the first d begins before or at the first difference
pub reaches : (n t : ℕ) (x : ℕ → ℕ) (d e : ℕ) → 0 < d → d ≤ n → x 0 < t → Turned x n d x → ((q : ℕ) → e < q → q < n → x q ≡ t) → n ≤ e + d
reaches n t x d e z f l r k = elim (dec_lt (e + d) n) [ yes h ↦ absurd (omega (arith, r.high (n - d) 0 (omega arith) (omega arith), k (n - d) (omega arith) (omega arith))) | no h ↦ omega arith ]

-- s is the strip of K sectors from the necklace x on; it ends with the necklace of only t
pub data Tail (n t : ℕ) : (ℕ → ℕ) → (ℕ → ℕ) → ℕ → Type 0 where
  last : {x s : ℕ → ℕ} {K : ℕ} → n < K → ((q : ℕ) → 0 < q → q < n → x q ≡ t) → ((h : ℕ) → h < n → s h ≡ x h) → ((i : ℕ) → n ≤ i → i < K → s i ≡ t) → Tail n t x s K
  more : {x y s r : ℕ → ℕ} {d L K : ℕ} → K ≡ d + L → Link n t x y d → ((h : ℕ) → h < d → s h ≡ x h) → ((i h : ℕ) → d + h ≡ i → s i ≡ r h) → Tail n t y r L → Tail n t x s K

-- the strip from x on begins with x
pub begins : {n t : ℕ} {x s : ℕ → ℕ} {K : ℕ} → Tail n t x s K → (h : ℕ) → h < n → s h ≡ x h
begins (last e q f g) h b = f h b
begins (more {x} {y} {s} {r} {d} e l f g u) h b = elim (dec_lt h d) [
  | yes c ↦ f h c
  | no c ↦ g h (h - d) (omega arith) ∙ begins u (h - d) (omega arith) ∙ sym (l.agree (h - d) (omega (arith, l.reach))) ∙ l.round.low (h - d) h (omega arith) b
]

-- its last n sectors are t
pub ends : {n t : ℕ} {x s : ℕ → ℕ} {K : ℕ} → Tail n t x s K → (n ≤ K) × ((i : ℕ) → K ≤ i + n → i < K → s i ≡ t)
ends {n} {t} {x} {s} (last e q f g) = (omega arith, λ i a b. elim (dec_lt i n) [ yes c ↦ f i c ∙ q i (omega arith) c | no c ↦ g i (omega arith) b ])
ends (more {x} {y} {s} {r} {d} e l f g u) = let v = ends u in (omega (arith, v.0), λ i a b. g i (i - d) (omega (arith, v.0)) ∙ v.1 (i - d) (omega (arith, v.0)) (omega (arith, v.0)))

-- w stands in the strip, or round its end: t and then the first j of x
pub data Found (n t : ℕ) (x s : ℕ → ℕ) (K : ℕ) (w : ℕ → ℕ) : Type 0 where
  stands : (p : ℕ) → p + n ≤ K → ((h i : ℕ) → p + h ≡ i → h < n → w h ≡ s i) → Found n t x s K w
  around : (j : ℕ) → j < n → ((h : ℕ) → h + j < n → w h ≡ t) → ((h g : ℕ) → n + g ≡ h + j → h < n → w h ≡ x g) → Found n t x s K w

-- the end of x and the beginning of y, where their words meet
pub seam : {n t : ℕ} {x y s r w : ℕ → ℕ} {d L : ℕ} → Link n t x y d → ((h : ℕ) → h < d → s h ≡ x h) → ((i h : ℕ) → d + h ≡ i → s i ≡ r h) → Tail n t y r L
    → (j : ℕ) → j < n → n ≤ j + d → ((h i : ℕ) → j + h ≡ i → i < n → w h ≡ x i) → ((h g : ℕ) → n + g ≡ h + j → h < n → w h ≡ y g) → (K : ℕ) → K ≡ d + L → Found n t x s K w
seam {n} {t} {x} {y} {s} {r} {w} {d} l f g u j b c a z K kk = stands (d + j - n) (omega (arith, (ends u).0, l.fits)) (λ h i e k. elim (dec_lt (h + j) n) [
  | yes q ↦ a h (j + h) refl (omega arith) ∙ l.round.high (j + h) i (omega arith) (omega arith) ∙ sym (f i (omega arith))
  | no q ↦ z h (h + j - n) (omega arith) k ∙ sym (begins u (h + j - n) (omega arith)) ∙ sym (g i (h + j - n) (omega arith))
])

-- what is found from y on is found from x on
pub keep : {n t : ℕ} {x y s r w : ℕ → ℕ} {d L : ℕ} → Link n t x y d → ((h : ℕ) → h < d → s h ≡ x h) → ((i h : ℕ) → d + h ≡ i → s i ≡ r h) → Tail n t y r L
    → (K : ℕ) → K ≡ d + L → Found n t y r L w → Found n t x s K w
keep {d = d} l f g u K kk (stands p b a) = stands (d + p) (omega arith) (λ h i e k. a h (p + h) refl k ∙ sym (g i (p + h) (omega arith)))
keep {n} l f g u K kk (around j b a z) = elim (dec_lt l.e j) [
  | yes c ↦ seam l f g u j b (omega (arith, l.reach)) (λ h i e k. a h (omega arith) ∙ sym (l.tops i (omega arith) k)) z K kk
  | no c ↦ around j b a (λ h m e k. z h m e k ∙ sym (l.agree m (omega arith)))
]

-- the turns of x itself are found
pub new : {n t : ℕ} {x y s r w : ℕ → ℕ} {d L : ℕ} → Link n t x y d → ((h : ℕ) → h < d → s h ≡ x h) → ((i h : ℕ) → d + h ≡ i → s i ≡ r h) → Tail n t y r L
    → (K : ℕ) → K ≡ d + L → (j : ℕ) → j < n → n ≤ j + d → Turned x n j w → Found n t x s K w
new l f g u K kk j b c v = elim (dec_lt l.e j) [
  | yes q ↦ around j b (λ h k. v.low h (j + h) refl (omega arith) ∙ l.tops (j + h) (omega arith) (omega arith)) (λ h m e k. v.high h m (omega arith) k)
  | no q ↦ seam l f g u j b c (λ h i e k. v.low h i e k) (λ h m e k. v.high h m (omega arith) k ∙ l.agree m (omega arith)) K kk
]

pub new-last : {n t : ℕ} {x s w : ℕ → ℕ} {K : ℕ} → n < K → ((q : ℕ) → 0 < q → q < n → x q ≡ t) → ((h : ℕ) → h < n → s h ≡ x h)
    → (j : ℕ) → j < n → Turned x n j w → Found n t x s K w
new-last e q f zero b v = stands 0 (omega arith) (λ h i g k. v.low h i g (omega arith) ∙ sym (f i (omega arith)))
new-last e q f (suc j) b v = around (suc j) b (λ h k. v.low h (suc j + h) refl (omega arith) ∙ q (suc j + h) (omega arith) (omega arith)) (λ h m g k. v.high h m (omega arith) k)

-- a turn by r is a turn by some j in the last copy
pub settle : {n d : ℕ} {x w : ℕ → ℕ} → 0 < d → d ≤ n → Turned x n d x → (f r : ℕ) → n ≤ r + f → r < n → Turned x n r w → (j : ℕ) × (j < n) × (n ≤ j + d) × Turned x n j w
settle z b o zero r c k v = absurd (omega arith)
settle {n} {d} {x} {w} z b o (suc f) r c k v = elim (dec_lt (r + d) n) [ yes h ↦ settle z b o f (r + d) (omega arith) h (further h) | no h ↦ (r, k, omega arith, v) ]
  where
    further : r + d < n → Turned x n (r + d) w
    further h = record {
      low = λ m j e s. v.low m (r + m) refl (omega arith) ∙ o.low (r + m) j (omega arith) s;
      high = λ m j e s. elim (dec_lt (r + m) n) [
        | yes q ↦ v.low m (r + m) refl q ∙ o.high (r + m) j (omega arith) q
        | no q ↦ v.high m (r + m - n) (omega arith) s ∙ o.low (r + m - n) j (omega arith) (omega arith)
      ];
    }
