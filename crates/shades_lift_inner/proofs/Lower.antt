-- Where a necklace goes on with a shade and a lesser one stands behind it, the two can change places: so where the least shade that is left is barred, each is.
--     less_by          two sequences, the first nowhere above before place d, and below there
--     lower-lyn        the sequences: the sector at place l falls, one behind it rises, and nothing else changes
--     lower-necklace   the words
--     lower-fitting    what fits with a shade fits with each lesser one that is left
--     barred-above     what is barred to a shade that is left is barred to each greater one
use Rattle.words.proofs.Plain.{ℕ, zero, suc, ◌+◌, ◌-◌, ◌<◌, ◌≤◌, arith, ◌≡◌, refl, sym, ap, ◌∙◌, subst, true, List, [], ◌∷◌, ◌++◌, append_assoc, eqb, length}
use Rattle.words.proofs.Plain.{get_or, length-append, List·get_d-append, get_or_at}
use Rattle.words.specs.Turn.{turn}
use Rattle.words.proofs.Split.{lt, eq, gt, tri, both_left}
use Rattle.words.proofs.Sequence.{sec, from, Less, below, alike, above, place, widen, cmp}
use Rattle.rings.specs.Necklace.{necklace, period, lyndon}
use Rattle.rings.specs.Counts.{occurs}
use Rattle.ring_laws.proofs.Run.{Pre, Lyn, lyn-through}
use Rattle.ring_laws.proofs.Repeat.{Turned, Neck, neck-pre}
use Rattle.ring_laws.proofs.Words.{turned, neck-of}
use Rattle.ring_laws.proofs.Lyndon.{lyndon-of, of-lyndon, lyndon-pos}
use Rattle.shades_laws.proofs.Copies.{occurs-append}
use Rattle.shades_lift_inner.specs.Lifts.{Barred, Fitting}
use Rattle.shades_tally_inner.proofs.Tallying.{occurs-none, occurs-here, occurs-other}

-- where f is nowhere above g before place d and below it there, f is below g
pub less_by : (f g : ℕ → ℕ) (d n : ℕ) → d < n → ((m : ℕ) → m < d → f m ≤ g m) → f d < g d → Less f g n
less_by f g d n b h l = elim (cmp f g (suc d)) [ below c ↦ widen f g (suc d) n (omega arith) c | alike e ↦ absurd (omega (arith, e d (omega arith))) | above c ↦ absurd (not c) ]
  where
    not : Less g f (suc d) → ⊥
    not c = elim (tri c.at d) [ lt e ↦ omega (arith, c.less, h c.at e) | eq e ↦ omega (arith, c.less, l, place f c.at d e, place g c.at d e) | gt e ↦ omega (arith, c.bound) ]

-- ---- sequences

-- z is v with a lesser sector at place l and a greater one at place j behind it
module _ (v z : ℕ → ℕ) (n l j : ℕ) (inside : l < j) (within : j < n) (keep : (m : ℕ) → (m ≡ l → ⊥) → (m ≡ j → ⊥) → z m ≡ v m) (fall : z l < v l) (rise : v j ≤ z j) where
  -- behind place l nothing falls
  up : (m : ℕ) → l < m → v m ≤ z m
  up m h =
      elim (tri m j) [
        | lt e ↦ omega (arith, keep m (λ q. omega arith) (λ q. omega arith))
        | eq e ↦ omega (arith, rise, place v m j e, place z m j e)
        | gt e ↦ omega (arith, keep m (λ q. omega arith) (λ q. omega arith))
      ]

  -- where an ending that begins behind place l does not fall short of the beginning up to place d, and is above it there
  raised : (i d : ℕ) → l < i → d < n - i → d ≤ l → ((m : ℕ) → m < d → v m ≤ v (i + m)) → z d < v (i + d) → Less z (from i z) (n - i)
  raised i d q b k e s =
      less_by z (from i z) d (n - i) b (λ m x. omega (arith, keep m (λ y. omega arith) (λ y. omega arith), e m x, up (i + m) (omega arith)))
      (omega (arith, s, up (i + d) (omega arith)))

  module _ (t : ℕ → ℕ → ℕ) (turns : (i : ℕ) → i < n → Turned v n i (t i)) (neck : Neck v n) (lv : Lyn v (suc l)) where
    -- no ending of at most l sectors is a beginning
    border : (i : ℕ) → i < n → n - i ≤ l → ((m : ℕ) → m < n - i → v m ≡ v (i + m)) → ⊥
    border i h k e =
        neck i (t i) h u
        (record { at = c + d.at; bound = omega (arith, d.bound); agree = same; less = omega (arith, d.less, u.high (c + d.at) d.at (omega arith) (omega (arith, d.bound))) })
      where
        c : ℕ
        c = n - i

        u : Turned v n i (t i)
        u = turns i h

        d : Less v (from c v) (suc l - c)
        d = lv c (omega arith) (omega arith)

        same : (m : ℕ) → m < c + d.at → t i m ≡ v m
        same m b =
            elim (tri m c) [
              | lt x ↦ u.low m (i + m) refl (omega arith) ∙ sym (e m x)
              | eq x ↦ wrapped (omega arith)
              | gt x ↦ wrapped (omega arith)
            ]
          where
            wrapped : c ≤ m → t i m ≡ v m
            wrapped x = u.high m (m - c) (omega arith) (omega (arith, d.bound)) ∙ d.agree (m - c) (omega arith) ∙ place v (c + (m - c)) m (omega arith)

    -- an ending that begins behind place l
    behind : (i : ℕ) → l < i → i < n → Less z (from i z) (n - i)
    behind i q h = elim (cmp v (from i v) (n - i)) [ below c ↦ differs c | alike e ↦ agrees e | above c ↦ absurd (neck-pre v n t turns neck i c) ]
      where
        differs : Less v (from i v) (n - i) → Less z (from i z) (n - i)
        differs c =
            elim (tri c.at l) [
              | lt e ↦ raised i c.at q c.bound (omega arith) (λ m x. omega (arith, c.agree m x)) (omega (arith, keep c.at (λ y. omega arith) (λ y. omega arith), c.less))
              | eq e ↦ raised i c.at q c.bound (omega arith) (λ m x. omega (arith, c.agree m x)) (omega (arith, fall, place z c.at l e, place v c.at l e, c.less))
              | gt e ↦ raised i l q (omega (arith, c.bound)) (omega arith) (λ m x. omega (arith, c.agree m (omega arith))) (omega (arith, fall, c.agree l e))
            ]

        agrees : ((m : ℕ) → m < n - i → v m ≡ v (i + m)) → Less z (from i z) (n - i)
        agrees e =
            elim (tri l (n - i)) [
              | lt b ↦ raised i l q b (omega arith) (λ m x. omega (arith, e m (omega arith))) (omega (arith, fall, e l b))
              | eq b ↦ absurd (border i h (omega arith) e)
              | gt b ↦ absurd (border i h (omega arith) e)
            ]

    -- z is a Lyndon word
    pub lower-lyn : Lyn z (suc l) → Lyn z n
    lower-lyn lz i p h = elim (tri i (suc l)) [ lt e ↦ widen z (from i z) (suc l - i) (n - i) (omega arith) (lz i p e) | eq e ↦ behind i (omega arith) h | gt e ↦ behind i (omega arith) h ]

-- ---- words

-- two words that differ in one letter have the others in common
other-letter : (p q : List ℕ) (x y m : ℕ) → (m ≡ length p → ⊥) → sec (p ++ x ∷ q) m ≡ sec (p ++ y ∷ q) m
other-letter [] q x y zero h = absurd (h refl)
other-letter [] q x y (suc m) h = refl
other-letter (a ∷ p) q x y zero h = refl
other-letter (a ∷ p) q x y (suc m) h = other-letter p q x y m (λ e. h (ap suc e))

-- a beginning that is a Lyndon word
begins-lyn : (u : List ℕ) (b : ℕ) (r : List ℕ) → lyndon (u ++ b ∷ []) ≡ true → Lyn (sec (u ++ b ∷ r)) (suc (length u))
begins-lyn u b r h =
    lyn-through (sec (u ++ b ∷ [])) (sec (u ++ b ∷ r)) (suc (length u)) (λ m k. agree m k)
    (subst (Lyn (sec (u ++ b ∷ []))) long (of-lyndon (u ++ b ∷ []) (lyndon-pos (u ++ b ∷ []) h) h))
  where
    long : length (u ++ b ∷ []) ≡ suc (length u)
    long = omega (arith, length-append u (b ∷ []))

    agree : (m : ℕ) → m < suc (length u) → sec (u ++ b ∷ []) m ≡ sec (u ++ b ∷ r) m
    agree m k =
        elim (tri m (length u)) [
          | lt e ↦ List·get_d-append u (b ∷ []) 0 m e ∙ sym (List·get_d-append u (b ∷ r) 0 m e)
          | eq e ↦ get_or_at u b [] 0 m (sym e) ∙ sym (get_or_at u b r 0 m (sym e))
          | gt e ↦ absurd (omega arith)
        ]

-- a shade and a lesser one behind it change places
pub lower-necklace : (u v w : List ℕ) (b c : ℕ) → b < c → lyndon (u ++ b ∷ []) ≡ true → lyndon (u ++ c ∷ []) ≡ true → necklace (u ++ c ∷ (v ++ b ∷ w)) ≡ true →
    necklace (u ++ b ∷ (v ++ c ∷ w)) ≡ true
unfolding lyndon
lower-necklace u v w b c less lb lc h = both_left (necklace new) (eqb (period new) (length new)) (lyndon-of new (omega (arith, many, long)) (subst (Lyn (sec new)) (sym many) lyn))
  where
    old : List ℕ
    old = u ++ c ∷ (v ++ b ∷ w)

    new : List ℕ
    new = u ++ b ∷ (v ++ c ∷ w)

    -- both in between: the first place has risen already
    mid : List ℕ
    mid = u ++ c ∷ (v ++ c ∷ w)

    j : ℕ
    j = length (u ++ c ∷ v)

    far : j ≡ suc (length u + length v)
    far = omega (arith, length-append u (c ∷ v))

    long : length old ≡ length u + suc (length v + suc (length w))
    long = omega (arith, length-append u (c ∷ (v ++ b ∷ w)), length-append v (b ∷ w))

    many : length new ≡ length old
    many = omega (arith, long, length-append u (b ∷ (v ++ c ∷ w)), length-append v (c ∷ w))

    old-parts : old ≡ (u ++ c ∷ v) ++ b ∷ w
    old-parts = sym (append_assoc u (c ∷ v) (b ∷ w))

    mid-parts : mid ≡ (u ++ c ∷ v) ++ c ∷ w
    mid-parts = sym (append_assoc u (c ∷ v) (c ∷ w))

    new-parts : new ≡ (u ++ b ∷ v) ++ c ∷ w
    new-parts = sym (append_assoc u (b ∷ v) (c ∷ w))

    keep : (m : ℕ) → (m ≡ length u → ⊥) → (m ≡ j → ⊥) → sec new m ≡ sec old m
    keep m p q =
        other-letter u (v ++ c ∷ w) b c m p
        ∙ ap (λ x. sec x m) mid-parts
        ∙ other-letter (u ++ c ∷ v) w c b m q
        ∙ sym (ap (λ x. sec x m) old-parts)

    lyn : Lyn (sec new) (length old)
    lyn =
        lower-lyn (sec old) (sec new) (length old) (length u) j (omega (arith, far)) (omega (arith, far, long)) keep
        (omega (arith, less, get_or_at u b (v ++ c ∷ w) 0 (length u) refl, get_or_at u c (v ++ b ∷ w) 0 (length u) refl))
        (omega (
          arith,
          less,
          ap (λ x. sec x j) old-parts ∙ get_or_at (u ++ c ∷ v) b w 0 j refl,
          ap (λ x. sec x j) new-parts ∙ get_or_at (u ++ b ∷ v) c w 0 j (omega (arith, far, length-append u (b ∷ v))),
        ))
        (λ i. sec (turn i old)) (λ i k. turned old i (omega arith)) (neck-of old h) (begins-lyn u c (v ++ b ∷ w) lc) (begins-lyn u b (v ++ c ∷ w) lb)

-- a word cut at a letter that stands in it
record Cut (b : ℕ) (v : List ℕ) : Type 0 where
  front : List ℕ
  back : List ℕ
  whole : v ≡ front ++ b ∷ back

cut_at : (b : ℕ) (v : List ℕ) → 0 < occurs b v → Cut b v
cut_at b [] h = absurd (omega (arith, occurs-none b))
cut_at b (a ∷ v) h =
    elim (tri a b) [
      | lt e ↦ onward (cut_at b v (omega (arith, occurs-other a b v (λ q. omega arith))))
      | eq e ↦ record { front = []; back = v; whole = ap (λ x. x ∷ v) e }
      | gt e ↦ onward (cut_at b v (omega (arith, occurs-other a b v (λ q. omega arith))))
    ]
  where
    onward : Cut b v → Cut b (a ∷ v)
    onward c = record { front = a ∷ c.front; back = c.back; whole = ap (λ x. a ∷ x) c.whole }

-- what fits with a shade fits with each lesser one that is left
pub lower-fitting : (u : List ℕ) (b c : ℕ) (rem : List ℕ) → b < c → lyndon (u ++ b ∷ []) ≡ true → lyndon (u ++ c ∷ []) ≡ true → (get_or rem b 0 ≡ 0 → ⊥) →
    Fitting u c rem → Fitting u b rem
unfolding occurs
lower-fitting u b c rem less lb lc z f = go (cut_at b f.rest (omega (arith, f.letters b, occurs-other c b f.rest (λ q. omega arith))))
  where
    go : Cut b f.rest → Fitting u b rem
    go k = record {
      rest = k.front ++ c ∷ k.back;
      letters = λ x. omega (arith, f.letters x, ap (occurs x) k.whole, occurs-append x k.front (b ∷ k.back), occurs-append x k.front (c ∷ k.back));
      whole = lower-necklace u k.front k.back b c less lb lc (subst (λ y. necklace (u ++ c ∷ y) ≡ true) k.whole f.whole);
    }

-- what is barred to a shade that is left is barred to each greater one
pub barred-above : (u : List ℕ) (b c : ℕ) (rem : List ℕ) → b < c → lyndon (u ++ b ∷ []) ≡ true → lyndon (u ++ c ∷ []) ≡ true → (get_or rem b 0 ≡ 0 → ⊥) → Barred
    u b rem → Barred u c rem
barred-above u b c rem less lb lc z barred v letters whole =
    let f = lower-fitting u b c rem less lb lc z (record { rest = v; letters = letters; whole = whole }) in barred f.rest f.letters f.whole
