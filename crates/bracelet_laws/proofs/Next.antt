-- The next bracelet, from any reading: raise the last sector that can be raised so that the beginning can be completed, to the least such shade, and then
-- take at each further place the least shade that keeps the beginning completable.
--     length-tried, tried-low, tried-at, tried-high, tried-reading      the sectors of `tried`
--     tried-is             a reading with these sectors is it
--     begun-tried          a beginning of a bracelet, its last sector raised or not, and filled up, is a bracelet
--     tried-rises          where a shade can be taken, each greater one can
--     Stuck k w l          from place l on, no raised sector makes a beginning that can be completed
--     stuck-end, stuck-on, stuck_at, stuck-full, stuck-none        the search for the place to raise, from the end; nothing above where it finds none
--     Leads k w c m        the first m sectors of c lead to the next bracelet after w (specs/Beginnings, passed on)
--     lead-start, lead-letter, lead-set, lead-on, lead-end      the search for the sectors behind it, place by place, up to the next bracelet
use Rattle.words.proofs.Plain.{ℕ, suc, ◌+◌, ◌-◌, ◌<◌, ◌≤◌, arith, ◌≡◌, refl, sym, ◌∙◌, true, false, none, some, List, [], ◌∷◌, ◌++◌, length, get_or, take, set}
use Rattle.words.proofs.Plain.{length-append, length-set, List·get_d-append, length-take-le, get_or-take, get_or_at, get_or-set_same, get_or-set_other, ext_get_or}
use Rattle.words.specs.{Order.before, Readings.Reading}
use Rattle.words.proofs.Split.{Tri, lt, eq, gt, tri, both, both_left, both_right, clash, refuted}
use Rattle.words.proofs.Sequence.{sec, Less, place, less-asym}
use Rattle.words.proofs.Lex.{before-less, less-before, not-less-up_to}
use Rattle.words.proofs.Readings.{first-is, first-nothing}
use Rattle.rings.specs.{Alike.bracelet, Steps.above_of, Steps.next_of}
use Rattle.bracelet_laws.specs.Beginnings.{tried}
pub use Rattle.bracelet_laws.specs.Beginnings.{Leads}
use Rattle.bracelet_laws.proofs.Absorb.{length-filled, filled-low, filled-high, absorbs}

-- ---- a beginning tried

module _ (k : ℕ) (w : List ℕ) (l b : ℕ) (h : l < length w) where
  first-length : length (take l w) ≡ l
  first-length = length-take-le l w (omega arith)

  start-length : length (take l w ++ (b ∷ [])) ≡ suc l
  start-length = omega (arith, length-append (take l w) (b ∷ []), first-length)

  pub length-tried : length (tried k w l b) ≡ length w
  unfolding tried
  length-tried = length-filled (length w) k (take l w ++ (b ∷ [])) (omega (arith, start-length))

  pub tried-low : (j : ℕ) → j < l → get_or (tried k w l b) j 0 ≡ get_or w j 0
  unfolding tried
  tried-low j e =
      filled-low (length w) k (take l w ++ (b ∷ [])) (omega (arith, start-length)) j (omega (arith, start-length)) ∙ List·get_d-append (take l w)
      (b ∷ []) 0 j (omega (arith, first-length)) ∙ get_or-take l w j 0 e

  pub tried-at : get_or (tried k w l b) l 0 ≡ b
  unfolding tried
  tried-at =
      filled-low (length w) k (take l w ++ (b ∷ [])) (omega (arith, start-length)) l (omega (arith, start-length)) ∙ get_or_at (take l w) b [] 0 l first-length

  pub tried-high : (j : ℕ) → l < j → j < length w → get_or (tried k w l b) j 0 ≡ k - 1
  unfolding tried
  tried-high j e g = filled-high (length w) k (take l w ++ (b ∷ [])) (omega (arith, start-length)) j (omega (arith, start-length)) g

  pub tried-reading : Reading (length w) k w → b < k → Reading (length w) k (tried k w l b)
  tried-reading r s =
      record {
        long = length-tried;
        shades = λ j g. elim (tri j l) [
          | lt e ↦ omega (arith, tried-low j e, r.shades j g)
          | eq e ↦ omega (arith, tried-at, place (sec (tried k w l b)) j l e)
          | gt e ↦ omega (arith, tried-high j e g)
        ];
      }

-- a reading with the sectors of a beginning tried is it
pub tried-is : (k : ℕ) (w : List ℕ) (l b : ℕ) (v : List ℕ) → l < length w → length v ≡ length w → ((j : ℕ) → j < l → get_or v j 0 ≡ get_or w j 0) → get_or v l 0 ≡ b →
    ((j : ℕ) → l < j → j < length w → get_or v j 0 ≡ k - 1) → v ≡ tried k w l b
tried-is k w l b v h e low here high = ext_get_or 0 v (tried k w l b) (e ∙ sym (length-tried k w l b h)) at_each
  where
    at_each : (j : ℕ) → j < length v → get_or v j 0 ≡ get_or (tried k w l b) j 0
    at_each j g =
        elim (tri j l) [
          | lt i ↦ low j i ∙ sym (tried-low k w l b h j i)
          | eq i ↦ place (sec v) j l i ∙ here ∙ sym (tried-at k w l b h) ∙ place (sec (tried k w l b)) l j (sym i)
          | gt i ↦ high j i (omega arith) ∙ sym (tried-high k w l b h j i (omega arith))
        ]

-- a bracelet that begins as c does for m sectors: with its next sector, or any greater shade in its place, they can be completed
pub begun-tried : (k m : ℕ) (c v : List ℕ) (b : ℕ) → Reading (length c) k v → bracelet v ≡ true → m < length c → ((j : ℕ) → j < m → get_or v j 0 ≡ get_or c j 0) →
    get_or v m 0 ≤ b → b < k → bracelet (tried k c m b) ≡ true
begun-tried k m c v b r p h e up shade =
    absorbs (length c) m v (tried k c m b) (omega arith) r.long p (length-tried k c m b h) (λ j a g. tried-low k c m b h j a ∙ sym (e j a)) rise grow
  where
    at : (j : ℕ) → j ≡ m → get_or (tried k c m b) j 0 ≡ b
    at j g = place (sec (tried k c m b)) j m g ∙ tried-at k c m b h

    rise : (j : ℕ) → m ≤ j → j < length c → get_or v j 0 ≤ get_or (tried k c m b) j 0
    rise j a g =
        elim (tri m j) [
          | lt i ↦ omega (arith, tried-high k c m b h j i g, r.shades j g)
          | eq i ↦ omega (arith, at j (sym i), place (sec v) m j i)
          | gt i ↦ absurd (omega arith)
        ]

    grow : (i j : ℕ) → m ≤ i → i ≤ j → j < length c → get_or (tried k c m b) i 0 ≤ get_or (tried k c m b) j 0
    grow i j a o g =
        elim (tri m j) [
          | lt q ↦ elim (tri m i) [
            | lt f ↦ omega (arith, tried-high k c m b h j q g, tried-high k c m b h i f (omega arith))
            | eq f ↦ omega (arith, tried-high k c m b h j q g, at i (sym f))
            | gt f ↦ absurd (omega arith)
          ]
          | eq q ↦ omega (arith, at i (omega arith), at j (sym q))
          | gt q ↦ absurd (omega arith)
        ]

-- where a shade can be taken, each greater one can
pub tried-rises : (k m : ℕ) (c : List ℕ) (a b : ℕ) → Reading (length c) k c → m < length c → bracelet (tried k c m a) ≡ true → a ≤ b → b < k → bracelet (tried k c m b) ≡ true
tried-rises k m c a b r h p up shade =
    begun-tried k m c (tried k c m a) b (tried-reading k c m a h r (omega arith)) p h (λ j i. tried-low k c m a h j i) (omega (arith, tried-at k c m a h)) shade

-- ---- the place to raise, from the end

-- from place l on, no raised sector makes a beginning that can be completed
abbrev pub Stuck : ℕ → List ℕ → ℕ → Type 0
Stuck k w l = (j b : ℕ) → l ≤ j → j < length w → get_or w j 0 < b → b < k → bracelet (tried k w j b) ≡ false

pub stuck-end : (k : ℕ) (w : List ℕ) → Stuck k w (length w)
stuck-end k w j b h l = absurd (omega arith)

pub stuck-on : (k : ℕ) (w : List ℕ) (l : ℕ) → ((b : ℕ) → get_or w l 0 < b → b < k → bracelet (tried k w l b) ≡ false) → Stuck k w (suc l) → Stuck k w l
stuck-on k w l here s j b h i up shade =
    elim (tri j l) [ lt e ↦ absurd (omega arith) | eq e ↦ rw e (here b (omega (arith, place (sec w) j l e)) shade) | gt e ↦ s j b (omega arith) i up shade ]

-- where even the highest shade cannot be taken, no shade can: so one test settles a place
pub stuck_at : (k : ℕ) (w : List ℕ) (l : ℕ) → Reading (length w) k w → l < length w → bracelet (tried k w l (k - 1)) ≡ false → Stuck k w (suc l) → Stuck k w l
stuck_at k w l r h top s =
    stuck-on k w l (λ b up shade. refuted (bracelet (tried k w l b)) (λ p. clash (bracelet (tried k w l (k - 1))) (tried-rises k l w b (k - 1) r h p (omega arith) (omega arith)) top)) s

-- nor can the highest shade itself be raised
pub stuck-full : (k : ℕ) (w : List ℕ) (l : ℕ) → k ≤ suc (get_or w l 0) → Stuck k w (suc l) → Stuck k w l
stuck-full k w l h s = stuck-on k w l (λ b up shade. absurd (omega arith)) s

-- a bracelet above w is not at its first difference past a place from which w is stuck
pub stuck-past : (k : ℕ) (w v : List ℕ) (l : ℕ) → Stuck k w l → Reading (length w) k v → bracelet v ≡ true → (d : Less (sec w) (sec v) (length w)) → d.at < l
stuck-past k w v l s r p d =
    elim (tri d.at l) [ lt e ↦ e | eq e ↦ never (omega arith) | gt e ↦ never (omega arith) ]
  where
    never : l ≤ d.at → d.at < l
    never e =
        clash (bracelet (tried k w d.at (get_or v d.at 0))) (begun-tried k d.at w v (get_or v d.at 0) r p d.bound (λ j h. sym (d.agree j h)) (omega arith) (r.shades d.at d.bound))
        (s d.at (get_or v d.at 0) e d.bound d.less (r.shades d.at d.bound))

-- the first difference to a reading above
pub first_above : (k : ℕ) (w v : List ℕ) → Reading (length w) k v → before w v ≡ true → Less (sec w) (sec v) (length w)
first_above k w v r h = rw r.long at (before-less w v (sym r.long) h)

-- stuck from the first place on, w has no bracelet above it
pub stuck-none : (k : ℕ) (w : List ℕ) → Stuck k w 0 → next_of bracelet k w ≡ none
unfolding next_of above_of
stuck-none k w s =
    first-nothing (length w) k (above_of bracelet w) (λ v r.
    refuted (above_of bracelet w v)
    (λ h. omega (arith, stuck-past k w v 0 s r (both_right (before w v) (bracelet v) h) (first_above k w v r (both_left (before w v) (bracelet v) h)))))

-- ---- the sectors behind it, place by place

-- the last place that can be raised, raised to the least shade that can be completed
pub lead-start : (k : ℕ) (w : List ℕ) (l b : ℕ) → Reading (length w) k w → l < length w → get_or w l 0 < b → b < k → bracelet (tried k w l b) ≡ true →
    ((a : ℕ) → get_or w l 0 < a → a < b → bracelet (tried k w l a) ≡ false) → Stuck k w (suc l) → Leads k w (tried k w l b) (suc l)
lead-start k w l b r h up shade pass first s =
    record {
      reading = tried-reading k w l b h r shade;
      whole = pass;
      inside = omega arith;
      full = λ j a g. tried-high k w l b h j (omega arith) g;
      above = record { at = l; bound = omega arith; agree = λ j a. sym (tried-low k w l b h j a); less = omega (arith, tried-at k w l b h) };
      least = λ v q p a d. lowest v q p (first_above k w v q a) d;
    }
  where
    lowest : (v : List ℕ) → Reading (length w) k v → bracelet v ≡ true → Less (sec w) (sec v) (length w) → Less (sec v) (sec (tried k w l b)) (suc l) → ⊥
    lowest v q p d o = go (tri d.at l) (tri o.at l)
      where
        go : Tri d.at l → Tri o.at l → ⊥
        go (lt e) f =
            less-asym (sec v) (sec (tried k w l b)) (suc l) o
            (record { at = d.at; bound = omega arith; agree = λ j a. tried-low k w l b h j (omega arith) ∙ d.agree j a; less = omega (arith, d.less, tried-low k w l b h d.at e) })
        go (eq e) (lt f) = omega (arith, o.less, d.agree o.at (omega arith), tried-low k w l b h o.at f)
        go (eq e) (eq f) =
            clash (bracelet (tried k w l (get_or v l 0))) (begun-tried k l w v (get_or v l 0) q p h (λ j a. sym (d.agree j (omega arith))) (omega arith) (q.shades l h))
            (first (get_or v l 0) (omega (arith, d.less, place (sec w) d.at l e, place (sec v) d.at l e))
            (omega (arith, o.less, place (sec v) o.at l f, place (sec (tried k w l b)) o.at l f, tried-at k w l b h)))
        go (eq e) (gt f) = omega (arith, o.bound)
        go (gt e) f = omega (arith, stuck-past k w v (suc l) s q p d)

module _ (k : ℕ) (w c : List ℕ) (m : ℕ) (lead : Leads k w c m) where
  lead-inside : m < length w → m < length c
  lead-inside h = omega (arith, lead.reading.long)

  lead-reading : Reading (length c) k c
  lead-reading = rw lead.reading.long lead.reading

  -- the highest shade can always be taken, so that the search for the least ends
  pub lead-letter : m < length w → bracelet (tried k c m (k - 1)) ≡ true
  lead-letter h =
      begun-tried k m c c (k - 1) lead-reading lead.whole (lead-inside h) (λ j a. refl) (omega (arith, lead.full m (omega arith) h)) (omega (arith, lead.reading.shades m h))

  -- the shade b tried at place m is c with b stored there
  pub lead-set : (b : ℕ) → m < length w → set c m b ≡ tried k c m b
  lead-set b h =
      tried-is k c m b (set c m b) (lead-inside h) (length-set c m b) (λ j i. get_or-set_other c m j b 0 (λ e. omega arith)) (get_or-set_same c m b 0 (lead-inside h))
      (λ j i g. get_or-set_other c m j b 0 (λ e. omega arith) ∙ lead.full j (omega arith) (omega (arith, lead.reading.long)))

  -- the least shade that can be taken leads on
  pub lead-on : (b : ℕ) → m < length w → b < k → bracelet (tried k c m b) ≡ true → ((a : ℕ) → a < b → bracelet (tried k c m a) ≡ false) → Leads k w (tried k c m b) (suc m)
  lead-on b h shade pass first =
      record {
        reading = rw lead.reading.long at (tried-reading k c m b i (rw lead.reading.long lead.reading) shade);
        whole = pass;
        inside = omega arith;
        full = λ j a g. tried-high k c m b i j (omega arith) (omega (arith, lead.reading.long));
        above = record {
          at = up.at;
          bound = omega (arith, up.bound);
          agree = λ j a. up.agree j a ∙ sym
              (tried-low k c m b i j (omega (arith, up.bound)));
          less = omega (arith, up.less, tried-low k c m b i up.at up.bound);
        };
        least = lowest;
      }
    where
      i : m < length c
      i = omega (arith, lead.reading.long)

      up : Less (sec w) (sec c) m
      up = lead.above

      lowest : (v : List ℕ) → Reading (length w) k v → bracelet v ≡ true → before w v ≡ true → Less (sec v) (sec (tried k c m b)) (suc m) → ⊥
      lowest v q p a o =
          elim (tri o.at m) [
            | lt e ↦ lead.least v q p a (record {
              at = o.at;
              bound = e;
              agree = λ j g. o.agree j g ∙ tried-low k c m b i j (omega arith);
              less =
                  omega (arith, o.less, tried-low k c m b i o.at e);
            })
            | eq e ↦
                clash (bracelet (tried k c m (get_or v m 0))) (begun-tried k m c v (get_or v m 0) (rw lead.reading.long q) p i
                (λ j g. o.agree j (omega arith) ∙ tried-low k c m b i j g) (omega arith) (q.shades m h))
                (first (get_or v m 0) (omega (arith, o.less, place (sec v) o.at m e, place (sec (tried k c m b)) o.at m e, tried-at k c m b i)))
            | gt e ↦ absurd (omega (arith, o.bound))
          ]

-- all places filled: the next bracelet
pub lead-end : (k : ℕ) (w c : List ℕ) → Leads k w c (length w) → next_of bracelet k w ≡ some c
unfolding next_of above_of
lead-end k w c lead =
    first-is (length w) k (above_of bracelet w) c lead.reading (both (before w c) (bracelet c) (less-before w c (sym long) (rw long lead.above)) lead.whole)
    (λ v r h. not-less-up_to c v (long ∙ sym r.long) (λ l. lead.least v r (both_right (before w v) (bracelet v) h) (both_left (before w v) (bracelet v) h) (rw long at l)))
  where
    long : length c ≡ length w
    long = lead.reading.long
