-- The next ring of given counts above a reading, by the counts up to the last shade that has one and the reading without the shades above it.
--     first-same        tests that the same readings pass find the same
--     capped-reading    the capped reading is one of the fewer shades
--     before-capped     a reading of the fewer shades is above the capped one exactly where it is above the other
--     some-counted      where the counts have a sum there is a last shade with one
--     sum-counted       the counts up to it have the sum of all
--     ring-fewer, ring-more    the rings of the counts up to it are the rings of the counts
--     capped-next       so the next ring is the same
use Rattle.words.proofs.Plain.{ℕ, ◌<◌, ◌≤◌, arith, ◌≡◌, refl, sym, ◌∙◌, Bool, true, Option, none, some, List, [], length, get_or, take, List·get_d-eq-default}
use Rattle.words.proofs.{Plain.length-take-le, Plain.get_or-take, Sequence.sec, Sequence.Less, Lex.before-less, Lex.less-before}
use Rattle.words.specs.{Order.before, Sum.sum_of}
use Rattle.words.specs.Readings.{Reading, first, readings}
use Rattle.words.proofs.Split.{lt, eq, gt, tri, both, both_left, both_right, refuted, clash, agree}
use Rattle.words.proofs.Readings.{first_some, first-is, nothing-first, first-nothing}
use Rattle.rings.specs.{Necklace.necklace, Steps.above_of, Steps.next_of}
use Rattle.rings.specs.Counts.{occurs, has_counts, counted_necklace}
use Rattle.shades_tally_inner.proofs.Tallying.{counts-at, counts_end, occurs-at, occurs-past}
use Rattle.shades_tally_inner.proofs.Leaving.{sum-le}
use Rattle.shades_cap_inner.specs.Capped.{CountedTo, Capped}

-- tests that the same readings pass, among those of fewer shades and among all, find the same
first-same : (n j k : ℕ) (f g : List ℕ → Bool) →
    ((u : List ℕ) → Reading n j u → f u ≡ true → Reading n k u × (g u ≡ true)) → ((u : List ℕ) → Reading n k u → g u ≡ true → Reading n j u × (f u ≡ true)) →
    first f (readings n j) ≡ first g (readings n k)
first-same n j k f g more fewer = go (first f (readings n j)) refl
  where
    go : (o : Option (List ℕ)) → first f (readings n j) ≡ o → o ≡ first g (readings n k)
    go none e = sym (first-nothing n k g (λ u r. refuted (g u) (λ h. let x = fewer u r h in clash (f u) x.1 (nothing-first n j f e u x.0))))
    go (some v) e =
        let s = first_some n j f v e in
        let x = more v s.0 s.1 in
        sym (first-is n k g v x.0 x.1 (λ u r h. let y = fewer u r h in s.2 u y.0 y.1))

module _ (w : List ℕ) (k : ℕ) (t : List ℕ) (c : Capped w k t) (z : 0 < k) where
  -- the capped reading is one of the fewer shades
  pub capped-reading : Reading (length w) k t
  capped-reading = record {
    long = c.long;
    shades = λ i h. elim (tri i c.at) [ lt l ↦ omega (arith, c.kept i l, c.low i l) | eq l ↦ omega (arith, c.top i (omega arith) h) | gt l ↦ omega (arith, c.top i (omega arith) h) ];
  }

  module _ (v : List ℕ) (r : Reading (length w) k v) where
    -- what is above the reading is above the capped one: it differs from the reading before that goes past k
    less-capped : Less (sec w) (sec v) (length v) → Less (sec t) (sec v) (length v)
    less-capped l = elim (tri l.at c.at) [ lt h ↦ kept h | eq h ↦ absurd (past (omega arith)) | gt h ↦ absurd (past (omega arith)) ]
      where
        kept : l.at < c.at → Less (sec t) (sec v) (length v)
        kept h = record { at = l.at; bound = l.bound; agree = λ m q. c.kept m (omega arith) ∙ l.agree m q; less = omega (arith, c.kept l.at h, l.less) }

        past : c.at ≤ l.at → ⊥
        past h =
            let x : c.at < length w = omega (arith, l.bound, r.long) in
            elim (tri c.at l.at) [
              | lt q ↦ omega (arith, c.here x, l.agree c.at q, r.shades c.at x)
              | eq q ↦ omega (arith, rw q at (c.here x), l.less, rw q at (r.shades c.at x))
              | gt q ↦ omega arith
            ]

    -- and what is above the capped one is above the reading: no shade is above k - 1
    capped-less : Less (sec t) (sec v) (length v) → Less (sec w) (sec v) (length v)
    capped-less l = elim (tri l.at c.at) [ lt h ↦ kept h | eq h ↦ absurd (past (omega arith)) | gt h ↦ absurd (past (omega arith)) ]
      where
        kept : l.at < c.at → Less (sec w) (sec v) (length v)
        kept h = record { at = l.at; bound = l.bound; agree = λ m q. sym (c.kept m (omega arith)) ∙ l.agree m q; less = omega (arith, c.kept l.at h, l.less) }

        past : c.at ≤ l.at → ⊥
        past h = let x : l.at < length w = omega (arith, l.bound, r.long) in omega (arith, c.top l.at h x, l.less, r.shades l.at x)

    -- a reading of the fewer shades is above the capped one exactly where it is above the other
    pub before-capped : before t v ≡ before w v
    before-capped =
        agree (before t v) (before w v) (λ h. less-before w v (sym r.long) (capped-less (before-less t v long h)))
        (λ h. less-before t v long (less-capped (before-less w v (sym r.long) h)))
      where
        long : length t ≡ length v
        long = c.long ∙ sym r.long

module _ (cs : List ℕ) (j : ℕ) (to : CountedTo cs j) where
  -- how long the counts up to the last are
  pub counted-long : length (take j cs) ≡ j
  counted-long = length-take-le j cs to.within

  -- no shade from j on has a count
  none-past : (b : ℕ) → j ≤ b → get_or cs b 0 ≡ 0
  none-past b h = elim (tri b (length cs)) [ lt l ↦ to.none b h l | eq l ↦ List·get_d-eq-default cs 0 (omega arith) | gt l ↦ List·get_d-eq-default cs 0 (omega arith) ]

  -- the counts up to the last are the counts, place by place
  same-counts : (b : ℕ) → get_or (take j cs) b 0 ≡ get_or cs b 0
  same-counts b =
      elim (tri b j) [
        | lt l ↦ get_or-take j cs b 0 l
        | eq l ↦ List·get_d-eq-default (take j cs) 0 (omega (arith, counted-long)) ∙ sym (none-past b (omega arith))
        | gt l ↦ List·get_d-eq-default (take j cs) 0 (omega (arith, counted-long)) ∙ sym (none-past b (omega arith))
      ]

  -- they have the sum of all
  pub sum-counted : sum_of (take j cs) ≡ sum_of cs
  sum-counted = omega (arith, sum-le (take j cs) cs (λ b. omega (arith, same-counts b)), sum-le cs (take j cs) (λ b. omega (arith, same-counts b)))

  -- where the counts have a sum there is a last shade with one
  pub some-counted : 0 < sum_of cs → 0 < j
  unfolding sum_of
  some-counted h = elim (tri 0 j) [ lt l ↦ l | eq l ↦ absurd (omega (arith, sum-le cs [] (λ b. omega (arith, none-past b (omega arith))), sum-nil)) | gt l ↦ absurd (omega arith) ]
    where
      sum-nil : sum_of [] ≡ 0
      sum-nil = refl

  module _ (n k : ℕ) (many : length cs ≡ k) (u : List ℕ) where
    -- a ring of the counts is one of the counts up to the last, and of the fewer shades
    pub ring-fewer : Reading n k u → counted_necklace cs u ≡ true → Reading n j u × (counted_necklace (take j cs) u ≡ true)
    unfolding counted_necklace
    ring-fewer r h = (record { long = r.long; shades = shaded }, both (necklace u) (has_counts (take j cs) u) (both_left (necklace u) (has_counts cs u) h) (sym counted))
      where
        known : (b : ℕ) → b < length cs → occurs b u ≡ get_or cs b 0
        known = counts-at cs u (both_right (necklace u) (has_counts cs u) h)

        shaded : (i : ℕ) → i < n → get_or u i 0 < j
        shaded i l = elim (tri (get_or u i 0) j) [ lt q ↦ q | eq q ↦ past (omega arith) | gt q ↦ past (omega arith) ]
          where
            past : j ≤ get_or u i 0 → get_or u i 0 < j
            past q = absurd (omega (arith, occurs-at u i (omega (arith, r.long)), known (get_or u i 0) (omega (arith, r.shades i l)), none-past (get_or u i 0) q))

        counted : true ≡ has_counts (take j cs) u
        counted = counts_end (take j cs) u (length (take j cs)) (omega arith) (λ b l. known b (omega (arith, counted-long, to.within)) ∙ sym (same-counts b))

    -- and the other way round
    pub ring-more : Reading n j u → counted_necklace (take j cs) u ≡ true → Reading n k u × (counted_necklace cs u ≡ true)
    unfolding counted_necklace
    ring-more r h = (
      record { long = r.long; shades = λ i l. omega (arith, r.shades i l, to.within) },
      both (necklace u) (has_counts cs u) (both_left (necklace u) (has_counts (take j cs) u) h) (sym counted),
    )
      where
        counted : true ≡ has_counts cs u
        counted =
            counts_end cs u (length cs) (omega arith)
            (λ b l. elim (tri b j) [ lt q ↦ low b q | eq q ↦ past b (omega arith) | gt q ↦ past b (omega arith) ])
          where
            low : (b : ℕ) → b < j → occurs b u ≡ get_or cs b 0
            low b q = counts-at (take j cs) u (both_right (necklace u) (has_counts (take j cs) u) h) b (omega (arith, counted-long)) ∙ same-counts b

            past : (b : ℕ) → j ≤ b → occurs b u ≡ get_or cs b 0
            past b q = occurs-past b j u (λ i l. r.shades i (omega (arith, r.long))) q ∙ sym (none-past b q)

-- the next ring of the counts up to the last above the capped reading is the next ring
pub capped-next : (w t cs : List ℕ) (j k : ℕ) → length cs ≡ k → 0 < j → CountedTo cs j → Capped w j t → next_of (counted_necklace (take j cs)) j t ≡ next_of (counted_necklace cs) k w
unfolding next_of above_of
capped-next w t cs j k many z to c = rw c.long (first-same (length w) j k (above_of (counted_necklace (take j cs)) t) (above_of (counted_necklace cs) w) more fewer)
  where
    more : (u : List ℕ) → Reading (length w) j u → above_of (counted_necklace (take j cs)) t u ≡ true → Reading (length w) k u × (above_of (counted_necklace cs) w u ≡ true)
    more u r h =
        let x = ring-more cs j to (length w) k many u r (both_right (before t u) (counted_necklace (take j cs) u) h) in
        (x.0, both (before w u) (counted_necklace cs u) (sym (before-capped w j t c z u r) ∙ both_left (before t u) (counted_necklace (take j cs) u) h) x.1)

    fewer : (u : List ℕ) → Reading (length w) k u → above_of (counted_necklace cs) w u ≡ true → Reading (length w) j u × (above_of (counted_necklace (take j cs)) t u ≡ true)
    fewer u r h =
        let x = ring-fewer cs j to (length w) k many u r (both_right (before w u) (counted_necklace cs u) h) in
        (x.0, both (before t u) (counted_necklace (take j cs) u) (before-capped w j t c z u x.0 ∙ both_left (before w u) (counted_necklace cs u) h) x.1)
