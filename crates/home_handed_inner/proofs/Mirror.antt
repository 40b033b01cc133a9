-- The search for a turn of the reversed reading that is the reading.
--     Mirrors w t m, mirrors-start, mirrors-more    in its first m sectors, the turn by t of the reversed reading is the reading
--     mirrors-yes, mirrors-no                       in all of them: w is even-handed; in one not: it is not this turn
--     Unmirrored w t, unmirrored-start, unmirrored-more, unmirrored-end    no turn by less than t is the reading
use Rattle.words.proofs.Plain.{ℕ, ◌+◌, ◌-◌, ◌<◌, ◌≤◌, arith, ◌≡◌, sym, ap, ◌∙◌, true, false, List, reverse, length, get_or, length-reverse, ext_get_or}
use Rattle.words.specs.{Search.some_below, Order.same, Turn.turn}
use Rattle.words.proofs.Split.{lt, eq, gt, tri, clash, refuted}
use Rattle.words.proofs.{Search.some_of, Search.some_at, Lex.true_same, Lex.same_false, Turn.length-turn, Turn.get_d_reverse}
use Rattle.rings.specs.Alike.{even_handed}
use Rattle.home_turns_inner.specs.Around.{Around}
use Rattle.home_turns_inner.proofs.Places.{sector-around}

-- the sector at place m of the reversed reading turned by t stands in the reading before the end by the place around
pub sector-mirrored : (w : List ℕ) (t m r : ℕ) → t ≤ length w → m < length w → Around (length w) t m r → get_or w (length w - 1 - r) 0 ≡ get_or (turn t (reverse w)) m 0
sector-mirrored w t m r h l a =
    sym (get_d_reverse w r (length w - 1 - r) (omega (arith, a.inside))) ∙ sector-around (reverse w) t m r (rw length-reverse h) (rw length-reverse l) (rw length-reverse a)

-- in its first m sectors, the reversed reading turned by t is the reading
abbrev pub Mirrors : List ℕ → ℕ → ℕ → Type 0
Mirrors w t m = (x : ℕ) → x < m → get_or (turn t (reverse w)) x 0 ≡ get_or w x 0

-- none of the turns by less than t is the reading
abbrev pub Unmirrored : List ℕ → ℕ → Type 0
Unmirrored w t = (i : ℕ) → i < t → same (turn i (reverse w)) w ≡ false

module _ (w : List ℕ) (t : ℕ) where
  -- in no sectors at all there is nothing to match
  pub mirrors-start : Mirrors w t 0
  mirrors-start x h = absurd (omega arith)

  -- one sector more that matches
  pub mirrors-more : (m r : ℕ) → t ≤ length w → m < length w → Around (length w) t m r → Mirrors w t m → get_or w (length w - 1 - r) 0 ≡ get_or w m 0 → Mirrors w t (m + 1)
  mirrors-more m r h l a f e x k =
      elim (tri x m) [ lt o ↦ f x o | eq o ↦ rw o (sym (sector-mirrored w t m r h l a) ∙ e) | gt o ↦ absurd (omega arith) ]

  -- a turn that matches in every sector
  pub mirrors-yes : (m : ℕ) → t < length w → length w ≤ m → Mirrors w t m → true ≡ even_handed w
  unfolding even_handed
  mirrors-yes m h l f =
      sym (some_of (length w) (λ i. same (turn i (reverse w)) w) t h (true_same (turn t (reverse w)) w (ext_get_or 0 (turn t (reverse w)) w long (λ x k. f x (omega (arith, long))))))
    where
      long : length (turn t (reverse w)) ≡ length w
      long = length-turn t (reverse w) (rw length-reverse (omega arith)) ∙ length-reverse w

  -- a turn that does not match in one sector
  pub mirrors-no : (m r : ℕ) → t ≤ length w → m < length w → Around (length w) t m r → (get_or w (length w - 1 - r) 0 ≡ get_or w m 0 → ⊥) → same (turn t (reverse w)) w ≡ false
  mirrors-no m r h l a n =
      same_false (turn t (reverse w)) w (λ e. n (sector-mirrored w t m r h l a ∙ ap (λ (v : List ℕ). get_or v m 0) e))

-- there is no turn by less than 0
pub unmirrored-start : (w : List ℕ) → Unmirrored w 0
unmirrored-start w i h = absurd (omega arith)

-- one turn more that does not match
pub unmirrored-more : (w : List ℕ) (t : ℕ) → Unmirrored w t → same (turn t (reverse w)) w ≡ false → Unmirrored w (t + 1)
unmirrored-more w t u f i h = elim (tri i t) [ lt e ↦ u i e | eq e ↦ rw e f | gt e ↦ absurd (omega arith) ]

-- where no turn matches, the reading is not even-handed
pub unmirrored-end : (w : List ℕ) (t : ℕ) → Unmirrored w t → length w ≤ t → false ≡ even_handed w
unfolding even_handed
unmirrored-end w t u h = sym (refuted (some_below (length w) (λ i. same (turn i (reverse w)) w)) (λ e. found (some_at (length w) (λ i. same (turn i (reverse w)) w) e)))
  where
    found : (i : ℕ) × (i < length w) × (same (turn i (reverse w)) w ≡ true) → ⊥
    found (i, l, s) = clash (same (turn i (reverse w)) w) s (u i (omega arith))
