-- The strip is written by a walk: it is the first `period` sectors of each necklace of the full walk from the all-zero ring, in order.
--     root w                        the first `period` sectors of w
--     length-root, period-round     their number; turning by it changes nothing
--     roots-rise                    of two necklaces, the greater has the greater root (a beginning comes first)
--     words-are-roots, strip-walk   the strip's words are the roots of the walk's necklaces, so the strip is these roots, joined
--     length-strip, strip-shades    it has k ^ n sectors, each a shade; for every n and k of at least 1
use Rattle.words.proofs.Plain.{ℕ, zero, suc, ◌+◌, ◌^◌, ◌≤◌, ◌<◌, ◌∣◌, arith, ◌≡◌, refl, sym, ap, subst, ◌∙◌, true, none, some, List, [], ◌∷◌, ◌++◌, map}
use Rattle.words.proofs.Plain.{append_assoc, map-append, eqb, length, get_or, take, length-append, get_or-take, length-take-le, eq-eqb, eqb-true}
use native.Mathlib.Nat.{dvd_of_mod-eq-zero, le_of_dvd}
use Rattle.words.specs.{Order.before, Readings.Reading, Readings.total}
use Rattle.words.proofs.Split.{both, both_left, both_right}
use Rattle.words.proofs.{Sequence.sec, Sequence.Less, Count.total-cong, Count.total-map}
use Rattle.words.proofs.Lex.{before-less, before-lt, before-eq}
use Rattle.words.proofs.Readings.{All, nothing, also, all-weaken, all_map, all_left, all_right, Increasing, empty, more}
use Rattle.rings.specs.Necklace.{necklace, period, lyndon}
use Rattle.rings.specs.Next.{repeated}
use Rattle.rings.specs.Steps.{next_of, FullWalk, done, step}
use Rattle.ring_laws.proofs.{Repeat.Turned, Lyndon.lyndon-pos}
use Rattle.ring_laws.proofs.Words.{pre-of, turned, necklace-prenecklace}
use Rattle.ring_laws.proofs.FullWalk.{zeros, zeros-reading, zeros-necklace, next-facts, walk-exists, walk-increasing}
use Rattle.ring_home_laws.proofs.Period.{period-pos, period-le, period-divides, period-turn}
use Rattle.ring_total_laws.proofs.OneRing.{Ring, walk-rings, walk-all, period-sum}
use Rattle.ring_total_laws.proofs.Beginnings.{necklace_by, beginning-lyndon, repeated-necklace}
use Rattle.strip_spec.specs.Strip.{joined, strip_words, strip}
use Rattle.strip_spec.proofs.Listed.{In, in_map, in_count, one_list}
use Rattle.strip_spec.proofs.Words.{StripWord, words-only, words-each, words-increasing}
use Rattle.strip_spec.proofs.Joined.{length-joined, joined-shades}
use Rattle.strip_laws.proofs.Around.{differ-early}

-- the first `period` sectors
abbrev pub root : List ℕ → List ℕ
root w = take (period w) w

pub length-root : (w : List ℕ) → 0 < length w → length (root w) ≡ period w
length-root w z = length-take-le (period w) w (period-le w z)

-- turning by the period changes nothing, sector by sector
pub period-round : (n : ℕ) (w : List ℕ) → 0 < n → length w ≡ n → Turned (sec w) n (period w) (sec w)
period-round n w z e = rw (period-turn w (omega arith), e) at (turned w (period w) (period-le w (omega arith)))

-- ---- the roots rise with the necklaces

-- v comes before w where they agree up to q, inside w, and v ends there or is smaller
before_at : (v w : List ℕ) (q : ℕ) → q < length w → ((m : ℕ) → m < q → m < length v → sec v m ≡ sec w m) → (q < length v → sec v q < sec w q) → before v w ≡ true
unfolding before
before_at [] [] q h f g = absurd (omega arith)
before_at [] (b ∷ w) q h f g = refl
before_at (a ∷ v) [] q h f g = absurd (omega arith)
before_at (a ∷ v) (b ∷ w) zero h f g = before-lt a b v w (g (omega arith))
before_at (a ∷ v) (b ∷ w) (suc q) h f g =
    before-eq a b v w (f 0 (omega arith) (omega arith)) ∙ before_at v w q (omega arith) (λ m s k. f (suc m) (omega arith) (omega arith)) (λ s. g (omega arith))

pub roots-rise : (n k : ℕ) (x y : List ℕ) → 0 < n → Ring n k x → Ring n k y → before x y ≡ true → before (root x) (root y) ≡ true
roots-rise n k x y z r q b =
    before_at (root x) (root y) l.at (omega (arith, ly, early))
    (λ m s h. get_or-take (period x) x m 0 (omega (arith, lx)) ∙ l.agree m s ∙ sym (get_or-take (period y) y m 0 (omega (arith, early))))
    (λ h. rw (get_or-take (period x) x l.at 0 (omega (arith, lx)), get_or-take (period y) y l.at 0 early) l.less)
  where
    l : Less (sec x) (sec y) n
    l = rw q.0.long at (before-less x y (r.0.long ∙ sym q.0.long) b)

    lx : length (root x) ≡ period x
    lx = length-root x (omega (arith, r.0.long))

    ly : length (root y) ≡ period y
    ly = length-root y (omega (arith, q.0.long))

    early : l.at < period y
    early = differ-early n 0 (sec x) (sec y) (period y) (rw r.0.long at (pre-of x (necklace-prenecklace x r.1))) (period-pos y) (period-round n y z q.0.long) l

roots-increasing : (n k : ℕ) → 0 < n → (ws : List (List ℕ)) → All (Ring n k) ws → Increasing ws → Increasing (map root ws)
roots-increasing n k z [] nothing empty = empty
roots-increasing n k z (w ∷ ws) (also r rs) (more a i) = more (all_map root ws (rise rs a)) (roots-increasing n k z ws rs i)
  where
    rise : {us : List (List ℕ)} → All (Ring n k) us → All (λ u. before w u ≡ true) us → All (λ u. before (root w) (root u) ≡ true) us
    rise nothing nothing = nothing
    rise (also {w = u} p ps) (also h hs) = also (roots-rise n k w u z r p h) (rise ps hs)

-- ---- the strip's words are the roots

module _ (n k : ℕ) (z : 0 < n) (y : 0 < k) where
  -- the root of a necklace is a word of the strip
  pub root-word : (w : List ℕ) → Ring n k w → In (root w) (strip_words n k)
  unfolding necklace_by
  root-word w r =
      words-each n k z (root w) (rw long b.0, b.1, rw long (dvd_of_mod-eq-zero (period w) (rw r.0.long at (period-divides w (omega (arith, r.0.long))))))
    where
      b : Reading (period w) k (root w) × (lyndon (root w) ≡ true) × (repeated n (root w) ≡ w)
      b = beginning-lyndon n (period w) k w z r.0 (both (necklace w) (eqb (period w) (period w)) r.1 (eq-eqb (period w) (period w) refl))

      long : length (root w) ≡ period w
      long = length-root w (omega (arith, r.0.long))

  module _ (rings : List (List ℕ)) (m : ℕ) (walk : FullWalk necklace k (zeros n) rings m) where
    -- each word of the strip is the root of a necklace of the walk
    word-root : (u : List ℕ) → StripWord n k u → In u (map root (zeros n ∷ rings))
    unfolding necklace_by
    word-root u (r, ly, q) =
        rw (sym same-root) (in_map root v (zeros n ∷ rings) (in_count v (zeros n ∷ rings)
        (omega (arith, walk-all n k z y rings m walk v b.0 (both_left (necklace v) (eqb (period v) (length u)) b.1)))))
      where
        v : List ℕ
        v = repeated n u

        b : Reading n k v × (necklace_by (length u) v ≡ true) × (take (length u) v ≡ u)
        b = repeated-necklace n (length u) k u (lyndon-pos u ly) (le_of_dvd z q) q r ly

        same-root : root v ≡ u
        same-root = ap (λ (x : ℕ). take x v) (eqb-true (period v) (length u) (both_right (necklace v) (eqb (period v) (length u)) b.1)) ∙ b.2

    pub words-are-roots : strip_words n k ≡ map root (zeros n ∷ rings)
    words-are-roots =
        one_list (strip_words n k) (map root (zeros n ∷ rings))
        (words-increasing n k z) (roots-increasing n k z (zeros n ∷ rings) (walk-rings n k z y rings m walk) (walk-increasing necklace k walk))
        (all-weaken word-root (words-only n k z))
        (all_map root (zeros n ∷ rings) (all-weaken root-word (walk-rings n k z y rings m walk)))

    -- the strip is the roots of the walk's necklaces, joined
    pub strip-walk : strip n k ≡ joined (map root (zeros n ∷ rings))
    unfolding strip
    strip-walk = ap joined words-are-roots

    walk-length : length (strip n k) ≡ k ^ n
    walk-length =
        ap length strip-walk
        ∙ length-joined (map root (zeros n ∷ rings))
        ∙ total-map length root (zeros n ∷ rings)
        ∙ total-cong (λ w. length (root w)) period (zeros n ∷ rings) (λ w r. length-root w (omega (arith, r.0.long))) (walk-rings n k z y rings m walk)
        ∙ period-sum n k z y rings m walk

  -- the strip has k ^ n sectors
  pub length-strip : length (strip n k) ≡ k ^ n
  length-strip = let f = walk-exists necklace k (zeros n) in walk-length f.0 f.1 f.2

  -- each a shade
  pub strip-shades : (i : ℕ) → i < length (strip n k) → get_or (strip n k) i 0 < k
  unfolding strip
  strip-shades = joined-shades k (strip_words n k) (all-weaken (λ u r. r.0) (words-only n k z))
