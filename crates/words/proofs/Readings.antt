-- The list of all readings of n sectors and k shades (specs/Readings): it holds readings and nothing else, it holds each (`each-reading`; exactly
-- once: `count-one` of Count), and it is in increasing order; so the first that passes a test is the least that passes.
--     All P ws, Increasing ws               specs/Readings, passed on
--     all_of_each, all-weaken, all_append, all_left, all_right, all_map, all-unmap      its laws
--     readings-all, each-reading            what is in the list is a reading, and what holds of all in the list holds of each reading
--     readings-increasing                   each word of the list is before all that follow it
--     first-none                            where nothing is found, nothing passes
--     first_some, first-is                  what is found is the least reading that passes, and the other way round
--     nothing-first, first-nothing          nothing is found exactly where no reading passes
use Rattle.words.proofs.Plain.{ℕ, zero, suc, ◌<◌, arith, ◌≡◌, refl, subst, ap, ◌∙◌, Bool, true, false, Option, none, some, List, [], ◌∷◌, ◌++◌, map}
use Rattle.words.proofs.Plain.{get_or}
use Rattle.words.specs.Order.{before, up_to}
use Rattle.words.specs.Readings.{Reading, fan, readings, first}
pub use Rattle.words.specs.Readings.{All, nothing, also, Increasing, empty, more}
use Rattle.words.proofs.Split.{passes, fails, test, lt, eq, gt, tri, clash}
use Rattle.words.proofs.Lex.{before-lt, before-cons, before-up_to, up_to-refl, up_to-antisym}

-- ---- laws of All

-- what holds of every word holds of each in a list
pub all_of_each : {P : List ℕ → Type 0} → ((w : List ℕ) → P w) → (ws : List (List ℕ)) → All P ws
all_of_each h [] = nothing
all_of_each h (w ∷ ws) = also (h w) (all_of_each h ws)

-- what follows from P holds where P does
pub all-weaken : {P Q : List ℕ → Type 0} {ws : List (List ℕ)} → ((w : List ℕ) → P w → Q w) → All P ws → All Q ws
all-weaken h nothing = nothing
all-weaken h (also {w} p ps) = also (h w p) (all-weaken h ps)

-- what holds of each word of two lists holds of each of the two joined
pub all_append : {P : List ℕ → Type 0} {vs ws : List (List ℕ)} → All P vs → All P ws → All P (vs ++ ws)
all_append nothing q = q
all_append (also p ps) q = also p (all_append ps q)

-- what holds of each word of joined lists holds of each of the first
pub all_left : {P : List ℕ → Type 0} (vs ws : List (List ℕ)) → All P (vs ++ ws) → All P vs
all_left [] ws h = nothing
all_left (v ∷ vs) ws (also p h) = also p (all_left vs ws h)

-- what holds of each word of joined lists holds of each of the second
pub all_right : {P : List ℕ → Type 0} (vs ws : List (List ℕ)) → All P (vs ++ ws) → All P ws
all_right [] ws h = h
all_right (v ∷ vs) ws (also p h) = all_right vs ws h

-- what holds of each image holds of each word of the mapped list
pub all_map : {P : List ℕ → Type 0} (g : List ℕ → List ℕ) (ws : List (List ℕ)) → All (λ w. P (g w)) ws → All P (map g ws)
all_map g [] h = nothing
all_map g (w ∷ ws) (also p h) = also p (all_map g ws h)

-- what holds of each word of the mapped list holds of each image
pub all-unmap : {P : List ℕ → Type 0} (g : List ℕ → List ℕ) (ws : List (List ℕ)) → All P (map g ws) → All (λ w. P (g w)) ws
all-unmap g [] h = nothing
all-unmap g (w ∷ ws) (also p h) = also p (all-unmap g ws h)

-- ---- the list holds readings, and each of them

-- a sector in front of a reading makes a reading with one sector more
pub reading-cons : (n k b : ℕ) (w : List ℕ) → b < k → Reading n k w → Reading (suc n) k (b ∷ w)
reading-cons n k b w h r = record { long = ap suc r.long; shades = shaded }
  where
    shaded : (i : ℕ) → i < suc n → get_or (b ∷ w) i 0 < k
    shaded zero l = h
    shaded (suc i) l = r.shades i (omega arith)

-- the rest of a reading is a reading
pub reading-rest : (n k b : ℕ) (w : List ℕ) → Reading (suc n) k (b ∷ w) → Reading n k w
reading-rest n k b w r = record { long = omega (arith, r.long); shades = λ i h. r.shades (suc i) (omega arith) }

-- what holds of all in a fan holds behind each of its shades
pub fan-at : {P : List ℕ → Type 0} (d : ℕ) (ws : List (List ℕ)) → All P (fan d ws) → (b : ℕ) → b < d → All (λ w. P (b ∷ w)) ws
unfolding fan
fan-at zero ws h b l = absurd (omega arith)
fan-at (suc d) ws h b l =
    elim (tri b d) [
      | lt e ↦ fan-at d ws (all_left (fan d ws) (map (λ w. d ∷ w) ws) h) b e
      | eq e ↦ rw e (all-unmap (λ w. d ∷ w) ws (all_right (fan d ws) (map (λ w. d ∷ w) ws) h))
      | gt e ↦ absurd (omega arith)
    ]

-- what holds behind each of its shades holds of all in a fan
pub fan-all : {P : List ℕ → Type 0} (d : ℕ) (ws : List (List ℕ)) → ((b : ℕ) → b < d → All (λ w. P (b ∷ w)) ws) → All P (fan d ws)
unfolding fan
fan-all zero ws h = nothing
fan-all (suc d) ws h = all_append (fan-all d ws (λ b l. h b (omega arith))) (all_map (λ w. d ∷ w) ws (h d (omega arith)))

-- what is in the list is a reading
pub readings-all : (n k : ℕ) → All (Reading n k) (readings n k)
unfolding readings
readings-all zero k = also (record { long = refl; shades = λ i h. absurd (omega arith) }) nothing
readings-all (suc n) k = fan-all k (readings n k) (λ b l. all-weaken (λ w r. reading-cons n k b w l r) (readings-all n k))

-- what holds of all in the list holds of each reading
pub each-reading : {P : List ℕ → Type 0} (n k : ℕ) → All P (readings n k) → (u : List ℕ) → Reading n k u → P u
unfolding readings
each-reading zero k (also p h) [] r = p
each-reading zero k h (b ∷ u) r = absurd (omega (arith, r.long))
each-reading (suc n) k h [] r = absurd (omega (arith, r.long))
each-reading {P} (suc n) k h (b ∷ u) r = each-reading {P = λ w. P (b ∷ w)} n k (fan-at k (readings n k) h b (r.shades 0 (omega arith))) u (reading-rest n k b u r)

-- ---- the list is in increasing order

-- two increasing lists, all of the one before all of the other, make one
pub increasing-append : (vs ws : List (List ℕ)) → Increasing vs → Increasing ws → All (λ v. All (λ w. before v w ≡ true) ws) vs → Increasing (vs ++ ws)
increasing-append [] ws empty q h = q
increasing-append (v ∷ vs) ws (more p ps) q (also a h) = more (all_append p a) (increasing-append vs ws ps q h)

-- one shade in front of all keeps the order
pub increasing-map : (d : ℕ) (ws : List (List ℕ)) → Increasing ws → Increasing (map (λ w. d ∷ w) ws)
increasing-map d [] empty = empty
increasing-map d (w ∷ ws) (more p ps) = more (all_map (λ v. d ∷ v) ws (all-weaken (λ v h. before-cons d w v ∙ h) p)) (increasing-map d ws ps)

-- a fan is increasing where its list is
pub increasing-fan : (d : ℕ) (ws : List (List ℕ)) → Increasing ws → Increasing (fan d ws)
unfolding fan
increasing-fan zero ws p = empty
increasing-fan (suc d) ws p =
    increasing-append (fan d ws) (map (λ w. d ∷ w) ws) (increasing-fan d ws p) (increasing-map d ws p)
    (fan-all d ws (λ b l. all_of_each (λ v. all_map (λ w. d ∷ w) ws (all_of_each (λ w. before-lt b d v w l) ws)) ws))

-- the list of all readings is in increasing order
pub readings-increasing : (n k : ℕ) → Increasing (readings n k)
unfolding readings
readings-increasing zero k = more nothing empty
readings-increasing (suc n) k = increasing-fan k (readings n k) (readings-increasing n k)

-- ---- the first that passes

-- where nothing is found, nothing in the list passes
pub first-none : (f : List ℕ → Bool) (ws : List (List ℕ)) → first f ws ≡ none → All (λ w. f w ≡ false) ws
unfolding first
first-none f [] h = nothing
first-none f (w ∷ ws) h = elim (test (f w)) [ passes e ↦ absurd (let g = rw (e, first) at h in let z : ◌≡◌ {A = ℕ} 0 1 = cc in omega arith) | fails e ↦ also e (first-none f ws (rw (e, first) at h)) ]

-- v is the least of the list that passes, and P holds of it
pub record Least (P : List ℕ → Type 0) (f : List ℕ → Bool) (ws : List (List ℕ)) (v : List ℕ) : Type 0 where
  pub holds : P v
  pub passing : f v ≡ true
  pub least : All (λ u. f u ≡ true → up_to v u ≡ true) ws

-- what is found in an increasing list is the least that passes
pub first-least : {P : List ℕ → Type 0} (f : List ℕ → Bool) (ws : List (List ℕ)) (v : List ℕ) → All P ws → Increasing ws → first f ws ≡ some v → Least P f ws v
unfolding first
first-least f [] v a i h = absurd (let z : ◌≡◌ {A = ℕ} 0 1 = cc in omega arith)
first-least {P} f (w ∷ ws) v (also p a) (more b i) h =
    elim (test (f w)) [
      | passes e ↦ let g = rw (e, first) at h in let q : w ≡ v = cc in
          subst (Least P f (w ∷ ws)) q (record {
            holds = p;
            passing = e;
            least = also (λ g. up_to-refl w) (all-weaken (λ u l g. before-up_to w u l) b);
          })
      | fails e ↦ later e (first-least f ws v a i (rw (e, first) at h))
    ]
  where
    later : f w ≡ false → Least P f ws v → Least P f (w ∷ ws) v
    later e l = record { holds = l.holds; passing = l.passing; least = also (λ g. clash (f w) g e) l.least }

-- what is found in the list of all readings is the least reading that passes
pub first_some : (n k : ℕ) (f : List ℕ → Bool) (v : List ℕ) → first f (readings n k) ≡ some v →
    Reading n k v × (f v ≡ true) × ((u : List ℕ) → Reading n k u → f u ≡ true → up_to v u ≡ true)
first_some n k f v h =
    let l = first-least f (readings n k) v (readings-all n k) (readings-increasing n k) h in (l.holds, l.passing, each-reading n k l.least)

-- where nothing is found in the list of all readings, no reading passes
pub nothing-first : (n k : ℕ) (f : List ℕ → Bool) → first f (readings n k) ≡ none → (u : List ℕ) → Reading n k u → f u ≡ false
nothing-first n k f h = each-reading n k (first-none f (readings n k) h)

-- where no reading passes, nothing is found
pub first-nothing : (n k : ℕ) (f : List ℕ → Bool) → ((u : List ℕ) → Reading n k u → f u ≡ false) → first f (readings n k) ≡ none
first-nothing n k f h = go (first f (readings n k)) refl
  where
    go : (o : Option (List ℕ)) → first f (readings n k) ≡ o → o ≡ none
    go none e = refl
    go (some v) e = let s = first_some n k f v e in clash (f v) s.1 (h v s.0)

-- the least reading that passes is found
pub first-is : (n k : ℕ) (f : List ℕ → Bool) (v : List ℕ) → Reading n k v → f v ≡ true →
    ((u : List ℕ) → Reading n k u → f u ≡ true → up_to v u ≡ true) → first f (readings n k) ≡ some v
first-is n k f v r p h = go (first f (readings n k)) refl
  where
    go : (o : Option (List ℕ)) → first f (readings n k) ≡ o → o ≡ some v
    go none e = clash (f v) p (nothing-first n k f e v r)
    go (some u) e = let s = first_some n k f u e in ap some (up_to-antisym u v (s.2 v r p) (h u s.0 s.1))

-- two tests that agree on a list find the same
pub first_cong : (f g : List ℕ → Bool) (ws : List (List ℕ)) → All (λ w. f w ≡ g w) ws → first f ws ≡ first g ws
unfolding first
first_cong f g [] nothing = refl
first_cong f g (w ∷ ws) (also e a) = elim (test (g w)) [ passes q ↦ rw (e, q, first) | fails q ↦ rw (e, q, first) (first_cong f g ws a) ]
