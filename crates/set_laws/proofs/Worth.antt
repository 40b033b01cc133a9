-- The greedy choice by distance is worth what is asked of a set (02, 'g').
--     far-le, near-lt           what the test says of two words
--     clear_at, not-clear, nothing-near    and of a word and all taken, or none
--     spread-more               one that is clear leaves any two at least d apart
--     picked-most               it takes at most the wanted number
--     picked-worth              every sentence of `Worth`, where `full` says whether the wanted number was taken
use Rattle.words.proofs.Plain.{ℕ, ◌<◌, ◌≤◌, arith, ◌≡◌, refl, sym, ◌∙◌, Bool, true, false, not, List, [], ◌∷◌, ◌++◌, ltb, eqb, length, get_or, ltb-true}
use Rattle.words.proofs.{Plain.ltb-false, Plain.eqb-true, Search.all-at, Search.not-all, Readings.All}
use Rattle.words.specs.{Order.before, Search.all_below}
use Rattle.words.proofs.Split.{passes, fails, test, lt, eq, gt, tri, clash}
use Rattle.rings.specs.Alike.{apart}
use Rattle.set_spec.specs.Greedy.{far_from, clear, picked, looked_at}
use Rattle.set_spec.specs.Worth.{Spread, Near, Settled, took, left_out, Worth}
use Rattle.set_laws.proofs.Lists.{length_more, at_old, at_new, all-place}
use Rattle.set_laws.proofs.Choice.{Extends, Settling}
use Rattle.set_laws.proofs.Chosen.{chosen-most, chosen-members, chosen-rising, chosen-looked, chosen_last, chosen-keeps, chosen-fewer, chosen-settled, chosen-all}

-- ---- far and near

pub far-le : (d : ℕ) (t w : List ℕ) → far_from d t w ≡ true → d ≤ apart t w
unfolding far_from
far-le d t w h =
    elim (test (ltb (apart t w) d)) [ passes e ↦ clash (not (ltb (apart t w) d)) h (rw e refl) | fails e ↦ ltb-false (apart t w) d e ]

pub near-lt : (d : ℕ) (t w : List ℕ) → far_from d t w ≡ false → apart t w < d
unfolding far_from
near-lt d t w h =
    elim (test (ltb (apart t w) d)) [ passes e ↦ ltb-true (apart t w) d e | fails e ↦ clash (not (ltb (apart t w) d)) (rw e refl) h ]

-- a word that is clear is far from each taken
pub clear_at : (d : ℕ) (ts : List (List ℕ)) (w : List ℕ) → clear d ts w ≡ true → (i : ℕ) → i < length ts → d ≤ apart (get_or ts i []) w
unfolding clear
clear_at d ts w h i l = far-le d (get_or ts i []) w (all-at (length ts) (λ m. far_from d (get_or ts m []) w) h i l)

-- one that is not is near to one taken
pub not-clear : (d : ℕ) (ts : List (List ℕ)) (w : List ℕ) → clear d ts w ≡ false → (i : ℕ) × (i < length ts) × (apart (get_or ts i []) w < d)
unfolding clear
not-clear d ts w h = found (not-all (length ts) (λ m. far_from d (get_or ts m []) w) h)
  where
    found : (i : ℕ) × (i < length ts) × (far_from d (get_or ts i []) w ≡ false) → (i : ℕ) × (i < length ts) × (apart (get_or ts i []) w < d)
    found (i, l, e) = (i, l, near-lt d (get_or ts i []) w e)

-- where none is taken each word is clear
pub nothing-near : (d : ℕ) (w : List ℕ) → clear d [] w ≡ true
unfolding clear all_below
nothing-near d w = refl

-- one that is clear leaves any two at least d apart
pub spread-more : (d : ℕ) (ts : List (List ℕ)) (w : List ℕ) → Spread d ts → clear d ts w ≡ true → Spread d (ts ++ (w ∷ []))
spread-more d ts w s h i j b l =
    let n = length_more ts w in
    elim (tri j (length ts)) [
      | lt e ↦ rw (at_old ts w i (omega arith), at_old ts w j e) (s i j b e)
      | eq e ↦ rw (at_old ts w i (omega arith), e, at_new ts w) (clear_at d ts w h i (omega arith))
      | gt e ↦ absurd (omega arith)
    ]

-- one that is not is nearer than d to one taken earlier
pub near-one : (d : ℕ) (ts : List (List ℕ)) (w : List ℕ) → All (λ t. before t w ≡ true) ts → clear d ts w ≡ false → Near d ts w
near-one d ts w a h = at (not-clear d ts w h)
  where
    at : (i : ℕ) × (i < length ts) × (apart (get_or ts i []) w < d) → Near d ts w
    at (i, l, q) = record { at = i; inside = l; earlier = all-place a i l; near = q }

-- a word near one taken is near one of any set that has those taken
pub near-stays : (d : ℕ) (ts us : List (List ℕ)) (w : List ℕ) → Extends ts us → Near d ts w → Near d us w
near-stays d ts us w x n =
    let r = x n.at n.inside in
    record { at = n.at; inside = r.0; earlier = rw r.1 n.earlier; near = rw r.1 n.near }

-- ---- the set

-- taken, or nearer than d to an earlier one taken
settling : (d : ℕ) → Settling (clear d) (Settled d)
settling d = record { member = λ ts w o. took o; kept_out = λ ts w a h. left_out (near-one d ts w a h); stays = stays }
  where
    stays : (ts us : List (List ℕ)) (w : List ℕ) → Extends ts us → Settled d ts w → Settled d us w
    stays ts us w x (took o) = let r = x o.at o.inside in took (record { at = o.at; inside = r.0; is = r.1 ∙ o.is })
    stays ts us w x (left_out n) = left_out (near-stays d ts us w x n)

module _ (n k d want : ℕ) where
  pub picked-most : length (picked n k d want) ≤ want
  unfolding picked
  picked-most = chosen-most (clear d) n k want

  spread : Spread d (picked n k d want)
  unfolding picked
  spread = chosen-keeps (clear d) n k want (Spread d) (λ ts w s l h. spread-more d ts w s h) (λ i j b h. absurd (omega arith))

  pub picked-worth : (full : Bool) → full ≡ eqb (length (picked n k d want)) want → Worth n k d want (picked n k d want) (looked_at n k d want) full
  unfolding picked looked_at
  picked-worth full e =
      let fewer = chosen-fewer (clear d) n k want full e in
      record {
        members = chosen-members (clear d) n k want;
        rising = chosen-rising (clear d) n k want;
        spread = spread;
        looked-at = chosen-looked (clear d) n k want;
        last-looked = λ f. chosen_last (clear d) n k want (eqb-true (length (picked n k d want)) want (sym e ∙ f));
        settled = chosen-settled (clear d) n k want (Settled d) (settling d);
        enough = λ f. eqb-true (length (picked n k d want)) want (sym e ∙ f);
        short = fewer;
        none_left = λ f. chosen-all (clear d) n k want (Settled d) (settling d) (fewer f);
      }
