-- The set that the greedy choice takes from the Lyndon words of n and k, by any test of what may join.
--     chosen-most                       it takes at most the wanted number
--     chosen-members, chosen-rising     Lyndon words in increasing order
--     chosen-looked, chosen_last        each was looked at, and where there are enough the last taken is the last looked at
--     chosen-keeps                      what holds of no words, and is kept by each word that joins, holds of the set
--     chosen-fewer                      not full is fewer than wanted
--     chosen-settled, chosen-all        each Lyndon word up to one that was looked at is settled, and all are where fewer are taken than wanted
use Rattle.words.proofs.Plain.{ℕ, zero, suc, ◌<◌, ◌≤◌, arith, ◌≡◌, refl, sym, subst, ◌∙◌, Bool, true, false, List, [], ◌∷◌, ◌++◌, eqb, length, get_or, eqb-false}
use Rattle.words.specs.{Order.up_to, Readings.readings}
use Rattle.words.proofs.Readings.{All, nothing, all-weaken, Increasing, empty, readings-all, readings-increasing, each-reading}
use Rattle.rings.specs.Necklace.{lyndon}
use Rattle.set_spec.specs.Greedy.{May, greedy_by, looked_by, lyndons}
use Rattle.set_spec.specs.Worth.{OneOf, last_taken, LyndonOf, LyndonWords, Rising}
use Rattle.set_laws.proofs.Lists.{all-place, place-all, increasing-rising, begins-down}
use Rattle.set_laws.proofs.Kept.{kept-all, kept-each, kept-increasing}
use Rattle.set_laws.proofs.Choice.{Ordered, Settling, greedy-all, greedy-most, greedy-keeps, greedy-increasing, greedy-settles, greedy-looked, greedy-last, looked-begins, short-looked}

-- where all that are wanted are taken, the last one taken is the last one looked at; both are none where none is wanted
last-of-all : (may : May) (want : ℕ) (ws : List (List ℕ)) → length (greedy_by may want [] ws) ≡ want → last_taken (greedy_by may want [] ws) ≡ last_taken (looked_by may want [] ws)
unfolding greedy_by looked_by
last-of-all may zero ws e = refl
last-of-all may (suc left) ws e = greedy-last may left [] ws (omega arith)

-- ---- the Lyndon words

module _ (n k : ℕ) where
  rises : Increasing (lyndons n k)
  unfolding lyndons
  rises = kept-increasing lyndon (readings n k) (readings-increasing n k)

  ordered : Ordered [] (lyndons n k)
  ordered = record { rising = empty; coming = rises; behind = nothing }

  all-lyndon : All (LyndonOf n k) (lyndons n k)
  unfolding lyndons
  all-lyndon = all-weaken (λ w p. record { reading = p.0; is = p.1 }) (kept-all lyndon (readings n k) (readings-all n k))

  -- what holds of all Lyndon words in the list holds of each
  each-lyndon : {P : List ℕ → Type 0} → All P (lyndons n k) → (u : List ℕ) → LyndonOf n k u → P u
  unfolding lyndons
  each-lyndon {P} a u l = each-reading {P = λ w. lyndon w ≡ true → P w} n k (kept-each {P = P} lyndon (readings n k) a) u l.reading l.is

  -- each has its place in the list
  lyndon-place : (u : List ℕ) → LyndonOf n k u → OneOf (lyndons n k) u
  lyndon-place = each-lyndon {P = OneOf (lyndons n k)} (place-all (lyndons n k) (λ j h. record { at = j; inside = h; is = refl }))

-- ---- the set

module _ (may : May) (n k want : ℕ) where
  -- the set, and what was looked at for it
  abbrev ts : List (List ℕ)
  ts = greedy_by may want [] (lyndons n k)

  abbrev seen : List (List ℕ)
  seen = looked_by may want [] (lyndons n k)

  pub chosen-most : length ts ≤ want
  chosen-most = omega (arith, greedy-most may want [] (lyndons n k))

  pub chosen-members : LyndonWords n k ts
  chosen-members = all-place (greedy-all may want [] (lyndons n k) nothing (all-lyndon n k))

  pub chosen-rising : Rising ts
  chosen-rising = increasing-rising (greedy-increasing may want [] (lyndons n k) (ordered n k))

  -- each one taken was looked at
  pub chosen-looked : (i : ℕ) → i < length ts → OneOf seen (get_or ts i [])
  chosen-looked = all-place (greedy-looked {P = OneOf seen} may want [] (lyndons n k) nothing (place-all seen (λ j h. record { at = j; inside = h; is = refl })))

  -- where there are enough, the last one taken is the last one looked at
  pub chosen_last : length ts ≡ want → last_taken ts ≡ last_taken seen
  chosen_last e = last-of-all may want (lyndons n k) e

  -- what holds of no words, and is kept by each that joins
  pub chosen-keeps : (P : List (List ℕ) → Type 0) → ((us : List (List ℕ)) (w : List ℕ) → P us → LyndonOf n k w → may us w ≡ true → P (us ++ (w ∷ []))) → P [] → P ts
  chosen-keeps P keep p = greedy-keeps P (LyndonOf n k) may want [] (lyndons n k) keep (all-lyndon n k) p

  -- not full is fewer
  pub chosen-fewer : (full : Bool) → full ≡ eqb (length ts) want → full ≡ false → length ts < want
  chosen-fewer full e f = omega (arith, chosen-most, eqb-false (length ts) want (sym e ∙ f))

  module _ (S : List (List ℕ) → List ℕ → Type 0) (s : Settling may S) where
    -- each one looked at is settled
    settles : All (S ts) seen
    settles = greedy-settles may S s want [] (lyndons n k) (ordered n k)

    -- a Lyndon word up to one that was looked at was looked at, and so it is settled
    pub chosen-settled : (u v : List ℕ) → LyndonOf n k u → OneOf seen v → up_to u v ≡ true → S ts u
    chosen-settled u v l o h =
        let p = lyndon-place n k u l in
        let q : up_to (get_or (lyndons n k) p.at []) (get_or seen o.at []) ≡ true = rw (p.is, o.is) h in
        let b = begins-down (looked-begins may want [] (lyndons n k)) (rises n k) o.at p.at o.inside p.inside q in
        subst (S ts) (b.1 ∙ p.is) (all-place settles p.at b.0)

    -- where fewer are taken than wanted, each was looked at
    pub chosen-all : length ts < want → (u : List ℕ) → LyndonOf n k u → S ts u
    chosen-all h = each-lyndon n k {P = S ts} (subst (All (S ts)) (short-looked may want [] (lyndons n k) (omega arith)) settles)
