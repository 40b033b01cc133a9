-- Words of a list, and lists in increasing order.
--     In v ws                                      v is a word of the list
--     in_all, in_left, in_right, in_map, in_count  its laws
--     one_list                                     two increasing lists with the same words are one list
use Rattle.words.proofs.Plain.{ℕ, ◌<◌, arith, ◌≡◌, refl, sym, ap, true, List, [], ◌∷◌, ◌++◌, map}
use Rattle.words.specs.{Order.before, Order.same, Readings.total, Readings.count}
use Rattle.words.proofs.Split.{passes, fails, test, clash}
use Rattle.words.proofs.Lex.{before-asym, before-irrefl, same_true}
use Rattle.words.proofs.Readings.{All, nothing, also, Increasing, empty, more}

-- v is a word of the list
pub data In (v : List ℕ) : List (List ℕ) → Type 0 where
  here : {w : List ℕ} {ws : List (List ℕ)} → v ≡ w → In v (w ∷ ws)
  there : {w : List ℕ} {ws : List (List ℕ)} → In v ws → In v (w ∷ ws)

-- ---- laws of In

pub in_all : {P : List ℕ → Type 0} {v : List ℕ} {ws : List (List ℕ)} → All P ws → In v ws → P v
in_all (also p ps) (here e) = rw e p
in_all (also p ps) (there i) = in_all ps i
in_all {P = P} {v = v} nothing x3 = elim x3 [ ]

pub in_left : (v : List ℕ) (us ws : List (List ℕ)) → In v us → In v (us ++ ws)
in_left v (u ∷ us) ws (here e) = here e
in_left v (u ∷ us) ws (there i) = there (in_left v us ws i)
in_left v [] ws x' = elim x' [ ]

pub in_right : (v : List ℕ) (us ws : List (List ℕ)) → In v ws → In v (us ++ ws)
in_right v [] ws i = i
in_right v (u ∷ us) ws i = there (in_right v us ws i)

pub in_map : (g : List ℕ → List ℕ) (v : List ℕ) (ws : List (List ℕ)) → In v ws → In (g v) (map g ws)
in_map g v (w ∷ ws) (here e) = here (ap g e)
in_map g v (w ∷ ws) (there i) = there (in_map g v ws i)
in_map g v [] x' = elim x' [ ]

-- what is counted is in the list
pub in_count : (v : List ℕ) (ws : List (List ℕ)) → 0 < count (same v) ws → In v ws
unfolding total
in_count v [] h = absurd (omega arith)
in_count v (w ∷ ws) h =
    elim (test (same v w)) [ passes e ↦ here (same_true v w e) | fails e ↦ there (in_count v ws (let g = rw e at h in omega arith)) ]

-- ---- two increasing lists with the same words are one list

-- a word of the list that is not its first is after it
after : (a v : List ℕ) (cs : List (List ℕ)) → Increasing (a ∷ cs) → In v cs → before a v ≡ true
after a v cs (more b i) j = in_all b j

-- a word after the first is in the rest
behind-first : (a v : List ℕ) (cs : List (List ℕ)) → before a v ≡ true → In v (a ∷ cs) → In v cs
behind-first a v cs h (here e) = clash (before a a) (rw e at h) (before-irrefl a)
behind-first a v cs h (there i) = i

-- the first words of two such lists are one
one-first : (a b : List ℕ) (cs bs : List (List ℕ)) → Increasing (a ∷ cs) → Increasing (b ∷ bs) → In a (b ∷ bs) → In b (a ∷ cs) → a ≡ b
one-first a b cs bs p q (here e) j = e
one-first a b cs bs p q (there i) (here e) = sym e
one-first a b cs bs p q (there i) (there j) = clash (before a b) (after a b cs p j) (before-asym b a (after b a bs q i))

pub one_list : (cs bs : List (List ℕ)) → Increasing cs → Increasing bs → All (λ u. In u bs) cs → All (λ u. In u cs) bs → cs ≡ bs
one_list [] [] p q f g = refl
one_list [] (b ∷ bs) p q f (also i g) = absurd (nowhere i)
  where
    nowhere : In b [] → ⊥
    nowhere = elim [ ]
one_list (a ∷ cs) [] p q (also i f) g = absurd (nowhere i)
  where
    nowhere : In a [] → ⊥
    nowhere = elim [ ]
one_list (a ∷ cs) (b ∷ bs) (more x p) (more y q) (also i f) (also j g) = rw (one, one_list cs bs p q (rests x one) (rests-back y one))
  where
    one : a ≡ b
    one = one-first a b cs bs (more x p) (more y q) i j

    rests : All (λ u. before a u ≡ true) cs → a ≡ b → All (λ u. In u bs) cs
    rests x e = each x f
      where
        each : {us : List (List ℕ)} → All (λ u. before a u ≡ true) us → All (λ u. In u (b ∷ bs)) us → All (λ u. In u bs) us
        each nothing nothing = nothing
        each (also {w} h hs) (also k ks) = also (behind-first b w bs (rw e at h) k) (each hs ks)

    rests-back : All (λ u. before b u ≡ true) bs → a ≡ b → All (λ u. In u cs) bs
    rests-back y e = each y g
      where
        each : {us : List (List ℕ)} → All (λ u. before b u ≡ true) us → All (λ u. In u (a ∷ cs)) us → All (λ u. In u cs) us
        each nothing nothing = nothing
        each (also {w} h hs) (also k ks) = also (behind-first a w cs (rw (← e) at h) k) (each hs ks)
