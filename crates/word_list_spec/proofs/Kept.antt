-- What is kept of a list of words.
--     kept-cong, kept-none                    tests that agree on the list keep the same, and one that nothing passes keeps nothing
--     kept-all, kept-each, kept-increasing    what is kept is in the list and passes, each that passes is kept, and the order stays
--     kept-first                              the first that passes, and those above it
use Rattle.words.proofs.Plain.{ℕ, arith, ◌≡◌, refl, ap, subst, Bool, true, false, ◌&&◌, some, List, [], ◌∷◌}
use Rattle.words.specs.{Order.before, Readings.first}
use Rattle.words.proofs.Split.{passes, fails, test, not_right, clash}
use Rattle.words.proofs.Lex.{before-irrefl}
use Rattle.words.proofs.Readings.{All, nothing, also, all-weaken, Increasing, empty, more}
use Rattle.word_list_spec.specs.Passing.{kept}

-- tests that agree on the list keep the same
pub kept-cong : (f g : List ℕ → Bool) (ws : List (List ℕ)) → All (λ w. f w ≡ g w) ws → kept f ws ≡ kept g ws
unfolding kept
kept-cong f g [] a = refl
kept-cong f g (w ∷ ws) (also e a) =
    elim (test (g w)) [ passes q ↦ rw (e, q, kept) (ap (λ (x : List (List ℕ)). w ∷ x) (kept-cong f g ws a)) | fails q ↦ rw (e, q, kept) (kept-cong f g ws a) ]

-- a test that nothing passes keeps nothing
pub kept-none : (f : List ℕ → Bool) (ws : List (List ℕ)) → All (λ w. f w ≡ false) ws → kept f ws ≡ []
unfolding kept
kept-none f [] a = refl
kept-none f (w ∷ ws) (also e a) = rw (e, kept) (kept-none f ws a)

-- what is in the kept list is in the list, and passes
pub kept-all : {P : List ℕ → Type 0} (f : List ℕ → Bool) (ws : List (List ℕ)) → All P ws → All (λ w. P w × (f w ≡ true)) (kept f ws)
unfolding kept
kept-all f [] a = nothing
kept-all {P} f (w ∷ ws) (also p a) = elim (test (f w)) [ passes q ↦ rw (q, kept) (also (p, q) (kept-all f ws a)) | fails q ↦ rw (q, kept) (kept-all f ws a) ]

-- what holds of the list holds of what is kept
pub kept-weaken : {P : List ℕ → Type 0} (f : List ℕ → Bool) (ws : List (List ℕ)) → All P ws → All P (kept f ws)
kept-weaken f ws a = all-weaken (λ w p. p.0) (kept-all f ws a)

-- it is in order where the list is
pub kept-increasing : (f : List ℕ → Bool) (ws : List (List ℕ)) → Increasing ws → Increasing (kept f ws)
unfolding kept
kept-increasing f [] i = empty
kept-increasing f (w ∷ ws) (more p i) =
    elim (test (f w)) [ passes q ↦ rw (q, kept) (more (kept-weaken f ws p) (kept-increasing f ws i)) | fails q ↦ rw (q, kept) (kept-increasing f ws i) ]

-- each that passes is in it
pub kept-each : {P : List ℕ → Type 0} (f : List ℕ → Bool) (ws : List (List ℕ)) → All P (kept f ws) → All (λ w. f w ≡ true → P w) ws
unfolding kept
kept-each f [] a = nothing
kept-each {P} f (w ∷ ws) a =
    elim (test (f w)) [ passes q ↦ here (λ ps. kept-each f ws ps) (rw (q, kept) at a) | fails q ↦ also (λ e. clash (f w) e q) (kept-each f ws (rw (q, kept) at a)) ]
  where
    here : (All P (kept f ws) → All (λ w. f w ≡ true → P w) ws) → All P (w ∷ kept f ws) → All (λ w. f w ≡ true → P w) (w ∷ ws)
    here next (also p ps) = also (λ e. p) (next ps)

-- the first that passes, and those above it
pub kept-first : (f : List ℕ → Bool) (ws : List (List ℕ)) (v : List ℕ) → Increasing ws → first f ws ≡ some v → kept f ws ≡ v ∷ kept (λ w. before v w && f w) ws
unfolding kept first
kept-first f [] v i h = absurd (let z : ◌≡◌ {A = ℕ} 0 1 = cc in omega arith)
kept-first f (w ∷ ws) v (more b i) h =
    elim (test (f w)) [
      | passes e ↦ let g = rw (e, first) at h in let q : w ≡ v = cc in subst (λ x. kept f (w ∷ ws) ≡ x ∷ kept (λ u. before x u && f u) (w ∷ ws)) q (found e)
      | fails e ↦ later e (kept-first f ws v i (rw (e, first) at h))
    ]
  where
    found : f w ≡ true → kept f (w ∷ ws) ≡ w ∷ kept (λ u. before w u && f u) (w ∷ ws)
    found e =
        rw (e, before-irrefl w, kept) (ap (λ (x : List (List ℕ)). w ∷ x) (kept-cong f (λ u. before w u && f u) ws (all-weaken (λ u l. rw l refl) b)))

    later : f w ≡ false → kept f ws ≡ v ∷ kept (λ u. before v u && f u) ws → kept f (w ∷ ws) ≡ v ∷ kept (λ u. before v u && f u) (w ∷ ws)
    later e q = rw (not_right (before v w) (f w) e, e, kept) q
