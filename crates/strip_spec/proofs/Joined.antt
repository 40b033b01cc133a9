-- Words joined one after another (specs/Strip).
--     joined-append, length-joined    a list in two parts; how many sectors there are
--     joined_at                       a word stands where the ones before it end
--     joined-shades                   each sector is a shade
use Rattle.words.proofs.Plain.{ℕ, ◌+◌, ◌-◌, ◌≤◌, ◌<◌, arith, ◌≡◌, refl, sym, ap, ◌∙◌, List, [], ◌∷◌, ◌++◌, append_assoc, length, get_or, length-append}
use Rattle.words.proofs.Plain.{List·get_d-append, get_or-append-add}
use Rattle.words.specs.Readings.{Reading, total}
use Rattle.words.proofs.Split.{lt, eq, gt, tri}
use Rattle.words.proofs.Readings.{All, nothing, also}
use Rattle.strip_spec.specs.Strip.{joined}

pub joined-append : (vs ws : List (List ℕ)) → joined (vs ++ ws) ≡ joined vs ++ joined ws
unfolding joined
joined-append [] ws = refl
joined-append (v ∷ vs) ws = ap (λ (x : List ℕ). v ++ x) (joined-append vs ws) ∙ sym (append_assoc v (joined vs) (joined ws))

pub length-joined : (ws : List (List ℕ)) → length (joined ws) ≡ total length ws
unfolding joined total
length-joined [] = refl
length-joined (w ∷ ws) = omega (arith, length-append w (joined ws), length-joined ws)

-- a word stands where the ones before it end
pub joined_at : (vs : List (List ℕ)) (w : List ℕ) (ws : List (List ℕ)) (i : ℕ) → i < length w → get_or (joined (vs ++ (w ∷ ws))) (length (joined vs) + i) 0 ≡ get_or w i 0
unfolding joined
joined_at vs w ws i h = rw (joined-append vs (w ∷ ws)) (get_or-append-add (joined vs) (w ++ joined ws) i 0 ∙ List·get_d-append w (joined ws) 0 i h)

-- each sector is a shade
pub joined-shades : (k : ℕ) (ws : List (List ℕ)) → All (λ u. Reading (length u) k u) ws → (i : ℕ) → i < length (joined ws) → get_or (joined ws) i 0 < k
unfolding joined
joined-shades k [] nothing i h = absurd (omega arith)
joined-shades k (w ∷ ws) (also r a) i h =
    elim (tri i (length w)) [
      | lt e ↦ rw (List·get_d-append w (joined ws) 0 i e) (r.shades i e)
      | eq e ↦ past (omega arith) (joined-shades k ws a)
      | gt e ↦ past (omega arith) (joined-shades k ws a)
    ]
  where
    past : length w ≤ i → ((j : ℕ) → j < length (joined ws) → get_or (joined ws) j 0 < k) → get_or (w ++ joined ws) i 0 < k
    past l rest =
        let e : i ≡ length w + (i - length w) = omega arith in
        rw e (rw (get_or-append-add w (joined ws) (i - length w) 0) (rest (i - length w) (omega (arith, length-append w (joined ws)))))
