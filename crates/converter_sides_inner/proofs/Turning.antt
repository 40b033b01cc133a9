-- A reading turned where it stands, in the words of what `bytes::reverse` leaves.
--     front-reversed, rest-reversed    a beginning reversed, and the rest of a list
--     turned-there                     the first i reversed, the others reversed, and then the whole: turned by i
use Rattle.words.proofs.Plain.{ℕ, ◌≤◌, arith, ◌≡◌, refl, ◌∙◌, List, [], ◌++◌, append-nil, reverse, reverse-append, reverse-reverse, length, take, drop}
use Rattle.words.proofs.Plain.{◌-◌, take_all, length-append, length-drop, length-reverse, length-take-le, take-length, drop-length, take_at, drop_at}
use Rattle.std.specs.Prelude.{slice_range}
use Rattle.words.specs.Turn.{turn}

-- the first i reversed
front-reversed : (i : ℕ) (w u : List ℕ) → u ≡ take 0 w ++ (reverse (slice_range w 0 i) ++ drop i w) → u ≡ reverse (take i w) ++ drop i w
front-reversed i w u e = let z : i - 0 ≡ i = omega arith in rw z at e

-- what stands behind a beginning p, up to the end n, reversed
rest-reversed : (p q u : List ℕ) (i n : ℕ) → length p ≡ i → n ≡ length (p ++ q) → u ≡ take i (p ++ q) ++ (reverse (slice_range (p ++ q) i n) ++ drop n (p ++ q)) → u ≡ p ++ reverse q
rest-reversed p q u i n l m e =
    e ∙ rw (m, take_at p q i l, drop_at p q i l, drop-length (p ++ q), take_all (length (p ++ q) - i) q (omega (arith, length-append p q)), append-nil (reverse q))

-- the three reversals together
pub turned-there : (i n : ℕ) (w u v x : List ℕ) → i ≤ length w → n ≡ length w → u ≡ take 0 w ++ (reverse (slice_range w 0 i) ++ drop i w) →
    v ≡ take i u ++ (reverse (slice_range u i n) ++ drop n u) → x ≡ take 0 v ++ (reverse (slice_range v 0 n) ++ drop n v) → x ≡ turn i w
unfolding turn
turned-there i n w u v x h m e f g =
    let l : length front ≡ i = length-reverse (take i w) ∙ length-take-le i w h in
    let o : n ≡ length (front ++ drop i w) = omega (arith, length-append front (drop i w), length-drop i w) in
    let q : v ≡ front ++ reverse (drop i w) = rest-reversed front (drop i w) v i n l o (rw (front-reversed i w u e) at f) in
    let z : n ≡ length v = rw q (omega (arith, length-append front (reverse (drop i w)), length-reverse (drop i w), length-drop i w)) in
    rest-reversed [] v x 0 n refl z g ∙ rw (q, reverse-append front (reverse (drop i w)), reverse-reverse (drop i w), reverse-reverse (take i w))
  where
    front : List ℕ
    front = reverse (take i w)
