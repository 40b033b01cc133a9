-- What the `byte_moves_inner::copy` and `reverse` leave, in the words of plain lists. s is copied over o, which is u afterwards.
--     copied       s over as many bytes: s
--     laid         s over n zeros: s with zeros behind it
--     reversed     and then reversed: s reversed
use Rattle.words.proofs.Plain.{ℕ, zero, suc, ◌-◌, ◌≤◌, arith, ◌≡◌, refl, ap, ◌∙◌, List, [], ◌∷◌, ◌++◌, append-nil, reverse, length, take, drop, replicate}
use Rattle.words.proofs.Plain.{drop_of_length-le, take_all}
use Rattle.std.specs.Prelude.{slice_range}

-- s over as many bytes: s
pub copied : (s o u : List ℕ) → u ≡ take (length s) s ++ drop (length s) o → length o ≡ length s → u ≡ s
copied s o u e l =
    e ∙ rw (take_all (length s) s (omega arith), drop_of_length-le o {i = length s} (omega arith)) (append-nil s)

-- m of n equal numbers left out
dropped : (m n x : ℕ) → drop m (replicate n x) ≡ replicate (n - m) x
dropped zero n x = let e : n - 0 ≡ n = omega arith in rw e
dropped (suc m) zero x = let e : 0 - suc m ≡ 0 = omega arith in rw e
dropped (suc m) (suc n) x = let e : suc n - suc m ≡ n - m = omega arith in rw e (dropped m n x)

-- s over n zeros: s with zeros behind it
pub laid : (s u : List ℕ) (n : ℕ) → u ≡ take (length s) s ++ drop (length s) (replicate n 0) → u ≡ s ++ replicate (n - length s) 0
laid s u n e = e ∙ rw (take_all (length s) s (omega arith), dropped (length s) n 0)

-- s copied over as many bytes, and the whole then reversed: s reversed
pub reversed : (s o u v : List ℕ) (n : ℕ) → u ≡ take (length s) s ++ drop (length s) o → length o ≡ length s → n ≡ length s → v ≡ take 0 u ++ (reverse (slice_range u 0 n) ++ drop n u) → v ≡ reverse s
reversed s o u v n e l q f =
    let none : n - 0 ≡ n = omega arith in
    f ∙ rw (copied s o u e l, none, q, take_all (length s) s (omega arith), drop_of_length-le s {i = length s} (omega arith)) (append-nil (reverse s))
