-- A record's bytes (`bytes` of Layout), as Layout finds them.
--     laid-sectors     the bytes behind the head are v
--     whole            a part that begins with a record is its bytes and what follows
use Rattle.words.proofs.Plain.{ℕ, ◌+◌, ◌≤◌, arith, ◌≡◌, sym, ap, ◌∙◌, List, [], ◌∷◌, ◌++◌, length, drop, take-append-drop, take_at, drop-drop}
use Rattle.record_spec.specs.declared.Kind.{Kind}
use Rattle.record_spec.specs.Layout.{second_byte, Marked, body_length, n_of, k_of, body_of}
pub use Rattle.record_spec.specs.Layout.{bytes}

-- the bytes behind the head; where a sector is a byte, they are the sectors
pub laid-sectors : (x : Kind) (n k : ℕ) (v t : List ℕ) → length v ≡ body_length x n k → body_of x (bytes x n k v ++ t) ≡ v
laid-sectors x n k v t e = take_at v t (body_length x n k) e

-- a part that begins with a record, in its own numbers
own : (x : Kind) (t : List ℕ) → 4 ≤ length t → Marked t x → t ≡ bytes x (n_of t) (k_of t) (body_of x t) ++ drop (body_length x (n_of t) (k_of t)) (drop 4 t)
own x [] l m = absurd (omega arith)
own x (a ∷ []) l m = absurd (omega arith)
own x (a ∷ (b ∷ [])) l m = absurd (omega arith)
own x (a ∷ (b ∷ (n ∷ []))) l m = absurd (omega arith)
own x (a ∷ (b ∷ (n ∷ (k ∷ t)))) l m =
    ap (λ (i : ℕ). i ∷ (b ∷ (n ∷ (k ∷ t)))) m.0 ∙ ap (λ (i : ℕ). 0x52 ∷ (i ∷ (n ∷ (k ∷ t)))) m.1 ∙ ap
    (λ (v : List ℕ). 0x52 ∷ (second_byte x ∷ (n ∷ (k ∷ v)))) (sym (take-append-drop (body_length x n k) t))

-- a part that begins with a record is its bytes and what follows
pub whole : (x : Kind) (t : List ℕ) (n k : ℕ) (v : List ℕ) → 4 ≤ length t → Marked t x → n ≡ n_of t → k ≡ k_of t → v ≡ body_of x t → t ≡ bytes x n k v ++ drop (4 + body_length x n k) t
whole x t n k v l m e f g =
    own x t l m
    ∙ ap (λ (i : ℕ). bytes x i (k_of t) (body_of x t) ++ drop (body_length x i (k_of t)) (drop 4 t)) (sym e)
    ∙ ap (λ (i : ℕ). bytes x n i (body_of x t) ++ drop (body_length x n i) (drop 4 t)) (sym f)
    ∙ ap (λ (u : List ℕ). bytes x n k u ++ drop (body_length x n k) (drop 4 t)) (sym g)
    ∙ ap (λ (u : List ℕ). bytes x n k v ++ u) (drop-drop (body_length x n k) 4 t)
