-- The letters of given counts in increasing order: what a pool starts from.
--     letters_from, letters    specs/Letters, passed on
-- In order: how many there are, how often each stands there, and that they do not fall.
use Rattle.words.proofs.Plain.{ℕ, zero, suc, ◌+◌, ◌<◌, ◌≤◌, arith, ◌≡◌, refl, sym, ap, ◌∙◌, List, [], ◌∷◌, ◌++◌, append_assoc, append-nil, length, get_or, take}
use Rattle.words.proofs.Plain.{replicate, length-append, length-replicate, eq-eqb, ne_eqb}
use Rattle.words.proofs.Sequence.{sec}
use Rattle.rings.specs.Counts.{occurs}
use Rattle.shades_laws.proofs.{Copies.occurs-append, Pool.Sorted}
use Rattle.words.specs.Sum.{sum_of}
unfoldable pub use Rattle.shades_laws.specs.Letters.{letters_from}
pub use Rattle.shades_laws.specs.Letters.{letters}

-- there are as many letters as the counts say
pub length-letters : (d : ℕ) (cs : List ℕ) → length (letters_from d cs) ≡ sum_of cs
unfolding letters_from sum_of
length-letters d [] = refl
length-letters d (c ∷ cs) = length-append (replicate c d) (letters_from (suc d) cs) ∙ omega (arith, length-replicate c d, length-letters (suc d) cs)

-- one count more
pub letters-suc : (d i b : ℕ) (cs : List ℕ) → d + i ≡ b → i < length cs → letters_from d (take (suc i) cs) ≡ letters_from d (take i cs) ++ replicate (get_or cs i 0) b
unfolding letters_from
letters-suc d i b [] e h = absurd (omega arith)
letters-suc d zero b (c ∷ cs) e h = let q : d ≡ b = omega arith in rw q (append-nil (replicate c b))
letters-suc d (suc i) b (c ∷ cs) e h =
    ap (λ x. replicate c d ++ x) (letters-suc (suc d) i b cs (omega arith) (omega arith))
    ∙ sym (append_assoc (replicate c d) (letters_from (suc d) (take i cs)) (replicate (get_or cs i 0) b))

-- a letter stands in its copies
pub occurs-replicate : (b n : ℕ) → occurs b (replicate n b) ≡ n
unfolding occurs
occurs-replicate b zero = refl
occurs-replicate b (suc n) = rw (eq-eqb b b refl) (omega (arith, occurs-replicate b n))

-- and not in the copies of another
pub occurs-replicate-other : (b d n : ℕ) → (d ≡ b → ⊥) → occurs b (replicate n d) ≡ 0
unfolding occurs
occurs-replicate-other b d zero h = refl
occurs-replicate-other b d (suc n) h = rw (ne_eqb d b h) (omega (arith, occurs-replicate-other b d n h))

-- a letter below the first does not occur
occurs-below : (b d : ℕ) (cs : List ℕ) → b < d → occurs b (letters_from d cs) ≡ 0
unfolding letters_from occurs
occurs-below b d [] h = refl
occurs-below b d (c ∷ cs) h = occurs-append b (replicate c d) (letters_from (suc d) cs) ∙ omega (arith, occurs-replicate-other b d c (λ e. omega arith), occurs-below b (suc d) cs (omega arith))

-- letter d + i occurs as often as count i says
pub occurs-letters : (b d i : ℕ) (cs : List ℕ) → d + i ≡ b → occurs b (letters_from d cs) ≡ get_or cs i 0
unfolding letters_from occurs
occurs-letters b d i [] e = refl
occurs-letters b d zero (c ∷ cs) e =
    let q : d ≡ b = omega arith in occurs-append b (replicate c d) (letters_from (suc d) cs)
    ∙ rw q (omega (arith, occurs-replicate b c, occurs-below b (suc b) cs (omega arith)))
occurs-letters b d (suc i) (c ∷ cs) e =
    occurs-append b (replicate c d) (letters_from (suc d) cs)
    ∙ omega (arith, occurs-replicate-other b d c (λ q. omega arith), occurs-letters b (suc d) i cs (omega arith))

-- copies of d in front of letters from d on: no letter is below d
least-behind : (c d : ℕ) (w : List ℕ) → ((i : ℕ) → i < length w → d ≤ sec w i) → (i : ℕ) → i < length (replicate c d ++ w) → d ≤ sec (replicate c d ++ w) i
least-behind zero d w h i l = h i l
least-behind (suc c) d w h zero l = omega arith
least-behind (suc c) d w h (suc i) l = least-behind c d w h i (omega arith)

-- and they do not fall if those behind do not
sorted-behind : (c d : ℕ) (w : List ℕ) → ((i : ℕ) → i < length w → d ≤ sec w i) → Sorted w → Sorted (replicate c d ++ w)
sorted-behind zero d w h s i l = s i l
sorted-behind (suc c) d w h s zero l = least-behind c d w h 0 (omega arith)
sorted-behind (suc c) d w h s (suc i) l = sorted-behind c d w h s i (omega arith)

-- no letter is below the first
pub letters-least : (d : ℕ) (cs : List ℕ) (i : ℕ) → i < length (letters_from d cs) → d ≤ sec (letters_from d cs) i
unfolding letters_from
letters-least d [] i h = absurd (omega arith)
letters-least d (c ∷ cs) i h = least-behind c d (letters_from (suc d) cs) (λ j l. omega (arith, letters-least (suc d) cs j l)) i h

-- the letters do not fall
pub sorted-letters : (d : ℕ) (cs : List ℕ) → Sorted (letters_from d cs)
unfolding letters_from
sorted-letters d [] i h = absurd (omega arith)
sorted-letters d (c ∷ cs) i h = sorted-behind c d (letters_from (suc d) cs) (λ j l. omega (arith, letters-least (suc d) cs j l)) (sorted-letters (suc d) cs) i h
