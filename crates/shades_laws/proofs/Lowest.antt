-- Words that lie under each of their proper endings: the Lyndon words, told by the relation ≪ of `shades_laws`, Under, so that joining two of them is a few lines.
--     Ends t e       t lies under each ending of e that is not empty
--     Lowest w       w is not empty, and lies under each of its proper endings
-- In order: endings; joining (`lowest-join`); the bridge to `Lyn` of `ring_laws`, Run (`lowest-of`, `lowest-lyn`).
use Rattle.words.proofs.Plain.{ℕ, zero, suc, ◌+◌, ◌-◌, ◌<◌, arith, ◌≡◌, refl, sym, ap, ◌∙◌, subst, List, [], ◌∷◌, ◌++◌, append_assoc, length, get_or, take, drop}
use Rattle.words.proofs.Plain.{length-append, length-drop, take-append-drop, get_or-append-add, get_or-drop, length-take-le}
use Rattle.words.proofs.Sequence.{sec, from, Less, recast}
use Rattle.ring_laws.proofs.Run.{Lyn}
use Rattle.shades_laws.proofs.Under.{◌≪◌, here, later, Short, lower, opening, under-trans, under-longer, under-extended, under-behind, less-under}

-- t lies under each ending of e that is not empty
pub data Ends (t : List ℕ) : List ℕ → Type 0 where
  none : Ends t []
  more : {a : ℕ} {e : List ℕ} → t ≪ (a ∷ e) → Ends t e → Ends t (a ∷ e)

-- w is not empty, and lies under each of its proper endings
pub data Lowest : List ℕ → Type 0 where
  lowest : {a : ℕ} {e : List ℕ} → Ends (a ∷ e) e → Lowest (a ∷ e)

-- ---- endings

-- the endings of e ++ f are those of f, and those of e with f behind
ends-append : {t e f : List ℕ} → Ends t e → Ends t f → Ends t (e ++ f)
ends-append none k = k
ends-append {f} (more p h) k = more (under-extended f p) (ends-append h k)

-- what lies under t lies under the same endings
ends-under : {t u e : List ℕ} → u ≪ t → Ends t e → Ends u e
ends-under r none = none
ends-under r (more p h) = more (under-trans r p) (ends-under r h)

-- and so does t with more behind
ends-longer : {t e : List ℕ} (u : List ℕ) → Ends t e → Ends (t ++ u) e
ends-longer u none = none
ends-longer u (more p h) = more (under-longer u p) (ends-longer u h)

-- a given ending
ends-back : {t : List ℕ} (e h : List ℕ) → Ends t (e ++ h) → 0 < length h → t ≪ h
ends-back [] [] k z = absurd (omega arith)
ends-back [] (b ∷ h) (more p k) z = p
ends-back (a ∷ e) h (more p k) z = ends-back e h k z

-- a proper ending of a lowest word is above it
pub lowest-ending : {w : List ℕ} → Lowest w → (u h : List ℕ) → w ≡ u ++ h → 0 < length u → 0 < length h → w ≪ h
lowest-ending (lowest k) [] h e y z = absurd (omega arith)
lowest-ending {w} (lowest {a} {e = v} k) (c ∷ u) h e y z = ends-back u h (subst (Ends (a ∷ v)) tail k) z
  where
    tail : v ≡ u ++ h
    tail = cc

-- a lowest word is not empty
pub lowest-long : {w : List ℕ} → Lowest w → 0 < length w
lowest-long (lowest k) = omega arith

-- ---- joining

-- u joined with v is under v, where u stands before v
pub join-under : {u v : List ℕ} → Lowest u → Lowest v → Short u v → (u ++ v) ≪ v
join-under {u} {v} k l (lower r) = under-longer v r
join-under {u} {v} k l (opening h e z) = subst (λ x. (u ++ v) ≪ x) (sym e) (under-behind u (lowest-ending l u h e (lowest-long k) z))

-- and is lowest
pub lowest-join : {u v : List ℕ} → Lowest u → Lowest v → Short u v → Lowest (u ++ v)
lowest-join {u} {v} (lowest {a} {e} k) (lowest {a = b} {e = f} l) s = lowest (ends-append (ends-longer (b ∷ f) k) (more low (ends-under low l)))
  where
    low : ((a ∷ e) ++ (b ∷ f)) ≪ (b ∷ f)
    low = join-under (lowest k) (lowest l) s

-- a letter is lowest
pub lowest-letter : (a : ℕ) → Lowest (a ∷ [])
lowest-letter a = lowest none

-- ---- the bridge to sequences

-- a Lyndon word is lowest
pub lowest-of : (w : List ℕ) → 0 < length w → Lyn (sec w) (length w) → Lowest w
lowest-of [] z l = absurd (omega arith)
lowest-of (a ∷ e) z l = lowest (go (a ∷ []) e refl (omega arith))
  where
    go : (p f : List ℕ) → a ∷ e ≡ p ++ f → 0 < length p → Ends (a ∷ e) f
    go p [] q y = none
    go p (b ∷ f) q y = more low (go (p ++ (b ∷ [])) f (q ∙ sym (append_assoc p (b ∷ []) f)) (rw (length-append p (b ∷ [])) (omega arith)))
      where
        long : length (a ∷ e) ≡ length p + length (b ∷ f)
        long = ap length q ∙ length-append p (b ∷ f)

        low : (a ∷ e) ≪ (b ∷ f)
        low =
            less-under (a ∷ e) (b ∷ f) (length (a ∷ e) - length p) (omega arith) (omega (arith, long))
            (recast (sec (a ∷ e)) (from (length p) (sec (a ∷ e))) (sec (a ∷ e)) (sec (b ∷ f)) (length (a ∷ e) - length p) (λ m h. refl)
            (λ m h. ap (λ x. get_or x (length p + m) 0) q ∙ get_or-append-add p (b ∷ f) m 0) (l (length p) y (omega (arith, long))))

-- the first difference as a witness
pub under-less : {v w : List ℕ} → v ≪ w → Less (sec v) (sec w) (length w)
under-less (here p) = record { at = 0; bound = omega arith; agree = λ m h. absurd (omega arith); less = p }
under-less (later {a} {b} {v} {w} p r) = onward (under-less r)
  where
    agrees : (l : Less (sec v) (sec w) (length w)) → (m : ℕ) → m < suc l.at → sec (a ∷ v) m ≡ sec (b ∷ w) m
    agrees l zero h = p
    agrees l (suc m) h = l.agree m (omega arith)

    onward : Less (sec v) (sec w) (length w) → Less (sec (a ∷ v)) (sec (b ∷ w)) (length (b ∷ w))
    onward l = record { at = suc l.at; bound = omega (arith, l.bound); agree = agrees l; less = l.less }

-- a lowest word is a Lyndon word
pub lowest-lyn : (w : List ℕ) → Lowest w → Lyn (sec w) (length w)
lowest-lyn w k i z h =
    recast (sec w) (sec (drop i w)) (sec w) (from i (sec w)) (length w - i) (λ m l. refl) (λ m l. get_or-drop i w m 0)
    (rw (length-drop i w) at (under-less (lowest-ending k (take i w) (drop i w) (sym (take-append-drop i w)) (rw (length-take-le i w (omega arith)) z) (rw (length-drop i w) (omega arith)))))
