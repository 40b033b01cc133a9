-- A list of words that stands clear of t: no ending of the list, read on into al, lies under t. Here t is al followed by the letters that complete it.
--     read al xs          the words of xs one behind the other, and then al
--     Clear al t xs       no ending of xs, read on into al, lies under t
-- In order: what keeps a list clear; a last word that is too small; the letters that complete al to a necklace stand clear.
use Rattle.words.proofs.Plain.{ℕ, ◌+◌, ◌-◌, ◌<◌, arith, ◌≡◌, refl, sym, ap, ◌∙◌, subst, true, false, List, [], ◌∷◌, ◌++◌, append_assoc, append-nil, length}
use Rattle.words.proofs.Plain.{get_or, take, drop, length-append, get_or-append-add, drop-append_seam, take-append_seam, not-true}
use Rattle.words.specs.{Order.before, Order.up_to, Turn.turn}
use Rattle.words.proofs.{Search.all-at, Split.clash}
use Rattle.words.proofs.Sequence.{sec, from, recast}
use Rattle.rings.specs.Necklace.{necklace, not_above_turn}
use Rattle.ring_laws.proofs.Run.{Lyn}
use Rattle.shades_laws.proofs.Under.{◌≪◌, ◌≼◌, Short, lower, opening, under-trans, under-longer, under-extended, under-behind, upto-behind, upto-under, under-before, less-under}
use Rattle.words.proofs.Readings.{All, nothing, also}
use Rattle.shades_laws.proofs.Copies.{singles}

-- the words of the list one behind the other, and then al
unfoldable pub read : List ℕ → List (List ℕ) → List ℕ
read al [] = al
read al (x ∷ xs) = x ++ read al xs

-- no ending of the list, read on into al, lies under t
pub data Clear (al t : List ℕ) : List (List ℕ) → Type 0 where
  over : Clear al t []
  onto : {x : List ℕ} {xs : List (List ℕ)} → ((x ++ read al xs) ≪ t → ⊥) → Clear al t xs → Clear al t (x ∷ xs)

-- behind the same words, an ending that is not lower reads not lower
pub read_behind : (al : List ℕ) (xs ys zs : List (List ℕ)) → read al ys ≼ read al zs → read al (xs ++ ys) ≼ read al (xs ++ zs)
unfolding read
read_behind al [] ys zs h = h
read_behind al (x ∷ xs) ys zs h = upto-behind x (read_behind al xs ys zs h)

module _ {al t : List ℕ} where
  -- the whole of a clear list does not lie under t
  pub clear_first : {x : List ℕ} {xs : List (List ℕ)} → Clear al t (x ∷ xs) → (x ++ read al xs) ≪ t → ⊥
  clear_first (onto h c) = h

  -- a clear list stays clear without its first word
  pub clear-rest : {x : List ℕ} {xs : List (List ℕ)} → Clear al t (x ∷ xs) → Clear al t xs
  clear-rest (onto h c) = c

  -- an ending of a clear list is clear
  pub clear-back : (xs ys : List (List ℕ)) → Clear al t (xs ++ ys) → Clear al t ys
  clear-back [] ys c = c
  clear-back (x ∷ xs) ys (onto h c) = clear-back xs ys c

  -- an ending may be exchanged for a clear one that does not read lower
  pub clear-raised : (xs ys zs : List (List ℕ)) → read al ys ≼ read al zs → Clear al t (xs ++ ys) → Clear al t zs → Clear al t (xs ++ zs)
  clear-raised [] ys zs h c k = k
  clear-raised (x ∷ xs) ys zs h (onto f c) k = onto (λ r. f (upto-under (upto-behind x (read_behind al xs ys zs h)) r)) (clear-raised xs ys zs h c k)

  -- words above v may be put in front, where v begins something that is not under t
  pub clear_above : (v r : List ℕ) {xs ys : List (List ℕ)} → ((v ++ r) ≪ t → ⊥) → All (λ y. v ≪ y) xs → Clear al t ys → Clear al t (xs ++ ys)
  clear_above v r h nothing c = c
  clear_above v r h (also p e) c = onto (λ q. h (under-trans (under-longer r (under-extended _ p)) q)) (clear_above v r h e c)

-- ---- a last word that is too small

-- a word that stands before al, read on into al, lies under all that begins with al
pub short-last : (al s : List ℕ) → Lyn (sec al) (length al) → 0 < length s → Short s al → (v : List ℕ) → (s ++ al) ≪ (al ++ v)
short-last al s lyn z (lower r) v = under-longer al (under-extended v r)
short-last al s lyn z (opening u e l) v = under-extended v (subst (λ x. (s ++ al) ≪ x) (sym e) (under-behind s higher))
  where
    long : length al ≡ length s + length u
    long = ap length e ∙ length-append s u

    higher : al ≪ u
    higher =
        less-under al u (length al - length s) (omega arith) (omega (arith, long))
        (recast (sec al) (from (length s) (sec al)) (sec al) (sec u) (length al - length s) (λ m h. refl)
        (λ m h. ap (λ x. get_or x (length s + m) 0) e ∙ get_or-append-add s u m 0) (lyn (length s) z (omega (arith, long))))

-- ---- the letters that complete al to a necklace

-- the letters of v read v
pub read-singles : (al v : List ℕ) → read al (singles v) ≡ v ++ al
unfolding read singles
read-singles al [] = refl
read-singles al (a ∷ v) = ap (λ x. a ∷ x) (read-singles al v)

-- an ending of a necklace, read on into its beginning, does not lie under it
pub ending-not-under : (al u v t : List ℕ) → t ≡ (al ++ u) ++ v → 0 < length v → necklace t ≡ true → (v ++ al) ≪ t → ⊥
unfolding necklace not_above_turn up_to turn
ending-not-under al u v t e z h r =
    clash (before (v ++ (al ++ u)) t) (under-before (rw append_assoc at (under-longer u r)))
    (subst (λ x. before x t ≡ false) turned (not-true (before (drop i t ++ take i t) t) (all-at (length t) (not_above_turn t) h i inside)))
  where
    i : ℕ
    i = length (al ++ u)

    inside : i < length t
    inside = rw (e, length-append (al ++ u) v) (omega arith)

    turned : drop i t ++ take i t ≡ v ++ (al ++ u)
    turned = rw (e, drop-append_seam (al ++ u) v, take-append_seam (al ++ u) v)

-- the last letters of a necklace that begins with al stand clear of it
pub letters-clear : (al u v : List ℕ) → necklace (al ++ (u ++ v)) ≡ true → Clear al (al ++ (u ++ v)) (singles v)
unfolding singles
letters-clear al u v h = go u v (sym (append_assoc al u v))
  where
    go : (x y : List ℕ) → al ++ (u ++ v) ≡ (al ++ x) ++ y → Clear al (al ++ (u ++ v)) (singles y)
    go x [] e = over
    go x (a ∷ y) e =
        onto {x = a ∷ []} {xs = singles y}
        (λ r. ending-not-under al x (a ∷ y) (al ++ (u ++ v)) e (omega arith) h (rw (read-singles al y) at r))
        (go (x ++ (a ∷ [])) y (e ∙ (simp append_assoc)))
