-- Lowest words that do not fall, one behind the other, are a necklace: they are a power of one lowest word.
--     again q u v     u put q times in front of v
--     Powered w       w is some lowest word, once or more
--     Climbs x xs     x and the words of xs do not fall, and each of xs is lowest
-- In order: powers (`again-lowest`: u once or more in front of a greater lowest word); the product (`product`); a power of a lowest word is a necklace.
use Rattle.words.proofs.Plain.{ℕ, zero, suc, ◌+◌, ◌*◌, arith, ◌≡◌, refl, sym, ap, ◌∙◌, subst, true, List, [], ◌∷◌, ◌++◌, append_assoc, append-nil, length, get_or}
use Rattle.words.proofs.Plain.{length-append, List·get_d-append, get_or-append-add}
use native.Mathlib.Nat.{mul-mod_left, suc-mul}
use Rattle.words.specs.Order.{before, up_to}
use Rattle.words.proofs.Split.{passes, fails, test}
use Rattle.words.proofs.Sequence.{sec, place}
use Rattle.words.proofs.Lex.{up_to-refl, before-up_to, up_to-split, up_to-trans}
use Rattle.rings.specs.Necklace.{necklace}
use Rattle.ring_laws.proofs.{Run.Run, Run.lyn-through, Lyndon.run-necklace}
use Rattle.shades_laws.proofs.Under.{Short, opening, before-short, under-before}
use Rattle.shades_laws.proofs.Clear.{read}
use Rattle.shades_laws.proofs.Lowest.{Lowest, lowest-long, join-under, lowest-join, lowest-lyn}

-- u put q times in front of v
unfoldable pub again : ℕ → List ℕ → List ℕ → List ℕ
again zero u v = v
again (suc q) u v = u ++ again q u v

-- ---- powers

-- what stands behind stays there
again-append : (q : ℕ) (u v r : List ℕ) → again q u (v ++ r) ≡ again q u v ++ r
unfolding again
again-append zero u v r = refl
again-append (suc q) u v r = ap (λ x. u ++ x) (again-append q u v r) ∙ sym (append_assoc u (again q u v) r)

-- the last copy, put to what follows
again-shift : (q : ℕ) (u r : List ℕ) → again q u (u ++ r) ≡ again (suc q) u r
unfolding again
again-shift zero u r = refl
again-shift (suc q) u r = ap (λ x. u ++ x) (again-shift q u r)

-- a greater lowest word behind copies of u: what results
record Risen (u v w : List ℕ) : Type 0 where
  low : Lowest w
  past : Short u w
  most : up_to w v ≡ true

-- u once or more in front of a greater lowest word is lowest, and not greater than that word
again-lowest : (q : ℕ) (u v : List ℕ) → Lowest u → Lowest v → Short u v → Risen u v (again q u v)
unfolding again
again-lowest zero u v k l s = record { low = l; past = s; most = up_to-refl v }
again-lowest (suc q) u v k l s = onward (again-lowest q u v k l s)
  where
    onward : Risen u v (again q u v) → Risen u v (u ++ again q u v)
    onward r = record {
      low = lowest-join k r.low r.past;
      past = opening (again q u v) refl (lowest-long r.low);
      most = up_to-trans (u ++ again q u v) (again q u v) v (before-up_to (u ++ again q u v) (again q u v) (under-before (join-under k r.low r.past))) r.most;
    }

-- ---- the product

-- w is some lowest word, once or more
pub record Powered (w : List ℕ) : Type 0 where
  pub base : List ℕ
  pub times : ℕ
  pub low : Lowest base
  pub whole : w ≡ again (suc times) base []

-- x and the words of the list do not fall, and each of the list is lowest
pub data Climbs : List ℕ → List (List ℕ) → Type 0 where
  top : {x : List ℕ} → Climbs x []
  up : {x y : List ℕ} {ys : List (List ℕ)} → up_to x y ≡ true → Lowest y → Climbs y ys → Climbs x (y ∷ ys)

-- so they do behind a word that is not greater
pub climbs-from : {x y : List ℕ} {ys : List (List ℕ)} → up_to x y ≡ true → Climbs y ys → Climbs x ys
climbs-from e top = top
climbs-from {x} {y} e (up {y = z} h k c) = up (up_to-trans x y z e h) k c

-- copies of a lowest word in front of words that climb from it
powered : (q : ℕ) (u : List ℕ) → Lowest u → (ys : List (List ℕ)) → Climbs u ys → Powered (again (suc q) u (read [] ys))
unfolding read again
powered q u k [] c = record { base = u; times = q; low = k; whole = refl }
powered q u k (y ∷ ys) (up h l c) =
    elim (test (before u y)) [
      | passes e ↦ subst Powered (sym one) (powered 0 (again (suc q) u y) (risen e).low ys (climbs-from (risen e).most c))
      | fails e ↦ subst Powered (equal (up_to-split u y h e)) (powered (suc q) u k ys (climbs-from h c))
    ]
  where
    risen : before u y ≡ true → Risen u y (again (suc q) u y)
    risen e = again-lowest (suc q) u y k l (before-short u y e)

    one : again (suc q) u (y ++ read [] ys) ≡ again 1 (again (suc q) u y) (read [] ys)
    one = again-append (suc q) u y (read [] ys)

    equal : u ≡ y → again (suc (suc q)) u (read [] ys) ≡ again (suc q) u (y ++ read [] ys)
    equal e = sym (again-shift (suc q) u (read [] ys)) ∙ ap (λ x. again (suc q) u (x ++ read [] ys)) e

-- ---- a power is a necklace

-- the length of a power
again-long : (q : ℕ) (u : List ℕ) → length (again q u []) ≡ q * length u
unfolding again
again-long zero u = omega arith
again-long (suc q) u = length-append u (again q u []) ∙ rw suc-mul (omega (arith, again-long q u))

-- a power is a run
power-run : (q : ℕ) (u : List ℕ) → Lowest u → Run (sec (again (suc q) u [])) (length (again (suc q) u [])) (length u)
unfolding again
power-run q u k = record {
  pos = lowest-long k;
  fits = omega (arith, long);
  again = λ i j e h. place (sec (u ++ again q u [])) i (length u + j) (sym e) ∙ get_or-append-add u (again q u []) j 0
      ∙ sym (List·get_d-append (again q u []) u 0 j (omega (arith, long))) ∙ ap (λ x. get_or x j 0) turned;
  lyn = lyn-through (sec u) (sec (u ++ again q u [])) (length u) (λ m h. sym (List·get_d-append u (again q u []) 0 m h)) (lowest-lyn u k);
}
  where
    long : length (u ++ again q u []) ≡ length u + length (again q u [])
    long = length-append u (again q u [])

    turned : again q u [] ++ u ≡ u ++ again q u []
    turned = sym (again-append q u [] u) ∙ ap (again q u) (sym (append-nil u)) ∙ again-shift q u []

-- a power of a lowest word is a necklace
pub powered-necklace : (w : List ℕ) → Powered w → necklace w ≡ true
powered-necklace w p =
    rw p.whole (run-necklace (again (suc p.times) p.base []) (length p.base) (power-run p.times p.base p.low)
    (rw (again-long (suc p.times) p.base) (mul-mod_left (suc p.times) (length p.base))))

-- a lowest word and lowest words that climb from it are a necklace
pub product : (u : List ℕ) (ys : List (List ℕ)) → Lowest u → Climbs u ys → necklace (u ++ read [] ys) ≡ true
unfolding again
product u ys k c = powered-necklace (u ++ read [] ys) (powered 0 u k ys c)
