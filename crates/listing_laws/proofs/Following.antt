-- The lines that follow a ring up to the end of the listing, and that pages cut them anywhere.
--     Follows k v rings sum t    t is all that follows the ring v, where so many rings and moves are behind: a line for each ring, and the last line
--     follows-walk               it is the text of a full walk from v
--     Behind, goes-follows       the lines of a page, and all that follows what it leaves, are all that follows its start
use Rattle.words.proofs.Plain.{ℕ, suc, ◌+◌, ◌<◌, arith, ◌≡◌, refl, sym, ap, ◌∙◌, true, none, some, List, [], ◌∷◌, ◌++◌, append-nil, append_assoc, length}
use Rattle.words.specs.Readings.{Reading}
use Rattle.rings.specs.Necklace.{necklace}
use Rattle.rings.specs.Steps.{next_of, moves, FullWalk, done, step}
use Rattle.ring_laws.proofs.FullWalk.{next-facts}
use Rattle.text_spec.specs.Text.{last_line}
use Rattle.listing_spec.specs.Listing.{row, rows}
use Rattle.listing_spec.specs.State.{Rest, over, on}
use Rattle.listing_spec.specs.Paging.{Goes, full, total, line}
use Rattle.listing_laws.proofs.Counting.{last-moves}

-- all that follows the ring v
pub data Follows (k : ℕ) : (v : List ℕ) (rings sum : ℕ) → List ℕ → Type 0 where
  ends : {v : List ℕ} {rings sum : ℕ} → next_of necklace k v ≡ none → Follows k v rings sum (last_line rings sum)
  goes_on : {v x : List ℕ} {rings sum : ℕ} {t : List ℕ} → next_of necklace k v ≡ some x → Follows k x (suc rings) (sum + moves k v (some x)) t → Follows k v rings sum (row k v x ++ t)

-- the walk whose text it is
pub record Walked (k : ℕ) (v : List ℕ) (rings sum : ℕ) (t : List ℕ) : Type 0 where
  pub others : List (List ℕ)
  pub more : ℕ
  pub walk : FullWalk necklace k v others more
  pub is : t ≡ rows k v others ++ last_line (rings + length others) (sum + more)

-- all that follows a ring is the text of a full walk from it
pub follows-walk : (k : ℕ) → 0 < k → {v : List ℕ} {rings sum : ℕ} {t : List ℕ} → Follows k v rings sum t → Reading (length v) k v → necklace v ≡ true → Walked k v rings sum t
unfolding rows
follows-walk k z (ends {v = v} {rings = rings} {sum = sum} e) r q =
    let a : rings + 0 ≡ rings = omega arith in
    let b : sum + moves k v none ≡ sum = omega (arith, last-moves (length v) k v z r e) in
    record { others = []; more = moves k v none; walk = done e; is = rw (a, b) }
follows-walk k z (goes_on {v = v} {x = x} {rings = rings} {sum = sum} e f) r q =
    let g = next-facts necklace k v x e in
    let w = follows-walk k z f (rw g.0.long g.0) g.2 in
    let a : suc rings + length w.others ≡ rings + suc (length w.others) = omega arith in
    let b : sum + moves k v (some x) + w.more ≡ sum + (moves k v (some x) + w.more) = omega arith in
    record {
      others = x ∷ w.others;
      more = moves k v (some x) + w.more;
      walk = step e w.walk;
      is = ap (λ (t : List ℕ). row k v x ++ t) (rw (a, b) at w.is) ∙ sym
          (append_assoc (row k v x) (rows k x w.others) (last_line (rings + suc (length w.others)) (sum + (moves k v (some x) + w.more))));
    }

-- all that follows what a page leaves
abbrev pub Behind : ℕ → Rest → List ℕ → Type 0
Behind k over t = t ≡ []
Behind k (on u rings sum) t = Follows k u rings sum t

-- the lines of a page and all that follows what it leaves
pub goes-follows : {k room : ℕ} {v : List ℕ} {rings sum at : ℕ} {text : List ℕ} {rest : Rest} → Goes k room v rings sum at text rest → (t : List ℕ) →
    Behind k rest t → Follows k v rings sum (text ++ t)
goes-follows (full h) t b = b
goes-follows (total {rings = rings} {sum = sum} h e) t b = rw (b, append-nil (last_line rings sum)) (ends e)
goes-follows {k} {v = v} (line {x = x} {text = text} h e p) t b = rw (append_assoc (row k v x) text t) (goes_on e (goes-follows p t b))
