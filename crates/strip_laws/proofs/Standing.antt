-- Writing the strip by a walk from necklace to necklace: what is known where the walk stands.
--     Standing n k w place    the walk stands at the necklace w, and the root of w goes to this place of the strip
--     standing-start          it starts at the all-zero ring, at place 0
--     standing-piece          the root of w stands at its place
--     standing-room           and has room there
--     standing-next           the next necklace goes behind it
--     standing-done           where there is none the strip is full
use Rattle.words.proofs.Plain.{ℕ, ◌+◌, ◌≤◌, ◌<◌, arith, ◌≡◌, refl, sym, ap, ◌∙◌, none, some, List, [], ◌∷◌, ◌++◌, map, append_assoc, map-append, length, get_or}
use Rattle.words.proofs.Plain.{length-append, get_or-take}
use Rattle.rings.specs.Necklace.{necklace, period}
use Rattle.rings.specs.Steps.{next_of, FullWalk, done, step}
use Rattle.ring_laws.proofs.FullWalk.{zeros, zeros-reading, zeros-necklace, next-facts, walk-exists}
use Rattle.ring_total_laws.proofs.OneRing.{Ring}
use Rattle.strip_spec.specs.Strip.{joined, strip}
use Rattle.strip_spec.proofs.Joined.{joined-append, joined_at}
use Rattle.strip_laws.proofs.Pieces.{root, length-root, strip-walk}

-- a walk by necklaces that writes the strip stands at w, and the root of w goes to this place
pub record Standing (n k : ℕ) (w : List ℕ) (place : ℕ) : Type 0 where
  pub behind : List (List ℕ)
  pub ahead : List (List ℕ)
  pub left : ℕ
  pub walk : FullWalk necklace k w ahead left
  pub ring : Ring n k w
  pub whole : strip n k ≡ joined (map root behind ++ (root w ∷ map root ahead))
  pub at : place ≡ length (joined (map root behind))

module _ (n k : ℕ) (z : 0 < n) where
  -- it starts at the all-zero ring, at place 0
  pub standing-start : 0 < k → Standing n k (zeros n) 0
  unfolding joined
  standing-start y =
      let f = walk-exists necklace k (zeros n) in
      record { behind = []; ahead = f.0; left = f.1; walk = f.2; ring = (zeros-reading n k y, zeros-necklace n); whole = strip-walk n k z y f.0 f.1 f.2; at = refl }

  module _ (w : List ℕ) (place : ℕ) (s : Standing n k w place) where
    long : length (root w) ≡ period w
    long = length-root w (omega (arith, s.ring.0.long))

    -- the root of w stands at its place
    pub standing-piece : (i : ℕ) → i < period w → get_or (strip n k) (place + i) 0 ≡ get_or w i 0
    standing-piece i h = rw (s.whole, s.at) (joined_at (map root s.behind) (root w) (map root s.ahead) i (omega (arith, long)) ∙ get_or-take (period w) w i 0 h)

    ends : length (strip n k) ≡ place + period w + length (joined (map root s.ahead))
    unfolding joined
    ends =
        ap length (s.whole ∙ joined-append (map root s.behind) (root w ∷ map root s.ahead))
        ∙ length-append (joined (map root s.behind)) (root w ++ joined (map root s.ahead))
        ∙ omega (arith, length-append (root w) (joined (map root s.ahead)), s.at, long)

    -- and has room there
    pub standing-room : place + period w ≤ length (strip n k)
    standing-room = omega (arith, ends)

    -- the next necklace goes behind it
    pub standing-next : (v : List ℕ) → next_of necklace k w ≡ some v → Standing n k v (place + period w)
    unfolding joined
    standing-next v e = go s.walk s.whole
      where
        one_more : map root (s.behind ++ (w ∷ [])) ≡ map root s.behind ++ (root w ∷ [])
        one_more = map-append root s.behind (w ∷ [])

        on : (rest : List (List ℕ)) (l : ℕ) → FullWalk necklace k v rest l → strip n k ≡ joined (map root s.behind ++ (root w ∷ root v ∷ map root rest)) → Standing n k v (place + period w)
        on rest l f q =
            record {
              behind = s.behind ++ (w ∷ []);
              ahead = rest;
              left = l;
              walk = f;
              ring = let g = next-facts necklace k w v e in (rw s.ring.0.long at g.0, g.2);
              whole = q ∙ ap joined (sym (ap (λ (x : List (List ℕ)). x ++ (root v ∷ map root rest)) one_more ∙ append_assoc (map root s.behind) (root w ∷ []) (root v ∷ map root rest)));
              at = sym (ap (λ (x : List (List ℕ)). length (joined x)) one_more ∙ ap length (joined-append (map root s.behind) (root w ∷ [])) ∙
                  length-append (joined (map root s.behind)) (root w ++ []) ∙ omega (arith, length-append (root w) [], s.at, long));
            }

        go : {rest : List (List ℕ)} {l : ℕ} → FullWalk necklace k w rest l → strip n k ≡ joined (map root s.behind ++ (root w ∷ map root rest)) → Standing n k v (place + period w)
        go (done q) p = absurd (let x : ◌≡◌ {A = ℕ} 0 1 = cc in omega arith)
        go (step {v = u} {rings = rest} {m = l} q f) p =
            let x : u ≡ v = cc in
            on rest l (rw x at f) (rw x at p)

    -- where there is none the strip is full
    pub standing-done : next_of necklace k w ≡ none → place + period w ≡ length (strip n k)
    unfolding joined
    standing-done e = go s.walk ends
      where
        go : {rest : List (List ℕ)} {l : ℕ} → FullWalk necklace k w rest l → length (strip n k) ≡ place + period w + length (joined (map root rest)) → place + period w ≡ length (strip n k)
        go (done q) p = omega arith
        go (step q f) p = absurd (let x : ◌≡◌ {A = ℕ} 0 1 = cc in omega arith)
