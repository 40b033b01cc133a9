-- The readings in the first places, written one after another.
--     end-to-end-more, ring-room        one ring more, and the room for it
--     Laid n p t out j                  the first j of t rings stand at the beginning of the output
--     Turn n p t out j                  and there is one more, for which there is room
--     laid-start, laid_on               from none on, one ring more
use Rattle.words.proofs.Plain.{ℕ, suc, ◌+◌, ◌-◌, ◌*◌, ◌<◌, ◌≤◌, arith, ◌≡◌, refl, sym, ap, ◌∙◌, List, [], ◌∷◌, ◌++◌, append-nil, append_assoc, length, take}
use Rattle.words.proofs.Plain.{drop, length-append, length-drop, length-take-le, take_at}
use native.Mathlib.Nat.{mul-suc, mul-le-mul_left}
use Rattle.set_spec.specs.Places.{place_at, set_in}
use Rattle.set_layout_spec.specs.Layout.{end_to_end}

-- one ring more
end-to-end-more : (ts : List (List ℕ)) (w : List ℕ) → end_to_end (ts ++ (w ∷ [])) ≡ end_to_end ts ++ w
unfolding end_to_end
end-to-end-more [] w = append-nil w
end-to-end-more (t ∷ ts) w = ap (λ (x : List ℕ). t ++ x) (end-to-end-more ts w) ∙ sym (append_assoc t (end_to_end ts) w)

-- there is room for the ring number j
pub ring-room : (n j t : ℕ) → j < t → n * j + n ≤ n * t
ring-room n j t h = omega (arith, mul-le-mul_left {m = suc j} {n = t} n (omega arith), mul-suc n j)

-- the loop has written the first j of t rings
pub record Laid (n : ℕ) (p : List ℕ) (t : ℕ) (out : List ℕ) (j : ℕ) : Type 0 where
  pub some : j ≤ t
  pub long : length out ≡ n * t
  pub laid : take (n * j) out ≡ end_to_end (set_in n p j)

pub laid-start : {n : ℕ} {p : List ℕ} {t : ℕ} {out : List ℕ} → length out ≡ n * t → Laid n p t out 0
unfolding end_to_end set_in
laid-start {n = n} e = let z : n * 0 ≡ 0 = omega arith in record { some = omega arith; long = e; laid = rw z refl }

-- and there is one more, for which there is room
pub record Turn (n : ℕ) (p : List ℕ) (t : ℕ) (out : List ℕ) (j : ℕ) : Type 0 where
  pub at : Laid n p t out j
  pub more : j < t
  pub fits : 24 * j + n ≤ length p
  pub room : n * j + n ≤ length out

-- one ring more, copied over its part
module _ {n : ℕ} {p : List ℕ} {t : ℕ} {out : List ℕ} {j : ℕ} (turn : Turn n p t out j) where
  -- the ring, and what stands behind the part of the output that it goes to
  abbrev v : List ℕ
  v = take (24 * j + n - 24 * j) (drop (24 * j) p)

  abbrev rest : List ℕ
  rest = drop (n * j + n - n * j) (drop (n * j) out)

  long : length v ≡ n
  long = length-take-le (24 * j + n - 24 * j) (drop (24 * j) p) (omega (arith, turn.fits, length-drop (24 * j) p)) ∙ omega arith

  v-is : v ≡ place_at n p j
  v-is = let s : 24 * j + n - 24 * j ≡ n = omega arith in rw s refl

  front : length (take (n * j) out) ≡ n * j
  front = length-take-le (n * j) out (omega (arith, turn.room))

  pub laid_on : {l : List ℕ} → l ≡ v → Laid n p t (take (n * j) out ++ (l ++ rest)) (j + 1)
  unfolding set_in
  laid_on {l = l} is =
      let more : n * (j + 1) ≡ n * j + n = omega (arith, mul-suc n j) in
      let one : j + 1 ≡ suc j = omega arith in
      let filled : length (take (n * j) out ++ l) ≡ n * j + n = length-append (take (n * j) out) l ∙ omega (arith, front, ap length is, long) in
      record {
        some = omega (arith, turn.more);
        long =
            length-append (take (n * j) out) (l ++ rest) ∙ omega (
              arith,
              length-append l rest,
              front,
              ap length is,
              long,
              length-drop (n * j + n - n * j) (drop (n * j) out),
              length-drop (n * j) out,
              turn.room,
              turn.at.long,
            );
        laid =
            rw more (ap (take (n * j + n)) (sym (append_assoc (take (n * j) out) l rest)) ∙ take_at (take (n * j) out ++ l) rest (n * j + n) filled
            ∙ ap (λ (x : List ℕ). x ++ l) turn.at.laid ∙ ap (λ (x : List ℕ). end_to_end (set_in n p j) ++ x) (is ∙ v-is)
            ∙ sym (rw one (end-to-end-more (set_in n p j) (place_at n p j))));
      }
