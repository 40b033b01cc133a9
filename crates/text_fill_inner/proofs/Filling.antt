-- A text with slots, filled and placed piece after piece.
--     Filling t xs n w b at i j q p b'      the first i characters of t are filled and placed, j numbers and q sectors are used, and p is the place behind them
--     filling-none                          nothing yet
--     room-number, room-ring, room-other    there is room for one character more
--     filling-number, filling-ring, filling-other    it is placed
--     filling-end                           all of t
use Rattle.words.proofs.Plain.{ℕ, zero, suc, ◌+◌, ◌-◌, ◌<◌, ◌≤◌, add-one, arith, ◌≡◌, refl, sym, ap, ◌∙◌, ⊎_elim, List, [], ◌∷◌, ◌++◌, map, append_assoc}
use Rattle.words.proofs.Plain.{append-nil, length, get_or, take, drop, set, length-append, length-map, length-drop, length-take, drop_of_length-le, drop-cons}
use Rattle.words.proofs.Plain.{drop-drop, get_or-drop, take_all}
use Rattle.text_spec.specs.{Decimal.decimal, Text.hex_of, Put.Placed}
use Rattle.text_spec.proofs.Put.{placed-none, placed-append, placed-length}
use Rattle.text_fill_spec.specs.Filled.{filled_text}
use Rattle.text_fill_spec.proofs.Laws.{fill-number, fill-ring, fill-other}
use Rattle.text_fill_inner.specs.Says.{EndsAt}

pub record Filling (t xs : List ℕ) (n : ℕ) (w b : List ℕ) (at i j q p : ℕ) (b' : List ℕ) : Type 0 where
  pub done : List ℕ
  pub whole : done ++ filled_text (drop i t) (drop j xs) n (drop q w) ≡ filled_text t xs n w
  pub placed : Placed b at done p b'

pub filling-none : (t xs : List ℕ) (n : ℕ) (w b : List ℕ) (at : ℕ) → Filling t xs n w b at 0 0 0 at b
filling-none t xs n w b at =
    let e : at + 0 ≡ at = omega arith in
    record { done = []; whole = refl; placed = rw e at (placed-none b at) }

-- ---- where a ring ends

module _ (w : List ℕ) (q n e : ℕ) (h : EndsAt q n (length w) e) where
  ring-sectors : take (e - q) (drop q w) ≡ take n (drop q w)
  ring-sectors =
      ⊎_elim (λ x. let d : e - q ≡ n = omega (arith, x) in rw d)
      (λ x. take_all (e - q) (drop q w) (simp length-drop (omega (arith, x.0))) ∙ sym (take_all n (drop q w) (simp length-drop (omega (arith, x.1))))) h.2

  ring-behind : drop e w ≡ drop n (drop q w)
  ring-behind =
      ⊎_elim (λ x. rw x (sym (drop-drop n q w)))
      (λ x. drop_of_length-le w {i = e} (omega (arith, x.0)) ∙ sym (drop_of_length-le w {i = q + n} x.1) ∙ sym (drop-drop n q w)) h.2

-- ---- one character more

module _ (t xs : List ℕ) (n : ℕ) (w b : List ℕ) (at i j q p : ℕ) (b' : List ℕ) (f : Filling t xs n w b at i j q p b') (h : i < length t) where
  -- a piece and what is left after it
  abbrev Splits : List ℕ → ℕ → ℕ → Type 0
  Splits x j' q' = filled_text (get_or t i 0 ∷ drop (i + 1) t) (drop j xs) n (drop q w) ≡ x ++ filled_text (drop (i + 1) t) (drop j' xs) n (drop q' w)

  split : drop i t ≡ get_or t i 0 ∷ drop (i + 1) t
  split = rw (add-one i) (drop-cons t i 0 h)

  on : (x : List ℕ) (j' q' r : ℕ) (b'' : List ℕ) → Splits x j' q' → Placed b' p x r b'' → Filling t xs n w b at (i + 1) j' q' r b''
  on x j' q' r b'' e y =
      record {
        done = f.done ++ x;
        whole =
            append_assoc f.done x (filled_text (drop (i + 1) t) (drop j' xs) n (drop q' w))
            ∙ ap (λ (z : List ℕ). f.done ++ z) (sym e)
            ∙ ap (λ (z : List ℕ). f.done ++ filled_text z (drop j xs) n (drop q w)) (sym split)
            ∙ f.whole;
        placed = placed-append b at f.done p b' x r b'' f.placed y;
      }

  -- there is room for it
  room : (x : List ℕ) (j' q' : ℕ) → Splits x j' q' → at + length (filled_text t xs n w) ≤ length b → p + length x ≤ length b'
  room x j' q' e r =
      let l : length (filled_text t xs n w) ≡ length f.done + (length x + length (filled_text (drop (i + 1) t) (drop j' xs) n (drop q' w))) =
      sym (ap length f.whole)
      ∙ length-append f.done (filled_text (drop i t) (drop j xs) n (drop q w))
      ∙ ap (λ (z : List ℕ). length f.done + length z) (ap (λ (z : List ℕ). filled_text z (drop j xs) n (drop q w)) split ∙ e)
      ∙ ap (λ (z : ℕ). length f.done + z) (length-append x (filled_text (drop (i + 1) t) (drop j' xs) n (drop q' w))) in
      omega (arith, l, f.placed.next, placed-length b at f.done p b' f.placed)

  module _ (e : get_or t i 0 ≡ 37) where
    more-number : (x : ℕ) → x ≡ get_or xs j 0 → Splits (decimal x) (j + 1) q
    more-number x a =
        let o : j + 0 ≡ j = omega arith in
        let d : get_or (drop j xs) 0 0 ≡ x = rw o at (get_or-drop j xs 0 0) ∙ sym a in
        fill-number (get_or t i 0) (drop (i + 1) t) (drop j xs) n (drop q w) e
        ∙ ap (λ (z : ℕ). decimal z ++ filled_text (drop (i + 1) t) (drop 1 (drop j xs)) n (drop q w)) d
        ∙ ap (λ (z : List ℕ). decimal x ++ filled_text (drop (i + 1) t) z n (drop q w)) (drop-drop 1 j xs)

    pub room-number : (x : ℕ) → x ≡ get_or xs j 0 → at + length (filled_text t xs n w) ≤ length b → p + length (decimal x) ≤ length b'
    room-number x a r = room (decimal x) (j + 1) q (more-number x a) r

    pub filling-number : (x : ℕ) → x ≡ get_or xs j 0 → (r : ℕ) (b'' : List ℕ) → Placed b' p (decimal x) r b'' → Filling t xs n w b at (i + 1) (j + 1) q r b''
    filling-number x a r b'' y = on (decimal x) (j + 1) q r b'' (more-number x a) y

  module _ (m : get_or t i 0 ≡ 37 → ⊥) (e : get_or t i 0 ≡ 64) (z : ℕ) (d : EndsAt q n (length w) z) where
    more-ring : Splits (map hex_of (take (z - q) (drop q w))) j z
    more-ring =
        fill-ring (get_or t i 0) (drop (i + 1) t) (drop j xs) n (drop q w) m e
        ∙ ap (λ (x : List ℕ). map hex_of x ++ filled_text (drop (i + 1) t) (drop j xs) n (drop n (drop q w))) (sym (ring-sectors w q n z d))
        ∙ ap (λ (x : List ℕ). map hex_of (take (z - q) (drop q w)) ++ filled_text (drop (i + 1) t) (drop j xs) n x) (sym (ring-behind w q n z d))

    pub room-ring : at + length (filled_text t xs n w) ≤ length b → p + length (take (z - q) (drop q w)) ≤ length b'
    room-ring r = omega (arith, room (map hex_of (take (z - q) (drop q w))) j z more-ring r, length-map (take (z - q) (drop q w)) hex_of)

    pub filling-ring : (r : ℕ) (b'' : List ℕ) → Placed b' p (map hex_of (take (z - q) (drop q w))) r b'' → Filling t xs n w b at (i + 1) j z r b''
    filling-ring r b'' y = on (map hex_of (take (z - q) (drop q w))) j z r b'' more-ring y

  module _ (m : get_or t i 0 ≡ 37 → ⊥) (e : get_or t i 0 ≡ 64 → ⊥) where
    more-other : Splits (get_or t i 0 ∷ []) j q
    more-other = fill-other (get_or t i 0) (drop (i + 1) t) (drop j xs) n (drop q w) m e

    pub room-other : at + length (filled_text t xs n w) ≤ length b → p < length b'
    room-other r = omega (arith, room (get_or t i 0 ∷ []) j q more-other r)

    pub filling-other : Filling t xs n w b at (i + 1) j q (p + 1) (set b' p (get_or t i 0))
    filling-other = on (get_or t i 0 ∷ []) j q (p + 1) (set b' p (get_or t i 0)) more-other (record { next = refl; bytes = refl })

-- all of it
pub filling-end : (t xs : List ℕ) (n : ℕ) (w b : List ℕ) (at i j q p : ℕ) (b' : List ℕ) → Filling t xs n w b at i j q p b' → length t ≤ i → Placed b at (filled_text t xs n w) p b'
unfolding filled_text
filling-end t xs n w b at i j q p b' f h =
    let d : drop i t ≡ [] = drop_of_length-le t {i = i} h in
    let g : f.done ++ filled_text [] (drop j xs) n (drop q w) ≡ filled_text t xs n w = rw d at f.whole in
    let e : f.done ≡ filled_text t xs n w = sym (append-nil f.done) ∙ g in
    rw e at f.placed
