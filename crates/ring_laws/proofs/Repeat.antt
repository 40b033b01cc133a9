-- Repetitions and turns of a sequence, and when the first n of a run are a necklace (001, Lemma 3; 002, section 2).
--     rep p a             the first p of a, over and over
--     rep-run, run_rep    a Lyndon word repeated is a run, and a run is a repetition
--     Turned a n i t      t is the first n of a, turned left by i
--     Neck a n            no turn of the first n is below them
--     neck, no-neck       the first n of a run of p are a necklace exactly when p divides n
--     neck-pre            a necklace is a prenecklace
use Rattle.words.proofs.Plain.{ℕ, zero, suc, ◌+◌, ◌-◌, ◌*◌, ◌/◌, ◌%◌, ◌<◌, ◌≤◌, arith, ◌≡◌, refl, sym, ap, ◌∙◌}
use native.Mathlib.Nat.{mod-lt, mod-eq_of_lt, add-mod_left, mul-add-mod_self_right, div-add-mod', mod-le}
use Rattle.words.proofs.Split.{lt, eq, gt, tri}
use Rattle.words.proofs.Sequence.{from, Less, place, widen, recast}
use Rattle.ring_laws.proofs.Run.{Pre, Lyn, Run, run-pre, lyn-through}

-- the first p of a, over and over
abbrev pub rep : ℕ → (ℕ → ℕ) → ℕ → ℕ
rep p a m = a (m % p)

-- t is the first n of a, turned left by i
pub record Turned (a : ℕ → ℕ) (n i : ℕ) (t : ℕ → ℕ) : Type 0 where
  pub low : (m j : ℕ) → i + m ≡ j → j < n → t m ≡ a j
  pub high : (m j : ℕ) → i + m ≡ n + j → m < n → t m ≡ a j

-- no turn of the first n is below them
abbrev pub Neck : (ℕ → ℕ) → ℕ → Type 0
Neck a n = (i : ℕ) (t : ℕ → ℕ) → i < n → Turned a n i t → Less t a n → ⊥

module _ (a : ℕ → ℕ) where
  pub rep-low : (p m : ℕ) → m < p → rep p a m ≡ a m
  rep-low p m h = ap a (mod-eq_of_lt h)

  pub rep-run : (n p : ℕ) → 0 < p → p ≤ n → Lyn a p → Run (rep p a) n p
  rep-run n p z h l =
      record {
        pos = z;
        fits = h;
        again = λ i j e b. ap a (ap (λ (x : ℕ). x % p) (sym e) ∙ add-mod_left p j);
        lyn = lyn-through a (rep p a) p (λ m b. sym (rep-low p m b)) l;
      }

  pub run_rep : (n p : ℕ) → Run a n p → (m : ℕ) → m < n → a m ≡ rep p a m
  run_rep n p r m h = go (suc m) m (omega arith) h
    where
      go : (f m : ℕ) → m < f → m < n → a m ≡ rep p a m
      go zero m b h = absurd (omega arith)
      go (suc f) m b h =
          elim (tri m p) [
            | lt e ↦ sym (rep-low p m e)
            | eq e ↦ back (go f (m - p) (omega (arith, r.pos)) (omega arith)) (omega arith)
            | gt e ↦ back (go f (m - p) (omega (arith, r.pos)) (omega arith)) (omega arith)
          ]
        where
          back : a (m - p) ≡ rep p a (m - p) → p ≤ m → a m ≡ rep p a m
          back q l =
              let e : p + (m - p) ≡ m = omega arith in
              r.again m (m - p) e h ∙ q ∙ ap a (sym (add-mod_left p (m - p)) ∙ ap (λ (x : ℕ). x % p) e)

  -- a run of p whose length p divides is a necklace
  pub neck : (n p q : ℕ) → Run a n p → n ≡ q * p → Neck a n
  neck n p q r d i t h turned l =
      run-pre (rep p a) (n + n) p (rep-run (n + n) p r.pos (omega (arith, r.fits)) r.lyn) i
      (widen (from i (rep p a)) (rep p a) n (n + n - i) (omega arith) (recast t a (from i (rep p a)) (rep p a) n turns (run_rep n p r) l))
    where
      turns : (m : ℕ) → m < n → t m ≡ rep p a (i + m)
      turns m b =
          elim (tri (i + m) n) [
            | lt e ↦ turned.low m (i + m) refl e ∙ run_rep n p r (i + m) e
            | eq e ↦ wrapped (omega arith)
            | gt e ↦ wrapped (omega arith)
          ]
        where
          wrapped : n ≤ i + m → t m ≡ rep p a (i + m)
          wrapped e =
              let j = i + m - n in
              let s : i + m ≡ n + j = omega arith in
              turned.high m j s b ∙ run_rep n p r j (omega arith) ∙ ap a (sym (mul-add-mod_self_right q p j) ∙ ap (λ (x : ℕ). x % p) (sym (s ∙ ap (λ (x : ℕ). x + j) d)))

  -- otherwise the turn that puts the cut copy first is below
  pub no-neck : (n p : ℕ) → Run a n p → 0 < n % p → (t : ℕ → ℕ) → Turned a n (n - n % p) t → Less t a n
  no-neck n p r z t turned =
      record {
        at = s + d.at;
        bound = omega (arith, d.bound, short, r.fits);
        agree = λ m b. elim (tri m s) [ lt e ↦ front m e | eq e ↦ behind m (omega arith) b | gt e ↦ behind m (omega arith) b ];
        less = omega (arith, d.less, turned.high (s + d.at) d.at (omega (arith, inside)) (omega (arith, d.bound, short, r.fits)));
      }
    where
      s : ℕ
      s = n % p

      short : s < p
      short = mod-lt n r.pos

      inside : s ≤ n
      inside = mod-le n p

      d : Less a (from s a) (p - s)
      d = r.lyn s z short

      front : (m : ℕ) → m < s → t m ≡ a m
      front m h =
          turned.low m (n - s + m) refl (omega (arith, inside)) ∙ run_rep n p r (n - s + m) (omega (arith, inside)) ∙ ap a
          (ap (λ (x : ℕ). (x + m) % p) whole ∙ mul-add-mod_self_right (n / p) p m ∙ mod-eq_of_lt (omega (arith, short)))
        where
          whole : n - s ≡ n / p * p
          whole = omega (arith, div-add-mod' n p)

      behind : (m : ℕ) → s ≤ m → m < s + d.at → t m ≡ a m
      behind m h b = turned.high m (m - s) (omega (arith, inside)) (omega (arith, d.bound, short, r.fits)) ∙ d.agree (m - s) (omega arith) ∙ place a (s + (m - s)) m (omega arith)

  -- a necklace is a prenecklace
  pub neck-pre : (n : ℕ) (t : ℕ → ℕ → ℕ) → ((i : ℕ) → i < n → Turned a n i (t i)) → Neck a n → Pre a n
  neck-pre n t turned neck i l =
      let h : i < n = omega (arith, l.bound) in
      let u = turned i h in
      neck i (t i) h u (record {
        at = l.at;
        bound = omega (arith, l.bound);
        agree = λ m b. u.low m (i + m) refl (omega (arith, l.bound)) ∙ l.agree m b;
        less = omega (arith, l.less, u.low l.at (i + l.at) refl (omega (arith, l.bound)));
      })
