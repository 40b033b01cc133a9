-- The next prenecklace of sequences (001, Definition 2 and Theorem 2): raise the last sector that can be raised, and repeat.
--     Raised k a n j b    j is the last place of the first n that can be raised; b agrees with a below j and has a j raised by one at j
--     raise-lyn           raising a sector of a prenecklace, by however much, and cutting behind it gives a Lyndon word
--     run-floor           a prenecklace that agrees with a run of p for at least p places is not below it
--     next-run, next-above, next-least    the repetition is a run, it is above, and no prenecklace lies between
--     none_above          where no place can be raised there is nothing above
--     low_first, low-past, low-far        the place that is raised next lies past lyn, and past every whole copy
use Rattle.words.proofs.Plain.{ℕ, zero, suc, ◌+◌, ◌-◌, ◌*◌, ◌/◌, ◌%◌, ◌<◌, ◌≤◌, arith, ◌≡◌, refl, sym, ap, ◌∙◌}
use native.Mathlib.Nat.{mul-mod_left, div-add-mod'}
use Rattle.words.proofs.Split.{lt, eq, gt, tri}
use Rattle.words.proofs.Sequence.{Less, place}
use Rattle.ring_laws.proofs.Run.{Pre, Lyn, Run, lyn-one, pre-shorter, smaller, greater, run-pre, has-run, run-through}
use Rattle.ring_laws.proofs.Repeat.{rep, rep-low, rep-run, run_rep}

-- j is the last place of the first n that can be raised, b is a up to there with that sector raised by one
pub record Raised (k : ℕ) (a : ℕ → ℕ) (n j : ℕ) (b : ℕ → ℕ) : Type 0 where
  pub inside : j < n
  pub low : suc (a j) < k
  pub full : (m : ℕ) → j < m → m < n → k ≤ suc (a m)
  pub keep : (m : ℕ) → m < j → a m ≡ b m
  pub rise : b j ≡ suc (a j)

-- raising a sector of a prenecklace and cutting behind it gives a Lyndon word
pub raise-lyn : (a b : ℕ → ℕ) (j : ℕ) → Pre a (suc j) → ((m : ℕ) → m < j → a m ≡ b m) → a j < b j → Lyn b (suc j)
raise-lyn a b zero pre e h = lyn-one b
raise-lyn a b (suc j) pre e h = go (has-run a (suc j) (omega arith) (pre-shorter a (suc (suc j)) (suc j) (omega arith) pre))
  where
    go : (p : ℕ) × Run a (suc j) p → Lyn b (suc (suc j))
    go (p, r) = greater b (suc j) p (run-through a b (suc j) p e r) (omega (arith, e (suc j - p) (omega (arith, r.pos, r.fits)), h, floor))
      where
        floor : a (suc j - p) ≤ a (suc j)
        floor = elim (tri (a (suc j)) (a (suc j - p))) [ lt l ↦ absurd (pre p (smaller a (suc j) p r l)) | eq l ↦ omega arith | gt l ↦ omega arith ]

-- a prenecklace that agrees with a run of p for at least p places is not below it
pub run-floor : (s v : ℕ → ℕ) (n p : ℕ) → Run s n p → Pre v n → (l : Less v s n) → p ≤ l.at → ⊥
run-floor s v n p r pre l h =
    pre p (record {
      at = l.at - p;
      bound = omega (arith, l.bound);
      agree = λ m b. l.agree (p + m) (omega arith) ∙ r.again (p + m) m refl (omega (arith, l.bound)) ∙ sym (l.agree m (omega arith));
      less = omega (arith, l.less, place v (p + (l.at - p)) l.at (omega arith), r.again l.at (l.at - p) (omega arith) l.bound, l.agree (l.at - p) (omega (arith, r.pos)));
    })

module _ (k : ℕ) (a : ℕ → ℕ) (n j : ℕ) (b : ℕ → ℕ) (raised : Raised k a n j b) where
  pub next-lyn : Pre a n → Lyn b (suc j)
  next-lyn pre = raise-lyn a b j (pre-shorter a n (suc j) (omega (arith, raised.inside)) pre) raised.keep (omega (arith, raised.rise))

  -- the repetition is a run, and its lyn is the place that was raised
  pub next-run : Pre a n → Run (rep (suc j) b) n (suc j)
  next-run pre = rep-run b n (suc j) (omega arith) (omega (arith, raised.inside)) (next-lyn pre)

  -- it is above
  pub next-above : Less a (rep (suc j) b) n
  next-above =
      record {
        at = j;
        bound = raised.inside;
        agree = λ m h. raised.keep m h ∙ sym (rep-low b (suc j) m (omega arith));
        less = omega (arith, raised.rise, rep-low b (suc j) j (omega arith));
      }

  -- and no prenecklace lies between
  pub next-least : Pre a n → (v : ℕ → ℕ) → Pre v n → ((m : ℕ) → m < n → v m < k) → Less a v n → Less v (rep (suc j) b) n → ⊥
  next-least pre v prev shades up l =
      elim (tri j l.at) [
        | lt h ↦ run-floor (rep (suc j) b) v n (suc j) (next-run pre) prev l h
        | eq h ↦ within (omega arith)
        | gt h ↦ within (omega arith)
      ]
    where
      -- the first difference of a and v is at a place that can be raised
      early : up.at ≤ j
      early = elim (tri up.at j) [ lt h ↦ omega arith | eq h ↦ omega arith | gt h ↦ absurd (omega (arith, up.less, shades up.at up.bound, raised.full up.at h up.bound)) ]

      within : l.at ≤ j → ⊥
      within h =
          elim (tri l.at up.at) [
            | lt e ↦ omega (arith, l.less, up.agree l.at e, raised.keep l.at (omega (arith, early)), rep-low b (suc j) l.at (omega arith))
            | eq e ↦ elim (tri l.at j) [
              | lt f ↦ omega (
                arith,
                l.less,
                up.less,
                place a l.at up.at e,
                place v l.at up.at e,
                raised.keep l.at f,
                rep-low b (suc j) l.at (omega arith),
              )
              | eq f ↦ omega (
                arith,
                l.less,
                up.less,
                place a l.at up.at e,
                place v l.at up.at e,
                place b l.at j f,
                place a l.at j f,
                raised.rise,
                rep-low b (suc j) l.at (omega arith),
              )
              | gt f ↦ omega arith
            ]
            | gt e ↦ omega (arith, up.less, l.agree up.at e, raised.keep up.at (omega arith), rep-low b (suc j) up.at (omega arith))
          ]

-- where no place can be raised nothing is above
pub none_above : (k : ℕ) (a v : ℕ → ℕ) (n : ℕ) → ((m : ℕ) → m < n → k ≤ suc (a m)) → ((m : ℕ) → m < n → v m < k) → Less a v n → ⊥
none_above k a v n full shades up = omega (arith, up.less, full up.at up.bound, shades up.at up.bound)

-- ---- where the next raise happens

module _ (a : ℕ → ℕ) (n p : ℕ) (r : Run a n p) where
  -- no sector is below the first
  pub low_first : (m : ℕ) → m < n → a 0 ≤ a m
  low_first m h =
      elim (tri (a m) (a 0)) [
        | lt e ↦ absurd (run-pre a n p r m (record { at = 0; bound = omega arith; agree = λ i b. absurd (omega arith); less = omega (arith, e, place a (m + 0) m (omega arith)) }))
        | eq e ↦ omega arith
        | gt e ↦ omega arith
      ]

  -- a place that starts a copy can be raised if any can
  copy-low : (k j m : ℕ) → j < n → suc (a j) < k → m < n → m % p ≡ 0 → suc (a m) < k
  copy-low k j m h l b e = omega (arith, low_first j h, run_rep a n p r m b ∙ ap a e)

  -- the last place that can be raised lies past every whole copy, where a cut one follows
  pub low-far : (k j : ℕ) (b : ℕ → ℕ) → Raised k a n j b → 0 < n % p → n - n % p ≤ j
  low-far k j b raised z =
      elim (tri j (n - n % p)) [
        | lt h ↦ absurd (omega (arith, raised.full (n - n % p) h start, copy-low k j (n - n % p) raised.inside raised.low start whole))
        | eq h ↦ omega arith
        | gt h ↦ omega arith
      ]
    where
      inside : n % p ≤ n
      inside = omega (arith, div-add-mod' n p)

      start : n - n % p < n
      start = omega (arith, inside)

      whole : (n - n % p) % p ≡ 0
      whole =
          let e : n - n % p ≡ n / p * p = omega (arith, div-add-mod' n p) in
          rw e (mul-mod_left (n / p) p)

  -- it lies past lyn
  pub low-past : (k j : ℕ) (b : ℕ → ℕ) → Raised k a n j b → p < n → p ≤ j
  low-past k j b raised h =
      elim (tri j p) [
        | lt l ↦ absurd (omega (arith, raised.full p l h, copy-low k j p raised.inside raised.low h (native.Mathlib.Nat.mod_self p)))
        | eq l ↦ omega arith
        | gt l ↦ omega arith
      ]
