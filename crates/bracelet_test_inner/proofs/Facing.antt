-- A necklace held against the turns of its reverse, in one scan.
--     skipped              a prenecklace that matches another sequence up to a greater sector is below that sequence from each place up to there on
--     mirror-place         the place that the code computes
--     Facing w i j         w is not above the reverse turned by less than i, and matches that turned by i in j sectors
--     facing-start, facing-more, facing-skip       the scan; r is the place around that the code computes for j
--     facing-above, facing-whole, facing-end       what it finds
--     scan-broken, scan-uneven, scan-whole         what the scan from left to right shows: no bracelet, no bracelet, a necklace
use Rattle.words.proofs.Plain.{ℕ, suc, ◌+◌, ◌-◌, ◌%◌, ◌<◌, ◌≤◌, arith, ◌≡◌, sym, ap, refl, ◌∙◌, true, false, List, reverse, length, length-reverse, ext_get_or}
use Rattle.words.specs.{Order.up_to, Order.same, Turn.turn}
use Rattle.words.proofs.Split.{Tri, lt, eq, gt, tri, refuted}
use Rattle.words.proofs.{Search.all-at, Search.some_of, Lex.true_same, Lex.not-less-up_to, Turn.length-turn}
use Rattle.words.proofs.Sequence.{sec, from, Less, place, widen, recast}
use Rattle.rings.specs.{Necklace.necklace, Necklace.not_above_turn, Alike.even_handed, Alike.bracelet}
use Rattle.ring_laws.proofs.Run.{Run, Pre, smaller}
use Rattle.ring_laws.proofs.{Words.pre-of, Words.necklace-prenecklace, Lyndon.run-necklace, Lyndon.necklace-run}
use Rattle.classify_inner.specs.{declared.Begun.Begun, Beginning.LongestPrenecklace}
use Rattle.home_turns_inner.specs.Around.{Around}
use Rattle.bracelet_laws.proofs.Places.{rot, mir, rot-low, rot-high}
use Rattle.bracelet_laws.proofs.Words.{brace-of, turns-bracelet, mirror-at, bracelet-necklace}
use Rattle.bracelet_laws.proofs.Pairs.{even-bracelet}

-- b matches the prenecklace a up to place j, where it is greater: from each place up to j on it is not below a. A first difference before place j would stand
-- in a itself; at place j or past it, a would fall there even more
pub skipped : (a b : ℕ → ℕ) (n j d : ℕ) → Pre a n → j < n → d ≤ j → ((m : ℕ) → m < j → b m ≡ a m) → a j < b j → Less (λ m. b (d + m)) a n → ⊥
skipped a b n j d pre h o match up l = go (tri (d + l.at) j)
  where
    on : (m : ℕ) → m < l.at → d + m < j → a (d + m) ≡ a m
    on m e g = sym (match (d + m) g) ∙ l.agree m e

    go : Tri (d + l.at) j → ⊥
    go (lt e) = pre d (record { at = l.at; bound = omega arith; agree = λ m g. on m g (omega arith); less = omega (arith, l.less, match (d + l.at) e) })
    go (eq e) = pre d (record { at = l.at; bound = omega arith; agree = λ m g. on m g (omega arith); less = omega (arith, l.less, place a (d + l.at) j e, place b (d + l.at) j e) })
    go (gt e) =
        pre d (record {
          at = j - d;
          bound = omega arith;
          agree = λ m g. on m (omega arith) (omega arith);
          less = omega (arith, l.agree (j - d) (omega arith), place a (d + (j - d)) j (omega arith), place b (d + (j - d)) j (omega arith));
        })

-- a turn made after a turn
mir-on : (n i d m : ℕ) → mir n (i + d) m ≡ mir n i (d + m)
unfolding rot
mir-on n i d m = let e : i + d + m ≡ i + (d + m) = omega arith in ap (λ (x : ℕ). n - suc (x % n)) e

-- the place that the code computes
mirror-place : (n i j r : ℕ) → i < n → j < n → Around n i j r → n - 1 - r ≡ mir n i j
mirror-place n i j r h l a =
    elim (tri (i + j) n) [
      | lt e ↦ omega (arith, a.low e, rot-low n i j e)
      | eq e ↦ omega (arith, a.high (omega arith), rot-high n i j (omega arith) (omega arith))
      | gt e ↦ omega (arith, a.high (omega arith), rot-high n i j (omega arith) (omega arith))
    ]

-- ---- the scan from left to right

module _ (w : List ℕ) (r : Begun) (opened : LongestPrenecklace w r) where
  -- it broke off: no prenecklace
  pub scan-broken : r.end < length w → bracelet w ≡ false
  scan-broken h =
      refuted (bracelet w) (λ p.
      pre-of w (necklace-prenecklace w (bracelet-necklace w p)) r.lyn
      (widen (from r.lyn (sec w)) (sec w) (suc r.end - r.lyn) (length w - r.lyn) (omega arith) (smaller (sec w) r.end r.lyn opened.run (opened.breaks h))))

  run : length w ≤ r.end → Run (sec w) (length w) r.lyn
  run h = let e : r.end ≡ length w = omega (arith, opened.within) in rw e at opened.run

  -- it came to the end, and the lyn does not divide the length: no necklace
  pub scan-uneven : length w ≤ r.end → (length w % r.lyn ≡ 0 → ⊥) → bracelet w ≡ false
  scan-uneven h n = refuted (bracelet w) (λ p. n (necklace-run w r.lyn (run h) (bracelet-necklace w p)))

  -- and where it does: a necklace
  pub scan-whole : length w ≤ r.end → length w % r.lyn ≡ 0 → necklace w ≡ true
  scan-whole h e = run-necklace w r.lyn (run h) e

-- ---- the scan of the reverse

-- w is not above the reverse turned by less than i, and matches that turned by i in its first j sectors
pub record Facing (w : List ℕ) (i j : ℕ) : Type 0 where
  pub passed : (t : ℕ) → t < i → t < length w → Less (λ m. sec w (mir (length w) t m)) (sec w) (length w) → ⊥
  pub match : (m : ℕ) → m < j → sec w (mir (length w) i m) ≡ sec w m
  pub fits : j ≤ length w
  pub span : i + j ≤ length w + length w

module _ (w : List ℕ) (z : 0 < length w) (h : necklace w ≡ true) where
  pub facing-start : Facing w 0 0
  facing-start = record { passed = λ t l. absurd (omega arith); match = λ m l. absurd (omega arith); fits = omega arith; span = omega arith }

  module _ (i j : ℕ) (f : Facing w i j) where
    -- the sector that the code reads is that of the reverse turned by i
    here : i < length w → j < length w → (r : ℕ) → Around (length w) i j r → sec w (length w - 1 - r) ≡ sec w (mir (length w) i j)
    here l o r a = ap (sec w) (mirror-place (length w) i j r l o a)

    -- one sector more that matches
    pub facing-more : i < length w → j < length w → (r : ℕ) → Around (length w) i j r → sec w (length w - 1 - r) ≡ sec w j → Facing w i (j + 1)
    facing-more l o r a e =
        record {
          passed = f.passed;
          match = λ m g. elim (tri m j) [ lt q ↦ f.match m q | eq q ↦ rw q (sym (here l o r a) ∙ e) | gt q ↦ absurd (omega arith) ];
          fits = omega arith;
          span = omega arith;
        }

    -- a greater sector: this turn and the next j are passed
    pub facing-skip : i < length w → j < length w → (r : ℕ) → Around (length w) i j r → sec w j < sec w (length w - 1 - r) → Facing w (i + (j + 1)) 0
    facing-skip l o r a up = record { passed = past; match = λ m g. absurd (omega arith); fits = omega arith; span = omega arith }
      where
        past : (t : ℕ) → t < i + (j + 1) → t < length w → Less (λ m. sec w (mir (length w) t m)) (sec w) (length w) → ⊥
        past t g q x = elim (tri t i) [ lt e ↦ f.passed t e q x | eq e ↦ near (omega arith) | gt e ↦ near (omega arith) ]
          where
            near : i ≤ t → ⊥
            near e =
                skipped (sec w) (λ m. sec w (mir (length w) i m)) (length w) j (t - i) (pre-of w (necklace-prenecklace w h)) o (omega arith) f.match (omega (arith, up, here l o r a))
                (recast (λ m. sec w (mir (length w) t m)) (sec w) (λ m. sec w (mir (length w) i (t - i + m))) (sec w) (length w)
                (λ m c. let p : t ≡ i + (t - i) = omega arith in ap (λ (y : ℕ). sec w (mir (length w) y m)) p ∙ ap (sec w) (mir-on (length w) i (t - i) m))
                (λ m c. refl) x)

    -- a smaller sector: w is above its mirror image
    pub facing-above : i < length w → j < length w → (r : ℕ) → Around (length w) i j r → sec w (length w - 1 - r) < sec w j → bracelet w ≡ false
    facing-above l o r a down = refuted (bracelet w) (λ p. (brace-of w z p).mirrors i l (record { at = j; bound = o; agree = f.match; less = omega (arith, down, here l o r a) }))

    -- a turn that matches to the end: w is even-handed
    pub facing-whole : i < length w → length w ≤ j → bracelet w ≡ true
    unfolding even_handed
    facing-whole l o =
        even-bracelet w z h (some_of (length w) (λ t. same (turn t (reverse w)) w) i l
        (true_same (turn i (reverse w)) w (ext_get_or 0 (turn i (reverse w)) w long (λ m g. mirror-at i w m l (omega (arith, long)) ∙ f.match m (omega (arith, long))))))
      where
        long : length (turn i (reverse w)) ≡ length w
        long = length-turn i (reverse w) (rw length-reverse (omega arith)) ∙ length-reverse w

    -- all turns passed
    pub facing-end : length w ≤ i → bracelet w ≡ true
    unfolding necklace not_above_turn
    facing-end l = turns-bracelet w z (λ t q. all-at (length w) (not_above_turn w) h t q) mirrors
      where
        mirrors : (t : ℕ) → t < length w → up_to w (turn t (reverse w)) ≡ true
        mirrors t q =
            not-less-up_to w (turn t (reverse w)) (sym (length-turn t (reverse w) (rw length-reverse (omega arith)) ∙ length-reverse w))
            (λ x. f.passed t (omega arith) q (recast (sec (turn t (reverse w))) (sec w) (λ m. sec w (mir (length w) t m)) (sec w) (length w) (λ m c. mirror-at t w m q c) (λ m c. refl) x))
