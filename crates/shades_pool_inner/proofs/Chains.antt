-- Comparing a word of the pool with al.
--     agree-start, agree-more, agree-end         two words, letter after letter
--     parts-under, parts-over, parts_whole       a beginning of al and a word that agrees with what follows in al
--     Following al pre next first g a i c        the first a letters of al and the word of node g are the first c and the word of node i
--     follow-start, follow-whole, follow-under, follow-over, follow-on, follow-letter    node after node
use Rattle.words.proofs.Plain.{ℕ, ◌+◌, ◌-◌, ◌<◌, ◌≤◌, add-one, arith, ◌≡◌, refl, sym, ap, ◌∙◌, subst, false, List, [], ◌∷◌, ◌++◌, append_assoc}
use Rattle.words.proofs.Plain.{length, get_or, take, drop, length-append, length-drop, take-append-drop, length-take-le, get_or-take, get_or-drop, take-suc, take-add}
use Rattle.words.proofs.{Plain.take_all, Plain.ext_get_or, Lex.before-asym, Lex.before-irrefl}
use Rattle.words.specs.Order.{before}
use Rattle.words.proofs.Split.{lt, eq, gt, tri, refuted}
use Rattle.words.proofs.Sequence.{sec, one_more, place}
use Rattle.shades_laws.proofs.Under.{◌≪◌, under-longer, under-extended, under-behind, not-under-beginning, Short, lower, opening, under-before, before-short, difference-under}
use Rattle.shades_pool_inner.specs.Chain.{Agree, Spelled, Chained, Ranked, Compares}

-- ---- two words, letter after letter

-- they agree in the first j letters
pub record Agreeing (v w : List ℕ) (j : ℕ) : Type 0 where
  pub here : j ≤ length v
  pub there : j ≤ length w
  pub same : (m : ℕ) → m < j → sec v m ≡ sec w m

pub agree-start : (v w : List ℕ) → Agreeing v w 0
agree-start v w = record { here = omega arith; there = omega arith; same = λ m h. absurd (omega arith) }

pub agree-more : (v w : List ℕ) (j : ℕ) → Agreeing v w j → j < length v → (j ≡ length w → ⊥) → sec v j ≡ sec w j → Agreeing v w (j + 1)
agree-more v w j p h k e = record { here = omega arith; there = omega (arith, p.there); same = rw (add-one j) (one_more (λ m. sec v m ≡ sec w m) j p.same e) }

pub agree-end : (v w : List ℕ) (j : ℕ) → Agreeing v w j → (j < length v → j < length w → sec v j ≡ sec w j → ⊥) → Agree v w j
agree-end v w j p h = record { here = p.here; there = p.there; same = p.same; stops = h }

-- ---- a beginning of al and a word behind it

-- no word that begins with al stands before it
before-longer : (al z : List ℕ) → before (al ++ z) al ≡ false
before-longer al z = refuted (before (al ++ z) al) (λ e. not (before-short (al ++ z) al e))
  where
    not : Short (al ++ z) al → ⊥
    not (lower r) = not-under-beginning al z r
    not (opening u e l) = omega (arith, ap length e, length-append (al ++ z) u, length-append al z)

module _ (al y r : List ℕ) (c d : ℕ) (within : c ≤ length al) (same : (m : ℕ) → m < d → sec y m ≡ sec al (c + m)) where
  abbrev whole : List ℕ
  whole = take c al ++ (y ++ r)

  -- it is smaller at the first difference
  pub parts-under : d < length y → c + d < length al → sec y d < sec al (c + d) → whole ≪ al
  parts-under h k less =
      subst (λ x. whole ≪ x) (take-append-drop c al) (under-behind (take c al) (under-longer r
      (difference-under y (drop c al) d h (omega (arith, length-drop c al)) (λ m l. same m l ∙ sym (get_or-drop c al m 0)) (rw (get_or-drop c al d 0) less))))

  -- it is greater there
  pub parts-over : d < length y → c + d < length al → sec al (c + d) < sec y d → before whole al ≡ false
  parts-over h k less =
      before-asym al whole (under-before (subst (λ x. x ≪ whole) (take-append-drop c al) (under-behind (take c al)
      (under-extended r
      (difference-under (drop c al) y d (omega (arith, length-drop c al)) h (λ m l. get_or-drop c al m 0 ∙ sym (same m l)) (rw (get_or-drop c al d 0) less))))))

  -- al ends before there is one
  pub parts_whole : d ≡ length al - c → d ≤ length y → before whole al ≡ false
  parts_whole e h = subst (λ x. before x al ≡ false) (sym becomes) (before-longer al (drop d y ++ r))
    where
      front : take d y ≡ drop c al
      front =
          ext_get_or 0 (take d y) (drop c al) (length-take-le d y h ∙ e ∙ sym (length-drop c al))
          (λ m l. let k : m < d = omega (arith, length-take-le d y h) in get_or-take d y m 0 k ∙ same m k ∙ sym (get_or-drop c al m 0))

      becomes : whole ≡ al ++ (drop d y ++ r)
      becomes =
          ap (λ x. take c al ++ (x ++ r)) (sym (take-append-drop d y) ∙ ap (λ x. x ++ drop d y) front)
          ∙ ap (λ x. take c al ++ x) (append_assoc (drop c al) (drop d y) r)
          ∙ sym (append_assoc (take c al) (drop c al) (drop d y ++ r))
          ∙ ap (λ x. x ++ (drop d y ++ r)) (take-append-drop c al)

-- ---- node after node

-- the first a letters of al and the word of node g are the first c and the word of node i
pub record Following (al pre next : List ℕ) (first g a i c : ℕ) : Type 0 where
  pub from : g ≤ i
  pub known : i < 80
  pub within : c < length al
  pub follows : (word : ℕ → List ℕ) → Spelled al pre next first g word → take a al ++ word g ≡ take c al ++ word i

pub follow-start : (al pre next : List ℕ) (first g a : ℕ) → Chained al pre next first g a → Following al pre next first g a g a
follow-start al pre next first g a p = record { from = omega arith; known = p.known; within = p.within; follows = λ word s. refl }

-- each case of the answer alone
ranked-under : (al v : List ℕ) → 0 < length al → v ≪ al → Ranked al v 0
ranked-under al v z h = record { under = λ e. h; begins = λ k l. absurd (omega arith); over = λ k. absurd (omega arith) }

ranked-over : (al v : List ℕ) → 0 < length al → before v al ≡ false → Ranked al v (length al)
ranked-over al v z h = record { under = λ e. absurd (omega arith); begins = λ k l. absurd (omega arith); over = λ k. h }

module _ (al pre next : List ℕ) (first g a i c : ℕ) (p : Following al pre next first g a i c) where
  -- what follows at a node
  at-node : i < first → (word : ℕ → List ℕ) → Spelled al pre next first g word → take a al ++ word g ≡ take c al ++ (take (get_or pre i 0) al ++ word (get_or next i 0))
  at-node h word s = p.follows word s ∙ ap (λ x. take c al ++ x) (s.node i p.from h)

  module _ (l : ℕ) (e : l ≡ get_or pre i 0) (short : l ≤ length al) (h : i < first) (d : ℕ) (given : Agree (take l al) (take (length al - c) (drop c al)) d) where
    agree : Agree (take l al) (drop c al) d
    agree = subst (λ x. Agree (take l al) x d) (take_all (length al - c) (drop c al) (omega (arith, length-drop c al))) given

    long : length (take l al) ≡ l
    long = length-take-le l al short

    same : (m : ℕ) → m < d → sec (take l al) m ≡ sec al (c + m)
    same m k = agree.same m k ∙ get_or-drop c al m 0

    node-word : (word : ℕ → List ℕ) → Spelled al pre next first g word → take a al ++ word g ≡ take c al ++ (take l al ++ word (get_or next i 0))
    node-word word s = at-node h word s ∙ ap (λ x. take c al ++ (take x al ++ word (get_or next i 0))) (sym e)

    -- al ends
    pub follow-whole : d ≡ length al - c → Compares al pre next first g a (length al)
    follow-whole k word s =
        ranked-over al (take a al ++ word g) (omega (arith, p.within))
        (rw (node-word word s) (parts_whole al (take l al) (word (get_or next i 0)) c d (omega (arith, p.within)) same k agree.here))

    module _ (goes_on : d ≡ length al - c → ⊥) (less : d < l) where
      pub follow-in : c + d < length al
      follow-in = omega (arith, p.within, agree.there, length-drop c al)

      -- the first difference is smaller
      pub follow-under : sec al d < sec al (c + d) → Compares al pre next first g a 0
      follow-under k word s =
          ranked-under al (take a al ++ word g) (omega (arith, p.within)) (rw (node-word word s)
          (parts-under al (take l al) (word (get_or next i 0)) c d (omega (arith, p.within)) same (rw long less) follow-in
          (rw (get_or-take l al d 0 less) k)))

      -- or it is greater
      pub follow-over : (sec al d < sec al (c + d) → ⊥) → Compares al pre next first g a (length al)
      follow-over k word s =
          ranked-over al (take a al ++ word g) (omega (arith, p.within)) (rw (node-word word s)
          (parts-over al (take l al) (word (get_or next i 0)) c d (omega (arith, p.within)) same (rw long less) follow-in (rw (get_or-take l al d 0 less) (omega (arith, k', differs)))))
        where
          k' : sec al (c + d) ≤ sec al d
          k' = elim (tri (sec al d) (sec al (c + d))) [ lt x ↦ absurd (k x) | eq x ↦ omega arith | gt x ↦ omega arith ]

          differs : sec al (c + d) < sec al d
          differs =
              elim (tri (sec al d) (sec al (c + d))) [
                | lt x ↦ absurd (k x)
                | eq x ↦ absurd (agree.stops (rw long less) (omega (arith, follow-in, length-drop c al)) (get_or-take l al d 0 less ∙ x ∙ sym (get_or-drop c al d 0)))
                | gt x ↦ x
              ]

    -- it agrees as far as it goes
    pub follow-on : (d ≡ length al - c → ⊥) → (d < l → ⊥) → (word : ℕ → List ℕ) → Spelled al pre next first g word → Following al pre next first g a (get_or next i 0) (c + l)
    follow-on goes_on full word₀ s₀ =
        record {
          from = omega (arith, p.from, s₀.onward i p.from h);
          known = s₀.inside i p.from h;
          within = omega (arith, p.within, agree.there, length-drop c al, agree.here, long);
          follows =
              λ word s. node-word word s ∙ sym (append_assoc (take c al) (take l al) (word (get_or next i 0)))
              ∙ ap (λ x. x ++ word (get_or next i 0)) (ap (λ x. take c al ++ x) agreed ∙ sym (take-add c l al));
        }
      where
        all : d ≡ l
        all = elim (tri d l) [ lt x ↦ absurd (full x) | eq x ↦ x | gt x ↦ absurd (omega (arith, agree.here, long)) ]

        agreed : take l al ≡ take l (drop c al)
        agreed =
            ext_get_or 0 (take l al) (take l (drop c al)) (long ∙ sym (length-take-le l (drop c al) (omega (arith, all, agree.there))))
            (λ m k. agree.same m (omega (arith, all, long)) ∙ sym (get_or-take l (drop c al) m 0 (omega (arith, long))))

  -- a letter
  module _ (h : first ≤ i) where
    letter-word : (word : ℕ → List ℕ) → Spelled al pre next first g word → take a al ++ word g ≡ take c al ++ ((i - 64) ∷ [] ++ [])
    letter-word word s = p.follows word s ∙ ap (λ x. take c al ++ x) (s.letter i h p.known)

    pub letter-under : i - 64 < sec al c → Compares al pre next first g a 0
    letter-under k word s =
        ranked-under al (take a al ++ word g) (omega (arith, p.within)) (rw (letter-word word s)
        (parts-under al ((i - 64) ∷ []) [] c 0 (omega (arith, p.within)) (λ m l. absurd (omega arith)) (omega arith) (omega (arith, p.within))
        (omega (arith, k, place (sec al) (c + 0) c (omega arith)))))

    pub letter-over : sec al c < i - 64 → Compares al pre next first g a (length al)
    letter-over k word s =
        ranked-over al (take a al ++ word g) (omega (arith, p.within)) (rw (letter-word word s)
        (parts-over al ((i - 64) ∷ []) [] c 0 (omega (arith, p.within)) (λ m l. absurd (omega arith)) (omega arith) (omega (arith, p.within))
        (omega (arith, k, place (sec al) (c + 0) c (omega arith)))))

    pub letter-same : i - 64 ≡ sec al c → Compares al pre next first g a (c + 1)
    letter-same k word s = record { under = λ e. absurd (omega arith); begins = λ x y. is; over = λ x. rw (is, take_all (c + 1) al x) (before-irrefl al) }
      where
        is : take a al ++ word g ≡ take (c + 1) al
        is = letter-word word s ∙ ap (λ x. take c al ++ x ∷ []) k ∙ sym (rw (add-one c) (take-suc al c 0 p.within))
