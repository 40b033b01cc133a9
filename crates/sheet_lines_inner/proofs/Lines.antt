-- The lines of a text one after another.
--     line_first, line-none       the first line of a text and those behind it; a text without bytes has none
--     first-long                  how long the first line is
--     line_at                     where a line ends
--     rest-is                     what a slice to the end holds
--     reached-first, reached-on   before the first line, and behind one more
--     reached-line                which line begins there
--     reached-over, reached-inside    behind the last line, and before it
--     relent-length               a buffer keeps its length where its beginning was lent
use Rattle.words.proofs.Plain.{ℕ, zero, suc, ◌+◌, ◌-◌, ◌<◌, ◌≤◌, add-one, arith, dec_lt, ◌≡◌, refl, sym, ap, ◌∙◌, List, [], ◌∷◌, ◌++◌, length, get_or, take, drop}
use Rattle.words.proofs.Plain.{length-append, length-drop, take_all, drop-drop, get_or-take, length-take-le, eq-eqb}
use Rattle.text_words_spec.specs.Words.{PieceAt}
use Rattle.text_words_spec.proofs.Pieces.{first-same, behind-same, none-some}
use Rattle.stream_spec.specs.Lines.{ended, under, last_of, lines_from, lines, Plain, none, also, closed, Cuts, nones}
use Rattle.stream_spec.proofs.Bytes.{ended-newline, under-newline, ended-append, under-append, last_some}
use Rattle.stream_spec.proofs.Whole.{cut-one}
use Rattle.sheet_lines_inner.specs.Says.{LineAt, LineReached}

-- ---- the first line

plain_of : (t : List ℕ) → ((i : ℕ) → i < length t → get_or t i 0 ≡ 10 → ⊥) → Plain t
plain_of [] f = none
plain_of (a ∷ t) f = also (f 0 (omega arith)) (plain_of t (λ i h. f (suc i) (omega arith)))

-- a text without newlines is under way
plain-goes : (t : List ℕ) → Plain t → (ended [] t ≡ []) × (under [] t ≡ t)
unfolding closed
plain-goes t p = cut-one t [] t (record { whole = refl; plains = nones; plain = p })

-- a text, a newline, and what stands behind it
line-then : (u t : List ℕ) → Plain u → lines (u ++ (10 ∷ t)) ≡ u ∷ lines t
unfolding lines lines_from
line-then u t p =
    let q = plain-goes u p in
    let x : ended [] (u ++ (10 ∷ t)) ≡ u ∷ ended [] t = ended-append [] u (10 ∷ t) ∙ rw (q.0, q.1) (ended-newline u 10 t (eq-eqb 10 10 refl)) in
    let y : under [] (u ++ (10 ∷ t)) ≡ under [] t = under-append [] u (10 ∷ t) ∙ under-newline (under [] u) 10 t (eq-eqb 10 10 refl) in
    rw (x, y) refl

line-alone : (u : List ℕ) → Plain u → 0 < length u → lines u ≡ u ∷ []
unfolding lines lines_from
line-alone u p h = let q = plain-goes u p in rw (q.0, q.1) (last_some u h)

pub line-none : (t : List ℕ) → length t ≤ 0 → lines t ≡ []
unfolding lines lines_from ended under last_of
line-none [] h = refl
line-none (a ∷ t) h = absurd (omega arith)

-- a text cut at a place
cut_at : (t : List ℕ) (r : ℕ) → r < length t → t ≡ take r t ++ (get_or t r 0 ∷ drop (r + 1) t)
cut_at t r h = rw (add-one r) (go t r h)
  where
    go : (t : List ℕ) (r : ℕ) → r < length t → t ≡ take r t ++ (get_or t r 0 ∷ drop (suc r) t)
    go [] r h = absurd (omega arith)
    go (a ∷ t) zero h = refl
    go (a ∷ t) (suc r) h = ap (λ (x : List ℕ). a ∷ x) (go t r (omega arith))

-- the first line of a text, where its first piece ends, and those behind it
pub line_first : (t : List ℕ) (r : ℕ) → PieceAt 10 t r → 0 < length t → lines t ≡ take r t ∷ lines (drop (r + 1) t)
line_first t r p z =
    elim (dec_lt r (length t)) [
      | yes h ↦
          let l : length (take r t) ≡ r = length-take-le r t p.within in
          let u = plain_of (take r t) (λ i b. let g : i < r = omega (arith, l, b) in rw (get_or-take r t i 0 g) (p.before i g)) in
          let c : t ≡ take r t ++ (10 ∷ drop (r + 1) t) = cut_at t r h ∙ ap (λ (x : ℕ). take r t ++ (x ∷ drop (r + 1) t)) (p.here h) in
          ap lines c ∙ line-then (take r t) (drop (r + 1) t) u
      | no h ↦
          let e : r ≡ length t = omega (arith, p.within) in
          let u = plain_of t (λ i b. p.before i (omega arith)) in
          let n : lines (drop (r + 1) t) ≡ [] = line-none (drop (r + 1) t) (omega (arith, length-drop (r + 1) t)) in
          line-alone t u z ∙ ap (λ (x : List ℕ). x ∷ []) (sym (take_all r t (omega arith))) ∙ ap (λ (x : List (List ℕ)). take r t ∷ x) (sym n)
    ]

pub first-long : (t : List ℕ) (r : ℕ) → PieceAt 10 t r → length (get_or (lines t) 0 []) ≡ r
first-long t r p =
    elim (dec_lt 0 (length t)) [
      | yes h ↦ ap (λ (x : List (List ℕ)). length (get_or x 0 [])) (line_first t r p h) ∙ length-take-le r t p.within
      | no h ↦ ap (λ (x : List (List ℕ)). length (get_or x 0 [])) (line-none t (omega arith)) ∙ omega (arith, p.within)
    ]

-- ---- where a line ends

-- what a slice to the end holds
pub rest-is : (s : List ℕ) (at : ℕ) → take (length s - at) (drop at s) ≡ drop at s
rest-is s at = take_all (length s - at) (drop at s) (omega (arith, length-drop at s))

pub line_at : (s : List ℕ) (at e : ℕ) → at < length s → PieceAt 10 (take (length s - at) (drop at s)) e → LineAt s at (at + e)
line_at s at e h q =
    let l = length-drop at s in
    let p : PieceAt 10 (drop at s) e = rw (rest-is s at) at q in
    let d : at + e - at ≡ e = omega arith in
    let g : at + (e + 1) ≡ at + e + 1 = omega arith in
    let f : drop (e + 1) (drop at s) ≡ drop (at + e + 1) s = drop-drop (e + 1) at s ∙ ap (λ (x : ℕ). drop x s) g in
    record {
      from = omega arith;
      within = omega (arith, p.within, l);
      first = rw d (line_first (drop at s) e p (omega (arith, l)) ∙ ap (λ (x : List ℕ). take e (drop at s) ∷ lines x) f);
    }

-- ---- one line after another

pub reached-first : (s : List ℕ) → LineReached s 0 0
reached-first s = record { ahead = refl; few = omega arith; most = omega arith; near = omega arith }

-- the line that stands first of those behind i lines
head_at : (ls ms : List (List ℕ)) (l : List ℕ) (i : ℕ) → drop i ls ≡ l ∷ ms → (i < length ls) × (get_or ls i [] ≡ l) × (drop (i + 1) ls ≡ ms)
head_at ls ms l i e = rw (add-one i) (go ls i e)
  where
    go : (ls : List (List ℕ)) (i : ℕ) → drop i ls ≡ l ∷ ms → (i < length ls) × (get_or ls i [] ≡ l) × (drop (suc i) ls ≡ ms)
    go [] zero e = absurd (none-some l ms e)
    go [] (suc i) e = absurd (none-some l ms e)
    go (u ∷ ls) zero e = (omega arith, first-same _ _ _ _ e, behind-same _ _ _ _ e)
    go (u ∷ ls) (suc i) e = let q = go ls i e in (omega (arith, q.0), q.1, q.2)

none_left : (ls : List (List ℕ)) (i : ℕ) → drop i ls ≡ [] → length ls ≤ i
none_left ls i e = let z : length ls - i ≡ 0 = sym (length-drop i ls) ∙ ap (λ (x : List (List ℕ)). length x) e in omega arith

module _ (s : List ℕ) (at i : ℕ) (g : LineReached s at i) where
  pub reached-over : length s ≤ at → length (lines s) ≤ i
  reached-over h = none_left (lines s) i (g.ahead ∙ line-none (drop at s) (omega (arith, length-drop at s)))

  pub reached-inside : i < length (lines s) → at < length s
  reached-inside h = elim (dec_lt at (length s)) [ yes l ↦ l | no l ↦ absurd (omega (arith, h, reached-over (omega arith))) ]

  module _ (r : ℕ) (l : LineAt s at r) where
    pub reached-line : (i < length (lines s)) × (get_or (lines s) i [] ≡ take (r - at) (drop at s))
    reached-line = let h = head_at (lines s) _ _ i (g.ahead ∙ l.first) in (h.0, h.1)

    pub reached-on : LineReached s (r + 1) (i + 1)
    reached-on =
        record {
          ahead = (head_at (lines s) _ _ i (g.ahead ∙ l.first)).2;
          few = omega (arith, g.few, l.from);
          most = omega (arith, reached-line.0);
          near = omega (arith, l.within);
        }

-- ---- a buffer whose beginning was lent

pub relent-length : (n : ℕ) (xs ys : List ℕ) → length ys ≡ length (take n xs) → n ≤ length xs → length (ys ++ drop n xs) ≡ length xs
relent-length n xs ys e h = length-append ys (drop n xs) ∙ omega (arith, e, length-take-le n xs h, length-drop n xs)
