-- The strip is built from its right end, along a full walk by necklaces. t is the highest shade, k = t + 1.
--     only-top               a necklace that begins with t has nothing else
--     link                   what Around uses of a necklace and the next one
--     Built n t z x s        s is the strip from the necklace x on, and each turn of each necklace from x on, but for the last, is found in it
--     join, finish, build    a necklace in front; the last but one; the whole walk
use Rattle.words.proofs.Plain.{ℕ, suc, ◌+◌, ◌-◌, ◌≤◌, ◌<◌, arith, dec_lt, ◌≡◌, refl, sym, ap, ◌∙◌, true, none, some, List, [], ◌∷◌, ◌++◌, map, length}
use Rattle.words.proofs.Plain.{length-append, List·get_d-append, get_or-take, get_or-append-add}
use Rattle.words.specs.{Search.tab, Order.before, Order.up_to, Readings.Reading}
use Rattle.words.proofs.{Split.both, Split.clash, Search.length-tab, Search.get_d-tab, Readings.nothing-first}
use Rattle.words.proofs.Sequence.{sec, Less, recast, place}
use Rattle.words.proofs.Lex.{ahead, equal, behind, lex, before-less, less-before, before-not-up_to, up_to-not-before}
use Rattle.rings.specs.Necklace.{necklace, period}
use Rattle.rings.specs.Steps.{above_of, next_of, FullWalk, done, step}
use Rattle.ring_laws.proofs.{Run.Lyn, Run.lyn-through, Repeat.Turned, Repeat.Neck, Lyndon.lyndon-of, Classes.lyndon-necklace}
use Rattle.ring_laws.proofs.Words.{pre-of, of-neck, necklace-prenecklace}
use Rattle.ring_laws.proofs.FullWalk.{next-facts}
use Rattle.ring_home_laws.proofs.Period.{period-pos, period-le}
use Rattle.ring_total_laws.proofs.OneRing.{Ring}
use Rattle.strip_spec.specs.Strip.{joined}
use Rattle.strip_laws.proofs.Around.{tops, Link, reaches, Tail, Found, keep, new, new-last}
use Rattle.strip_laws.proofs.Pieces.{root, length-root, period-round}

module _ (n t : ℕ) (z : 0 < n) where
  -- ---- single necklaces

  -- a Lyndon sequence of n is a necklace
  of-seq : (g : ℕ → ℕ) → Lyn g n → ((h : ℕ) → h < n → g h ≤ t) → Ring n (suc t) (tab n g)
  of-seq g l b = (
    record { long = length-tab n g; shades = λ i h. rw (get_d-tab n g i 0 h) (omega (arith, b i h)) },
    lyndon-necklace (tab n g) (lyndon-of (tab n g) (omega (arith, length-tab n g)) (rw (length-tab n g) (lyn-through g (sec (tab n g)) n (λ m q. sym (get_d-tab n g m 0 q)) l))),
  )

  -- the ring of only t
  top : List ℕ
  top = tab n (λ i. t)

  top-at : (h : ℕ) → h < n → sec top h ≡ t
  unfolding top
  top-at h b = get_d-tab n (λ i. t) h 0 b

  top-long : length top ≡ n
  unfolding top
  top-long = length-tab n (λ i. t)

  top-ring : Ring n (suc t) top
  top-ring = (record { long = top-long; shades = λ i h. omega (arith, top-at i h) }, of-neck top (rw top-long neck))
    where
      neck : Neck (sec top) n
      neck i s h tu l = omega (arith, l.less, top-at l.at l.bound, shade l.at l.bound)
        where
          shade : (m : ℕ) → m < n → s m ≡ t
          shade m q =
              elim (dec_lt (i + m) n) [
                | yes d ↦ tu.low m (i + m) refl d ∙ top-at (i + m) d
                | no d ↦ tu.high m (i + m - n) (omega arith) q ∙ top-at (i + m - n) (omega arith)
              ]

  -- a necklace that begins with t has nothing else
  pub only-top : (x : List ℕ) → Ring n (suc t) x → ¬ (sec x 0 < t) → (h : ℕ) → h < n → sec x h ≡ t
  only-top x r l h b =
      elim (dec_lt (sec x h) t) [
        | no c ↦ omega (arith, r.0.shades h b)
        | yes c ↦ absurd (pre-of x (necklace-prenecklace x r.1) h (record {
          at = 0;
          bound = omega (arith, r.0.long);
          agree = λ m s. absurd (omega arith);
          less = omega
              (arith, place (sec x) (h + 0) h (omega arith));
        }))
      ]

  -- nothing is above a ring of only t
  none_above : (u v : List ℕ) → Reading n (suc t) u → ((h : ℕ) → h < n → sec u h ≡ t) → Reading n (suc t) v → before u v ≡ true → ⊥
  none_above u v r f q b =
      let l = before-less u v (r.long ∙ sym q.long) b in
      omega (arith, l.less, f l.at (omega (arith, l.bound, q.long)), q.shades l.at (omega (arith, l.bound, q.long)))

  -- ---- a necklace and the next one

  module _ (x u : List ℕ) (r : Ring n (suc t) x) (e : next_of necklace (suc t) x ≡ some u) where
    after : Ring n (suc t) u
    after =
        let g = next-facts necklace (suc t) x u e in
        (rw r.0.long at g.0, g.2)

    up : before x u ≡ true
    up = (next-facts necklace (suc t) x u e).1

    -- no necklace above x is below u
    no_lower : (v : List ℕ) → Ring n (suc t) v → before x v ≡ true → up_to u v ≡ true
    no_lower v q h = (next-facts necklace (suc t) x u e).3 v (rw r.0.long q.0) h q.1

    link : sec x 0 < t → Link n t (sec x) (sec u) (period x)
    link l = record { e = d.at; agree = d.agree; tops = only; pos = period-pos x; fits = fit; reach = reaches n t (sec x) (period x) d.at (period-pos x) fit l round only; round = round }
      where
        d : Less (sec x) (sec u) n
        d = rw after.0.long at (before-less x u (r.0.long ∙ sym after.0.long) up)

        fit : period x ≤ n
        fit = omega (arith, period-le x (omega (arith, r.0.long)), r.0.long)

        round : Turned (sec x) n (period x) (sec x)
        round = period-round n x z r.0.long

        no_one : (g : ℕ → ℕ) → Lyn g n → ((h : ℕ) → h < n → g h ≤ t) → Less (sec x) g n → Less g (sec u) n → ⊥
        no_one g y b p q =
            let v = of-seq g y b in
            let long = length-tab n g in
            clash (before (tab n g) u)
            (less-before (tab n g) u (long ∙ sym after.0.long) (rw after.0.long (recast g (sec u) (sec (tab n g)) (sec u) n (λ m s. sym (get_d-tab n g m 0 s)) (λ m s. refl) q)))
            (up_to-not-before (tab n g) u (no_lower (tab n g) v (less-before x (tab n g) (r.0.long ∙ sym long)
            (rw long (recast (sec x) g (sec x) (sec (tab n g)) n (λ m s. refl) (λ m s. sym (get_d-tab n g m 0 s)) p)))))

        only : (q : ℕ) → d.at < q → q < n → sec x q ≡ t
        only = tops n t (sec x) (sec u) (rw r.0.long at (pre-of x (necklace-prenecklace x r.1))) (λ h b. omega (arith, r.0.shades h b)) d no_one

  -- ---- from the right end

  -- each turn of v, by a number in its last copy, is found in s, the strip from x on
  abbrev pub FoundTurns : List ℕ → List ℕ → List ℕ → Type 0
  FoundTurns x s v = (w : ℕ → ℕ) (j : ℕ) → j < n → n ≤ j + period v → Turned (sec v) n j w → Found n t (sec x) (sec s) (length s) w

  -- s is the strip from x on, and each turn of each necklace from x on, but for the last, is found in it
  pub record Built (x s : List ℕ) : Type 0 where
    pub tail : Tail n t (sec x) (sec s) (length s)
    pub find : (v : List ℕ) → Ring n (suc t) v → sec v 0 < t → up_to x v ≡ true → FoundTurns x s v

  -- a root in front
  module _ (x r : List ℕ) (y : 0 < length x) where
    long : length (root x ++ r) ≡ period x + length r
    long = length-append (root x) r ∙ ap (λ (i : ℕ). i + length r) (length-root x y)

    laid : (h : ℕ) → h < period x → sec (root x ++ r) h ≡ sec x h
    laid h q = List·get_d-append (root x) r 0 h (omega (arith, length-root x y)) ∙ get_or-take (period x) x h 0 q

    rest : (i h : ℕ) → period x + h ≡ i → sec (root x ++ r) i ≡ sec r h
    rest i h q = place (sec (root x ++ r)) i (length (root x) + h) (omega (arith, length-root x y)) ∙ get_or-append-add (root x) r h 0

  join : (x u s : List ℕ) → Ring n (suc t) x → next_of necklace (suc t) x ≡ some u → sec x 0 < t → Built u s → Built x (root x ++ s)
  join x u s r e l c = record { tail = Tail.more k g (laid x s y) (rest x s y) c.tail; find = look }
    where
      y : 0 < length x
      y = omega (arith, r.0.long)

      g : Link n t (sec x) (sec u) (period x)
      g = link x u r e l

      k : length (root x ++ s) ≡ period x + length s
      k = long x s y

      look : (v : List ℕ) → Ring n (suc t) v → sec v 0 < t → up_to x v ≡ true → FoundTurns x (root x ++ s) v
      look v q o h w j i b tu =
          elim (lex x v) [
            | equal m ↦ new g (laid x s y) (rest x s y) c.tail (length (root x ++ s)) k j i (rw (← m) at b) (rw (← m) at tu)
            | ahead m ↦ keep g (laid x s y) (rest x s y) c.tail (length (root x ++ s)) k (c.find v q o (no_lower x u r e v q m) w j i b tu)
            | behind m ↦ clash (up_to x v) h (before-not-up_to x v m)
          ]

  -- the last necklace but one, and the last
  finish : (x u : List ℕ) → Ring n (suc t) x → next_of necklace (suc t) x ≡ some u → sec x 0 < t → ((h : ℕ) → h < n → sec u h ≡ t) → Built x (root x ++ (root u ++ []))
  finish x u r e l o = record { tail = Tail.last big only begin end; find = look }
    where
      y : 0 < length x
      y = omega (arith, r.0.long)

      ur : Ring n (suc t) u
      ur = after x u r e

      yu : 0 < length u
      yu = omega (arith, ur.0.long)

      g : Link n t (sec x) (sec u) (period x)
      g = link x u r e l

      first : g.e ≡ 0
      first = elim (dec_lt 0 g.e) [ yes h ↦ absurd (omega (arith, g.agree 0 h, o 0 z)) | no h ↦ omega arith ]

      only : (q : ℕ) → 0 < q → q < n → sec x q ≡ t
      only q i h = g.tops q (omega (arith, first)) h

      whole : period x ≡ n
      whole =
          elim (dec_lt (period x) n) [
            | yes h ↦ absurd (omega (arith, only (period x) (period-pos x) h, g.round.low 0 (period x) (omega arith) h))
            | no h ↦ omega (arith, g.fits)
          ]

      short : length (root u ++ []) ≡ period u + 0
      short = long u [] yu

      big : n < length (root x ++ (root u ++ []))
      big = omega (arith, long x (root u ++ []) y, short, whole, period-pos u)

      begin : (h : ℕ) → h < n → sec (root x ++ (root u ++ [])) h ≡ sec x h
      begin h q = laid x (root u ++ []) y h (omega (arith, whole))

      end : (i : ℕ) → n ≤ i → i < length (root x ++ (root u ++ [])) → sec (root x ++ (root u ++ [])) i ≡ t
      end i h q =
          rest x (root u ++ []) y i (i - n) (omega (arith, whole))
          ∙ laid u [] yu (i - n) (omega (arith, long x (root u ++ []) y, short, whole))
          ∙ o (i - n) (omega (arith, long x (root u ++ []) y, short, whole, period-le u yu, ur.0.long))

      look : (v : List ℕ) → Ring n (suc t) v → sec v 0 < t → up_to x v ≡ true → FoundTurns x (root x ++ (root u ++ [])) v
      look v q f h w j i m tu =
          elim (lex x v) [
            | equal d ↦ new-last big only begin j i (rw (← d) at tu)
            | ahead d ↦ absurd (beyond (no_lower x u r e v q d))
            | behind d ↦ clash (up_to x v) h (before-not-up_to x v d)
          ]
        where
          beyond : up_to u v ≡ true → ⊥
          beyond k =
              elim (lex u v) [
                | equal d ↦ omega (arith, f, o 0 z, ap (λ (y : List ℕ). sec y 0) d)
                | ahead d ↦ none_above u v ur.0 o q.0 d
                | behind d ↦ clash (up_to u v) k (before-not-up_to u v d)
              ]

  -- a walk that stands at a ring of only t has come to its end
  ended : {u : List ℕ} {rings : List (List ℕ)} {m : ℕ} → FullWalk necklace (suc t) u rings m → Ring n (suc t) u → ((h : ℕ) → h < n → sec u h ≡ t) → rings ≡ []
  ended (done e) r o = refl
  ended (step {w = u} {v = v} e f) r o = absurd (none_above u v r.0 o (after u v r e).0 (up u v r e))

  -- a necklace that begins below t is not the last
  not_last : (x : List ℕ) → Ring n (suc t) x → sec x 0 < t → next_of necklace (suc t) x ≡ none → ⊥
  unfolding next_of above_of
  not_last x r l e =
      clash (above_of necklace x top) (both (before x top) (necklace top) above-x top-ring.1) (nothing-first (length x) (suc t) (above_of necklace x) e top (rw r.0.long top-ring.0))
    where
      above-x : before x top ≡ true
      above-x = less-before x top (r.0.long ∙ sym top-long) (record { at = 0; bound = omega (arith, top-long); agree = λ m s. absurd (omega arith); less = omega (arith, top-at 0 z) })

  pub build : {x : List ℕ} {rings : List (List ℕ)} {m : ℕ} → FullWalk necklace (suc t) x rings m → Ring n (suc t) x → sec x 0 < t → Built x (joined (map root (x ∷ rings)))
  unfolding joined
  build (done {w = x} e) r l = absurd (not_last x r l e)
  build (step {w = x} {v = u} {rings = rest} e f) r l =
      elim (dec_lt (sec u 0) t) [
        | yes c ↦ join x u (joined (map root (u ∷ rest))) r e l (build f (after x u r e) c)
        | no c ↦ rw (ended f (after x u r e) (only-top u (after x u r e) c)) (finish x u r e l (only-top u (after x u r e) c))
      ]
