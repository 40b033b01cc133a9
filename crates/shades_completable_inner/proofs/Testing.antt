-- The test by the pool, turn by turn: the laws of `shades_laws`, Groups, for arrays of 80.
--     Counting, count-start, count-more, count-le           the letters' numbers
--     test-none, test_low, test-high, test-letter            what the least letter alone decides
--     Testing al rem first q a f e num pre next              the arrays hold the groups of a pool for al and the letters that rem counts
--     test-start, test-stuck, test-dropped, test-pushed, test-chained, test-under, test-over, test_on, test-longer      the loop
--     Bounds, test-bounds                                    what its numbers are bounded by
use Rattle.words.proofs.Plain.{ℕ, zero, suc, ◌+◌, ◌-◌, ◌<◌, ◌≤◌, arith, ◌≡◌, refl, sym, ap, ◌∙◌, subst, Bool, true, false, true≢false, List, [], ◌∷◌}
use Rattle.words.proofs.Plain.{◌++◌, eqb, length, get_or, take, drop, set, replicate, length-set, length-replicate, length-drop, take-append-drop, get_or-set_same}
use Rattle.words.proofs.Plain.{get_or-set_other, length-take-le, take-suc, eq-eqb, ne_eqb}
use Rattle.words.specs.{Order.before, Sum.sum_of}
use Rattle.words.proofs.Split.{lt, eq, gt, tri}
use Rattle.words.proofs.{Sequence.sec, Lex.before-gt, Lex.before-irrefl}
use Rattle.rings.specs.{Necklace.necklace, Counts.occurs}
use Rattle.ring_laws.proofs.{Run.Lyn, Lyndon.of-lyndon, Lyndon.lyndon-pos}
use Rattle.shades_laws.proofs.Under.{◌≪◌, here, Short, opening, before-place}
use Rattle.shades_laws.proofs.Made.{Completed, made_none}
use Rattle.shades_laws.proofs.Letters.{letters, occurs-letters, length-letters}
use Rattle.shades_laws.proofs.Groups.{Grouped, spread, group-start, group-dropped, group-few, group-pushed, group-taken, group-stuck, group-low, group-yes}
use Rattle.shades_pool_inner.specs.Chain.{Spelled, Chained, Ranked, Compares}
use Rattle.shades_completable_inner.specs.Completion.{Completing, Decides, Least, Numbered, Opened}

-- ---- the letters' numbers

-- those below b are written
pub record Counting (rem num : List ℕ) (b : ℕ) : Type 0 where
  pub size : length num ≡ 80
  pub done : (x : ℕ) → x < b → get_or num (64 + x) 0 ≡ get_or rem x 0

pub count-start : (rem num : List ℕ) → length num ≡ 80 → Counting rem num 0
count-start rem num e = record { size = e; done = λ x h. absurd (omega arith) }

pub count-more : (rem num : List ℕ) (b : ℕ) → Counting rem num b → b < 16 → Counting rem (set num (64 + b) (get_or rem b 0)) (b + 1)
count-more rem num b p h = record {
  size = length-set num (64 + b) (get_or rem b 0) ∙ p.size;
  done = λ x k. elim (tri x b) [
    | lt e ↦ get_or-set_other num (64 + b) (64 + x) (get_or rem b 0) 0 (λ q. omega arith) ∙ p.done x e
    | eq e ↦ rw e (get_or-set_same num (64 + b) (get_or rem b 0) 0 (omega (arith, p.size)))
    | gt e ↦ absurd (omega arith)
  ];
}

-- a count is at most the sum
pub count-le : (rem : List ℕ) (b : ℕ) → get_or rem b 0 ≤ sum_of rem
unfolding sum_of
count-le [] b = omega arith
count-le (c ∷ rem) zero = omega arith
count-le (c ∷ rem) (suc b) = omega (arith, count-le rem b)

-- ---- answers

-- a completion by the letters that rem counts
completed-yes : (al rem : List ℕ) → Completed al (letters rem) → Decides al rem true
completed-yes al rem c = record { yes = λ e. record { rest = c.rest; letters = λ b. c.letters b ∙ occurs-letters b 0 b rem (omega arith); whole = c.whole }; no = λ e. absurd (true≢false e) }

-- no completion
hopeless-no : (al rem : List ℕ) → ((u v : List ℕ) → ((b : ℕ) → occurs b v ≡ occurs b (letters rem)) → necklace (al ++ (u ++ v)) ≡ true → ⊥) → Decides al rem false
hopeless-no al rem h = record { yes = λ r. absurd (true≢false (sym r)); no = λ r u v c n. h u v (λ x. c x ∙ sym (occurs-letters x 0 x rem (omega arith))) n }

module _ (al rem : List ℕ) (c : Completing al rem) where
  some-al : 0 < length al
  some-al = lyndon-pos al c.lyndon-al

  lyn-al : Lyn (sec al) (length al)
  lyn-al = of-lyndon al some-al c.lyndon-al

  -- there are no letters
  pub test-none : (b : ℕ) → Least rem b → b ≡ length rem → Decides al rem true
  unfolding sum_of
  test-none b p e = completed-yes al rem (subst (Completed al) (sym (empty (letters rem) (length-letters 0 rem ∙ zero-sum rem (λ x h. p.none x (omega arith)))))
      (made_none al some-al lyn-al))
    where
      zero-sum : (rem : List ℕ) → ((x : ℕ) → x < length rem → get_or rem x 0 ≡ 0) → sum_of rem ≡ 0
      zero-sum [] h = refl
      zero-sum (a ∷ rem) h = omega (arith, h 0 (omega arith), zero-sum rem (λ x k. h (suc x) (omega arith)))

      empty : (v : List ℕ) → length v ≡ 0 → v ≡ []
      empty [] h = refl
      empty (a ∷ v) h = absurd (omega arith)

  -- where the letters stand, for the words that are one letter
  module _ (b : ℕ) (p : Least rem b) (inside : b < length rem) where
    -- the letters' groups, wherever they are
    letter-groups : (w : ℕ → List ℕ) (m : ℕ → ℕ) → ((i : ℕ) → i < length rem → w (64 + i) ≡ i ∷ []) →
        ((i : ℕ) → i < length rem → m (64 + i) ≡ get_or rem i 0) →
        Grouped al (letters rem) (b ∷ []) (get_or rem b 0) w m (suc (64 + b)) (length rem - suc b)
    letter-groups w m words numbers = group-start al rem 64 b w m lyn-al inside p.none (omega (arith, positive)) c.room words numbers
      where
        positive : 0 < get_or rem b 0
        positive = elim (tri 0 (get_or rem b 0)) [ lt h ↦ h | eq h ↦ absurd (p.some inside (sym h)) | gt h ↦ absurd (omega arith) ]

    -- each by its place
    plain : Grouped al (letters rem) (b ∷ []) (get_or rem b 0) (λ i. (i - 64) ∷ []) (λ i. get_or rem (i - 64) 0) (suc (64 + b)) (length rem - suc b)
    plain =
        letter-groups (λ i. (i - 64) ∷ []) (λ i. get_or rem (i - 64) 0) (λ i h. ap (λ x. x ∷ []) (let e : 64 + i - 64 ≡ i = omega arith in e))
        (λ i h. ap (λ x. get_or rem x 0) (let e : 64 + i - 64 ≡ i = omega arith in e))

    -- the first sector of al is greater
    pub test_low : b < get_or al 0 0 → Decides al rem false
    test_low h = hopeless-no al rem (group-low plain (lies al h))
      where
        lies : (al : List ℕ) → b < get_or al 0 0 → (b ∷ []) ≪ al
        lies [] h = absurd (omega arith)
        lies (x ∷ al) h = here h

    -- it is less
    pub test-high : get_or al 0 0 < b → Decides al rem true
    test-high h = completed-yes al rem (group-yes plain some-al (stands al some-al h))
      where
        stands : (al : List ℕ) → 0 < length al → get_or al 0 0 < b → before (b ∷ []) al ≡ false
        stands [] z h = absurd (omega arith)
        stands (x ∷ al) z h = before-gt b x [] al h

    -- al is that letter alone
    pub test-letter : (b < get_or al 0 0 → ⊥) → (get_or al 0 0 < b → ⊥) → length al ≡ 1 → Decides al rem true
    test-letter h k e = completed-yes al rem (group-yes plain some-al (alone al e h k))
      where
        alone : (al : List ℕ) → length al ≡ 1 → (b < get_or al 0 0 → ⊥) → (get_or al 0 0 < b → ⊥) → before (b ∷ []) al ≡ false
        alone [] e h k = absurd (omega arith)
        alone (x ∷ y ∷ al) e h k = absurd (omega arith)
        alone (x ∷ []) e h k = elim (tri b x) [ lt q ↦ absurd (h q) | eq q ↦ rw q (before-irrefl (x ∷ [])) | gt q ↦ absurd (k q) ]

    -- al begins with it and goes on
    pub test-opened : (b < get_or al 0 0 → ⊥) → (get_or al 0 0 < b → ⊥) → (length al ≡ 1 → ⊥) → Opened al rem b
    test-opened h k e = record {
      completing = c;
      least = p;
      left = inside;
      begins = elim (tri (get_or al 0 0) b) [ lt q ↦ absurd (k q) | eq q ↦ q | gt q ↦ absurd (h q) ];
      long = omega (arith, some-al);
    }

-- ---- the loop

-- the arrays hold the groups of a pool: its least word is the first a sectors of al
pub record Testing (al rem : List ℕ) (first q a f e : ℕ) (num pre next : List ℕ) : Type 0 where
  pub size : length num ≡ 80
  pub slots : length pre ≡ 80
  pub links : length next ≡ 80
  pub low : 64 ≤ first
  pub room : f ≤ first
  pub top : e ≤ 80
  pub letters-in : first ≤ 80
  pub some : 0 < a
  pub within : a < length al
  pub small : length al ≤ 64
  pub word : ℕ → List ℕ
  pub spelled : Spelled al pre next first f word
  pub groups : ℕ
  pub ends : f + groups ≡ e
  pub grouped : Grouped al (letters rem) (take a al) q word (sec num) f groups

-- a number that is not 0
positive : (n : ℕ) → (n ≡ 0 → ⊥) → 0 < n
positive zero k = absurd (k refl)
positive (suc n) k = omega arith

-- one of two words
pick : Bool → List ℕ → List ℕ → List ℕ
pick true v w = v
pick false v w = w

-- the first a sectors open al
pub opens : (al : List ℕ) (a : ℕ) → a < length al → Short (take a al) al
opens al a h = opening (drop a al) (sym (take-append-drop a al)) (omega (arith, length-drop a al))

opens_before : (al : List ℕ) (a : ℕ) → a < length al → before (take a al) al ≡ true
opens_before al a h =
    before-place (take a al) al a h (omega (arith, length-take-le a al (omega arith))) (λ m k. lib.Seq.get_or-take a al m 0 k)
    (λ k. absurd (omega (arith, length-take-le a al (omega arith))))

-- the letters' groups
pub test-start : (al rem : List ℕ) (b : ℕ) (num : List ℕ) → Opened al rem b → length num ≡ 80 → Numbered rem num →
    Testing al rem (b + 65) (get_or rem b 0) 1 (b + 65) (length rem + 64) num (replicate 80 0) (replicate 80 0)
test-start al rem b num p size numbered = record {
  size = size;
  slots = length-replicate {A = ℕ} 80 0;
  links = length-replicate {A = ℕ} 80 0;
  low = omega arith;
  room = omega arith;
  top = omega (arith, p.completing.shades);
  letters-in = omega (arith, p.completing.shades, p.left);
  some = omega arith;
  within = p.long;
  small = p.completing.small;
  word = λ i. (i - 64) ∷ [];
  spelled =
      record {
        letter = λ i h k. refl;
        node = λ i h k. absurd (omega arith);
        onward = λ i h k. absurd (omega arith);
        inside = λ i h k. absurd (omega arith);
        short = λ i h k. absurd (omega arith);
      };
  groups = length rem - suc b;
  ends = omega (arith, p.left);
  grouped =
      subst (λ f. Grouped al (letters rem) (take 1 al) (get_or rem b 0) (λ i. (i - 64) ∷ []) (sec num) f (length rem - suc b)) (let e : suc (64 + b) ≡ b + 65 = omega arith in e)
      (subst (λ s. Grouped al (letters rem) s (get_or rem b 0) (λ i. (i - 64) ∷ []) (sec num) (suc (64 + b)) (length rem - suc b)) opening-letter
      (letter-groups al rem p.completing b p.least p.left (λ i. (i - 64) ∷ []) (sec num) (λ i h. ap (λ x. x ∷ []) (let e : 64 + i - 64 ≡ i = omega arith in e)) numbered));
}
  where
    opening-letter : b ∷ [] ≡ take 1 al
    opening-letter = ap (λ x. x ∷ []) (sym p.begins) ∙ sym (take-suc al 0 0 (omega (arith, p.long)))

module _ {al rem : List ℕ} {first q a f e : ℕ} {num pre next : List ℕ} (t : Testing al rem first q a f e num pre next) where
  -- only copies of the least word are left
  pub test-stuck : e ≡ f → Decides al rem false
  test-stuck h =
      hopeless-no al rem
      (group-stuck (subst (Grouped al (letters rem) (take a al) q t.word (sec num) f) (let z : t.groups ≡ 0 = omega (arith, t.ends) in z) t.grouped) (opens_before al a t.within))

  -- how many words there may be
  pub test-few : q ≤ f
  test-few = omega (arith, t.grouped.few)

  pub test-some : 0 < q
  test-some = t.grouped.some

  pub test-order : f ≤ e
  test-order = omega (arith, t.ends)

  module _ (other : e ≡ f → ⊥) where
    -- the last group
    abbrev g : ℕ
    g = e - 1

    abbrev c : ℕ
    c = t.groups - 1

    g-at : f + c ≡ g
    g-at = omega (arith, t.ends)

    more : Grouped al (letters rem) (take a al) q t.word (sec num) f (suc c)
    more = subst (Grouped al (letters rem) (take a al) q t.word (sec num) f) (let z : t.groups ≡ suc c = omega (arith, t.ends) in z) t.grouped

    -- how many copies it may have
    pub test-number : q + get_or num g 0 ≤ f
    test-number = group-few g g-at more

    -- it has no copies
    pub test-dropped : get_or num g 0 ≡ 0 → Testing al rem first q a f g num pre next
    test-dropped z = record {
      size = t.size;
      slots = t.slots;
      links = t.links;
      low = t.low;
      room = t.room;
      top = omega (arith, t.top);
      letters-in = t.letters-in;
      some = t.some;
      within = t.within;
      small = t.small;
      word = t.word;
      spelled = t.spelled;
      groups = c;
      ends = g-at;
      grouped = group-dropped g g-at more z;
    }

    -- its words take a copy of the least word in front
    module _ (z : get_or num g 0 ≡ 0 → ⊥) (h : get_or num g 0 < q) where
      abbrev f' : ℕ
      f' = f - 1

      f-is : suc f' ≡ f
      f-is = omega (arith, test-few)

      abbrev word' : ℕ → List ℕ
      word' i = pick (eqb i f') (take a al ++ t.word g) (t.word i)

      word-here : (i : ℕ) → i ≡ f' → word' i ≡ take a al ++ t.word g
      unfolding pick
      word-here i k = ap (λ b. pick b (take a al ++ t.word g) (t.word i)) (eq-eqb i f' k)

      word-other : (i : ℕ) → (i ≡ f' → ⊥) → word' i ≡ t.word i
      unfolding pick
      word-other i k = ap (λ b. pick b (take a al ++ t.word g) (t.word i)) (ne_eqb i f' k)

      abbrev num' : List ℕ
      num' = set num f' (get_or num g 0)

      abbrev pre' : List ℕ
      pre' = set pre f' a

      abbrev next' : List ℕ
      next' = set next f' g

      inside : f' < 80
      inside = omega (arith, f-is, t.room, t.letters-in)

      spelled' : Spelled al pre' next' first f' word'
      spelled' = record {
        letter = λ i k l. word-other i (λ q. omega (arith, f-is, t.room)) ∙ t.spelled.letter i k l;
        node = λ i k l. elim (tri f' i) [ lt x ↦ old-node i x l | eq x ↦ new-node i (sym x) | gt x ↦ absurd (omega arith) ];
        onward = λ i k l. elim (tri f' i) [
          | lt x ↦ rw (next-other i x) (t.spelled.onward i (omega (arith, f-is)) l)
          | eq x ↦ rw (next_here i (sym x)) (omega (arith, f-is, g-at))
          | gt x ↦ absurd (omega arith)
        ];
        inside = λ i k l. elim (tri f' i) [
          | lt x ↦ rw (next-other i x) (t.spelled.inside i (omega (arith, f-is)) l)
          | eq x ↦ rw (next_here i (sym x)) (omega (arith, t.top, g-at, t.ends, open-positive))
          | gt x ↦ absurd (omega arith)
        ];
        short = λ i k l. elim (tri f' i) [
          | lt x ↦ rw (pre-other i x) (t.spelled.short i (omega (arith, f-is)) l)
          | eq x ↦ rw (pre-here i (sym x)) (omega (arith, t.within))
          | gt x ↦ absurd (omega arith)
        ];
      }
        where
          open-positive : g < e
          open-positive = omega (arith, test-order, f-is)

          next_here : (i : ℕ) → i ≡ f' → get_or next' i 0 ≡ g
          next_here i x = rw x (get_or-set_same next f' g 0 (omega (arith, t.links, inside)))

          next-other : (i : ℕ) → f' < i → get_or next' i 0 ≡ get_or next i 0
          next-other i x = get_or-set_other next f' i g 0 (λ q. omega arith)

          pre-here : (i : ℕ) → i ≡ f' → get_or pre' i 0 ≡ a
          pre-here i x = rw x (get_or-set_same pre f' a 0 (omega (arith, t.slots, inside)))

          pre-other : (i : ℕ) → f' < i → get_or pre' i 0 ≡ get_or pre i 0
          pre-other i x = get_or-set_other pre f' i a 0 (λ q. omega arith)

          new-node : (i : ℕ) → i ≡ f' → word' i ≡ take (get_or pre' i 0) al ++ word' (get_or next' i 0)
          new-node i x = word-here i x ∙ rw (pre-here i x, next_here i x, word-other g (λ q. omega (arith, f-is, g-at)))

          old-node : (i : ℕ) → f' < i → i < first → word' i ≡ take (get_or pre' i 0) al ++ word' (get_or next' i 0)
          old-node i x l =
              word-other i (λ q. omega arith)
              ∙ t.spelled.node i (omega (arith, f-is)) l
              ∙ rw (pre-other i x, next-other i x, word-other (get_or next i 0) (λ q. omega (arith, t.spelled.onward i (omega (arith, f-is)) l)))

      pub test-pushed : Testing al rem first (q - get_or num g 0) a f' g num' pre' next'
      test-pushed = record {
        size = length-set num f' (get_or num g 0) ∙ t.size;
        slots = length-set pre f' a ∙ t.slots;
        links = length-set next f' g ∙ t.links;
        low = t.low;
        room = omega (arith, f-is, t.room);
        top = omega (arith, t.top);
        letters-in = t.letters-in;
        some = t.some;
        within = t.within;
        small = t.small;
        word = word';
        spelled = spelled';
        groups = suc c;
        ends = omega (arith, f-is, g-at);
        grouped =
            group-pushed g (omega (arith, f-is, g-at))
            (subst (λ x. Grouped al (letters rem) (take a al) q t.word (sec num) x (suc c)) (sym f-is) more) (opens al a t.within)
            (positive (get_or num g 0) z) h word' (sec num') (word-here f' refl)
            (get_or-set_same num f' (get_or num g 0) 0 (omega (arith, t.size, inside))) (λ i k l. word-other i (λ q. omega arith))
            (λ i k l. get_or-set_other num f' i (get_or num g 0) 0 (λ q. omega arith));
      }

    -- each copy of the least word takes one of its words behind it
    module _ (h : q ≤ get_or num g 0) where
      abbrev num'' : List ℕ
      num'' = set num g (get_or num g 0 - q)

      taken : Grouped al (letters rem) (take a al ++ t.word g) q t.word (sec num'') f (suc c)
      taken =
          group-taken g g-at more (opens al a t.within) h (sec num'')
          (get_or-set_same num g (get_or num g 0 - q) 0 (omega (arith, t.size, t.top, test-order, g-at)))
          (λ i k. get_or-set_other num g i (get_or num g 0 - q) 0 k)

      -- what comparing asks
      pub test-chained : Chained al pre next first g a
      test-chained =
          record {
            word = t.word;
            spelled = from-g;
            low = t.low;
            slots = omega (arith, t.slots, t.letters-in);
            links = omega (arith, t.links, t.letters-in);
            known = omega (arith, t.top, test-order, g-at);
            within = t.within;
          }
        where
          from-g : Spelled al pre next first g t.word
          from-g =
              record {
                letter = t.spelled.letter;
                node = λ i k l. t.spelled.node i (omega (arith, g-at)) l;
                onward = λ i k l. t.spelled.onward i (omega (arith, g-at)) l;
                inside = λ i k l. t.spelled.inside i (omega (arith, g-at)) l;
                short = λ i k l. t.spelled.short i (omega (arith, g-at)) l;
              }

      module _ (r : ℕ) (compared : Compares al pre next first g a r) where
        ranked : Ranked al (take a al ++ t.word g) r
        unfolding test-chained
        ranked = compared t.word test-chained.spelled

        -- the new least word lies under al
        pub test-under : r ≡ 0 → Decides al rem false
        test-under k = hopeless-no al rem (group-low taken (ranked.under k))

        -- it does not stand before al
        pub test-over : length al ≤ r → Decides al rem true
        test-over k = completed-yes al rem (group-yes taken (omega (arith, t.within)) (ranked.over k))

        -- it is a beginning of al
        pub test_on : (r ≡ 0 → ⊥) → r < length al → Testing al rem first q r f e num'' pre next
        test_on z k = record {
          size = length-set num g (get_or num g 0 - q) ∙ t.size;
          slots = t.slots;
          links = t.links;
          low = t.low;
          room = t.room;
          top = t.top;
          letters-in = t.letters-in;
          some = positive r z;
          within = k;
          small = t.small;
          word = t.word;
          spelled = t.spelled;
          groups = suc c;
          ends = omega (arith, g-at, test-order);
          grouped = subst (λ s. Grouped al (letters rem) s q t.word (sec num'') f (suc c)) (ranked.begins (positive r z) k) taken;
        }

        -- and longer than the one before
        pub test-longer : (r ≡ 0 → ⊥) → r < length al → a < r
        test-longer z k =
            omega (
              arith,
              ap length (ranked.begins (positive r z) k),
              lib.ListN.length-append (take a al) (t.word g),
              length-take-le a al (omega (arith, t.within)),
              length-take-le r al (omega arith),
              word-long,
            )
          where
            word-long : 0 < length (t.word g)
            word-long = Rattle.shades_laws.proofs.Groups.beyond-long (more.beyond g g (omega (arith, g-at)) (omega (arith, g-at)) (omega arith))

-- what the loop's numbers are bounded by, where there is a last group and x is its number
pub record Bounds (al : List ℕ) (first q a f e x : ℕ) (num pre next : List ℕ) : Type 0 where
  pub size : length num ≡ 80
  pub slots : length pre ≡ 80
  pub links : length next ≡ 80
  pub order : f < e
  pub top : e ≤ 80
  pub some : 0 < q
  pub few : q + x ≤ f
  pub within : a < length al
  pub small : length al ≤ 64

pub test-bounds : {al rem : List ℕ} {first q a f e : ℕ} {num pre next : List ℕ} → Testing al rem first q a f e num pre next → (e ≡ f → ⊥) → Bounds al first q a
    f e (get_or num (e - 1) 0) num pre next
test-bounds {f = f} {e = e} t other = record {
  size = t.size;
  slots = t.slots;
  links = t.links;
  order = elim (tri f e) [ lt h ↦ h | eq h ↦ absurd (other (sym h)) | gt h ↦ absurd (omega (arith, test-order t)) ];
  top = t.top;
  some = test-some t;
  few = test-number t other;
  within = t.within;
  small = t.small;
}
