-- Shades to which the pool leaves no completion.
--     barred-none        no such shade is left
--     barred-pool, fitting-pool           the pool leaves no completion, or it leaves one
--     allows-none, allows-pool            what that is for the answer
--     first-tell         nothing is left of the shades that are not told
--     counts-long        the letters of a word are as many as its counts say
--     completing         what the pool asks
--     raised-lyndon      raising a sector of a prenecklace and cutting behind it gives a Lyndon word
--     left-start, left-more, left_end     the least shade that is left
--     lift-none, lift-asks, lift-found, lift-not    the shades above that at a place
use Rattle.words.proofs.Plain.{ℕ, zero, suc, ◌+◌, ◌-◌, ◌<◌, ◌≤◌, add-one, arith, ◌≡◌, refl, sym, ◌∙◌, subst, Bool, true, false, true≢false, List, [], ◌∷◌, ◌++◌}
use Rattle.words.proofs.Plain.{append_assoc, length, get_or, take, set, length-set, length-append, List·get_d-append, List·get_d-eq-default, get_or-set_same}
use Rattle.words.proofs.Plain.{get_or-set_other, take-suc-set, length-take-le, get_or-take, get_or_at, set_out}
use Rattle.words.proofs.Split.{lt, eq, gt, tri}
use Rattle.words.proofs.Sequence.{sec}
use Rattle.rings.specs.{Necklace.lyndon, Prenecklace.prenecklace, Counts.occurs}
use Rattle.ring_laws.proofs.{Run.Lyn, Run.pre-through, Raise.raise-lyn, Words.pre-of, Lyndon.lyndon-of}
use Rattle.words.specs.Sum.{sum_of}
use Rattle.shades_completable_inner.specs.Completion.{Completing, Hopeless, Hopeful, Decides}
use Rattle.shades_lift_inner.specs.Lifts.{Barred, Fitting, Allows, Possible, LeftFrom, Liftable, LiftedTo}
use Rattle.shades_lift_inner.proofs.Lower.{barred-above}
use Rattle.shades_tally_inner.proofs.Tallying.{occurs-none, occurs-here, occurs-other}
use Rattle.shades_tally_inner.proofs.Leaving.{sum-le}

-- no such shade is left
pub barred-none : (u : List ℕ) (b : ℕ) (rem : List ℕ) → get_or rem b 0 ≡ 0 → Barred u b rem
barred-none u b rem e v h n = omega (arith, h b, occurs-here b b v refl)

-- one of the shade b less is left
abbrev pub less_one : List ℕ → ℕ → List ℕ
less_one rem b = set rem b (get_or rem b 0 - 1)

-- the counts of a word without its first letter
less-counts : (b : ℕ) (rem v : List ℕ) → b < length rem → ((x : ℕ) → occurs x (b ∷ v) ≡ get_or rem x 0) → (x : ℕ) → occurs x v ≡ get_or (less_one rem b) x 0
less-counts b rem v l c x =
    elim (tri b x) [
      | lt e ↦ other (λ q. omega arith)
      | eq e ↦ rw (← e, get_or-set_same rem b (get_or rem b 0 - 1) 0 l) (omega (arith, c b, occurs-here b b v refl))
      | gt e ↦ other (λ q. omega arith)
    ]
  where
    other : (b ≡ x → ⊥) → occurs x v ≡ get_or (less_one rem b) x 0
    other q = sym (occurs-other b x v q) ∙ c x ∙ sym (get_or-set_other rem b x (get_or rem b 0 - 1) 0 (λ e. q (sym e)))

-- and with a letter put in front
more-counts : (b : ℕ) (rem v : List ℕ) → b < length rem → (get_or rem b 0 ≡ 0 → ⊥) → ((x : ℕ) → occurs x v ≡ get_or (less_one rem b) x 0) → (x : ℕ) → occurs x (b ∷ v) ≡ get_or rem x 0
more-counts b rem v l z c x =
    elim (tri b x) [
      | lt e ↦ other (λ q. omega arith)
      | eq e ↦ rw (← e) (omega (arith, c b, occurs-here b b v refl, get_or-set_same rem b (get_or rem b 0 - 1) 0 l))
      | gt e ↦ other (λ q. omega arith)
    ]
  where
    other : (b ≡ x → ⊥) → occurs x (b ∷ v) ≡ get_or rem x 0
    other q = occurs-other b x v q ∙ c x ∙ get_or-set_other rem b x (get_or rem b 0 - 1) 0 (λ e. q (sym e))

-- the pool leaves no completion
pub barred-pool : (u : List ℕ) (b : ℕ) (rem : List ℕ) → b < length rem → Hopeless (u ++ b ∷ []) (less_one rem b) → Barred u b rem
barred-pool u b rem l h v c n = h [] v (less-counts b rem v l c) (rw append_assoc n)

-- or it leaves one
pub fitting-pool : (u : List ℕ) (b : ℕ) (rem : List ℕ) → b < length rem → (get_or rem b 0 ≡ 0 → ⊥) → Hopeful (u ++ b ∷ []) (less_one rem b) → Fitting u b rem
fitting-pool u b rem l z h = record { rest = h.rest; letters = more-counts b rem h.rest l z h.letters; whole = rw append_assoc at h.whole }

-- no such shade is left
pub allows-none : (u : List ℕ) (b : ℕ) (rem : List ℕ) → get_or rem b 0 ≡ 0 → Allows u b rem false
allows-none u b rem e = record { yes = λ q. absurd (true≢false (sym q)); no = λ q. barred-none u b rem e }

-- the pool decides
pub allows-pool : (u : List ℕ) (b : ℕ) (rem : List ℕ) (r : Bool) → b < length rem → (get_or rem b 0 ≡ 0 → ⊥) → Decides (u ++ b ∷ []) (less_one rem b) r → Allows u b rem r
allows-pool u b rem r l z d = record { yes = λ q. fitting-pool u b rem l z (d.yes q); no = λ q. barred-pool u b rem l (d.no q) }

-- where nothing is left of the shades from k on, the first k counts tell all
pub first-tell : (k : ℕ) (rem : List ℕ) → k ≤ length rem → ((x : ℕ) → k ≤ x → get_or rem x 0 ≡ 0) → (x : ℕ) → get_or (take k rem) x 0 ≡ get_or rem x 0
first-tell k rem few past x = elim (tri x k) [ lt h ↦ get_or-take k rem x 0 h | eq h ↦ none (omega arith) | gt h ↦ none (omega arith) ]
  where
    none : k ≤ x → get_or (take k rem) x 0 ≡ get_or rem x 0
    none h = List·get_d-eq-default (take k rem) 0 {n = x} (omega (arith, length-take-le k rem few)) ∙ sym (past x h)

-- the same where nothing is left of the shades from k on, which are not told
pub allows-part : (u : List ℕ) (b k : ℕ) (rem : List ℕ) (r : Bool) → b < k → k ≤ length rem → ((x : ℕ) → k ≤ x → get_or rem x 0 ≡ 0) →
    (get_or rem b 0 ≡ 0 → ⊥) → Decides (u ++ b ∷ []) (take k (less_one rem b)) r → Allows u b rem r
allows-part u b k rem r l few past z d =
    allows-pool u b rem r (omega arith) z (record {
      yes = λ q. let h = d.yes q in record { rest = h.rest; letters = λ x. h.letters x ∙ told x; whole = h.whole };
      no = λ q y v c n. d.no q y v (λ x. c x ∙ sym (told x)) n;
    })
  where
    told : (x : ℕ) → get_or (take k (less_one rem b)) x 0 ≡ get_or (less_one rem b) x 0
    told = first-tell k (less_one rem b) (omega (arith, length-set rem b (get_or rem b 0 - 1))) (λ x h. get_or-set_other rem b x (get_or rem b 0 - 1) 0 (λ q. omega arith) ∙ past x h)

-- the letters of a word are as many as its counts say
pub counts-long : (v cs : List ℕ) → ((b : ℕ) → occurs b v ≡ get_or cs b 0) → length v ≡ sum_of cs
unfolding sum_of
counts-long [] cs c = omega (arith, sum-le cs [] (λ b. omega (arith, c b, occurs-none b)))
counts-long (a ∷ v) cs c = omega (arith, counts-long v (less_one cs a) (less-counts a cs v inside c), sum_less cs a some)
  where
    some : 0 < get_or cs a 0
    some = omega (arith, c a, occurs-here a a v refl)

    inside : a < length cs
    inside =
        elim (tri a (length cs)) [
          | lt h ↦ h
          | eq h ↦ absurd (omega (arith, some, List·get_d-eq-default cs 0 {n = a} (omega arith)))
          | gt h ↦ absurd (omega (arith, some, List·get_d-eq-default cs 0 {n = a} (omega arith)))
        ]

    sum_less : (cs : List ℕ) (a : ℕ) → 0 < get_or cs a 0 → suc (sum_of (less_one cs a)) ≡ sum_of cs
    sum_less [] a z = absurd (omega arith)
    sum_less (x ∷ cs) zero z = omega arith
    sum_less (x ∷ cs) (suc a) z = omega (arith, sum_less cs a z)

-- one less is left in no greater a sum
less-sum : (rem : List ℕ) (b : ℕ) → sum_of (less_one rem b) ≤ sum_of rem
less-sum rem b = sum-le (less_one rem b) rem (λ x. elim (tri x b) [ lt e ↦ other x (λ q. omega arith) | eq e ↦ here x e | gt e ↦ other x (λ q. omega arith) ])
  where
    other : (x : ℕ) → (x ≡ b → ⊥) → get_or (less_one rem b) x 0 ≤ get_or rem x 0
    other x q = omega (arith, get_or-set_other rem b x (get_or rem b 0 - 1) 0 q)

    here : (x : ℕ) → x ≡ b → get_or (less_one rem b) x 0 ≤ get_or rem x 0
    here x e =
        elim (tri b (length rem)) [
          | lt l ↦ rw e (omega (arith, get_or-set_same rem b (get_or rem b 0 - 1) 0 l))
          | eq l ↦ rw (set_out rem b (get_or rem b 0 - 1) (omega arith)) (omega arith)
          | gt l ↦ rw (set_out rem b (get_or rem b 0 - 1) (omega arith)) (omega arith)
        ]

-- what the pool asks
pub completing : (w : List ℕ) (l b k : ℕ) (rem : List ℕ) → Possible w l b k rem → Completing (take (l + 1) (set w l b)) (take k (less_one rem b))
completing w l b k rem p = record {
  lyndon-al = rw (add-one l, take-suc-set w l b (omega (arith, p.inside, p.size))) p.lyndon-al;
  small = omega (arith, length-take-le (l + 1) (set w l b) (omega (arith, length-set w l b, p.inside, p.size)), p.inside);
  shades = omega (arith, length-take-le k (less_one rem b) (omega (arith, length-set rem b (get_or rem b 0 - 1), p.shades, p.slots)), p.shades);
  room = omega (arith, sum-le (take k (less_one rem b)) (less_one rem b) part, less-sum rem b, p.room);
}
  where
    part : (x : ℕ) → get_or (take k (less_one rem b)) x 0 ≤ get_or (less_one rem b) x 0
    part x = elim (tri x k) [ lt h ↦ omega (arith, get_or-take k (less_one rem b) x 0 h) | eq h ↦ none (omega arith) | gt h ↦ none (omega arith) ]
      where
        none : k ≤ x → get_or (take k (less_one rem b)) x 0 ≤ get_or (less_one rem b) x 0
        none h =
            omega (
              arith,
              List·get_d-eq-default (take k (less_one rem b)) 0 {n = x} (omega (arith, length-take-le k (less_one rem b) (omega (arith, length-set rem b (get_or rem b 0 - 1), p.shades, p.slots)))),
            )

-- raising a sector of a prenecklace and cutting behind it gives a Lyndon word
pub raised-lyndon : (w : List ℕ) (l b : ℕ) → l < length w → prenecklace (take (suc l) w) ≡ true → sec w l < b → lyndon (take l w ++ b ∷ []) ≡ true
raised-lyndon w l b inside pre h = lyndon-of al (omega (arith, long)) (subst (Lyn (sec al)) (sym long) (raise-lyn (sec w) (sec al) l first keep (omega (arith, last))))
  where
    al : List ℕ
    al = take l w ++ b ∷ []

    short : length (take l w) ≡ l
    short = length-take-le l w (omega arith)

    long : length al ≡ suc l
    long = omega (arith, length-append (take l w) (b ∷ []), short)

    keep : (m : ℕ) → m < l → sec w m ≡ sec al m
    keep m k = sym (List·get_d-append (take l w) (b ∷ []) 0 m (omega (arith, short)) ∙ get_or-take l w m 0 k)

    last : sec al l ≡ b
    last = get_or_at (take l w) b [] 0 l short

    first : Rattle.ring_laws.proofs.Run.Pre (sec w) (suc l)
    first = pre-through (sec (take (suc l) w)) (sec w) (suc l) (λ m k. get_or-take (suc l) w m 0 k) (rw (length-take-le (suc l) w (omega arith)) at (pre-of (take (suc l) w) pre))

-- ---- the least shade that is left

-- no shade from b up to x is left
pub record Leftless (rem : List ℕ) (b k x : ℕ) : Type 0 where
  pub from : b ≤ x
  pub most : x ≤ k
  pub none : (y : ℕ) → b ≤ y → y < x → get_or rem y 0 ≡ 0

pub left-start : (rem : List ℕ) (b k : ℕ) → b ≤ k → Leftless rem b k b
left-start rem b k h = record { from = omega arith; most = h; none = λ y p q. absurd (omega arith) }

pub left-more : (rem : List ℕ) (b k x : ℕ) → Leftless rem b k x → x < k → get_or rem x 0 ≡ 0 → Leftless rem b k (x + 1)
left-more rem b k x p h z = record { from = omega (arith, p.from); most = omega arith; none = λ y m q. elim (tri y x) [ lt e ↦ p.none y m e | eq e ↦ rw e z | gt e ↦ absurd (omega arith) ] }

pub left_end : (rem : List ℕ) (b k x : ℕ) → Leftless rem b k x → (x < k → get_or rem x 0 ≡ 0 → ⊥) → LeftFrom rem b k x
left_end rem b k x p h = record { from = p.from; most = p.most; none = p.none; some = h }

-- ---- the shades above that at place l

module _ (w : List ℕ) (l k : ℕ) (rem : List ℕ) (r : ℕ) (p : Liftable w l k rem) (left : LeftFrom rem (sec w l + 1) k r) where
  -- each below the least that is left is barred
  below-barred : (b : ℕ) → sec w l < b → b < r → Barred (take l w) b rem
  below-barred b h m = barred-none (take l w) b rem (left.none b (omega arith) m)

  -- none is left
  pub lift-none : r ≡ k → LiftedTo w l k rem k
  lift-none e = record { lifted = record { above = p.low; most = omega arith; barred = λ b h m. below-barred b h (omega arith) }; fitting = λ h. absurd (omega arith) }

  module _ (some : r ≡ k → ⊥) where
    -- what is asked of the least that is left
    pub lift-asks : Possible w l r k rem
    lift-asks = record {
      size = p.size;
      slots = p.slots;
      inside = p.inside;
      shades = p.shades;
      shade = omega (arith, left.most);
      past = p.past;
      room = p.room;
      lyndon-al = raised-lyndon w l r (omega (arith, p.inside, p.size)) p.pre (omega (arith, left.from));
    }

    -- some word goes on with it
    pub lift-found : Fitting (take l w) r rem → LiftedTo w l k rem r
    lift-found f = record { lifted = record { above = omega (arith, left.from); most = left.most; barred = below-barred }; fitting = λ h. f }

    -- it is barred, and so is each greater one
    pub lift-not : Barred (take l w) r rem → LiftedTo w l k rem k
    lift-not x =
        record {
          lifted =
              record {
                above = p.low;
                most = omega arith;
                barred =
                    λ b h m. elim (tri b r) [
                      | lt e ↦ below-barred b h e
                      | eq e ↦ subst (λ y. Barred (take l w) y rem) (sym e) x
                      | gt e ↦ barred-above (take l w) r b rem e (raised r (omega (arith, left.from))) (raised b h) (left.some (omega (arith, left.most))) x
                    ];
              };
          fitting = λ h. absurd (omega arith);
        }
      where
        raised : (b : ℕ) → sec w l < b → lyndon (take l w ++ b ∷ []) ≡ true
        raised b h = raised-lyndon w l b (omega (arith, p.inside, p.size)) p.pre h
