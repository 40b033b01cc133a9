-- An order of checks whose facts are told by tests computes its answer, so that it always has one.
--     Tests o      a test for each check of o
--     answer t     the refusal that is given, or none
--     Answers o u  what the answer u says
--     answered     it holds
--     given-answer, passed-answer    so a refusal that is given, and that no check fails, each determine the computed answer
use Rattle.words.proofs.Plain.{ℕ, ◌<◌, arith, ◌≡◌, refl, sym, ap, inl, inr, Bool, true, false, not, Option, none, some, ltb, ltb-true, ltb-false}
use Rattle.words.specs.Search.{least}
use Rattle.words.proofs.Search.{least_at, least-none}
use Rattle.words.proofs.Split.{passes, fails, test}
use Rattle.refusal.specs.declared.Refusal.{Refusal}
use Rattle.refusal.specs.Order.{Checks, fact, each, only, ◌▸◌, Passed, Given}
use Rattle.refusal.proofs.{Unique.one-refusal, Unique.never_both, Facts.Tells, Facts.lacking}

infixl 5 ◌▹◌
pub data Tests : Checks → Type 1 where
  one : {P : Type 0} {x : Refusal} (b : Bool) → Tells b P → Tests (fact P x)
  all : {m : ℕ} {Q : ℕ → Type 0} {x : ℕ → Refusal} (f : ℕ → Bool) → ((i : ℕ) → Tells (f i) (Q i)) → Tests (each m Q x)
  when : {P : Type 0} {o : Checks} (b : Bool) → Tells b P → Tests o → Tests (only P o)
  ◌▹◌ : {o q : Checks} → Tests o → Tests q → Tests (o ▸ q)

-- r where the test fails
unfoldable pub unless : Bool → Refusal → Option Refusal
unless true r = none
unless false r = some r

-- the first answer, or else the second
unfoldable pub or_else : Option Refusal → Option Refusal → Option Refusal
or_else none u = u
or_else (some r) u = some r

-- the first place below m whose test fails, or m
unfoldable pub failing : ℕ → (ℕ → Bool) → ℕ
failing m f = least m (λ i. not (f i))

unfoldable pub answer : {o : Checks} → Tests o → Option Refusal
answer (one {x = x} b t) = unless b x
answer (all {m = m} {x = x} f t) = elim (ltb (failing m f) m) [ true ↦ some (x (failing m f)) | false ↦ none ]
answer (when b t s) = elim b [ true ↦ answer s | false ↦ none ]
answer (s ▹ t) = or_else (answer s) (answer t)

-- what an answer says
abbrev pub Answers : Checks → Option Refusal → Type 0
Answers o none = Passed o
Answers o (some r) = Given o r

fact-answered : (P : Type 0) (x : Refusal) (b : Bool) → Tells b P → Answers (fact P x) (unless b x)
unfolding unless
fact-answered P x true t = t.holds refl
fact-answered P x false t = (refl, lacking t refl)

both-answered : (o q : Checks) (u v : Option Refusal) → Answers o u → Answers q v → Answers (o ▸ q) (or_else u v)
unfolding or_else
both-answered o q none none a b = (a, b)
both-answered o q none (some r) a b = inr (a, b)
both-answered o q (some r) v a b = inl a

only-answered : (P : Type 0) (o : Checks) (b : Bool) (u : Option Refusal) → Tells b P → Answers o u → Answers (only P o) (elim b [ true ↦ u | false ↦ none ])
only-answered P o true none t a = λ p. a
only-answered P o true (some r) t a = (t.holds refl, a)
only-answered P o false u t a = λ p. absurd (lacking t refl p)

not-not : (b : Bool) → not b ≡ false → b ≡ true
not-not true e = refl
not-not false e = sym e

not_is : (b : Bool) → not b ≡ true → b ≡ false
not_is true e = sym e
not_is false e = refl

module _ (m : ℕ) (Q : ℕ → Type 0) (x : ℕ → Refusal) (f : ℕ → Bool) (t : (i : ℕ) → Tells (f i) (Q i)) where
  before : (i : ℕ) → i < failing m f → Q i
  unfolding failing
  before i h = (t i).holds (not-not (f i) (least-none m (λ j. not (f j)) i h))

  fails-there : failing m f < m → f (failing m f) ≡ false
  unfolding failing
  fails-there h = not_is (f (least m (λ i. not (f i)))) (least_at m (λ i. not (f i)) h)

  each-answered : Answers (each m Q x) (elim (ltb (failing m f) m) [ true ↦ some (x (failing m f)) | false ↦ none ])
  each-answered =
      let p = failing m f in
      elim (test (ltb p m)) [
        | passes e ↦ rw e (p, refl, record { within = ltb-true p m e; first = before; here = lacking (t p) (fails-there (ltb-true p m e)) })
        | fails e ↦ rw e (λ i h. before i (omega (arith, ltb-false p m e)))
      ]

pub answered : {o : Checks} (t : Tests o) → Answers o (answer t)
unfolding answer
answered (one {P} {x} b t) = fact-answered P x b t
answered (all {m} {Q} {x} f t) = each-answered m Q x f t
answered (when {P} {o} b t s) = only-answered P o b (answer s) t (answered s)
answered (◌▹◌ {o} {q} s t) = both-answered o q (answer s) (answer t) (answered s) (answered t)

-- ---- the computed answer is the only one

pub given-answer : {o : Checks} (t : Tests o) (r : Refusal) → Given o r → answer t ≡ some r
given-answer {o} t r g = go (answer t) (answered t)
  where
    go : (u : Option Refusal) → Answers o u → u ≡ some r
    go none a = absurd (never_both o r g a)
    go (some q) a = ap some (one-refusal o q r a g)

pub passed-answer : {o : Checks} (t : Tests o) → Passed o → answer t ≡ none
passed-answer {o} t p = go (answer t) (answered t)
  where
    go : (u : Option Refusal) → Answers o u → u ≡ none
    go none a = refl
    go (some q) a = absurd (never_both o q a p)
