-- The general order computes its answer: `refusal_of a` is the refusal that a call which asks `a` is given, or none.
--     tests a     the tests of its checks
--     decided     what the computed answer says holds, so that every call has one
use Rattle.words.proofs.Plain.{◌≡◌, ◌&&◌, Option, ltb, eqb, length, get_or}
use Rattle.words.specs.Sum.{sum_of}
use Rattle.refusal.specs.declared.Refusal.{Refusal}
use Rattle.refusal.specs.Calls.{Asked, CountsFit, general}
use Rattle.refusal.proofs.Facts.{both-tell, below-tells, equal-tells, same-tells, within, within-tells, passing, passing-tells}
use Rattle.refusal.proofs.Tests.{Tests, one, all, ◌▹◌, answer, Answers, answered}

unfoldable pub tests : (a : Asked) → Tests (general a)
tests a =
    one (within 1 a.n 64) (within-tells 1 a.n 64)
    ▹ one (passing a.second (λ m. eqb m a.n)) (passing-tells a.second (λ m. eqb m a.n) (λ m. m ≡ a.n) (λ m. equal-tells m a.n))
    ▹ one (within 2 a.k 16) (within-tells 2 a.k 16)
    ▹ all (λ i. ltb (get_or a.sectors i 0) (a.limit i)) (λ i. below-tells (get_or a.sectors i 0) (a.limit i))
    ▹ one (passing a.room (λ m. eqb m a.n)) (passing-tells a.room (λ m. eqb m a.n) (λ m. m ≡ a.n) (λ m. equal-tells m a.n))
    ▹ one (passing a.counts (λ cs. eqb (length cs) a.k && eqb (sum_of cs) a.n))
    (passing-tells a.counts (λ cs. eqb (length cs) a.k && eqb (sum_of cs) a.n) (λ cs. CountsFit cs a.k a.n)
    (λ cs. both-tell (equal-tells (length cs) a.k) (equal-tells (sum_of cs) a.n)))
    ▹ one a.on_walk (same-tells a.on_walk)

-- the refusal that is given, or none
unfoldable pub refusal_of : Asked → Option Refusal
refusal_of a = answer (tests a)

pub decided : (a : Asked) → Answers (general a) (refusal_of a)
unfolding refusal_of
decided a = answered (tests a)
