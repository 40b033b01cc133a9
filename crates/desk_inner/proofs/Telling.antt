-- Only the first 4096 bytes of a line tell what it prints: a longer line is malformed.
use Rattle.words.proofs.Plain.{ℕ, ◌<◌, arith, dec_lt, List, length, take, length-take, take_all}
use Rattle.stream_spec.specs.Texts.{Tells}
use Rattle.desk_spec.specs.{Questions.good, Questions.bad, Answers.DeskAnswers}
use Rattle.desk_spec.proofs.Unique.{one_answer}

-- a line that is too long prints what any other does
long : (s u t : List ℕ) → 4095 < length s → 4095 < length u → DeskAnswers s t → DeskAnswers u t
long s u t h g (good q x y) = absurd (omega (arith, h, x.within))
long s u t h g (bad n e) = bad (λ q x. omega (arith, g, x.within)) e

first-long : (s : List ℕ) → 4095 < length s → 4095 < length (take 4096 s)
first-long s h = simp length-take (omega arith)

pub desk-tells : Tells DeskAnswers 4096
desk-tells =
    record {
      some = omega arith;
      one = one_answer;
      first = λ s t p. elim (dec_lt 4095 (length s)) [ yes h ↦ long (take 4096 s) s t (first-long s h) h p | no h ↦ rw (take_all 4096 s (omega arith)) at p ];
      kept = λ s t p. elim (dec_lt 4095 (length s)) [ yes h ↦ long s (take 4096 s) t h (first-long s h) p | no h ↦ rw (take_all 4096 s (omega arith)) p ];
    }
