-- What a text behind a verb prints, worked out by hand.
--     passes, refusing      a call whose computed answer is no refusal passes its checks; a refusal that is the computed answer is given
--     next-text             `next 2 0011`: 0101 is the next necklace, and no prenecklace stands between the two; the next Lyndon word is 0111
--     first-text            `first 2 0,0`: a ring of no sectors, since the counts are 0 together
--     same_text             `same 2 001 011`: two rings
--     sight-text            `sight 2 0 0011 011`: a ring of four sectors and a reading of three
use Rattle.words.proofs.Plain.{ℕ, zero, suc, ◌<◌, arith, ◌≡◌, refl, false, inr, none, some, List, [], ◌∷◌, get_or}
use Rattle.text_spec.specs.{Ascii.ascii, Decimal.decimal, Decimal.decimal_in}
use Rattle.text_fill_spec.specs.Filled.{filled_text}
use Rattle.text_words_spec.specs.Words.{pieces, onto, Nibbles}
use Rattle.words.specs.Sum.{sum_of}
use Rattle.rings.specs.Open.{open-all}
use Rattle.refusal.specs.{declared.Refusal.Refusal, declared.Refusal.TheVariants.Length, declared.Refusal.TheVariants.Pair}
use Rattle.refusal.specs.Order.{Passed, Given}
use Rattle.refusal.specs.Calls.{Asked, general, ask_reading, ask_two, ask_first, counted_first}
use Rattle.refusal.proofs.Facts.{within, passing}
use Rattle.refusal.proofs.Tests.{unless, or_else, failing, answer}
use Rattle.refusal.proofs.Answer.{tests, refusal_of, decided}
use Rattle.walk_spec.specs.declared.Outcome.TheVariants.{Moved}
use Rattle.walk_reading_spec.specs.Says.{reading_asked}
use Rattle.std.specs.Prelude.{Ok, Err}
use Rattle.desk_spec.specs.{declared.Step.TheVariants.Necklace, declared.About.TheVariants.Step}
use Rattle.desk_spec.specs.{declared.Both.TheVariants.Same, Questions.good, Sights.AsLong, Sights.unlike, Answers.VerbSays}
use Rattle.desk_spec.specs.declared.Verb.TheVariants.{About, Both, First, Sight}

-- a call that is given no refusal passes its checks
passes : (a : Asked) → refusal_of a ≡ none → Passed (general a)
passes a e = rw e at (decided a)

-- counts of which the refusal r is given, with an output of n places
refusing : (n k : ℕ) (cs : List ℕ) (r : Refusal) → refusal_of (ask_first n k cs) ≡ some r → Given (counted_first n k cs) r
refusing n k cs r e = rw e at (decided (ask_first n k cs))

-- the digits of a reading: the third check of a reading in 16 shades
digits : (w : List ℕ) → refusal_of (ask_reading w 16) ≡ none → Nibbles w
digits w e = (passes (ask_reading w 16) e).0.0.0.1

abbrev w0011 : List ℕ
w0011 = 0 ∷ 0 ∷ 1 ∷ 1 ∷ []

abbrev w001 : List ℕ
w001 = 0 ∷ 0 ∷ 1 ∷ []

abbrev w011 : List ℕ
w011 = 0 ∷ 1 ∷ 1 ∷ []

pub next-text : VerbSays (About (Step Necklace)) (ascii "2 0011") (ascii "next 0101 moves 1\n")
unfolding open-all pieces onto decimal decimal_in filled_text refusal_of tests answer unless or_else failing within passing
next-text =
    good (2, w0011) (record { short = omega arith; sectors = digits w0011 refl; words = refl })
    (record { answer = (Ok (Moved 1), 0 ∷ 1 ∷ 0 ∷ 1 ∷ []); says = (passes (reading_asked w0011 2 4) refl, refl, refl); is = refl })

pub first-text : VerbSays First (ascii "2 0,0") (ascii "refused 1 at 0\n")
unfolding open-all pieces onto decimal decimal_in filled_text refusal_of tests answer unless or_else failing within passing sum_of
first-text =
    good (2, 0 ∷ 0 ∷ [])
    (record { short = omega arith; word = ascii "0,0"; counts = record { each = each; numbers = refl }; words = refl })
    (record { answer = (Err (Length 0), _); says = (refusing _ 2 (0 ∷ 0 ∷ []) (Length 0) refl, refl); is = refl })
  where
    each : (i : ℕ) → i < 2 → get_or (0 ∷ 0 ∷ []) i 0 < 1000
    each zero h = omega arith
    each (suc zero) h = omega arith
    each (suc (suc i)) h = absurd (omega arith)

pub same_text : VerbSays (Both Same) (ascii "2 001 011") (ascii "no\n")
unfolding open-all pieces onto decimal decimal_in filled_text refusal_of tests answer unless or_else failing within passing
same_text =
    good (2, w001, w011) (record { short = omega arith; sectors = digits w001 refl; others = digits w011 refl; words = refl })
    (record { answer = Ok false; says = (passes (ask_two w001 w011 2) refl, refl); is = refl })

pub sight-text : VerbSays Sight (ascii "2 0 0011 011") (ascii "refused 10 at 0\n")
unfolding open-all pieces onto decimal decimal_in filled_text refusal_of tests answer unless or_else failing within passing
sight-text =
    good (2, 0, w0011 ∷ [], w011)
    (record { short = omega arith; second = omega arith; rings = rings; sectors = digits w011 refl; words = refl })
    (record { answer = Err Pair; says = unlike longer Pair (inr ((omega arith, omega arith), (refl, longer))) refl; is = refl })
  where
    rings : (j : ℕ) → j < 1 → Nibbles (get_or (w0011 ∷ []) j [])
    rings zero h = digits w0011 refl
    rings (suc j) h = absurd (omega arith)

    longer : AsLong 3 (w0011 ∷ []) → ⊥
    longer f = omega (arith, f 0 (omega arith))
