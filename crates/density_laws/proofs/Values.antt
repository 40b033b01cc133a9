-- What a value is (02, i).
--     Kind, kind        a value is no number, out or in; only one of them: density_spec, Unique
--     in-from, in-to    a value that is in is from 0 to 1: 0 <= x, x <= 1
--     from-to-in        and each such value is in
use Rattle.words.proofs.Plain.{◌≡◌, refl, inl, inr, false, T}
use lib.Ieee.{Float, of_bits, of_fields, lt, le, ne}
use Rattle.words.proofs.Split.{passes, fails, test}
use Rattle.density_spec.specs.Cuts.{NoNumber, Out, In, zero32, one32}
use Rattle.density_laws.proofs.Floats.{le-lt, lt-le, le-number}

pub data Kind (x : Float) : Type 0 where
  no_number : NoNumber x → Kind x
  out : Out x → Kind x
  within : In x → Kind x

pub kind : (x : Float) → Kind x
kind x =
    elim (test (ne x x)) [
      | passes p ↦ no_number p
      | fails p ↦
          elim (test (lt x zero32)) [
            | passes q ↦ out (p, inl q)
            | fails q ↦ elim (test (lt one32 x)) [ passes r ↦ out (p, inr r) | fails r ↦ within (p, q, r) ]
          ]
    ]

zero_number : ne zero32 zero32 ≡ false
unfolding ne of_bits of_fields
zero_number = refl

one_number : ne one32 one32 ≡ false
unfolding ne of_bits of_fields
one_number = refl

pub in-from : (x : Float) → In x → T (le zero32 x)
in-from x h = lt-le zero32 x zero_number h.0 h.1

pub in-to : (x : Float) → In x → T (le x one32)
in-to x h = lt-le x one32 h.0 one_number h.2

pub from-to-in : (x : Float) → T (le zero32 x) → T (le x one32) → In x
from-to-in x a b = (le-number x one32 b, le-lt zero32 x a, le-lt x one32 b)
