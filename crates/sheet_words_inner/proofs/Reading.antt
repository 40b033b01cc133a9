-- The words of a line one after another.
--     number_is, no_number_lem               what a word is that is no name
--     told                                   whether a text is a name
--     word-1, word-2, word-3, word-4, word_none    what a word is, by the names that it is not
--     split-pieces, asked-fold           all words of a line, one after another
use Rattle.words.proofs.Plain.{ℕ, zero, suc, ◌+◌, ◌-◌, ◌/◌, ◌<◌, ◌≤◌, arith, dec_lt, ◌≡◌, refl, sym, ap, ◌∙◌, Bool, true, false, List, [], ◌∷◌, ltb, length}
use Rattle.words.proofs.Plain.{eqb, lt-ltb, le-ltb}
use mathlib.Core.Bool.{◌&&◌}
use lib.Pointwise.{pointwise}
use native.Mathlib.Nat.{div-eq_of_lt}
use Rattle.words.specs.{Order.same, Search.least}
use Rattle.words.proofs.Lex.{same_true, true_same, same_false}
use Rattle.words.proofs.Split.{passes, fails, test}
use Rattle.words.proofs.Search.{least-le, least_at, least-is}
use Rattle.text_spec.specs.{Ascii.ascii, Decimal.decimal}
use Rattle.text_spec.proofs.Digits.{decimal-one}
use Rattle.std.specs.List.{slice_split, onto_first, fold}
use Rattle.text_words_spec.specs.Words.{pieces, onto}
use Rattle.sheet_spec.specs.declared.Sheet.{Sheet}
use Rattle.sheet_words_spec.specs.{declared.Word.Word, declared.Asked.Asked, declared.Awaits.Awaits}
use Rattle.sheet_words_spec.specs.declared.Word.TheVariants as W
use Rattle.sheet_words_spec.specs.declared.Awaits.TheVariants as A
use Rattle.sheet_words_spec.specs.Words.{number_in, called_by, number_or_other, word_of, nothing_asked, meant, asked, meant_name, awaiting, columns_for, with_columns, fitted, EndsWith}

-- ---- a word

number-in : (t : List ℕ) (x : ℕ) → x < 1000 → t ≡ decimal x → number_in t ≡ x
unfolding number_in
number-in t x l e =
    least-is 1000 (λ y. same t (decimal y)) x l (true_same t (decimal x) e) (λ j h. same_false t (decimal j) (λ q. omega (arith, h, decimal-one j x (sym q ∙ e))))

number-none : (t : List ℕ) → ((x : ℕ) → x < 1000 → t ≡ decimal x → ⊥) → 1000 ≤ number_in t
unfolding number_in
number-none t h =
    let m = least 1000 (λ y. same t (decimal y)) in
    elim (dec_lt m 1000) [ yes l ↦ absurd (h m l (same_true t (decimal m) (least_at 1000 (λ y. same t (decimal y)) l))) | no l ↦ omega arith ]

number-known : (x : ℕ) → x < 1000 → W.Number x ≡ number_or_other x
unfolding number_or_other
number-known x h = rw (lt-ltb x 1000 h, number_or_other) refl

pub number_is : (t : List ℕ) (x : ℕ) → (x < 1000) × (t ≡ decimal x) → W.Number x ≡ number_or_other (number_in t)
number_is t x h = number-known x h.0 ∙ ap number_or_other (sym (number-in t x h.0 h.1))

pub no_number_lem : (t : List ℕ) → ((x : ℕ) → x < 1000 → t ≡ decimal x → ⊥) → W.Other ≡ number_or_other (number_in t)
unfolding number_or_other
no_number_lem t h = rw (le-ltb (number_in t) 1000 (number-none t h), number_or_other) refl

-- ---- the names

same-pointwise : (v w : List ℕ) → same v w ≡ pointwise eqb v w
unfolding same
same-pointwise [] [] = refl
same-pointwise [] (b ∷ w) = refl
same-pointwise (a ∷ v) [] = refl
same-pointwise (a ∷ v) (b ∷ w) = ap (λ (x : Bool). eqb a b && x) (same-pointwise v w)

-- whether a text is a name
pub told : (t u name : List ℕ) (b : Bool) → u ≡ name → b ≡ pointwise eqb t u → same t name ≡ b
told t u name b e f = same-pointwise t name ∙ sym (f ∙ ap (pointwise eqb t) e)

called-yes : (t name : List ℕ) (v next : Word) → same t name ≡ true → v ≡ called_by t name v next
called-yes t name v next e = sym (ap (λ (b : Bool). elim b [ true ↦ v | false ↦ next ]) e)

called-no : (t name : List ℕ) (v next : Word) → same t name ≡ false → next ≡ called_by t name v next
called-no t name v next e = sym (ap (λ (b : Bool). elim b [ true ↦ v | false ↦ next ]) e)

-- what stands behind each name
abbrev behind_columns : List ℕ → Word
behind_columns t = number_or_other (number_in t)

abbrev behind_size : List ℕ → Word
behind_size t = called_by t (ascii "columns") W.Columns (behind_columns t)

abbrev behind_levels : List ℕ → Word
behind_levels t = called_by t (ascii "size") W.Size (behind_size t)

abbrev behind_plain : List ℕ → Word
behind_plain t = called_by t (ascii "levels") W.Levels (behind_levels t)

module _ (t : List ℕ) where
  pub word-1 : same t (ascii "plain") ≡ true → W.Plain ≡ word_of t
  unfolding word_of
  word-1 a = called-yes t (ascii "plain") W.Plain (behind_plain t) a

  module _ (a : same t (ascii "plain") ≡ false) where
    no_plain : behind_plain t ≡ word_of t
    unfolding word_of
    no_plain = called-no t (ascii "plain") W.Plain (behind_plain t) a

    pub word-2 : same t (ascii "levels") ≡ true → W.Levels ≡ word_of t
    word-2 b = called-yes t (ascii "levels") W.Levels (behind_levels t) b ∙ no_plain

    module _ (b : same t (ascii "levels") ≡ false) where
      no-levels : behind_levels t ≡ word_of t
      no-levels = called-no t (ascii "levels") W.Levels (behind_levels t) b ∙ no_plain

      pub word-3 : same t (ascii "size") ≡ true → W.Size ≡ word_of t
      word-3 d = called-yes t (ascii "size") W.Size (behind_size t) d ∙ no-levels

      module _ (d : same t (ascii "size") ≡ false) where
        no_size : behind_size t ≡ word_of t
        no_size = called-no t (ascii "size") W.Size (behind_size t) d ∙ no-levels

        pub word-4 : same t (ascii "columns") ≡ true → W.Columns ≡ word_of t
        word-4 e = called-yes t (ascii "columns") W.Columns (behind_columns t) e ∙ no_size

        pub word_none : same t (ascii "columns") ≡ false → (v : Word) → v ≡ number_or_other (number_in t) → v ≡ word_of t
        word_none e v f = f ∙ called-no t (ascii "columns") W.Columns (behind_columns t) e ∙ no_size

-- ---- the words

onto-is : (a : ℕ) (us : List (List ℕ)) → onto_first a us ≡ onto a us
unfolding onto
onto-is a [] = refl
onto-is a (u ∷ us) = refl

pub split-pieces : (sep : ℕ) (t : List ℕ) → slice_split (λ x. eqb x sep) t ≡ pieces sep t
unfolding pieces onto
split-pieces sep [] = refl
split-pieces sep (a ∷ t) =
    elim (test (eqb a sep)) [
      | passes e ↦ rw (e, pieces) (ap (λ (us : List (List ℕ)). [] ∷ us) (split-pieces sep t))
      | fails e ↦ rw (e, pieces) (rw (split-pieces sep t) (onto-is a (pieces sep t)))
    ]

pub asked-fold : (us : List (List ℕ)) (a : Asked) → fold (λ b w. meant (word_of w) b) a us ≡ asked us a
unfolding asked
asked-fold [] a = refl
asked-fold (w ∷ us) a = asked-fold us (meant (word_of w) a)
