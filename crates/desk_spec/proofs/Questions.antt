-- A text asks one question.
--     spelt-same                     two readings with the same digits are one
--     words-one                      the words of rings and a reading are those of one list of rings and one reading
--     counts_same                    two lists of counts that are spelt the same are one
--     one-reading, one-pair, one-numbers, one_byte, one-sight, one-counts, one-after, one-shade    a text asks one question of a shape
--     known-one                      a word is one verb's name
--     place-one, one_line            a line has one verb and one text behind it
use Rattle.words.proofs.Plain.{ℕ, suc, ◌+◌, arith, ◌≡◌, refl, sym, ap, ◌∙◌, List, [], ◌∷◌, map, take, drop}
use Rattle.text_spec.specs.{Decimal.decimal, Text.hex_of}
use Rattle.text_spec.proofs.Digits.{decimal-one}
use Rattle.words.proofs.Split.{lt, eq, gt, tri}
use Rattle.text_words_spec.specs.Words.{pieces, PieceAt, Nibbles}
use Rattle.line_spec.proofs.Lines.{fields-one}
use Rattle.text_words_spec.proofs.Pieces.{first-same, behind-same, none-some}
use Rattle.text_words_spec.proofs.Spelling.{spelt-one}
use Rattle.std.specs.Prelude.{Option, Some, None}
use Rattle.desk_spec.specs.declared.Verb.{Verb}
use Rattle.desk_spec.specs.declared.Verb.TheVariants as Asks
use Rattle.desk_spec.specs.Verbs.{verb_of}
use Rattle.desk_spec.specs.Answers.{LineReads}
use Rattle.desk_spec.specs.Questions.{ReadsReading, ReadsPair, ReadsNumbers, ReadsByte, ReadsSight, EachNibbles, words_of, CountsSpelt, ReadsCounts, ReadsAfter, ReadsShade}

-- the same digits
pub spelt-same : (v w : List ℕ) → Nibbles v → Nibbles w → map hex_of v ≡ map hex_of w → v ≡ w
spelt-same v w p q e = spelt-one (map hex_of w) v w (record { digits = sym e; below = p }) (record { digits = refl; below = q })

-- the words of rings and a reading
words-some : (ts : List (List ℕ)) (r : List ℕ) → [] ≡ words_of ts r → ⊥
words-some [] r e = none-some _ _ e
words-some (t ∷ ts) r e = none-some _ _ e

pub words-one : (ts us : List (List ℕ)) (v w : List ℕ) → EachNibbles ts → EachNibbles us → Nibbles v → Nibbles w → words_of ts v ≡ words_of us w → (ts ≡ us) × (v ≡ w)
words-one [] [] v w p q m n e = (refl, spelt-same v w m n (first-same _ _ _ _ e))
words-one [] (u ∷ us) v w p q m n e = absurd (words-some us w (behind-same _ _ _ _ e))
words-one (t ∷ ts) [] v w p q m n e = absurd (words-some ts v (sym (behind-same _ _ _ _ e)))
words-one (t ∷ ts) (u ∷ us) v w p q m n e =
    let x : t ≡ u = spelt-same t u (p 0 (omega arith)) (q 0 (omega arith)) (first-same _ _ _ _ e) in
    let y = words-one ts us v w (λ j h. p (suc j) (omega arith)) (λ j h. q (suc j) (omega arith)) m n (behind-same _ _ _ _ e) in
    (λ i. x i ∷ y.0 i, y.1)

-- numbers with the same digits
decimals-one : (cs ds : List ℕ) → map decimal cs ≡ map decimal ds → cs ≡ ds
decimals-one [] [] e = refl
decimals-one [] (d ∷ ds) e = absurd (none-some (decimal d) (map decimal ds) e)
decimals-one (c ∷ cs) [] e = absurd (none-some (decimal c) (map decimal cs) (sym e))
decimals-one (c ∷ cs) (d ∷ ds) e =
    let x = decimal-one c d (first-same _ _ _ _ e) in
    let y = decimals-one cs ds (behind-same _ _ _ _ e) in
    λ i. x i ∷ y i

pub counts_same : (t u cs ds : List ℕ) → t ≡ u → CountsSpelt t cs → CountsSpelt u ds → cs ≡ ds
counts_same t u cs ds e x y = decimals-one cs ds (sym x.numbers ∙ ap (λ (s : List ℕ). pieces 44 s) e ∙ y.numbers)

spelt-each : (us vs : List (List ℕ)) → EachNibbles us → EachNibbles vs → map (map hex_of) us ≡ map (map hex_of) vs → us ≡ vs
spelt-each [] [] p q e = refl
spelt-each [] (v ∷ vs) p q e = absurd (none-some _ _ e)
spelt-each (u ∷ us) [] p q e = absurd (none-some _ _ (sym e))
spelt-each (u ∷ us) (v ∷ vs) p q e =
    let x : u ≡ v = spelt-same u v (p 0 (omega arith)) (q 0 (omega arith)) (first-same _ _ _ _ e) in
    let y = spelt-each us vs (λ j h. p (suc j) (omega arith)) (λ j h. q (suc j) (omega arith)) (behind-same _ _ _ _ e) in
    λ i. x i ∷ y i

module _ (t : List ℕ) where
  pub one-reading : (p q : ℕ × List ℕ) → ReadsReading t p → ReadsReading t q → p ≡ q
  one-reading (j, v) (k, w) a b =
      let e = sym a.words ∙ b.words in
      let f = behind-same _ _ _ _ e in
      let x : j ≡ k = decimal-one j k (first-same _ _ _ _ e) in
      let y : v ≡ w = spelt-same v w a.sectors b.sectors (first-same _ _ _ _ f) in
      λ i. (x i, y i)

  pub one-pair : (p q : ℕ × List ℕ × List ℕ) → ReadsPair t p → ReadsPair t q → p ≡ q
  one-pair (j, v, v') (k, w, w') a b =
      let e = sym a.words ∙ b.words in
      let f = behind-same _ _ _ _ e in
      let g = behind-same _ _ _ _ f in
      let x : j ≡ k = decimal-one j k (first-same _ _ _ _ e) in
      let y : v ≡ w = spelt-same v w a.sectors b.sectors (first-same _ _ _ _ f) in
      let z : v' ≡ w' = spelt-same v' w' a.others b.others (first-same _ _ _ _ g) in
      λ i. (x i, y i, z i)

  pub one-numbers : (p q : ℕ × ℕ) → ReadsNumbers t p → ReadsNumbers t q → p ≡ q
  one-numbers (j, m) (k, n) a b = let e = fields-one j m k n (sym a.words ∙ b.words) in λ i. (e.0 i, e.1 i)

  pub one_byte : (b c : ℕ) → ReadsByte t b → ReadsByte t c → b ≡ c
  one_byte b c x y = decimal-one b c (sym x.words ∙ y.words)

  pub one-sight : (p q : ℕ × ℕ × List (List ℕ) × List ℕ) → ReadsSight t p → ReadsSight t q → p ≡ q
  one-sight (j, m, ts, v) (k, n, us, w) a b =
      let e = sym a.words ∙ b.words in
      let f = behind-same _ _ _ _ e in
      let x : j ≡ k = decimal-one j k (first-same _ _ _ _ e) in
      let y : m ≡ n = decimal-one m n (first-same _ _ _ _ f) in
      let z = words-one ts us v w a.rings b.rings a.sectors b.sectors (behind-same _ _ _ _ f) in
      λ i. (x i, y i, z.0 i, z.1 i)

  pub one-counts : (p q : ℕ × List ℕ) → ReadsCounts t p → ReadsCounts t q → p ≡ q
  one-counts (j, cs) (k, ds) a b =
      let e = sym a.words ∙ b.words in
      let x : j ≡ k = decimal-one j k (first-same _ _ _ _ e) in
      let y : cs ≡ ds = counts_same a.word b.word cs ds (first-same _ _ _ _ (behind-same _ _ _ _ e)) a.counts b.counts in
      λ i. (x i, y i)

  pub one-after : (p q : ℕ × List ℕ × List ℕ) → ReadsAfter t p → ReadsAfter t q → p ≡ q
  one-after (j, v, cs) (k, w, ds) a b =
      let e = sym a.words ∙ b.words in
      let f = behind-same _ _ _ _ e in
      let x : j ≡ k = decimal-one j k (first-same _ _ _ _ e) in
      let y : v ≡ w = spelt-same v w a.sectors b.sectors (first-same _ _ _ _ f) in
      let z : cs ≡ ds = counts_same a.word b.word cs ds (first-same _ _ _ _ (behind-same _ _ _ _ f)) a.counts b.counts in
      λ i. (x i, y i, z i)

  pub one-shade : (p q : ℕ × List (List ℕ)) → ReadsShade t p → ReadsShade t q → p ≡ q
  one-shade (j, us) (k, vs) a b =
      let e = sym a.words ∙ b.words in
      let x : j ≡ k = decimal-one j k (first-same _ _ _ _ e) in
      let y : us ≡ vs = spelt-each us vs a.digits b.digits (behind-same _ _ _ _ e) in
      λ i. (x i, y i)

-- ---- a line

-- the verb that is known; `Stock` where none is
abbrev verb_in : Option Verb → Verb
verb_in (Some v) = v
verb_in None = Asks.Stock

pub known-one : (u v : Verb) → Some u ≡ Some v → u ≡ v
known-one u v e = ap verb_in e

-- a first piece ends at one place
pub place-one : (sep : ℕ) (s : List ℕ) (a b : ℕ) → PieceAt sep s a → PieceAt sep s b → a ≡ b
place-one sep s a b p q =
    elim (tri a b) [
      | lt h ↦ absurd (q.before a h (p.here (omega (arith, q.within))))
      | eq h ↦ h
      | gt h ↦ absurd (p.before b h (q.here (omega (arith, p.within))))
    ]

pub one_line : (s : List ℕ) (p q : Verb × List ℕ) → LineReads s p → LineReads s q → p ≡ q
one_line s (u, t) (v, t') a b =
    let e = place-one 32 s a.at b.at a.ends b.ends in
    let x : u ≡ v = known-one u v (sym a.verb ∙ ap (λ (i : ℕ). verb_of (take i s)) e ∙ b.verb) in
    let y : t ≡ t' = a.behind ∙ ap (λ (i : ℕ). drop (i + 1) s) e ∙ sym b.behind in
    λ i. (x i, y i)
