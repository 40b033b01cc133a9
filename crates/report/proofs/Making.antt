-- From what is placed to what the calls promise.
--     taken_is                       how many bytes of a block are taken
--     line-take                      the bytes of any state's line that count
--     feed-says                      a block
--     end-says                       the end of the input
use Rattle.words.proofs.Plain.{ℕ, ◌-◌, ◌/◌, ◌≤◌, arith, dec_lt, ◌≡◌, sym, ap, ◌∙◌, List}
use Rattle.words.proofs.Plain.{◌++◌, ltb, length, take, replicate, take_all, take-take}
use Rattle.stream_spec.specs.{Lines.under, Blocks.BlockSays}
use Rattle.stream_spec.specs.Blocks as stream
use Rattle.report_spec.specs.{declared.Pending.Pending, Lines.Answers}
use Rattle.report_spec.specs.Blocks.{line_room, keep, line_of, state_of, bytes_for, FeedSays, FinishSays, last}
use Rattle.std.specs.Prelude.{min}
use Rattle.words.proofs.Plain.{ltb-true, ltb-false}
use Rattle.words.proofs.Split.{passes, fails, test}

-- ---- how much is taken

module _ (s b : List ℕ) (m : ℕ) (e : m ≡ min (length b / line_room) (length s)) where
  pub taken_is : m ≡ bytes_for s b
  unfolding bytes_for
  taken_is =
      elim (test (ltb (length b / line_room) (length s))) [
        | passes t ↦ rw (t, bytes_for) (omega (arith, e, ltb-true (length b / line_room) (length s) t))
        | fails t ↦ rw (t, bytes_for) (omega (arith, e, ltb-false (length b / line_room) (length s) t))
      ]

-- ---- a state

-- the bytes of any state's line that count
pub line-take : (p : Pending) → length p.line ≡ 9 → (m : ℕ) → m ≡ min p.len 9 → take m p.line ≡ line_of p
line-take p l m e =
    elim (dec_lt p.len 9) [
      | yes f ↦ let h : m ≡ p.len = omega (arith, e) in rw h
      | no f ↦ let h : m ≡ 9 = omega (arith, e) in rw h (take_all 9 p.line (omega arith) ∙ sym (take_all p.len p.line (omega arith)))
    ]

-- only what is kept counts
state-kept : (u : List ℕ) → state_of (keep u) ≡ state_of u
state-kept u = ap (λ (x : List ℕ). record { line = x ++ replicate (9 - length x) 0; len = length x }) (take-take 9 9 u (omega arith))

-- ---- a block

pub feed-says : (p : Pending) (s b : List ℕ) → length p.line ≡ 9 → (m : ℕ) → m ≡ min (length b / line_room) (length s) → (len : ℕ) → len ≡ min p.len 9 →
    (v : List ℕ) (r : ℕ) (b' : List ℕ) → BlockSays Answers 9 (take len p.line) (take m s) b v r b' → (state : Pending) → state ≡ state_of v →
    FeedSays p s b (record { state = state; taken = m; length = r }) b'
feed-says p s b l m e len f v r b' t state g =
    let i = taken_is s b m e in
    let y : BlockSays Answers 9 (line_of p) (take (bytes_for s b) s) b v r b' = rw (line-take p l len f, i) at t in
    record {
      text = y.text;
      taken = i;
      says = y.says;
      state = g ∙ ap state_of y.line ∙ state-kept (under (line_of p) (take (bytes_for s b) s));
      long = y.long;
      bytes = y.bytes;
    }

-- ---- the end of the input

pub end-says : (p : Pending) (b : List ℕ) → length p.line ≡ 9 → line_room ≤ length b → (len : ℕ) → len ≡ min p.len 9 → (r : ℕ) (b' : List ℕ) →
    stream.EndSays Answers (take len p.line) b r b' → FinishSays p b r b'
end-says p b l h len f r b' t =
    let y : stream.EndSays Answers (line_of p) b r b' = rw (line-take p l len f) at t in
    last h y.text y.says y.long y.bytes
