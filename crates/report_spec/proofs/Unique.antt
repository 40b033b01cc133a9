-- An input prints one text, and a state, a block and a buffer determine the answer and every byte of the buffer.
--     one-text       a line prints one text
--     one-report     and so does an input
--     one-feed, one_end    a block that is taken, and the end of the input: the answer and the buffer afterwards
use Rattle.words.proofs.Plain.{ℕ, arith, ◌≡◌, sym, ap, ◌∙◌, List, ◌++◌, length, take, drop}
use Rattle.rings.specs.{Necklace.necklace, Necklace.lyndon, Steps.how_many}
use Rattle.refusal.specs.{declared.Refusal.Refusal, Numbers.number_of}
use Rattle.text_spec.specs.Text.{refused_line}
use Rattle.std.specs.Prelude.{Result, Ok, Err}
use Rattle.plan_spec.proofs.Unique.{one-plan}
use Rattle.how_many_spec.specs.Says.{most_counted}
use Rattle.stream_spec.specs.Lines.{ended, last_of, lines}
use Rattle.stream_spec.specs.Texts.{Texts}
use Rattle.stream_spec.proofs.Unique as stream
use Rattle.report_spec.specs.{declared.Pending.Pending, declared.Fed.Fed}
use Rattle.report_spec.specs.Lines.{counts_line, Answers, counted, refused, Reports}
use Rattle.report_spec.specs.Blocks.{line_of, bytes_for, FeedSays, FinishSays, small, last}

-- the text of a plan
abbrev text_of : Result (ℕ × ℕ) Refusal → List ℕ
text_of (Ok (k, n)) = counts_line (how_many necklace n k) (how_many lyndon n k)
text_of (Err r) = refused_line (number_of r)

-- a line prints one text
pub one-text : (s t u : List ℕ) → Answers s t → Answers s u → t ≡ u
one-text s t u (counted k n p e) (counted j m q f) = e ∙ ap text_of (one-plan most_counted s (Ok (k, n)) (Ok (j, m)) p q) ∙ sym f
one-text s t u (counted k n p e) (refused r q f) = e ∙ ap text_of (one-plan most_counted s (Ok (k, n)) (Err r) p q) ∙ sym f
one-text s t u (refused r p e) (counted j m q f) = e ∙ ap text_of (one-plan most_counted s (Err r) (Ok (j, m)) p q) ∙ sym f
one-text s t u (refused r p e) (refused x q f) = e ∙ ap text_of (one-plan most_counted s (Err r) (Err x) p q) ∙ sym f

-- lines print one text
one-texts : (ls : List (List ℕ)) (t u : List ℕ) → Texts Answers ls t → Texts Answers ls u → t ≡ u
one-texts ls t u p q = stream.one-texts Answers one-text ls t u p q

-- an input prints one text
pub one-report : (s t u : List ℕ) → Reports s t → Reports s u → t ≡ u
one-report s t u p q = one-texts (lines s) t u p q

-- two answers with equal parts are equal
fed-eq : (r q : Fed) → r.state ≡ q.state → r.taken ≡ q.taken → r.length ≡ q.length → r ≡ q
fed-eq r q a b c = λ i. record { state = a i; taken = b i; length = c i }

-- a block that is taken
pub one-feed : (p : Pending) (s b : List ℕ) (r q : Fed) (b₁ b₂ : List ℕ) → FeedSays p s b r b₁ → FeedSays p s b q b₂ → (r ≡ q) × (b₁ ≡ b₂)
one-feed p s b r q b₁ b₂ x y =
    let e = one-texts (ended (line_of p) (take (bytes_for s b) s)) x.text y.text x.says y.says in (
      fed-eq r q (x.state ∙ sym y.state) (x.taken ∙ sym y.taken) (x.long ∙ ap length e ∙ sym y.long),
      x.bytes ∙ ap (λ (t : List ℕ). t ++ drop (length t) b) e ∙ sym y.bytes,
    )

-- the end of the input
pub one_end : (p : Pending) (b : List ℕ) (r q : ℕ) (b₁ b₂ : List ℕ) → FinishSays p b r b₁ → FinishSays p b q b₂ → (r ≡ q) × (b₁ ≡ b₂)
one_end p b r q b₁ b₂ (small l x y) (small m z w) = (x ∙ sym z, y ∙ sym w)
one_end p b r q b₁ b₂ (small l x y) (last m t z v w) = absurd (omega arith)
one_end p b r q b₁ b₂ (last l t x y z) (small m v w) = absurd (omega arith)
one_end p b r q b₁ b₂ (last l t x y z) (last m u v w f) =
    let e = one-texts (last_of (line_of p)) t u x v in
    (y ∙ ap length e ∙ sym w, z ∙ ap (λ (t : List ℕ). t ++ drop (length t) b) e ∙ sym f)
