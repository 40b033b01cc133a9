-- However an input is cut into blocks, its report is the same (02, request f).
--     state-line      the line under way of a state is what was kept of it
--     run-run         blocks that are fed are a run of the stream
--     run-report      a run from the start prints what the whole input prints
--     cut-anyhow      so two runs of one input print the same, whatever blocks and buffers they had
use Rattle.words.proofs.Plain.{ℕ, ◌-◌, arith, ◌≡◌, refl, sym, ap, subst, ◌∙◌, List, [], ◌++◌, length, take, drop, replicate, take_at}
use Rattle.stream_spec.specs.{Lines.under, Texts.over, Texts.block}
use Rattle.stream_spec.specs.Texts as stream
use Rattle.stream_spec.proofs.Cut as cut
use Rattle.report_spec.specs.{declared.Pending.Pending, Lines.Answers, Lines.Reports}
use Rattle.report_spec.specs.Blocks.{keep, line_of, state_of, bytes_for, small, last, ReportRun, ends, feeds}
use Rattle.report_laws.proofs.Kept.{report-tells}

-- the line under way of a state
pub state-line : (u : List ℕ) → line_of (state_of u) ≡ keep u
state-line u = take_at (keep u) (replicate (9 - length (keep u)) 0) (length (keep u)) refl

-- what stands at the beginning of a buffer
front : (t b b' : List ℕ) (r : ℕ) → b' ≡ t ++ drop (length t) b → r ≡ length t → take r b' ≡ t
front t b b' r e l = ap (take r) e ∙ take_at t (drop (length t) b) r (sym l)

-- blocks that are fed are a run of the stream
pub run-run : {p : Pending} {s text : List ℕ} → ReportRun p s text → stream.BlockRun Answers 9 (line_of p) s text
run-run {p} (ends l (small m x y)) = absurd (omega arith)
run-run {p} (ends {b = b} {b' = b'} {r = r} l (last m t q x y)) = rw (front t b b' r y x) (over q)
run-run {p} (feeds {s = s} {b = b} {b' = b'} {rest = rest} {text = text} {r = r} f g) =
    let x = take (bytes_for s b) s in
    let i : stream.BlockRun Answers 9 (keep (under (line_of p) x)) rest text =
    subst (λ (z : List ℕ). stream.BlockRun Answers 9 z rest text) (ap line_of f.state ∙ state-line (under (line_of p) x)) (run-run g) in
    rw (front f.text b b' r.length f.bytes f.long, f.taken) (block x f.says i)

-- a run from the start prints what the whole input prints
pub run-report : {s text : List ℕ} → ReportRun (state_of []) s text → Reports s text
run-report {s} {text} r = cut.run-prints Answers 9 report-tells s text (run-run r)

-- two runs of one input print the same
pub cut-anyhow : {s t u : List ℕ} → ReportRun (state_of []) s t → ReportRun (state_of []) s u → t ≡ u
cut-anyhow {s} {t} {u} p q = cut.cut-anyhow Answers 9 report-tells s t u (run-run p) (run-run q)
