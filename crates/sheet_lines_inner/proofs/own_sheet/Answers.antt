-- `sheet_lines_inner::own_sheet` meets its contract.
use Rattle.words.proofs.Needs.{ℕ, sym, ap}
use Rattle.sheet_words_spec.specs.Words.{with_number_n}
use Rattle.sheet_lines_inner.proofs.Lines.{first-long}
use Rattle.sheet_lines_inner.proofs.own_sheet.Goals as goal

pub returns : goal.returns
returns c =
    ap (λ (x : ℕ). with_number_n x c.args.sheet) (sym (first-long c.args.s.now _ c.piece_end.ensures))
