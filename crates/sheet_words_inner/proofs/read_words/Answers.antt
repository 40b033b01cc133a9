-- `sheet_words_inner::read_words` meets its contract.
use Rattle.words.proofs.Needs.{ℕ, sym, ap, ◌∙◌, List, eqb}
use borrow.Author.Tests.{tests}
use Rattle.std.proofs.Common.{rules}
use Rattle.std.proofs.lemmas.Iterator.Consumers.{fold_from_yields_List}
use Rattle.std.proofs.lemmas.Iterator.Splits.{YieldsList-from_slice_split}
use Rattle.std.specs.List.{fold}
use Rattle.sheet_words_spec.specs.declared.Asked.{Asked}
use Rattle.sheet_words_spec.specs.Words.{word_of, meant, asked}
use Rattle.sheet_words_inner.proofs.Reading.{split-pieces, asked-fold}
use Rattle.sheet_words_inner.proofs.read_words.Goals as goal

pub returns : goal.returns
returns c =
    let h = λ (a : Asked) (w : List ℕ). meant (word_of w) a in
    fold_from_yields_List _ h _ _ c.fold.ensures.ran
    (YieldsList-from_slice_split _ (λ (x : ℕ). eqb x 32) c.args.t.now c.split.ensures.rest c.split.ensures.done c.split.ensures.closure (λ x r q k. search (rules, tests)))
    (λ a x b q k. search rules)
    ∙ ap (fold h c.args.first) (split-pieces 32 c.args.t.now) ∙ asked-fold _ c.args.first
