-- `desk_names_inner::or_named` meets its contract.
use Rattle.words.proofs.Needs.{sym, ◌∙◌}
use Rattle.desk_names_inner.proofs.Names.{named-yes, named-no}
use Rattle.desk_names_inner.proofs.or_named.Goals as goal

pub returns-then-same_text : goal.returns-then-same_text
returns-then-same_text c = named-yes _ _ _ _ (sym c.same_text.ensures ∙ c.if-same_text.true)

pub returns : goal.returns
returns c = named-no _ _ _ _ (sym c.same_text.ensures ∙ c.if-same_text.false)
