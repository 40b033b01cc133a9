-- `stock::stock_home` meets its contract: each entry of the table follows the rule.
use Rattle.words.proofs.Needs.{rules}
use Rattle.stock.proofs.{Table.homes, Entries.entry}
use Rattle.stock.proofs.stock_home.Goals as goal

pub returns : goal.returns
unfolding homes
returns c = rw c.from.ensures (entry c.args.b (search rules))
