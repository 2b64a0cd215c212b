use mathlib.Core.Path.{◌∙◌}
use Rattle.curvalique.proofs.ReadWords.{only_node}
use borrow.Author.Rules.{rules}
use Rattle.curvalique.proofs.reading.words_of.Goals as goal

pub returns : goal.returns
returns c = c.store_node.ensures ∙ only_node _ _ (search rules)
