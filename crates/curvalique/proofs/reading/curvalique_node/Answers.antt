use Rattle.curvalique.proofs.ReadWords.{words_answered, words_refused}
use Rattle.std.proofs.Common.{ap, sym, ◌∙◌, Err}
use Rattle.refusal.specs.Number.{by_number}
use Rattle.curvalique.proofs.reading.curvalique_node.Goals as goal

pub returns-in-Ok : goal.returns-in-Ok
returns-in-Ok c = words_answered _ _ _ _ _ c.node.ensures _ _ _ (ap by_number c.in-Ok.is) c.words_of.ensures

pub returns-in-Err : goal.returns-in-Err
returns-in-Err c = words_refused _ _ _ _ _ c.node.ensures _ _ (ap by_number c.in-Err.is ∙ ap Err (sym c.number.ensures))
