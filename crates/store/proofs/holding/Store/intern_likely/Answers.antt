-- The likely id's node is one with the key, or the call goes on as without it.
use Rattle.std.proofs.Common.{sym, ◌∙◌}
use borrow.Author.Tests.{ltb-true}
use Rattle.definitions.proofs.Deciding.{both}
use Rattle.store.proofs.NewNodes.{new_formed, new_plain, new_places}
use Rattle.store.proofs.Likely.{likely_interns}
use Rattle.store.proofs.holding.Store.intern_likely.Goals as goal

pub returns-then-is_node-clause-interns : goal.returns-then-is_node-clause-interns
returns-then-is_node-clause-interns c =
    let f = c.requires in
    let test = both _ _ (sym c.is_node.ensures ∙ c.if-is_node.true) in
    rw (← new_plain _ _ _ _ _ f) (likely_interns _ _ _ _ _ (new_places _ _ _ _ _ f) (new_formed _ _ _ _ _ f) c.args.self.now.sound _ (ltb-true _ _ test.0) test.1)
