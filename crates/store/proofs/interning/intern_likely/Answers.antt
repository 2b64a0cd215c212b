use Rattle.std.proofs.Common.{rules}
use Rattle.store.specs.Held.{held}
use Rattle.store.proofs.Answering.{numbered}
use Rattle.store.proofs.interning.intern_likely.Goals as goal

pub returns : goal.returns
returns c =
    let i = numbered (held c.over-store.result) _ _ (held c.intern_likely-answer.new.self) c.intern_likely-answer.ensures.interns _ c.number_of.ensures in
    search rules
