-- `dedup::probing::compared_id` meets its contract.
use mathlib.Core.Path.{sym, ap}
use mathlib.Core.Bool.{Bool, cond}
use borrow.Author.Tests.{lt-ltb, le-ltb}
use Rattle.dedup.specs.Probe.{compared_id}
use Rattle.dedup.proofs.probing.compared_id.Goals as goal

pub returns-then-greatest-id : goal.returns-then-greatest-id
unfolding compared_id
returns-then-greatest-id c = let a = c.args in sym (ap (λ (b : Bool). cond b a.id 0) (lt-ltb a.greatest a.id c.if-greatest-id.true))

pub returns-else-greatest-id : goal.returns-else-greatest-id
unfolding compared_id
returns-else-greatest-id c = let a = c.args in sym (ap (λ (b : Bool). cond b a.id 0) (le-ltb a.greatest a.id c.if-greatest-id.false))
