-- `pruner::threshold::given` meets its contract.
use mathlib.Core.Path.{sym, ap}
use mathlib.Core.Bool.{Bool, cond}
use borrow.Author.Tests.{le-leb, lt-leb}
use Rattle.definitions.specs.Refusals.{bad_threshold}
use Rattle.definitions.specs.Threshold.{bits, refusing}
use Rattle.pruner.proofs.threshold.given.Goals as goal

pub returns-then-bits-le-BITS_OF_INFINITY : goal.returns-then-bits-le-BITS_OF_INFINITY
returns-then-bits-le-BITS_OF_INFINITY c = sym (ap (λ (b : Bool). cond b (bits c.args.bits) (refusing bad_threshold)) (le-leb _ _ c.if-bits-le-BITS_OF_INFINITY.true))

pub returns-else-bits-le-BITS_OF_INFINITY : goal.returns-else-bits-le-BITS_OF_INFINITY
returns-else-bits-le-BITS_OF_INFINITY c = sym (ap (λ (b : Bool). cond b (bits c.args.bits) (refusing bad_threshold)) (lt-leb _ _ c.if-bits-le-BITS_OF_INFINITY.false))
