use Rattle.std.proofs.Common.{arith}
use Rattle.store.proofs.Fitting.{operator_fits}
use Rattle.replacements.proofs.intern_operator.Goals as goal

pub overflow_cast-operands : goal.overflow_cast-operands
overflow_cast-operands c = let p = c.requires in let m = c.args.store.now.sound.nodes.formed.many in omega (arith, p.left)

pub overflow_cast-operands-2 : goal.overflow_cast-operands-2
overflow_cast-operands-2 c = let p = c.requires in let m = c.args.store.now.sound.nodes.formed.many in omega (arith, p.right)

pub intern-requires : goal.intern-requires
intern-requires c = let p = c.requires in operator_fits _ _ _ _ p.listing p.left p.right

pub returns-clause-builds : goal.returns-clause-builds
returns-clause-builds c = c.intern.ensures.interns.builds
