use Rattle.std.proofs.Common.{sym, ◌∙◌, arith}
use Rattle.writer.proofs.Reached.{marks_one, marks_two}
use Rattle.store.proofs.Reading as R
use Rattle.writer.proofs.sweeping.reach.Goals as goal

pub bounds-reached-first : goal.bounds-reached-first
bounds-reached-first c = let a = R.child_low _ _ _ c.requires.0 0 (omega arith) in let m = c.requires.0.nodes.formed.many in let b = c.requires.0.below in let l = c.requires.1 in let e = c.child-first.ensures in omega arith

pub returns-then-arity-eq1 : goal.returns-then-arity-eq1
returns-then-arity-eq1 c = let a = R.child_low _ _ _ c.requires.0 0 (omega arith) in let m = c.requires.0.nodes.formed.many in let b = c.requires.0.below in let l = c.requires.1 in let e = c.child-first.ensures in marks_one _ _ _ (sym c.arity-arity.ensures ∙ c.if-arity-eq1.true) e (omega arith)

pub bounds-reached-second : goal.bounds-reached-second
bounds-reached-second c = let a = R.child_low _ _ _ c.requires.0 1 (omega arith) in let m = c.requires.0.nodes.formed.many in let b = c.requires.0.below in let l = c.requires.1 in let e = c.child-second.ensures in omega arith

pub returns : goal.returns
returns c = let a = R.child_low _ _ _ c.requires.0 0 (omega arith) in let a' = R.child_low _ _ _ c.requires.0 1 (omega arith) in let m = c.requires.0.nodes.formed.many in let b = c.requires.0.below in let l = c.requires.1 in let e = c.child-first.ensures in let e' = c.child-second.ensures in marks_two _ _ _ _ (omega arith) e e' (omega arith) (omega arith)
