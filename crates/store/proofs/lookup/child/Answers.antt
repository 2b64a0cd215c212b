use Rattle.store.proofs.Reading as R
use native.Mathlib.Omega.{arith}
use Rattle.store.proofs.lookup.child.Goals as goal

pub overflow_add-result-2 : goal.overflow_add-result-2
overflow_add-result-2 c = let few = R.few _ _ _ c.requires.1 in let h = c.requires.0 in let b = c.requires.1.below in let f = c.requires.1.nodes.formed.fits in let m = c.requires.1.nodes.formed.many in omega arith

pub offset_bounds-nodes-id : goal.offset_bounds-nodes-id
offset_bounds-nodes-id c = let few = R.few _ _ _ c.requires.1 in let h = c.requires.0 in let b = c.requires.1.below in let f = c.requires.1.nodes.formed.fits in let m = c.requires.1.nodes.formed.many in omega arith

pub bounds-nodes-id : goal.bounds-nodes-id
bounds-nodes-id c = let few = R.few _ _ _ c.requires.1 in let h = c.requires.0 in let b = c.requires.1.below in let f = c.requires.1.nodes.formed.fits in let m = c.requires.1.nodes.formed.many in omega arith

pub returns : goal.returns
returns c = R.child_is _ _ _ c.requires.1 _ c.requires.0
