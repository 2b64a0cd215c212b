use Rattle.writer.proofs.Leaves.{leaf_number, leaf_named, leaf_name}
use Rattle.writer.proofs.placing.put_leaf.Goals as goal

pub returns-then-kind-eq-CONSTANT : goal.returns-then-kind-eq-CONSTANT
returns-then-kind-eq-CONSTANT c = leaf_number c.requires.0 c.kind.ensures c.payload-payload.ensures c.if-kind-eq-CONSTANT.true _ c.put_number.ensures

pub put_name-requires : goal.put_name-requires
put_name-requires c = (leaf_named c.requires.0 c.kind.ensures c.payload-payload.ensures c.requires.1 c.if-kind-eq-CONSTANT.false, c.requires.2)

pub returns : goal.returns
returns c = leaf_name c.requires.0 c.kind.ensures c.payload-payload.ensures c.requires.1 c.if-kind-eq-CONSTANT.false _ c.put_name.ensures
