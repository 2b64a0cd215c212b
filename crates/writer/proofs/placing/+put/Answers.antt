use Rattle.std.proofs.Common.{arith}
use Rattle.writer.proofs.Steps.{end_1, end_2, end_3, end_4, end_5, at_look, minus_one, minus_here, end_6, end_7, end_8, end_9, second_one, first_one, second_here, end_10, end_11, node_falls, on}
use Rattle.writer.proofs.placing.+put.Goals as goal

pub returns-then-left-eq0 : goal.returns-then-left-eq0
returns-then-left-eq0 t c = end_1 c.loop-high.invariant c.kind-kind.ensures c.rank.ensures c.if-high-rank.true c.if-left-eq0.true

pub returns-then-close-lt-SPARE : goal.returns-then-close-lt-SPARE
returns-then-close-lt-SPARE t c = end_2 c.loop-high.invariant c.kind-kind.ensures c.rank.ensures c.if-high-rank.true c.push-close.ensures c.if-close-lt-SPARE.true

pub returns-then-inside-lt-SPARE : goal.returns-then-inside-lt-SPARE
returns-then-inside-lt-SPARE t c = end_3 c.loop-high.invariant c.kind-kind.ensures c.rank.ensures c.if-high-rank.true c.push-close.ensures (omega arith) c.put-inside.ensures c.if-inside-lt-SPARE.true

pub returns-then-high-rank : goal.returns-then-high-rank
returns-then-high-rank t c = end_4 c.loop-high.invariant c.kind-kind.ensures c.rank.ensures c.if-high-rank.true c.push-close.ensures (omega arith) c.put-inside.ensures c.if-inside-lt-SPARE.false c.push.ensures

pub returns-then-kind-le-CONSTANT : goal.returns-then-kind-le-CONSTANT
returns-then-kind-le-CONSTANT t c = end_5 c.loop-high.invariant c.kind-kind.ensures c.rank.ensures c.if-high-rank.false c.if-kind-le-CONSTANT.true c.put_leaf.ensures

pub returns-then-left-eq0-2 : goal.returns-then-left-eq0-2
returns-then-left-eq0-2 t c = end_6 c.loop-high.invariant c.kind-kind.ensures c.rank.ensures c.if-high-rank.false c.if-kind-eq-NEG.true c.if-left-eq0-2.true

pub child-operand-requires : goal.child-operand-requires
child-operand-requires t c = (minus_one c.loop-high.invariant c.kind-kind.ensures c.rank.ensures c.if-high-rank.false c.if-kind-eq-NEG.true, at_look c.loop-high.invariant)

pub put-inner-requires : goal.put-inner-requires
put-inner-requires t c = let m = minus_here c.loop-high.invariant c.kind-kind.ensures c.rank.ensures c.if-high-rank.false c.if-kind-eq-NEG.true c.child-operand.ensures in let z = c.decreases in (omega arith, (m.0, c.loop-high.invariant.free))

pub returns-then-inner-lt-SPARE : goal.returns-then-inner-lt-SPARE
returns-then-inner-lt-SPARE t c = end_7 c.loop-high.invariant c.kind-kind.ensures c.rank.ensures c.if-high-rank.false c.if-kind-eq-NEG.true c.child-operand.ensures (omega arith) c.put-inner.ensures c.if-inner-lt-SPARE.true

pub returns-then-kind-eq-NEG : goal.returns-then-kind-eq-NEG
returns-then-kind-eq-NEG t c = end_8 c.loop-high.invariant c.kind-kind.ensures c.rank.ensures c.if-high-rank.false c.if-kind-eq-NEG.true c.child-operand.ensures (omega arith) c.put-inner.ensures c.if-inner-lt-SPARE.false c.push-then-kind-eq-NEG.ensures

pub returns-then-left-nesting : goal.returns-then-left-nesting
returns-then-left-nesting t c = end_9 c.loop-high.invariant c.kind-kind.ensures c.rank.ensures c.if-high-rank.false c.if-kind-le-CONSTANT.false c.if-kind-eq-NEG.false c.joint_of-joint.ensures c.if-left-nesting.true

pub child-right-requires : goal.child-right-requires
child-right-requires t c = (second_one c.loop-high.invariant c.kind-kind.ensures c.rank.ensures c.if-high-rank.false c.if-kind-le-CONSTANT.false c.if-kind-eq-NEG.false c.joint_of-joint.ensures, at_look c.loop-high.invariant)

pub put-second-requires : goal.put-second-requires
put-second-requires t c = let m = second_here c.loop-high.invariant c.kind-kind.ensures c.rank.ensures c.if-high-rank.false c.if-kind-le-CONSTANT.false c.if-kind-eq-NEG.false c.joint_of-joint.ensures c.child-right.ensures in let z = c.decreases in (omega arith, (m.0, c.loop-high.invariant.free))

pub returns-then-second-lt-SPARE : goal.returns-then-second-lt-SPARE
returns-then-second-lt-SPARE t c = end_10 c.loop-high.invariant c.kind-kind.ensures c.rank.ensures c.if-high-rank.false c.if-kind-le-CONSTANT.false c.if-kind-eq-NEG.false c.joint_of-joint.ensures c.if-left-nesting.false c.child-right.ensures c.put-second.ensures c.if-second-lt-SPARE.true

pub returns-then-sign-lt-SPARE : goal.returns-then-sign-lt-SPARE
returns-then-sign-lt-SPARE t c = end_11 c.loop-high.invariant c.kind-kind.ensures c.rank.ensures c.if-high-rank.false c.if-kind-le-CONSTANT.false c.if-kind-eq-NEG.false c.joint_of-joint.ensures c.if-left-nesting.false c.child-right.ensures c.put-second.ensures c.if-second-lt-SPARE.false c.push-sign.ensures c.if-sign-lt-SPARE.true

pub child-node-requires : goal.child-node-requires
child-node-requires t c = (first_one c.loop-high.invariant c.kind-kind.ensures c.rank.ensures c.if-high-rank.false c.if-kind-le-CONSTANT.false c.if-kind-eq-NEG.false c.joint_of-joint.ensures, at_look c.loop-high.invariant)

pub loop-high-smaller : goal.loop-high-smaller
loop-high-smaller t c = node_falls c.loop-high.invariant c.kind-kind.ensures c.rank.ensures c.if-high-rank.false c.if-kind-le-CONSTANT.false c.if-kind-eq-NEG.false c.joint_of-joint.ensures c.if-left-nesting.false c.child-right.ensures c.put-second.ensures c.if-second-lt-SPARE.false c.push-sign.ensures c.child-node.ensures

pub loop-high-preserved : goal.loop-high-preserved
loop-high-preserved t c = on c.loop-high.invariant c.kind-kind.ensures c.rank.ensures c.if-high-rank.false c.if-kind-le-CONSTANT.false c.if-kind-eq-NEG.false c.joint_of-joint.ensures c.if-left-nesting.false c.child-right.ensures c.put-second.ensures c.if-second-lt-SPARE.false c.push-sign.ensures c.if-sign-lt-SPARE.false c.child-node.ensures
