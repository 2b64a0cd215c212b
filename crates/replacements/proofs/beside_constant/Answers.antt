use Rattle.store.specs.Held.{held}
use Rattle.decisions.specs.Carrying.{constant_of, ordered, operator_of}
use Rattle.decisions.specs.declared.Side.TheVariants.{Left, Right}
use Rattle.replacements.proofs.CarryLaws.{on_side, then_built}
use Rattle.replacements.proofs.beside_constant.Goals as goal

pub returns-in-Left-clause-builds : goal.returns-in-Left-clause-builds
returns-in-Left-clause-builds c =
    on_side _ c.in-Left.is _ _ _ (held c.args.store.now) _ (held c.intern_operator.new.store)
    (then_built (constant_of c.args.bits) (λ l ns i. operator_of c.args.kind (ordered Left i c.args.other) l ns) _ (held c.intern_constant.new.store) _ c.in_ok-id.ensures.builds _ _ c.intern_operator.ensures.builds)

pub returns-in-Right-clause-builds : goal.returns-in-Right-clause-builds
returns-in-Right-clause-builds c =
    on_side _ c.in-Right.is _ _ _ (held c.args.store.now) _ (held c.intern_operator-in-Right.new.store)
    (then_built (constant_of c.args.bits) (λ l ns i. operator_of c.args.kind (ordered Right i c.args.other) l ns) _ (held c.intern_constant.new.store) _ c.in_ok-id.ensures.builds _ _ c.intern_operator-in-Right.ensures.builds)
