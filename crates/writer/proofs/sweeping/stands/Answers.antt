use Rattle.store.proofs.Reading as R
use Rattle.writer.proofs.Reached.{by_form}
use Rattle.writer.proofs.sweeping.stands.Goals as goal

pub returns : goal.returns
returns c =
    by_form _ _ c.kind-kind.ensures c.form_of-form.ensures c.arity.ensures c.if-arity-form.false c.flags.ensures c.if-flags-form.false c.if-kind-eq-VARIABLE.false c.if-kind-eq-CONSTANT.false
    (R.few _ _ _ (record { below = c.requires.1; nodes = c.requires.0.nodes }))
