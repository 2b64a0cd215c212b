-- By the test on the children.
use mathlib.Core.Path.{sym, ◌∙◌}
use Rattle.rebuild.proofs.Rebuilding as B
use Rattle.store.specs.Held.{held}
use Rattle.rebuild.proofs.rebuild.Goals as goal

pub returns-then-has_children-clause-anew : goal.returns-then-has_children-clause-anew
returns-then-has_children-clause-anew c = B.itself _ _ _ c.requires (sym c.has_children.ensures ∙ c.if-has_children.true)

pub intern-requires : goal.intern-requires
intern-requires c = B.fits _ _ _ c.requires _ _ _ c.kind-kind.ensures c.payload-payload.ensures c.rebuilt_flags-flags.ensures

pub returns-clause-anew : goal.returns-clause-anew
returns-clause-anew c = B.anew (held c.args.store.now) _ _ c.requires _ _ _ c.kind-kind.ensures c.payload-payload.ensures c.rebuilt_flags-flags.ensures (sym c.has_children.ensures ∙ c.if-has_children.false) _ (held c.intern.new.self) c.intern.ensures.interns.builds

pub invariant_of-intern : goal.invariant_of-intern
invariant_of-intern c = record { few = B.few _ _ _ c.requires }
