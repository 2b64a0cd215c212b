use mathlib.Core.Path.{sym, ◌∙◌}
use Rattle.store.specs.Held.{held}
use Rattle.pruner.proofs.Pruning as Q
use Rattle.pruner.proofs.prune_additive_chain.Goals as goal

pub returns-then-kind-eq-ADD-clause-prunes : goal.returns-then-kind-eq-ADD-clause-prunes
returns-then-kind-eq-ADD-clause-prunes c = Q.at_chain _ _ _ c.args.store.now.sound _ c.requires _ (sym c.kind.ensures ∙ c.if-kind-eq-ADD.true) _ (held c.prune_chain.new.store) c.prune_chain.ensures.prunes

pub returns-clause-prunes : goal.returns-clause-prunes
returns-clause-prunes c = Q.no_chain _ _ _ c.args.store.now.sound _ c.requires _ (λ e. c.if-kind-eq-ADD.false (c.kind.ensures ∙ e))
