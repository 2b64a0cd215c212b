-- A leaf, or what the mark says where the mode heeds it.
use mathlib.Core.Path.{sym, ap, ◌∙◌}
use Rattle.turns.proofs.Descending as D
use Rattle.definitions.specs.Modes.{mode_of}
use Rattle.store.specs.Held.{node_in}
use Rattle.turns.proofs.turn.is_taken_unwalked.Goals as goal

pub returns-then-arity-eq0 : goal.returns-then-arity-eq0
returns-then-arity-eq0 c = D.leaf (mode_of c.args.mode) (node_in c.args.store.now c.args.id) (sym c.arity.ensures ∙ c.if-arity-eq0.true)

pub returns-in-Standard : goal.returns-in-Standard
returns-in-Standard c = D.mark_heeded (mode_of c.args.mode) (node_in c.args.store.now c.args.id) (λ e. c.if-arity-eq0.false (c.arity.ensures ∙ e)) (ap mode_of c.in-Standard.is) _ c.is_canonical.ensures

pub returns-in-Strict : goal.returns-in-Strict
returns-in-Strict c = D.mark_unheeded (mode_of c.args.mode) (node_in c.args.store.now c.args.id) (λ e. c.if-arity-eq0.false (c.arity.ensures ∙ e)) (ap mode_of c.in-Strict.is)
