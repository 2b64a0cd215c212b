-- The invariant: the plain walk from here, with the budget that is left, is the whole walk of the root. The measure is that budget.
use mathlib.Core.Logic.{inl, inr}
use Rattle.std.proofs.Common.{refl}
use Rattle.std.proofs.lemmas.Result.{err_from_is_err_and}
use Rattle.runs.proofs.Running as Q
use Rattle.runs.proofs.run.run.Goals.{else-loop-steps-test, then-loop-steps-test+then-heights-eq0}
use Rattle.runs.proofs.run.run.Goals as goal

pub loop-steps-init : goal.loop-steps-init
loop-steps-init c = record { same = record { nodes = refl; slots = refl; long = refl; wide = refl }; running = Q.begins _ _ _ _ c.args.store.now.sound c.requires }

pub turn-requires : goal.turn-requires
turn-requires c = Q.ready _ _ _ _ _ _ _ _ c.loop-steps.invariant.running c.if-heights-eq0.false

pub loop-steps-preserved : goal.loop-steps-preserved
loop-steps-preserved c = record {
  same = Q.same_then c.loop-steps.invariant.same c.turn.ensures.same;
  running = Q.goes_on _ _ _ _ _ _ _ _ c.loop-steps.invariant.running c.if-heights-eq0.false c.loop-steps-test.true _ _ _ c.turn.ensures.turns c.in_ok-turn.was;
}

pub returns-in_err-turn-clause-same : goal.returns-in_err-turn-clause-same
returns-in_err-turn-clause-same c = Q.same_then c.loop-steps.invariant.same c.turn.ensures.same

pub returns-in_err-turn-clause-walks : goal.returns-in_err-turn-clause-walks
returns-in_err-turn-clause-walks c =
    let p = err_from_is_err_and c.from_residual.result c.from_residual.ensures.1 in
    rw (p.1, p.2) (Q.stops _ _ _ _ _ _ _ _ c.loop-steps.invariant.running c.if-heights-eq0.false c.loop-steps-test.true _ _ _ c.turn.ensures.turns _ c.in_err-turn.was)

pub returns-clause-same : goal.returns-clause-same
returns-clause-same c = c.loop-steps.invariant.same

pub returns-clause-walks : goal.returns-clause-walks
returns-clause-walks c = Q.ends _ _ _ _ _ _ _ _ c.loop-steps.invariant.running (elim c.loop-steps-test.branch [ else-loop-steps-test w ↦ inl w.loop-steps-test.false | then-loop-steps-test+then-heights-eq0 w ↦ inr w.if-heights-eq0.true ]) _ c.ending.ensures

pub returns-clause-state : goal.returns-clause-state
returns-clause-state c = c.loop-steps.invariant.running.invariant
