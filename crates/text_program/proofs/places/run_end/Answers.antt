use mathlib.Core.Path.{sym, ◌∙◌}
use native.Mathlib.Omega.{arith}
use Rattle.text_language.proofs.Place.{run_same, run_none, run_end, run_stop, run_more}
use Rattle.text_program.proofs.places.run_end.Goals.{then-at-text-via-then-at-text, then-at-text-via-else-at-text+then-not-passes}
use Rattle.text_program.proofs.places.run_end.Goals as goal

pub returns-then-at-text : goal.returns-then-at-text
returns-then-at-text g c = λ p d. elim c.then-at-text.branch [
  | then-at-text-via-then-at-text w ↦ run_end _ _ _ _ _ _ (c.loop-passed.invariant.runs p d) w.if-at-text.true
  | then-at-text-via-else-at-text+then-not-passes w ↦ run_stop _ _ _ _ _ _ (c.loop-passed.invariant.runs p d) w.if-at-text.false (sym (d _ (c.type_inv.text _).fits _ w.passes.ensures) ∙ w.if-not-passes.true)
]

pub loop-passed-preserved : goal.loop-passed-preserved
loop-passed-preserved g c = record {
  inside = let h = c.if-at-text.false in omega (arith, h);
  runs = λ p d. run_same (omega arith) (omega arith) (run_more _ _ _ _ _ _ (c.loop-passed.invariant.runs p d) (omega arith) c.if-at-text.false (sym (d _ (c.type_inv.text _).fits _ c.passes.ensures) ∙ c.if-not-passes.false));
}

pub returns : goal.returns
returns g c = λ p d. run_none _ _ _ _ _ (run_same (omega arith) (omega arith) (c.loop-passed.invariant.runs p d))
