-- `sheet::running::run_records` meets its contract. The loop's invariant: so many records were done, and what is left gives the plain sheet.
use mathlib.Core.Path.{refl}
use native.Mathlib.Omega.{arith}
use Rattle.sheet.proofs.Onward.{refused_as, doing_start, doing_end}
use Rattle.sheet.proofs.running.run_records.Goals as goal

pub loop-progress-init : goal.loop-progress-init
loop-progress-init c = doing_start _ _ _ _ c.requires refl refl refl

pub step-requires : goal.step-requires
step-requires c = let d = c.loop-progress.invariant in (c.loop-progress-test.true, d.wide, d.few, d.stays.sound)

pub returns-in-Err : goal.returns-in-Err
returns-in-Err c =
    let t = c.in-Err.ensures.turned _ _ c.loop-progress.invariant in
    refused_as _ _ _ _ _ _ _ refl t.0 t.1

pub loop-progress-smaller : goal.loop-progress-smaller
loop-progress-smaller c =
    let t = c.in-Ok.ensures.turned _ _ c.loop-progress.invariant in
    let e = t.0 in
    let w = t.1.few in
    omega arith

pub loop-progress-preserved : goal.loop-progress-preserved
loop-progress-preserved c = (c.in-Ok.ensures.turned _ _ c.loop-progress.invariant).1

pub returns : goal.returns
returns c = doing_end _ _ _ _ _ _ c.loop-progress.invariant c.loop-progress-test.false _ c.finished.ensures
