use Rattle.text.specs.Reading.{refused}
use Rattle.text.proofs.Answering.{both_sound, program_fits, read_nan, read_made}
use Rattle.text.proofs.Determined.{case_gives_equation}
use Rattle.text.proofs.read.Goals as goal

pub returns-then-any_nan : goal.returns-then-any_nan
returns-then-any_nan c = rw c.refused-then-any_nan.ensures (case_gives_equation _ _ _ _ (read_nan _ _ _ c.in-Ok.ensures _ (both_sound _ _ _ _ _ (c.audit.ensures.yes c.if-not-audit.false) (c.is_sound.ensures.yes c.if-not-is_sound.false)) _ c.any_nan.ensures c.if-any_nan.true))

pub run_program-requires-clause-fits : goal.run_program-requires-clause-fits
run_program-requires-clause-fits c = program_fits _ _ _ c.in-Ok.ensures

pub returns-else-any_nan : goal.returns-else-any_nan
returns-else-any_nan c = case_gives_equation _ _ _ _ (read_made _ _ _ c.in-Ok.ensures _ (both_sound _ _ _ _ _ (c.audit.ensures.yes c.if-not-audit.false) (c.is_sound.ensures.yes c.if-not-is_sound.false)) _ c.any_nan.ensures c.if-any_nan.false _ _ c.run_program.ensures)

pub returns-in-Err : goal.returns-in-Err
returns-in-Err c = rw c.refused-in-Err.ensures (case_gives_equation _ _ _ _ (refused (both_sound _ _ _ _ _ (c.audit.ensures.yes c.if-not-audit.false) (c.is_sound.ensures.yes c.if-not-is_sound.false)) c.in-Err.ensures))
