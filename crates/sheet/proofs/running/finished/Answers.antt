-- `sheet::running::finished` meets its contract.
use mathlib.Core.Path.{sym, ap}
use Rattle.sheet.specs.Running.{finished_as}
use Rattle.sheet.proofs.running.finished.Goals as goal

pub returns-in-None : goal.returns-in-None
returns-in-None c = ap finished_as (sym c.in-None.is)
