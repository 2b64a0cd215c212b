use Rattle.history.proofs.Replaying.{replays_refused, replays_done}
use Rattle.std.proofs.Common.{ap, sym, ◌∙◌, Err}
use Rattle.refusal.specs.Number.{by_number}
use Rattle.history.proofs.replay.Goals as goal

pub returns-in-Err : goal.returns-in-Err
returns-in-Err c = replays_refused _ _ _ _ _ _ _ c.fresh.ensures (ap by_number c.in-Err.is)

pub returns-in-Ok : goal.returns-in-Ok
returns-in-Ok c = replays_done _ _ _ _ _ _ _ _ _ _ _ c.fresh.ensures (ap by_number c.in-Ok.is) c.fresh.auto.slots c.replay_from.ensures
