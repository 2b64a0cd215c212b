use Rattle.write_back.proofs.Chaining.{read_ended, read_refused}
use Rattle.write_back.proofs.answer.Goals as goal

pub returns-in-Id : goal.returns-in-Id
returns-in-Id c = read_ended _ _ _ _ c.read-made.ensures _ c.in-Id.is c.simplify.ensures

pub returns-in-Refused : goal.returns-in-Refused
returns-in-Refused c = read_refused _ _ _ _ c.read-made.ensures _ c.in-Refused.is
