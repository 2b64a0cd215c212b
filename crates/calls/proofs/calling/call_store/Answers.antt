use Rattle.calls.proofs.CodeCalls.{runs}
use Rattle.calls.proofs.calling.call_store.Goals as goal

pub returns : goal.returns
returns c = runs _ _ _ _ c.perform.result c.store_call.ensures c.perform.ensures
