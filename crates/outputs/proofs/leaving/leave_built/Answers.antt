use Rattle.outputs.proofs.Equal.{built_answers}
use Rattle.outputs.proofs.leaving.leave_built.Goals as goal

pub leave_stored-requires : goal.leave_stored-requires
leave_stored-requires c = built_answers c.of_built.result c.args.built.answer c.of_built.ensures.0
