use Rattle.outputs.proofs.Equal.{name_same}
use Rattle.outputs.proofs.naming.leave_name.Goals as goal

pub returns-in-Numbered : goal.returns-in-Numbered
returns-in-Numbered c =
    let args = c.args in
    name_same _ _ _ args.known.now args.length.now args.bytes.now c.in-Numbered.is

pub returns-in-Unknown : goal.returns-in-Unknown
returns-in-Unknown c =
    let args = c.args in
    name_same _ _ _ args.known.now args.length.now args.bytes.now c.in-Unknown.is

pub returns-in-Named : goal.returns-in-Named
returns-in-Named c =
    let args = c.args in
    name_same _ _ _ args.known.now args.length.now args.bytes.now c.in-Named.is

pub returns-in-Refused : goal.returns-in-Refused
returns-in-Refused c =
    let args = c.args in
    name_same _ _ _ args.known.now args.length.now args.bytes.now c.in-Refused.is
