use Rattle.outputs.proofs.Equal.{read_same, answer_same}
use Rattle.outputs.proofs.listings.leave_read.Goals as goal

pub returns-in-Read : goal.returns-in-Read
returns-in-Read c =
    let args = c.args in
    read_same _ _ _ _ _ _ _ args.count.now args.form.now args.id.now args.number.now args.«record».now args.line.now
    c.in-Read.is c.leave_first_line.ensures

pub returns-in-Refused : goal.returns-in-Refused
returns-in-Refused c =
    let args = c.args in
    answer_same _ _ args.count.now args.form.now args.id.now args.number.now args.«record».now args.line.now c.in-Refused.is

pub returns-in-Full : goal.returns-in-Full
returns-in-Full c =
    let args = c.args in
    answer_same _ _ args.count.now args.form.now args.id.now args.number.now args.«record».now args.line.now c.in-Full.is
