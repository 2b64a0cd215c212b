use Rattle.outputs.proofs.Equal.{first_line_same}
use Rattle.outputs.proofs.listings.leave_first_line.Goals as goal

pub returns-in-Ok : goal.returns-in-Ok
returns-in-Ok c =
    let args = c.args in
    first_line_same _ _ args.id.now args.number.now args.«record».now c.in-Ok.is

pub returns-in-Empty : goal.returns-in-Empty
returns-in-Empty c =
    let args = c.args in
    first_line_same _ _ args.id.now args.number.now args.«record».now c.in-Empty.is

pub returns-in-Spent : goal.returns-in-Spent
returns-in-Spent c =
    let args = c.args in
    first_line_same _ _ args.id.now args.number.now args.«record».now c.in-Spent.is

pub returns-in-Refused : goal.returns-in-Refused
returns-in-Refused c =
    let args = c.args in
    first_line_same _ _ args.id.now args.number.now args.«record».now c.in-Refused.is
