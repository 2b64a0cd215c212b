use Rattle.curvalique.proofs.NameAnswering.{name_in_numbers}
use borrow.Author.Rules.{rules}
use Rattle.curvalique.proofs.naming.curvalique_name.Goals as goal

pub returns : goal.returns
returns c =
    let args = c.args in let p = name_in_numbers _ _ _ _ c.name-found.ensures _ _ _ _ args.known.now args.length.now args.bytes.now c.leave_name.ensures in
    record { name_list_called = p.0; known = p.1.0; padded = p.1.1.0; outputs_stay = p.1.1.1 }
