use mathlib.Core.Path.{ap}
use mathlib.Core.List.{[]}
use Rattle.names.specs.Calls.{answer_of}
use Rattle.curvalique.proofs.NameAnswering.{never_named, lookup_known, lookup_unknown, lookup_refused}
use borrow.Author.Rules.{rules}
use Rattle.curvalique.proofs.naming.curvalique_lookup_name.Goals as goal

pub returns-in-Numbered : goal.returns-in-Numbered
returns-in-Numbered c =
    let p = lookup_known _ _ _ _ c.lookup-answer.ensures _ _ _ _ _ (ap (λ a. answer_of a []) c.in-Numbered.is) in
    record { name_list_called = p.0; known = p.1.0; outputs_stay = p.1.1 }

pub returns-in-Unknown : goal.returns-in-Unknown
returns-in-Unknown c =
    let p = lookup_unknown _ _ _ _ c.lookup-answer.ensures c.args.number.now _ _ _ (ap (λ a. answer_of a []) c.in-Unknown.is) in
    record { name_list_called = p.0; known = p.1.0; outputs_stay = p.1.1 }

pub returns-in-Named : goal.returns-in-Named
returns-in-Named c = absurd (never_named _ _ _ _ c.lookup-answer.ensures _ (ap (λ a. answer_of a []) c.in-Named.is))

pub returns-in-Refused : goal.returns-in-Refused
returns-in-Refused c =
    let args = c.args in let p = lookup_refused _ _ _ _ c.lookup-answer.ensures _ args.known.now args.number.now _ _ _ (ap (λ a. answer_of a []) c.in-Refused.is) in
    record { name_list_called = p.0; known = p.1.0; outputs_stay = p.1.1 }
