use mathlib.Core.Path.{ap, ◌∙◌}
use mathlib.Core.List.{[]}
use Rattle.names.specs.Calls.{answer_of}
use Rattle.curvalique.proofs.NameAnswering.{intern_fits, intern_answer, name_answered, name_refused}
use borrow.Author.Rules.{rules}
use Rattle.curvalique.proofs.naming.curvalique_intern_name.Goals as goal

pub returns-in-Numbered : goal.returns-in-Numbered
returns-in-Numbered c =
    let p = name_answered _ _ _ _ _ _ _ _ _ c.intern-interned.ensures (ap (λ a. answer_of a []) c.in-Numbered.is) in
    record { name_list_called = p.0; outputs_stay = p.1 }

pub returns-in-Unknown : goal.returns-in-Unknown
returns-in-Unknown c = absurd (intern_fits _ _ _ _ _ _ c.intern-interned.ensures (ap (λ a. intern_answer (answer_of a [])) c.in-Unknown.is))

pub returns-in-Named : goal.returns-in-Named
returns-in-Named c = absurd (intern_fits _ _ _ _ _ _ c.intern-interned.ensures (ap (λ a. intern_answer (answer_of a [])) c.in-Named.is))

pub returns-in-Refused : goal.returns-in-Refused
returns-in-Refused c =
    let p = name_refused _ _ _ _ _ _ _ _ _ c.intern-interned.ensures (ap (λ a. answer_of a []) c.in-Refused.is) (λ z. intern_fits _ _ _ _ _ _ c.intern-interned.ensures (ap (λ a. intern_answer (answer_of a [])) c.in-Refused.is ∙ ap (λ n. intern_answer (Rattle.definitions.specs.Names.refused n)) z)) in
    record { name_list_called = p.0; outputs_stay = p.1 }
