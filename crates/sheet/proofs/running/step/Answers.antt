-- `sheet::running::step` meets its contract.
use mathlib.Core.Path.{refl, ap}
use native.Mathlib.Omega.{arith}
use Rattle.std.proofs.lemmas.Result.{err_from_is_err_and}
use Rattle.refusal.specs.Number.{number_of}
use Rattle.sheet.proofs.Onward.{refused_as, doing_full, doing_malformed, doing_refused, doing_more}
use Rattle.sheet.proofs.running.step.Goals as goal

pub returns-then-done-eq-MOST_RECORDS : goal.returns-then-done-eq-MOST_RECORDS
returns-then-done-eq-MOST_RECORDS c = record {
  turned = λ plain m d. (
    refl,
    refused_as _ _ _ _ _ _ _ c.number.ensures refl
        (doing_full _ _ _ _ _ _ d c.requires.0 c.if-done-eq-MOST_RECORDS.true),
  );
}

pub returns-in-Err : goal.returns-in-Err
returns-in-Err c = record {
  turned = λ plain m d. (
    refl,
    refused_as _ _ _ _ _ _ _ c.number-in-Err.ensures refl
        (doing_malformed _ _ _ _ _ _ d c.requires.0 _ c.in-Err.ensures (omega arith) c.in-Err.refusal refl (ap number_of c.in-Err.ensures.reason)),
  );
}

pub returns-in_err-answer : goal.returns-in_err-answer
returns-in_err-answer c =
    let p = err_from_is_err_and c.from_residual.result c.from_residual.ensures.1 in
    rw (p.1, p.2)
    (record { turned = λ plain m d. (refl, doing_refused _ _ _ _ _ _ d c.requires.0 _ c.in-Ok.ensures (omega arith) _ _ c.perform-performed.result.answer c.in_err-answer.ensures c.perform-performed.ensures) })

pub returns : goal.returns
returns c = record { turned = λ plain m d. (refl, doing_more _ _ _ _ _ _ d c.requires.0 _ c.in-Ok.ensures (omega arith) _ _ _ _ refl refl refl c.perform-performed.result.answer c.in_ok-answer.ensures c.perform-performed.ensures) }
