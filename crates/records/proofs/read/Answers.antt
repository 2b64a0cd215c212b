-- `records::read` meets its contract.
use native.Mathlib.Omega.{arith}
use mathlib.Core.Path.{refl, sym}
use Rattle.std.proofs.lemmas.Result.{err_from_is_err_and}
use Rattle.records.proofs.Whole as W
use Rattle.records.proofs.read.Goals as goal

pub returns-then-sheet-at : goal.returns-then-sheet-at
returns-then-sheet-at c = let a = c.args in record { is = sym (W.record_short a.sheet.now a.cursor.at (omega arith)); within = tt; reason = refl }

pub returns-then-sheet-at-lt-LENGTH_BYTES : goal.returns-then-sheet-at-lt-LENGTH_BYTES
returns-then-sheet-at-lt-LENGTH_BYTES c = let a = c.args in record { is = sym (W.record_short a.sheet.now a.cursor.at (omega arith)); within = tt; reason = refl }

pub returns-then-sheet-first : goal.returns-then-sheet-first
returns-then-sheet-first c = let a = c.args in record { is = sym (W.record_long a.sheet.now a.cursor.at _ (omega arith) c.number-length.ensures.is c.if-sheet-first.true); within = tt; reason = refl }

pub returns-in_err-body : goal.returns-in_err-body
returns-in_err-body c =
    let a = c.args in
    let p = err_from_is_err_and c.from_residual.result c.from_residual.ensures.1 in
    rw (p.1, p.2)
    (record {
      is = W.record_whole a.sheet.now a.cursor.at _ (omega arith) c.number-length.ensures.is c.if-sheet-first.false _ c.in_err-body.ensures;
      within = tt;
      reason = c.in_err-body.ensures.reason;
    })

pub returns : goal.returns
returns c =
    let a = c.args in
    record {
      is = W.record_whole a.sheet.now a.cursor.at _ (omega arith) c.number-length.ensures.is c.if-sheet-first.false _ c.in_ok-body.ensures;
      within = c.in_ok-body.ensures.within;
      reason = tt;
    }
