use Rattle.decisions.proofs.FoldLaws as Folds
use Rattle.decisions.proofs.folding.constant_fold.Goals as goal

pub returns-in_err-a : goal.returns-in_err-a
returns-in_err-a c = rw c.from_residual.ensures (Folds.left_missing c.requires _ c.in_err-a.ensures)

pub returns-in_err-b : goal.returns-in_err-b
returns-in_err-b c = rw c.from_residual-in_err-b.ensures (Folds.right_missing c.requires _ _ c.in_ok-a.ensures c.in_err-b.ensures)

pub returns-in_err-bits : goal.returns-in_err-bits
returns-in_err-bits c = rw c.from_residual-in_err-bits.ensures (Folds.fold_declined c.requires _ _ c.in_ok-a.ensures _ c.in_ok-b.ensures c.in_err-bits.ensures)

pub returns : goal.returns
returns c = Folds.folds c.requires _ _ c.in_ok-a.ensures _ c.in_ok-b.ensures c.in_ok-bits.ensures
