-- The store's answer, handed on.
use Rattle.std.proofs.lemmas.Result.{err_from_is_err_and}
use Rattle.definitions.specs.Patterns.{intern_add}
use Rattle.sums.proofs.Adding.{add_fits}
use Rattle.sums.proofs.sum.add.Goals as goal

pub intern_likely-requires : goal.intern_likely-requires
intern_likely-requires c = add_fits _ _ _ c.requires.0 c.requires.1

pub returns-in_err-sum-clause-adds : goal.returns-in_err-sum-clause-adds
unfolding intern_add
returns-in_err-sum-clause-adds c =
    let p = err_from_is_err_and c.from_residual.result c.from_residual.ensures.1 in
    rw (p.1, p.2) (rw c.in_err-sum.was at c.intern_likely.ensures.interns.builds)

pub returns-clause-adds : goal.returns-clause-adds
unfolding intern_add
returns-clause-adds c = rw c.in_ok-sum.was at c.intern_likely.ensures.interns.builds
