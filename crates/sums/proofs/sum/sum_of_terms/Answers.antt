use native.Mathlib.Omega.{arith}
use Rattle.store.specs.Held.{held}
use Rattle.sums.proofs.Parts.{part_length}
use Rattle.sums.proofs.Summing.{sums_none}
use Rattle.sums.proofs.sum.sum_of_terms.Goals as goal

pub returns-then-n-eq0-clause-sums : goal.returns-then-n-eq0-clause-sums
returns-then-n-eq0-clause-sums c =
    let e = part_length _ _ _ c.requires.0 in
    sums_none (held c.args.store.now) _ (omega (arith, e, c.if-n-eq0.true)) _ (held c.zero.new.store) c.zero.ensures.sums
