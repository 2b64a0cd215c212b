-- By the number of terms.
use Rattle.sums.proofs.Summing as Q
use Rattle.sums.proofs.sum.sum_of_few.Goals as goal

pub returns-then-n-eq1-clause-sums : goal.returns-then-n-eq1-clause-sums
returns-then-n-eq1-clause-sums c =
    let p = c.requires in
    rw c.from-first.ensures (Q.sums_one _ _ _ c.args.store.now.sound _ _ _ p.0 p.2 p.3 c.if-n-eq1.true)

pub add-requires : goal.add-requires
add-requires c =
    let p = c.requires in
    rw (c.from-first.ensures, c.from.ensures) (Q.addable _ _ _ c.args.store.now.sound _ _ _ p.0 p.2 p.3 p.1 c.if-n-eq1.false)

pub returns-clause-sums : goal.returns-clause-sums
returns-clause-sums c =
    let p = c.requires in
    Q.sums_two _ _ _ c.args.store.now.sound _ _ _ p.0 p.2 p.3 p.1 c.if-n-eq1.false _ _ (rw (c.from-first.ensures, c.from.ensures) at c.add.ensures.adds)
