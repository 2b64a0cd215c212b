use Rattle.merges.proofs.MergeLaws as Merges
use Rattle.merges.proofs.mul_merge.Goals as goal

pub returns-in_err-factor : goal.returns-in_err-factor
returns-in_err-factor c = rw c.from_residual.ensures (Merges.no_factor c.requires c.in_err-factor.ensures)

pub returns-in_err-child : goal.returns-in_err-child
returns-in_err-child c = rw c.from_residual-in_err-child.ensures (Merges.no_product c.requires _ c.in_ok-factor.ensures c.in_err-child.ensures.is)

pub returns-in_err-bits : goal.returns-in_err-bits
returns-in_err-bits c =
    let child = c.in_ok-child.child in
    let found = c.in_ok-child.ensures in
    rw c.from_residual-in_err-bits.ensures
    (Merges.merges_product c.requires _ c.in_ok-factor.ensures child.bits child.side child.other found.is found.low c.in_err-bits.ensures)

pub returns : goal.returns
returns c =
    let child = c.in_ok-child.child in
    let found = c.in_ok-child.ensures in
    Merges.merges_product c.requires _ c.in_ok-factor.ensures child.bits child.side child.other found.is found.low c.in_ok-bits.ensures
