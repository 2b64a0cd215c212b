-- `limbs::multiply` meets its contract. Assumes nothing.
use Rattle.computed_thresholds.proofs.Multiplying.{appends, multiplied}
use Rattle.computed_thresholds.proofs.limbs.multiply.Goals as goal

pub append-requires : goal.append-requires
append-requires c = let p = c.requires in appends p.0 p.1 p.3 c.scale-over.ensures

pub returns : goal.returns
returns c = multiplied c.scale-over.ensures c.append.ensures
