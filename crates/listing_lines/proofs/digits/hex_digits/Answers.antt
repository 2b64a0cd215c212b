use native.Mathlib.Omega.{arith}
use mathlib.Core.Path.{refl}
use Rattle.listing_lines.proofs.Spelling.{hex_none, hex_more, hex_end}
use Rattle.listing_lines.proofs.digits.hex_digits.Goals as goal

pub loop-first-init : goal.loop-first-init
loop-first-init c = hex_none _ _ refl refl

pub overflow_sub-t-5 : goal.overflow_sub-t-5
overflow_sub-t-5 c = omega arith

pub overflow_sub-first : goal.overflow_sub-first
overflow_sub-first c = let d = c.loop-first.invariant in omega arith

pub digit-requires : goal.digit-requires
digit-requires c = omega arith

pub bounds-bytes-first : goal.bounds-bytes-first
bounds-bytes-first c = let d = c.loop-first.invariant in let l = d.long in omega arith

pub loop-first-smaller : goal.loop-first-smaller
loop-first-smaller c = omega arith

pub loop-first-preserved : goal.loop-first-preserved
loop-first-preserved c = hex_more _ _ _ _ c.loop-first.invariant _ (omega arith) c.digit.ensures

pub returns : goal.returns
returns c =
    let d = c.loop-first.invariant in
    record { is = hex_end _ _ _ _ d (omega arith); within = d.within }
