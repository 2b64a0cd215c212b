use native.Mathlib.Omega.{arith}
use mathlib.Core.Path.{refl}
use Rattle.listing_lines.proofs.Spelling.{decimal_none, decimal_more, decimal_end}
use Rattle.listing_lines.proofs.digits.decimal_digits.Goals as goal

pub loop-rest-init : goal.loop-rest-init
loop-rest-init c = decimal_none _ _ (omega arith) refl refl

pub overflow_sub-first : goal.overflow_sub-first
overflow_sub-first c = let d = c.loop-rest.invariant in omega arith

pub digit-requires : goal.digit-requires
digit-requires c = omega arith

pub bounds-bytes-first : goal.bounds-bytes-first
bounds-bytes-first c = let d = c.loop-rest.invariant in let l = d.long in omega arith

pub loop-rest-smaller : goal.loop-rest-smaller
loop-rest-smaller c = omega arith

pub loop-rest-preserved : goal.loop-rest-preserved
loop-rest-preserved c = decimal_more _ _ _ _ _ c.loop-rest.invariant (omega arith) c.digit.ensures

pub overflow_sub-first-2 : goal.overflow_sub-first-2
overflow_sub-first-2 c = let d = c.loop-rest.invariant in omega arith

pub digit-requires-2 : goal.digit-requires-2
digit-requires-2 c = omega arith

pub bounds-bytes-first-2 : goal.bounds-bytes-first-2
bounds-bytes-first-2 c = let d = c.loop-rest.invariant in let l = d.long in omega arith

pub returns : goal.returns
returns c =
    let d = c.loop-rest.invariant in
    record { is = decimal_end _ _ _ _ _ d (omega arith) c.digit-2.ensures; within = let w = d.within in omega arith }
