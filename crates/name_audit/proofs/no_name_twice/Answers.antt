-- `name_audit::no_name_twice` meets its contract. The loop's invariant: the names passed are sorted into buckets, and no two are the same.
use mathlib.Core.Path.{refl}
use native.Mathlib.Omega.{arith}
use lib.ListN.{length-set}
use Rattle.definitions.proofs.Deciding.{says_yes, says_no}
use Rattle.name_audit.proofs.Chains.{sorted_none, chained, sorted_more, once_all, twice_no}
use Rattle.name_audit.proofs.no_name_twice.Goals as goal

pub loop-i-init : goal.loop-i-init
loop-i-init c = (refl, refl, sorted_none _ _)

pub bounds-latest-bucket : goal.bounds-latest-bucket
bounds-latest-bucket c = c.bucket-bucket.ensures.below

pub stands_before-requires : goal.stands_before-requires
stands_before-requires c = chained _ _ _ _ _ _ _ c.at.ensures c.bucket-bucket.ensures c.from.ensures c.loop-i.invariant.2 (let m = c.requires.0 in omega arith) (let f = c.requires.1 in omega arith) c.loop-i.invariant.1

pub returns-then-stands_before : goal.returns-then-stands_before
returns-then-stands_before c = says_no (twice_no _ _ _ (omega arith) (c.stands_before.ensures.yes c.if-stands_before.true))

pub bounds-latest-bucket-in-loop-i : goal.bounds-latest-bucket-in-loop-i
bounds-latest-bucket-in-loop-i c = c.bucket-bucket.ensures.below

pub loop-i-preserved : goal.loop-i-preserved
loop-i-preserved c = (simp length-set c.loop-i.invariant.0, simp length-set c.loop-i.invariant.1, sorted_more _ _ _ _ _ _ _ c.at.ensures c.bucket-bucket.ensures refl c.loop-i.invariant.2 c.loop-i.invariant.0 c.loop-i.invariant.1 (let m = c.requires.0 in omega arith) (c.stands_before.ensures.no c.if-stands_before.false))

pub returns : goal.returns
returns c = says_yes (once_all _ _ c.requires.1 c.requires.2 (λ k l. c.loop-i.invariant.2.apart k (omega arith)))
