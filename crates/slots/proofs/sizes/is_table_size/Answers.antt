-- `slots::sizes::is_table_size` meets its contract. The invariant: the rest is a table size just if the size is.
use Prim.Native.Nat.{◌%◌}
use mathlib.Core.Path.{◌≡◌}
use native.Mathlib.Omega.{arith}
use Rattle.definitions.proofs.Deciding.{says_no, says_map, says_eq}
use Rattle.slots.specs.Table.{TableSize}
use Rattle.slots.proofs.Doubling.{not_odd, halved, of_half, first_size, last_half}
use Rattle.slots.proofs.sizes.is_table_size.Goals as goal

pub loop-rest-init : goal.loop-rest-init
loop-rest-init c = (λ t. t, λ t. t)

pub returns-then-rest-ne0 : goal.returns-then-rest-ne0
returns-then-rest-ne0 c = says_no (λ t. not_odd _ (c.loop-rest.invariant.0 t) c.loop-rest-test.true c.if-rest-ne0.true)

pub loop-rest-smaller : goal.loop-rest-smaller
loop-rest-smaller c = omega arith

pub loop-rest-preserved : goal.loop-rest-preserved
loop-rest-preserved c = let e : c.loop-rest.rest % 2 ≡ 0 = omega arith in (λ t. halved _ (c.loop-rest.invariant.0 t) c.loop-rest-test.true, λ t. c.loop-rest.invariant.1 (of_half _ e t))

pub returns : goal.returns
returns c = says_map _ (λ e. c.loop-rest.invariant.1 (first_size _ e)) (λ t. last_half _ (c.loop-rest.invariant.0 t) c.loop-rest-test.false) (says_eq _ 64)
