-- `child_places::lower_children` meets its contract: the places in use and the unused ones.
use Prim.Native.Nat.{ℕ, ◌≤◌}
use mathlib.Core.Path.{◌≡◌}
use Rattle.std.proofs.Common.{List}
use mathlib.Core.Path.{sym}
use lib.ListN.{length}
use lib.Seq.{length-take-le}
use native.Mathlib.Omega.{arith}
use borrow.Author.Tests.{not-true, not-false}
use Rattle.definitions.proofs.Deciding.{says_no, says_map}
use Rattle.child_places.proofs.Forming.{places_lower, lower_unused, lower_used}
use borrow.Author.Rules.{rules}
use Rattle.child_places.proofs.lower_children.Goals as goal

used_few : (arity limit : ℕ) (places : List ℕ) → (length places ≡ limit) × (arity ≤ limit) → arity ≤ length places
used_few arity limit places few = omega (arith, few.0, few.1)

pub returns-then-not-unused_zero : goal.returns-then-not-unused_zero
returns-then-not-unused_zero c = says_no (λ f. c.unused_zero.ensures.no c.if-not-unused_zero.true (lower_unused c.args.id c.args.arity c.args.places.now (used_few _ _ _ c.requires) f))

pub slice_bounds-all_below-end : goal.slice_bounds-all_below-end
slice_bounds-all_below-end c = sym (length-take-le c.args.arity c.args.places.now (used_few _ _ _ c.requires))

pub returns : goal.returns
returns c =
    let unused = c.unused_zero.ensures.yes c.if-not-unused_zero.false in
    says_map _ (places_lower c.args.id c.args.arity c.args.places.now (used_few _ _ _ c.requires) unused) (lower_used c.args.id c.args.arity c.args.places.now (used_few _ _ _ c.requires)) c.all_below.ensures
