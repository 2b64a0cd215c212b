-- `dedup::probing::is_over_newest` meets its contract.
use Prim.Native.Nat.{◌+◌}
use native.Mathlib.Omega.{arith}
use Rattle.definitions.proofs.Deciding.{says_no, says_map, says_eq}
use borrow.Author.Rules.{rules}
use Rattle.dedup.proofs.probing.is_over_newest.Goals as goal

pub returns-then-children-eq0 : goal.returns-then-children-eq0
returns-then-children-eq0 c = says_no (λ n. let s = n.with_children in omega arith)

pub returns : goal.returns
returns c =
    let g = c.requires.0 in
    says_map _ (λ e. record { with_children = let n = c.if-children-eq0.false in omega arith; newest = rw (← g) e }) (λ n. rw g n.newest) (says_eq (c.args.greatest + 1) c.args.count)
