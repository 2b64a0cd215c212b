-- `child_places::unused_zero` meets its contract: the unused places are looked at in one part or two.
use borrow.Author.Tests.{not-true, not-false}
use Rattle.definitions.proofs.Deciding.{says_no, says_map}
use Rattle.child_places.proofs.Forming.{zeros_tail, tail_zeros, zeros_joined, zeros_rest, zeros_first}
use borrow.Author.Rules.{rules}
use Rattle.child_places.proofs.unused_zero.Goals as goal

pub returns-then-not-all_zero : goal.returns-then-not-all_zero
returns-then-not-all_zero c =
    let places = c.args.places.now in
    let few = c.if-used-le-FEW_CHILDREN.true in
    says_no (λ all. c.all_zero.ensures.no c.if-not-all_zero.true (tail_zeros places 2 (zeros_rest places c.args.used 2 few all)))

pub returns-then-used-le-FEW_CHILDREN : goal.returns-then-used-le-FEW_CHILDREN
returns-then-used-le-FEW_CHILDREN c =
    let places = c.args.places.now in
    let few = c.if-used-le-FEW_CHILDREN.true in
    let rest = zeros_tail places 2 (c.all_zero.ensures.yes c.if-not-all_zero.false) in
    says_map _ (λ zeros. zeros_joined places c.args.used 2 few zeros rest) (zeros_first places c.args.used 2 few) c.all_zero-then-used-le-FEW_CHILDREN.ensures

pub returns : goal.returns
returns c =
    let a = c.args in
    says_map _ (zeros_tail a.places.now a.used) (tail_zeros a.places.now a.used) c.all_zero-2.ensures
