-- The words and the children are compared pair by pair.
use Rattle.std.proofs.Common.{rules, refl, ◌≡◌, ◌-◌, ◌+◌, ℕ, List, length, take, drop, Bor}
use borrow.Author.Tests.{tests}
use Rattle.std.proofs.lemmas.Iterator.{same_from_all, YieldsList-from_zip, YieldsList-from_slice}
use Rattle.std.proofs.lemmas.Bool.Decides.{same_from_decides}
use Rattle.definitions.specs.Node.{same_children}
use Rattle.arena.proofs.OneNode.{children_decides}
use Rattle.arena.proofs.Words.{part_words, part_length}
use Rattle.arena.proofs.node.has_children.Goals as goal

pub returns : goal.returns
returns c =
    let nodes : List ℕ = c.args.nodes.now in
    let at : ℕ = c.args.at in
    let children : List ℕ = c.args.children.now in
    let n : ℕ = length children in
    let words : List ℕ = take (at + n - at) (drop at nodes) in
    rw (← part_words nodes at n (at + n) refl c.requires)
    (same_from_decides c.all.result (same_children words children)
    (same_from_all {v = λ (p : Bor ℕ × Bor ℕ). (p.0.now, p.1.now)} c.all.new.self _ _ words children c.all.ensures.ran (YieldsList-from_zip (YieldsList-from_slice words cc) (YieldsList-from_slice children cc)) (part_length nodes at n (at + n) refl c.requires)
    (λ x q k. search (rules, tests)) (λ x q k. search (rules, tests)))
    (children_decides words children))
