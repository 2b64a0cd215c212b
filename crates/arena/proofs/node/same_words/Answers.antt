-- `==` compares the words pair by pair.
use Rattle.std.proofs.Common.{refl, ◌∙◌, ◌+◌, ◌-◌, take, drop, List, ℕ}
use Rattle.arena.proofs.OneNode.{same_pointwise}
use Rattle.arena.proofs.Words.{part_words}
use Rattle.arena.proofs.node.same_words.Goals as goal

pub returns : goal.returns
returns c =
    let s = c.args in
    let r = c.requires in
    let words : List ℕ = s.nodes.now in
    rw (← part_words words s.a s.count (s.a + s.count) refl r.0, ← part_words words s.b s.count (s.b + s.count) refl r.1)
    (c.eq.ensures ∙ same_pointwise (take (s.a + s.count - s.a) (drop s.a words)) (take (s.b + s.count - s.b) (drop s.b words)))
