-- The 16 places are those of no children.
use Rattle.std.proofs.Common.{refl, rules, arith, ◌∙◌, ◌-◌, ◌+◌, [], replicate, ◌≡◌, ap, ℕ, length, take, drop}
use Rattle.std.proofs.lemmas.Slice.{put_mid-paste}
use Rattle.arena.specs.Node.{places_of}
use Rattle.arena.proofs.node.clear_places.Goals as goal

pub returns : goal.returns
unfolding places_of
returns c =
    let n = c.args.nodes.now in
    let a = c.args.at in
    let k : a + 16 - a ≡ 16 = omega arith in
    let l : length (take (a + 16 - a) (drop a n)) ≡ 16 = search rules in
    put_mid-paste a (a + 16 - a) n c.fill.new.self (places_of []) 16 (c.fill.ensures.after (λ y e. e) ∙ ap (λ (m : ℕ). replicate m 0) l) (omega arith) refl
