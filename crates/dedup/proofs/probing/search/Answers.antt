-- `dedup::probing::search` meets its contract: no node is over the newest one.
use Rattle.dedup.proofs.KeyParts.{free_from_key}
use Rattle.dedup.proofs.GreatestChild.{over_newest_free}
use borrow.Author.Rules.{rules}
use Rattle.dedup.proofs.probing.search.Goals as goal

pub is_over_newest-requires : goal.is_over_newest-requires
is_over_newest-requires c = c.greatest_child-greatest.ensures

pub free_place-requires : goal.free_place-requires
free_place-requires c = c.requires.1

pub returns-then-is_over_newest : goal.returns-then-is_over_newest
returns-then-is_over_newest c =
    let a = c.args in
    over_newest_free a.nodes.now a.count a.key.parts.kind a.key.parts.payload a.key.parts.flags a.key.parts.children.now c.requires.0.formed (c.is_over_newest.ensures.yes c.if-is_over_newest.true) _ _ _ (free_from_key a.key _ _ _ c.free_place.ensures)

pub probe-requires : goal.probe-requires
probe-requires c = (c.requires.0, c.greatest_child-greatest.ensures.0)

pub returns : goal.returns
returns c = c.probe.ensures
