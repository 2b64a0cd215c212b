use Rattle.std.proofs.Common.{rules}
use Rattle.store.specs.Held.{held}
use Rattle.building.proofs.Requesting.{refuse_code, asked_listed, listed_builds}
use Rattle.building.proofs.build_sound.Goals as goal

pub returns-then-not-listed : goal.returns-then-not-listed
returns-then-not-listed c =
    let b = refuse_code c.args.listed c.args.kind c.args.payload c.args.flags c.args.operands.now c.args.nodes.now c.args.slots.now c.args.arena c.requires.0 c.requires.1 c.if-not-listed.true in
    search rules

pub build_in-answer-requires : goal.build_in-answer-requires
build_in-answer-requires c = asked_listed _ _ _ _ c.if-not-listed.false c.requires.0

pub returns : goal.returns
returns c =
    let b = listed_builds _ c.if-not-listed.false _ (held c.over-store.result) _ (held c.build_in-answer.new.store) c.build_in-answer.ensures.builds in
    search rules
