use Rattle.std.proofs.Common.{refl, ◌∙◌}
use Rattle.arena.proofs.Words.{part_words}
use Rattle.arena.proofs.node.load_children.Goals as goal

pub returns : goal.returns
returns c = c.copy_from_slice.ensures.after ∙ part_words c.args.nodes.now c.args.at _ _ refl c.requires
