use Rattle.unaudited.proofs.Building.{built_left}
use borrow.Author.Rules.{rules}
use Rattle.unaudited.proofs.curvalique_build_sound.Goals as goal

pub returns : goal.returns
returns c =
    record {
      answer = _;
      built = built_left _ _ _ _ _ _ _ _ c.build_sound-built.ensures c.leave_built.ensures.size_after;
      left = c.leave_built.ensures.left_behind;
    }
