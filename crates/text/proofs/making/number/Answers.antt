use Rattle.building.proofs.Codes.{asked_constant}
use Rattle.text.proofs.making.number.Goals as goal

pub build_sound-requires : goal.build_sound-requires
build_sound-requires c = (asked_constant _, c.requires)
