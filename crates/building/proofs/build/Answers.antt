use Rattle.building.specs.Requests.{unsound, sound}
use Rattle.building.proofs.build.Goals as goal

pub returns-then-not-audit : goal.returns-then-not-audit
returns-then-not-audit c = unsound (c.audit.ensures.no c.if-not-audit.true)

pub build_sound-requires : goal.build_sound-requires
build_sound-requires c = (c.requires, c.audit.ensures.yes c.if-not-audit.false)

pub returns : goal.returns
returns c = sound (c.audit.ensures.yes c.if-not-audit.false) c.build_sound.ensures
