use native.Mathlib.Omega.{arith}
use Rattle.building.proofs.Codes.{asked_operator}
use Rattle.text.proofs.Operators.{low_kind, high_kind, joining_kind, flags_low}
use Rattle.text.proofs.making.operator.Goals.{in_default-via-then-kind-lt2, in_default-via-else-kind-lt2+else-kind-lt7}
use Rattle.text.proofs.making.operator.Goals as goal

pub build_sound-requires : goal.build_sound-requires
build_sound-requires c = let f = flags_low c.args.kind in let e = c.flags_of-flags.ensures in (asked_operator _ _ (omega arith) (omega arith) (omega (arith, f, e)), c.requires)

pub build_sound-requires-in_default : goal.build_sound-requires-in_default
build_sound-requires-in_default c = (asked_operator _ _ (omega arith) (omega arith) (omega arith), c.requires)

pub returns-in-2-to-6 : goal.returns-in-2-to-6
returns-in-2-to-6 c = rw (joining_kind c.args.kind c.args.first c.args.second (omega arith) (omega arith), ← c.flags_of-flags.ensures) c.build_sound.ensures

pub returns-in_default : goal.returns-in_default
returns-in_default c = elim c.in_default.branch [
  | in_default-via-then-kind-lt2 w ↦ rw (low_kind c.args.kind c.args.first c.args.second (omega arith)) c.build_sound-in_default.ensures
  | in_default-via-else-kind-lt2+else-kind-lt7 w ↦ rw (high_kind c.args.kind c.args.first c.args.second (omega arith)) c.build_sound-in_default.ensures
]
