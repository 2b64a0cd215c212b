use mathlib.Core.Path.{refl}
use native.Mathlib.Omega.{arith}
use lib.ListN.{length-replicate}
use Rattle.encoding.proofs.SpelledBytes.{spell_more, spelled_whole}
use Rattle.encoding.proofs.spelling.spell.Goals as goal

pub loop-i-init : goal.loop-i-init
loop-i-init g c = record { few = omega arith; there = omega arith; size = length-replicate g.row.N 0; is = refl }

pub loop-i-preserved : goal.loop-i-preserved
loop-i-preserved g c = spell_more _ _ _ _ _ c.loop-i.invariant (omega arith) (omega arith) c.lowest_byte.ensures

pub returns : goal.returns
returns g c = spelled_whole _ _ _ _ _ c.loop-i.invariant c.loop-i.auto.i-end c.loop-i-test.false c.min-length.ensures
