-- A mode of the code in the plain machine's terms.
use Rattle.definitions.specs.Walk as W
use Rattle.definitions.specs.declared.mode.Mode.{Mode}
use Rattle.definitions.specs.declared.mode.Mode.TheVariants.{Standard, Strict}

abbrev pub mode_of : Mode → W.Mode
mode_of Standard = W.standard
mode_of Strict = W.strict
