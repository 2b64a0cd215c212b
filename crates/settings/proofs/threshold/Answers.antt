-- `settings::threshold` meets its contract: the bounds are those of the settings that prune.
use mathlib.Core.Path.{sym, ap, ◌∙◌}
use native.Mathlib.Omega.{arith}
use Rattle.definitions.specs.Threshold.{bits}
use Rattle.definitions.proofs.SettingAnswers.{listed, below_first, above_last}
use Rattle.settings.proofs.threshold.Goals as goal

pub returns-then-setting-lt-FIRST_PRUNING_SETTING : goal.returns-then-setting-lt-FIRST_PRUNING_SETTING
returns-then-setting-lt-FIRST_PRUNING_SETTING c = sym (below_first _ (omega (arith, c.if-setting-lt-FIRST_PRUNING_SETTING.true)))

pub returns-then-setting-gt-LAST_SETTING : goal.returns-then-setting-gt-LAST_SETTING
returns-then-setting-gt-LAST_SETTING c = sym (above_last _ (omega (arith, c.if-setting-gt-LAST_SETTING.true)))

pub returns : goal.returns
returns c = ap bits c.threshold.ensures ∙ sym (listed _ (omega arith) (omega arith))
