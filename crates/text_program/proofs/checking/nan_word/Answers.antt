use mathlib.Core.Path.{sym, ◌∙◌}
use Rattle.text_program.proofs.Compiling.{operator_fine, name_fine, number_nan}
use Rattle.text_program.proofs.checking.nan_word.Goals as goal

pub returns-then-word-ge-FIRST_OPERATOR : goal.returns-then-word-ge-FIRST_OPERATOR
returns-then-word-ge-FIRST_OPERATOR c = operator_fine c.args.text.now c.args.word c.if-word-ge-FIRST_OPERATOR.true

pub returns-then-name_starts : goal.returns-then-name_starts
returns-then-name_starts c = name_fine c.args.text.now c.args.word c.if-word-ge-FIRST_OPERATOR.false (sym c.name_starts.ensures ∙ c.if-name_starts.true)

pub returns : goal.returns
returns c = number_nan c.args.text.now c.args.word _ _ c.if-word-ge-FIRST_OPERATOR.false c.bits_at-bits.ensures c.is_nan.ensures
