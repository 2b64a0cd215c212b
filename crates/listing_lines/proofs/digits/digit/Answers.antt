use mathlib.Core.Path.{sym}
use Rattle.listing_lines.proofs.Spelling.{digit_low, digit_high}
use Rattle.listing_lines.proofs.digits.digit.Goals as goal

pub returns-then-value-lt-DECIMAL_BASE : goal.returns-then-value-lt-DECIMAL_BASE
returns-then-value-lt-DECIMAL_BASE c = sym (digit_low _ c.if-value-lt-DECIMAL_BASE.true)

pub returns-else-value-lt-DECIMAL_BASE : goal.returns-else-value-lt-DECIMAL_BASE
returns-else-value-lt-DECIMAL_BASE c = sym (digit_high _ c.if-value-lt-DECIMAL_BASE.false)
