use native.Mathlib.Omega.{arith}
use Rattle.text_language.proofs.Tokens.{takes_none, takes_low, takes_high, takes_two}
use Rattle.text_program.proofs.words.operand_count.Goals as goal

pub returns-then-word-lt-FIRST_OPERATOR : goal.returns-then-word-lt-FIRST_OPERATOR
returns-then-word-lt-FIRST_OPERATOR c = λ s. takes_none _ s c.if-word-lt-FIRST_OPERATOR.true

pub returns-in-8194-to-8198 : goal.returns-in-8194-to-8198
returns-in-8194-to-8198 c = λ s. takes_two _ s c.if-word-lt-FIRST_OPERATOR.false (omega arith) (omega arith)

pub returns-in_default : goal.returns-in_default
returns-in_default c = λ s. takes_low _ s c.if-word-lt-FIRST_OPERATOR.false (omega arith)

pub returns-in_default-2 : goal.returns-in_default-2
returns-in_default-2 c = λ s. takes_high _ s c.if-word-lt-FIRST_OPERATOR.false (omega arith)
