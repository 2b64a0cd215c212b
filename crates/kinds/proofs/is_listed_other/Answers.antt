-- `kinds::is_listed_other` meets its contract: one law for each kind.
use mathlib.Core.Path.{◌∙◌}
use native.Mathlib.Omega.{arith}
use borrow.Author.Rules.{rules}
use Rattle.kinds.proofs.Listing as L
use Rattle.kinds.proofs.is_listed_other.Goals as goal

pub returns-then-payload-lt-NUMBERS : goal.returns-then-payload-lt-NUMBERS
returns-then-payload-lt-NUMBERS c = L.function_low _ _ _ c.in-16.is c.if-payload-lt-NUMBERS.true

pub returns-else-payload-lt-NUMBERS : goal.returns-else-payload-lt-NUMBERS
returns-else-payload-lt-NUMBERS c = L.function_high _ _ _ c.in-16.is c.if-payload-lt-NUMBERS.false

pub returns-in-32 : goal.returns-in-32
returns-in-32 c = c.control_arity.ensures ∙ L.control _ _ _ c.in-32.is

pub returns-in_default : goal.returns-in_default
returns-in_default c = let h = c.requires in L.no_kind _ _ _ (omega arith) (omega arith) (λ e. omega arith) (λ e. omega arith)
