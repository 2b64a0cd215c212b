use Rattle.text_language.specs.Program.{operator_token}
use Rattle.text.specs.Making.{operator_call}
use Rattle.text.proofs.Performing.{makes_store, makes_as, perform_place, perform_kind}
use Rattle.text.proofs.making.perform.Goals as goal

pub returns-then-word-lt-FIRST_OPERATOR : goal.returns-then-word-lt-FIRST_OPERATOR
returns-then-word-lt-FIRST_OPERATOR c = makes_as _ _ _ _ _ (perform_place _ _ c.if-word-lt-FIRST_OPERATOR.true _ _ _ _) c.leaf.ensures

pub returns : goal.returns
returns c = makes_as _ _ _ _ _ (perform_kind _ _ c.if-word-lt-FIRST_OPERATOR.false _ _ _ _) (rw c.from-kind.ensures at (makes_store (operator_call (operator_token c.from-kind.result) _ _) _ c.requires _ _ _ _ c.operator-built.ensures))
