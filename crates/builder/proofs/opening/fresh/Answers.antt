use Rattle.builder.proofs.Opened.{none_formed, first_fits, opens_refused, opens_first}
use borrow.Author.Rules.{rules}
use Rattle.builder.proofs.opening.fresh.Goals as goal

pub returns-then-slots-lt-FIRST_SIZE : goal.returns-then-slots-lt-FIRST_SIZE
returns-then-slots-lt-FIRST_SIZE c = opens_refused _ _ c.if-slots-lt-FIRST_SIZE.true

pub rehash-requires : goal.rehash-requires
rehash-requires c = (none_formed _, first_fits _ c.if-slots-lt-FIRST_SIZE.false)

pub returns : goal.returns
returns c = opens_first _ _ _ c.if-slots-lt-FIRST_SIZE.false (search rules) c.rehash.ensures
