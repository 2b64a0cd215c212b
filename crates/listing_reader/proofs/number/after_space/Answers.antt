-- `listing_reader::number::after_space` meets its contract.
use mathlib.Core.Path.{sym, ◌∙◌}
use native.Mathlib.Omega.{arith}
use Rattle.listing_reader.proofs.Bytes.{byte_here}
use Rattle.listing_reader.proofs.Digits.{no_space, one_space}
use Rattle.listing_reader.proofs.number.after_space.Goals as goal

pub returns-then-byte_at-ne-SPACE : goal.returns-then-byte_at-ne-SPACE
returns-then-byte_at-ne-SPACE c = no_space _ _ _ c.byte_at.ensures c.if-byte_at-ne-SPACE.true

pub overflow_add-result : goal.overflow_add-result
overflow_add-result c = let k = byte_here c.args.bytes.now c.args.at 32 (omega arith) (sym c.byte_at.ensures ∙ c.if-byte_at-ne-SPACE.false) in omega arith

pub returns : goal.returns
returns c = one_space _ _ _ c.byte_at.ensures c.if-byte_at-ne-SPACE.false
