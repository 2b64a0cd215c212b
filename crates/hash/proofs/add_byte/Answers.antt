-- `hash::add_byte` meets its contract.
use Rattle.std.proofs.Common.{◌∙◌, rules}
use Rattle.hash.specs.Fnv.{fnv_from}
use Rattle.hash.proofs.Prime.{printed_is_prime}
use Rattle.hash.proofs.add_byte.Goals as goal

pub returns : goal.returns
unfolding fnv_from
returns c = c.wrapping_mul_prime.ensures ∙ printed_is_prime _
