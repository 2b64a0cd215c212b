-- `hash::wrapping_mul_prime` meets its contract.
use Rattle.std.proofs.Common.{rules}
use Rattle.hash.proofs.Prime.{added}
use Rattle.hash.proofs.wrapping_mul_prime.Goals as goal

pub returns : goal.returns
returns c = added _ _ _ _ c.wrapping_add_u64-product.ensures.value c.wrapping_mul_179.ensures c.wrapping_add_u64.ensures.value
