-- `hash::add_two_zeros` meets its contract.
use Rattle.std.proofs.Common.{sym, ap, ◌∙◌, rules}
use Rattle.hash.specs.Fnv.{times_prime}
use Rattle.hash.proofs.Prime.{printed_is_prime}
use Rattle.hash.proofs.Zeros.{two_zeros}
use Rattle.hash.proofs.add_two_zeros.Goals as goal

pub returns : goal.returns
returns c =
    c.wrapping_mul_prime-2.ensures ∙ printed_is_prime _
    ∙ ap times_prime (c.wrapping_mul_prime.ensures ∙ printed_is_prime _)
    ∙ sym (two_zeros _)
