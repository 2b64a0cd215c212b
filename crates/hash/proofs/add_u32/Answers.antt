-- `hash::add_u32` meets its contract.
use Rattle.std.proofs.Common.{ℕ, ◌/◌, ◌%◌, [], ◌∷◌, sym, ap, ◌∙◌, rules}
use Rattle.hash.specs.Fnv.{fnv_from, bytes32}
use Rattle.hash.proofs.Zeros.{two_bytes}
use Rattle.hash.proofs.add_u32.Goals as goal

pub returns-then-x-lt-TWO_TO_16 : goal.returns-then-x-lt-TWO_TO_16
returns-then-x-lt-TWO_TO_16 c =
    c.add_byte.ensures
    ∙ ap (λ (n : ℕ). fnv_from n ((c.args.x % 256) ∷ []))
    (c.add_byte-high.ensures ∙ ap (λ (n : ℕ). fnv_from n ((c.args.x / 256) ∷ [])) c.add_two_zeros-zeros.ensures)
    ∙ sym (two_bytes _ _ c.if-x-lt-TWO_TO_16.true)

pub returns : goal.returns
unfolding fnv_from bytes32
returns c = cc
