-- `hash::add_u64` meets its contract.
use Rattle.std.proofs.Common.{ℕ, [], ◌∷◌, sym, ap, ◌∙◌, rules}
use Rattle.hash.specs.Fnv.{fnv_from, bytes64}
use Rattle.hash.proofs.Appending.{fnv_append}
use Rattle.hash.proofs.Zeros.{eight_zeros}
use Rattle.hash.proofs.add_u64.Goals as goal

abbrev zeros : ℕ → ℕ
zeros n = fnv_from n (0 ∷ 0 ∷ [])

pub returns-then-x-eq0 : goal.returns-then-x-eq0
returns-then-x-eq0 c =
    c.add_two_zeros-then-x-eq0-2.ensures
    ∙ ap zeros (c.add_two_zeros-then-x-eq0.ensures ∙ ap zeros (c.add_two_zeros-half.ensures ∙ ap zeros c.add_two_zeros.ensures))
    ∙ sym (eight_zeros _)
    ∙ ap (λ (n : ℕ). fnv_from c.args.h (bytes64 n)) (sym c.if-x-eq0.true)

pub returns : goal.returns
unfolding bytes64
returns c = rw fnv_append (cc)
