-- `hash::wrapping_mul_179` meets its contract: what is added up is the product with a growing part of 179.
use Rattle.std.proofs.Common.{◌+◌, ◌^◌, refl, rules}
use Rattle.hash.proofs.Prime.{add_product, add_once}
use Rattle.hash.proofs.wrapping_mul_179.Goals as goal

pub returns : goal.returns
returns c =
    let h = c.args.h in
    let two = add_product h _ _ (2 ^ 7) refl (2 ^ 5) c.wrapping_add_u64-product.ensures.value in
    let three = add_product h _ _ (2 ^ 7 + 2 ^ 5) two (2 ^ 4) c.wrapping_add_u64-product-2.ensures.value in
    let four = add_product h _ _ (2 ^ 7 + 2 ^ 5 + 2 ^ 4) three (2 ^ 1) c.wrapping_add_u64-product-3.ensures.value in
    add_once h _ _ (2 ^ 7 + 2 ^ 5 + 2 ^ 4 + 2 ^ 1) four c.wrapping_add_u64.ensures.value
