-- `slots::sizes::modulo_size` meets its contract: the remainder by a power of two is a mask.
use Rattle.slots.proofs.Doubling.{positive, modulo_is}
use Rattle.slots.proofs.sizes.modulo_size.Goals as goal

pub overflow_sub-result : goal.overflow_sub-result
overflow_sub-result c = positive _ c.requires

pub returns : goal.returns
returns c = modulo_is _ _ c.requires
