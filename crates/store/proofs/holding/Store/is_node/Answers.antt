use Rattle.std.proofs.Common.{refl, arith}
use borrow.Author.Tests.{lt-ltb, le-ltb}
use Rattle.store.proofs.holding.Store.is_node.Goals as goal

pub returns-then-self-id : goal.returns-then-self-id
returns-then-self-id c = rw (le-ltb _ _ c.if-self-id.true) refl

pub has_parts-requires : goal.has_parts-requires
has_parts-requires c = let s = c.args.self.now.sound.nodes.formed in let f = s.fits in let l = c.if-self-id.false in (omega arith, s.each _ l)

pub returns : goal.returns
returns c = rw (lt-ltb _ _ c.if-self-id.false) c.has_parts.ensures
