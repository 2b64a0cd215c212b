-- The table's answer, seen as the store's.
use Rattle.std.proofs.Common.{refl, rules}
use Rattle.store.specs.Held.{held}
use Rattle.store.proofs.NewNodes.{new_formed}
use Rattle.store.proofs.Answering.{interned}
use Rattle.store.proofs.holding.Store.intern.Goals as goal

pub get_or_insert-requires : goal.get_or_insert-requires
get_or_insert-requires c =
    let f = c.requires in
    let s = c.args.self.now.sound in
    (s.nodes, s.table, rw c.new-key.ensures (new_formed _ _ _ _ _ f))

pub invariant_of-self : goal.invariant_of-self
invariant_of-self c = let i = c.get_or_insert.ensures in record { sound = record { nodes = i.nodes; table = i.table } }

pub returns-clause-interns : goal.returns-clause-interns
returns-clause-interns c =
    interned (held c.args.self.now) c.args.parts c.requires c.args.self.now.sound _ _ _ (rw c.new-key.ensures at c.get_or_insert.ensures) (search rules) (search rules) _ refl
