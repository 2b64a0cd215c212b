-- Nothing of a sound memory is free: it is what its nodes, its table size and what lies past them give.
use Prim.Native.Nat.{ℕ, ◌*◌}
use mathlib.Core.Path.{◌≡◌, refl, sym, ap, ◌∙◌}
use lib.ListN.{length, drop}
use Rattle.arena.specs.Layout.{node_words}
use Rattle.definitions.specs.Limits.{most_doublings}
use Rattle.definitions.specs.Intern.{table_size_from}
use Rattle.store.specs.Memory.{Memory, model, nodes_of, memory_after, Left, TwoControllers, OneMemory}
use Rattle.store.proofs.Viewing.{plain_length}
use Rattle.store.proofs.Sizes.{grown_refl, grown_is}
use Rattle.store.proofs.Stored.{memory_is}

-- a table that holds its nodes need not grow
pub size_stays : (m : Memory) → model.Sound m → m.arena.size ≡ table_size_from most_doublings m.arena.size m.arena.count
size_stays m h = grown_is m.arena.size m.arena.count m.arena.size h.table.doubled h.nodes.formed.many h.table.load (grown_refl m.arena.size m.arena.count)

-- a sound memory is the one that its own nodes give
pub own_memory : (m : Memory) → model.Sound m → m ≡ memory_after m (nodes_of m)
own_memory m h = memory_is m m h (size_stays m h) refl refl

-- two sound memories with the same nodes, size and rest are one
pub two_controllers : TwoControllers
two_controllers m m' h h' c =
    memory_is m' m h
    (c.size ∙ size_stays m' h' ∙ ap (table_size_from most_doublings m'.arena.size) (sym count))
    (c.words_past ∙ ap (λ (k : ℕ). drop (k * node_words) m'.words) (sym count))
    (c.slots_past ∙ ap (λ (k : ℕ). drop k m'.slots) (sym c.size))
    ∙ ap (memory_after m') c.nodes
    ∙ sym (own_memory m' h')
  where
    count : m.arena.count ≡ m'.arena.count
    count = sym (plain_length m.words m.arena.count) ∙ ap length c.nodes ∙ plain_length m'.words m'.arena.count

pub one_memory : OneMemory
one_memory c m m' m'' a b h l k =
    let same = l.equation (yes h) ∙ sym (k.equation (yes h)) in
    (ap (λ (x : Left). x.answer) same, ap (λ (x : Left). x.memory) same)
