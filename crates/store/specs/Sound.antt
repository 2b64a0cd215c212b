-- What holds in every sound store. A store in which a part of it does not hold is refused with 20.
use Rattle.std.specs.Prelude.{List, ℕ}
use Rattle.arena.specs.declared.DagArena.{DagArena}
use Rattle.arena.specs.Nodes.{Nodes}
use Rattle.slots.specs.Table.{Table, hash_at}

pub record Sound (words slots : List ℕ) (arena : DagArena) : Type 0 where
  -- Kinds, payloads (symbols and function numbers below 2^32) and child counts are as listed, and no constant is a NaN: field `kinds` of each
  -- node's WellFormed. Unused places are 0 and children have lower ids than their node: `places.unused`, `places.lower`. Hashes and
  -- coefficients are those of the node, flags are 0 to 7: `hashed`, `weighed`, `marks`. No two nodes are one: `apart`. There are no more nodes
  -- than are lent, and at most 65,536: `formed.fits`, `formed.many`.
  pub nodes : Nodes words arena.count
  -- The table is what inserting all nodes by ascending id into an empty table of the present size gives, each at its first free place:
  -- `filled`. So each id has just one slot, met from its hash modulo the table size onward, round the end, before an empty one, and every
  -- other slot is 0: `table_order` of slots/proofs/Inserting. The size is a power of two from 64 up to the lent slots: `doubled`, `sized`. At
  -- most 7/10 of it are in use: `load`.
  pub table : Table (hash_at words) arena.count slots arena.size
