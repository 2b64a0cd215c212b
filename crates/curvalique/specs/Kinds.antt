-- What a call makes.
use Rattle.definitions.specs.Machine as M

-- a node, a walk or a prune
pub data CallKind : Type 0 where
  making : CallKind
  walking : CallKind
  pruning : CallKind

abbrev pub kind_of : M.Call → CallKind
kind_of (M.store c) = making
kind_of (M.simplify mode root depth budget) = walking
kind_of (M.prune root threshold) = pruning
kind_of (M.prune_by_setting root setting) = pruning
