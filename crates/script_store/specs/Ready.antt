-- What the harness finds out before it calls the store.
use Rattle.std.specs.Prelude.{ℕ, ◌<◌, List}
use Rattle.arena.specs.declared.DagArena.{DagArena}
use Rattle.store.specs.View.{Sound}

-- a sound store and two of its ids
pub record Ready (w slots : List ℕ) (s : DagArena) (lhs rhs : ℕ) : Type 0 where
  pub whole : Sound w slots s
  pub left : lhs < s.count
  pub right : rhs < s.count
