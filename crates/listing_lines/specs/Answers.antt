-- What asking any store for the line of an id says.
use Rattle.std.specs.Prelude.{ℕ, ◌≤◌, ◌<◌, ◌≡◌, Result, Err, IsOkAnd}
use Rattle.refusal.specs.declared.Refusal.{Refusal}
use Rattle.refusal.specs.declared.Refusal.TheVariants.{NotSound, BadOperand}
use Rattle.store.specs.Memory.{Memory, model}
use Rattle.listing_lines.specs.declared.line.Line.{Line}
use Rattle.listing_lines.specs.Line.{Holds}
use Rattle.listing_lines.specs.Outcome.{line_of}

-- a store that is not sound is refused, then an id that is not below the count; else the line
pub record Lists (m : Memory) (id : ℕ) (r : Result Line Refusal) : Type 0 where
  pub unsound : (model.Sound m → ⊥) → r ≡ Err NotSound
  pub unknown : model.Sound m → m.arena.count ≤ id → r ≡ Err BadOperand
  pub found : model.Sound m → id < m.arena.count → IsOkAnd r (Holds (line_of (model.view m).nodes id))
