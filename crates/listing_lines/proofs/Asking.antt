-- A node's line asked of any store, by its three answers.
use Prim.Native.Nat.{ℕ, ◌≤◌, ◌<◌}
use mathlib.Core.Path.{refl}
use native.Mathlib.Omega.{arith}
use Rattle.std.specs.Prelude.{Ok, Err}
use Rattle.refusal.specs.declared.Refusal.TheVariants.{NotSound, BadOperand}
use Rattle.store.specs.Memory.{Memory, model}
use Rattle.listing_lines.specs.declared.line.Line.{Line}
use Rattle.listing_lines.specs.Line.{Holds}
use Rattle.listing_lines.specs.Outcome.{line_of}
use Rattle.listing_lines.specs.Answers.{Lists}

module _ (m : Memory) (id : ℕ) where
  pub lists_unsound : (model.Sound m → ⊥) → Lists m id (Err NotSound)
  lists_unsound n = record { unsound = λ _. refl; unknown = λ h. absurd (n h); found = λ h. absurd (n h) }

  module _ (h : model.Sound m) where
    pub lists_unknown : m.arena.count ≤ id → Lists m id (Err BadOperand)
    lists_unknown l = record { unsound = λ n. absurd (n h); unknown = λ _ _. refl; found = λ _ b. absurd (omega arith) }

    pub lists_found : id < m.arena.count → (line : Line) → Holds (line_of (model.view m).nodes id) line → Lists m id (Ok line)
    lists_found b line k = record { unsound = λ n. absurd (n h); unknown = λ _ l. absurd (omega arith); found = λ _ _. k }
