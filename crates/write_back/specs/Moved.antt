-- How far the value of a typed formula may have moved when `answer` wrote it back, on a fresh store with an empty name list. Without a
-- threshold it has not moved.
use Rattle.std.specs.Prelude.{Option, None, Some, Ok}
use Rattle.write_back.specs.declared.Written.{Written}
use Rattle.std.specs.Prelude.{ℕ, ◌<◌, ◌≡◌, Bool, List, take, T}
use Rattle.std.proofs.Math.Option.{some}
use Rattle.std.specs.Float.{binary64}
use Rattle.std.specs.Float.Ieee.{of_bits, le}
use Rattle.definitions.specs.Patterns.{one64}
use Rattle.definitions.specs.Threshold.{bits}
use Rattle.definitions.specs.Settings.{first_pruning_setting}
use Rattle.definitions.specs.Formula.{formula}
use Rattle.definitions.specs.Dyadic.{Dyadic}
use Rattle.definitions.specs.Value.{Reading, value_of}
use Rattle.definitions.specs.Exact.{Exact}
use Rattle.definitions.specs.Controller.{Controller, pruning_by_setting}
use Rattle.definitions.specs.Promise.{FreshController, prunes, ReadTo}
use Rattle.definitions.specs.Moved.{Moved}
use Rattle.text.specs.Memory.{ControllerMemory, lent_controller}
use Rattle.writer.specs.Writing.{WrittenText}
use Rattle.write_back.specs.Answers.{Answers}

-- no setting, or one from 0 to 19
abbrev pub NoThreshold : Option ℕ → Type 0
NoThreshold None = Unit {0}
NoThreshold (Some setting) = setting < first_pruning_setting

-- the bits of a setting's threshold, as demand 3 has them
abbrev pub HasThreshold : ℕ → ℕ → Type 0
HasThreshold setting t = (i : ℕ) → prunes (pruning_by_setting i setting) ≡ some (i, bits t)

-- what was typed, what was written of it, and for a formula of the exact kind how the two values are related
pub record WrittenBack (typed text : List ℕ) (Related : Dyadic → Dyadic → Type 0) : Type 0 where
  pub before : Controller
  pub id : ℕ
  pub read : ReadTo typed before id
  pub after : Controller
  -- a variable is one and the same in both: the names are those that the reading left
  pub same_names : after.names ≡ before.names
  pub answer : ℕ
  pub written : WrittenText after answer text
  pub values : Exact (formula before.nodes id) → (r : Reading)
      → Related (value_of r (formula before.nodes id)) (value_of r (formula after.nodes answer))

abbrev pub MovedText : List ℕ → List ℕ → ℕ → ℕ → Type 0
MovedText typed text t dropped = WrittenBack typed text (λ (old new : Dyadic). Moved old new (of_bits binary64 t) dropped)

abbrev pub ValueMoves : Type 0
ValueMoves = (typed : List ℕ) (setting t : ℕ) (m m' : ControllerMemory) (buffer buffer' : List ℕ)
    (size steps kept dropped : ℕ) (spent deep : Bool)
    → FreshController lent_controller m → HasThreshold setting t → T (le (of_bits binary64 t) one64)
    → Answers typed (Some setting) m buffer (Ok (record { length = size; steps = steps; spent = spent; deep = deep; kept = kept; dropped = dropped })) m' buffer'
    → MovedText typed (take size buffer') t dropped

abbrev pub SameText : List ℕ → List ℕ → Type 0
SameText typed text = WrittenBack typed text (λ (old new : Dyadic). old ≡ new)

-- without a threshold the value is what it was
abbrev pub ValueStays : Type 0
ValueStays = (typed : List ℕ) (pruning : Option ℕ) (m m' : ControllerMemory) (buffer buffer' : List ℕ)
    (size steps kept dropped : ℕ) (spent deep : Bool)
    → FreshController lent_controller m → NoThreshold pruning
    → Answers typed pruning m buffer (Ok (record { length = size; steps = steps; spent = spent; deep = deep; kept = kept; dropped = dropped })) m' buffer' → SameText typed (take size buffer')
