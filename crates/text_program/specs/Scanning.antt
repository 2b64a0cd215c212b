-- What the scan's steps say.
use Rattle.std.specs.Prelude.{ℕ, suc, ◌≤◌, ◌<◌, ◌≡◌, Bool, true, false, List, length, drop}
use Rattle.text_language.specs.Scan.{Want, operand, operator, scan}
use Rattle.text_program.specs.declared.scanning.ScanState.{ScanState}
use Rattle.std.specs.declared.ops.ControlFlow.{ControlFlow}
use Rattle.std.specs.declared.ops.ControlFlow.TheVariants.{Continue, Break}

abbrev pub wanted : Bool → Want
wanted true = operand
wanted false = operator

-- the scan goes on, from one state to the next
pub record ScanSteps (s : List ℕ) (t u : ScanState) : Type 0 where
  pub low : t.at < u.at
  pub high : u.at ≤ length s
  pub few : u.brackets ≤ u.at
  pub is : (n : ℕ) → scan (suc n) (wanted t.operand) t.brackets (drop t.at s)
      ≡ scan n (wanted u.operand) u.brackets (drop u.at s)

abbrev pub StepSays : List ℕ → ScanState → ControlFlow Bool ScanState → Type 0
StepSays s t (Continue u) = ScanSteps s t u
StepSays s t (Break b) = (n : ℕ) → scan (suc n) (wanted t.operand) t.brackets (drop t.at s) ≡ b
