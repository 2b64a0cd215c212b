-- A sheet in numbers: 0 is returned where every record was answered, and what the last one answered stands behind pointers; else the
-- refusal's number is returned, and its record stands behind a pointer.
use Rattle.std.specs.Prelude.{ℕ, zero, suc, cond, List, [], ◌∷◌, eqb}
use Rattle.listing_lines.specs.declared.SheetOutcome.{SheetOutcome}
use Rattle.listing_lines.specs.declared.SheetOutcome.TheVariants.{Ok, Empty, Spent, Refused}
use Rattle.outputs.specs.Forms.{ok_form, empty_form, spent_form}

-- the outcome that the number returned, the form, the id and the record say
abbrev pub sheet_outcome : ℕ → ℕ → ℕ → ℕ → SheetOutcome
sheet_outcome zero form id at = cond (eqb form ok_form) (Ok id) (cond (eqb form empty_form) Empty (Spent id))
sheet_outcome (suc number) form id at = Refused (suc number) at

-- the number returned and the form, id and record that an outcome leaves; what it does not speak of stays
abbrev pub sheet_outputs : SheetOutcome → ℕ → ℕ → ℕ → List ℕ
sheet_outputs (Ok answered) form id at = 0 ∷ ok_form ∷ answered ∷ at ∷ []
sheet_outputs Empty form id at = 0 ∷ empty_form ∷ id ∷ at ∷ []
sheet_outputs (Spent root) form id at = 0 ∷ spent_form ∷ root ∷ at ∷ []
sheet_outputs (Refused number refused_at) form id at = number ∷ form ∷ id ∷ refused_at ∷ []
