-- A listing in bytes and numbers.
use Rattle.std.specs.Prelude.{ℕ, cond, List, [], ◌∷◌, ◌++◌, eqb}
use Rattle.listing_lines.specs.declared.SheetOutcome.{SheetOutcome}
use Rattle.listing_lines.specs.declared.SheetOutcome.TheVariants.{Ok, Empty, Spent, Refused}
use Rattle.listing_reader.specs.declared.ListingAnswer.{ListingAnswer}
use Rattle.listing_reader.specs.declared.ListingAnswer.TheVariants.{Read, Refused as RefusedLine, Full}
use Rattle.outputs.specs.Forms.{ok_form, empty_form, spent_form, refused_form}

-- ---- the first line

-- the first line that a form, an id, a number and a record say
abbrev pub first_line_outcome : ℕ → ℕ → ℕ → ℕ → SheetOutcome
first_line_outcome form id number at =
    cond (eqb form ok_form) (Ok id) (cond (eqb form empty_form) Empty (cond (eqb form spent_form) (Spent id) (Refused number at)))

-- the form, id, number and record that a first line leaves; what it does not speak of stays
abbrev pub first_line_outputs : SheetOutcome → ℕ → ℕ → ℕ → List ℕ
first_line_outputs (Ok answered) id number at = ok_form ∷ answered ∷ number ∷ at ∷ []
first_line_outputs Empty id number at = empty_form ∷ id ∷ number ∷ at ∷ []
first_line_outputs (Spent root) id number at = spent_form ∷ root ∷ number ∷ at ∷ []
first_line_outputs (Refused refusal refused_at) id number at = refused_form ∷ id ∷ refusal ∷ refused_at ∷ []

-- ---- a listing read back

-- what is returned where a line is wrong, and where the lent words are too few
abbrev pub wrong_line : ℕ
wrong_line = 1

abbrev pub too_few_words : ℕ
too_few_words = 2

-- the answer that the number returned and the numbers behind pointers say
abbrev pub read_answer : ℕ → ℕ → ℕ → ℕ → ℕ → ℕ → ℕ → ListingAnswer
read_answer r count form id number at line =
    cond (eqb r 0) (Read (first_line_outcome form id number at) count) (cond (eqb r wrong_line) (RefusedLine line) Full)

-- the number returned and the count, form, id, number, record and line that an answer leaves; what it does not speak of stays
abbrev pub read_outputs : ListingAnswer → ℕ → ℕ → ℕ → ℕ → ℕ → ℕ → List ℕ
read_outputs (Read o held) count form id number at line = 0 ∷ held ∷ (first_line_outputs o id number at ++ line ∷ [])
read_outputs (RefusedLine wrong) count form id number at line = wrong_line ∷ count ∷ form ∷ id ∷ number ∷ at ∷ wrong ∷ []
read_outputs Full count form id number at line = too_few_words ∷ count ∷ form ∷ id ∷ number ∷ at ∷ line ∷ []
