-- From what reading a listing answers to what it says in numbers.
use Prim.Native.Nat.{ℕ}
use mathlib.Core.Path.{◌≡◌, refl, sym, ap, ◌∙◌, subst}
use mathlib.Core.List.{List, [], ◌∷◌}
use lib.ListN.{get_or}
use Rattle.listing_lines.specs.declared.SheetOutcome.{SheetOutcome}
use Rattle.listing_lines.specs.declared.SheetOutcome.TheVariants.{Ok, Empty, Spent, Refused}
use Rattle.listing_reader.specs.declared.ListingAnswer.{ListingAnswer}
use Rattle.listing_reader.specs.declared.ListingAnswer.TheVariants.{Read, Refused as RefusedLine, Full}
use Rattle.listing_reader.specs.Listing.{ListingReading}
use Rattle.outputs.specs.ListingCalls.{read_answer, read_outputs}

-- the answer that the numbers of a list say
abbrev answer_in : List ℕ → ListingAnswer
answer_in outputs = read_answer (get_or outputs 0 0) (get_or outputs 1 0) (get_or outputs 2 0) (get_or outputs 3 0) (get_or outputs 4 0) (get_or outputs 5 0) (get_or outputs 6 0)

-- what an answer leaves says that answer
same_answer : (a : ListingAnswer) (count form id number at line : ℕ) → answer_in (read_outputs a count form id number at line) ≡ a
same_answer (Read (Ok answered) held) count form id number at line = refl
same_answer (Read Empty held) count form id number at line = refl
same_answer (Read (Spent root) held) count form id number at line = refl
same_answer (Read (Refused refusal refused_at) held) count form id number at line = refl
same_answer (RefusedLine wrong) count form id number at line = refl
same_answer Full count form id number at line = refl

-- a listing read back, in numbers
pub read_in_numbers : (bytes before after : List ℕ) (a : ListingAnswer) (r count' form' id' number' at' line' count form id number at line : ℕ)
    → ListingReading bytes before a after → r ∷ count' ∷ form' ∷ id' ∷ number' ∷ at' ∷ line' ∷ [] ≡ read_outputs a count form id number at line
    → ListingReading bytes before (read_answer r count' form' id' number' at' line') after
    × (r ∷ count' ∷ form' ∷ id' ∷ number' ∷ at' ∷ line' ∷ [] ≡ read_outputs (read_answer r count' form' id' number' at' line') count form id number at line)
read_in_numbers bytes before after a r count' form' id' number' at' line' count form id number at line h e =
    let says : read_answer r count' form' id' number' at' line' ≡ a = ap answer_in e ∙ same_answer a count form id number at line in
    (subst (λ (x : ListingAnswer). ListingReading bytes before x after) (sym says) h, e ∙ sym (ap (λ (x : ListingAnswer). read_outputs x count form id number at line) says))
