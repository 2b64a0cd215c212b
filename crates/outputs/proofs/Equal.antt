-- What equal answers leave.
use Prim.Native.Nat.{ℕ}
use mathlib.Core.Path.{◌≡◌, refl, sym, ap, ◌∙◌, subst}
use mathlib.Core.Bool.{Bool, false, false≢true}
use mathlib.Core.List.{List, [], ◌∷◌, ◌++◌}
use Rattle.definitions.specs.Machine as M
use Rattle.listing_lines.specs.declared.SheetOutcome.{SheetOutcome}
use Rattle.listing_reader.specs.declared.ListingAnswer.{ListingAnswer}
use Rattle.listing_reader.specs.declared.ListingAnswer.TheVariants.{Read}
use Rattle.names.specs.declared.NameReply as Name
use Rattle.store.specs.declared.NodeAnswer as Built
use Rattle.store.specs.declared.NodeAnswer.TheVariants as B
use Rattle.store.specs.Memory as Store
use Rattle.store_calls.specs.declared.answers.Performed.{Performed}
use Rattle.store_calls.specs.Calls.{answer_of}
use Rattle.outputs.specs.Calls.{is_spent, AnswersNode, number_of, is_refused, LeftBehind}
use Rattle.outputs.specs.SheetCalls.{sheet_outputs}
use Rattle.outputs.specs.ListingCalls.{first_line_outputs, read_outputs}
use Rattle.outputs.specs.NameCalls.{name_outputs}

-- ---- a call of the store

pub left_answered : (answer left : M.Answer) (before after : List ℕ) → answer ≡ left → is_refused left ≡ false → number_of left ≡ 0 → LeftBehind answer 0 left before after
left_answered answer left before after e n z = record {
  number = sym (ap number_of e ∙ z);
  answered = λ _. sym e;
  refused = λ t. absurd (false≢true (sym n ∙ sym (ap is_refused e) ∙ t));
}

pub left_refused : (answer left : M.Answer) (number : ℕ) (out : List ℕ) → answer ≡ M.refused number → LeftBehind answer number left out out
left_refused answer left number out e = record {
  number = sym (ap number_of e);
  answered = λ t. absurd (false≢true (sym t ∙ ap is_refused e));
  refused = λ _. refl;
}

-- a walk, by the number that says whether it was spent
pub left_walked : (answer : M.Answer) (id steps n : ℕ) (spent : Bool) (before after : List ℕ) → answer ≡ M.simplified id spent steps → is_spent n ≡ spent → LeftBehind answer 0 (M.simplified id (is_spent n) steps) before after
left_walked answer id steps n spent before after e f =
    left_answered answer (M.simplified id (is_spent n) steps) before after (e ∙ ap (λ (b : Bool). M.simplified id b steps) (sym f)) refl refl

pub left_same : (a a' : M.Answer) (r : ℕ) (left : M.Answer) (before after : List ℕ) → a ≡ a' → LeftBehind a r left before after → LeftBehind a' r left before after
left_same a a' r left before after e l = subst (λ (x : M.Answer). LeftBehind x r left before after) e l

-- a node made without a call answers as a call that makes one
pub built_answers : (x : Performed) (a : Built.NodeAnswer) → answer_of x.answer ≡ Store.answer_of a → AnswersNode (answer_of x.answer)
built_answers x a e = subst AnswersNode (sym e) (by a)
  where
    by : (b : Built.NodeAnswer) → AnswersNode (Store.answer_of b)
    by (B.Id id) = tt
    by (B.Refused number) = tt

-- ---- a sheet, a listing read back, a name

pub outcome_same : (o o' : SheetOutcome) (form id at : ℕ) → o ≡ o' → sheet_outputs o' form id at ≡ sheet_outputs o form id at
outcome_same o o' form id at e = sym (ap (λ (x : SheetOutcome). sheet_outputs x form id at) e)

pub first_line_same : (o o' : SheetOutcome) (id number at : ℕ) → o ≡ o' → first_line_outputs o' id number at ≡ first_line_outputs o id number at
first_line_same o o' id number at e = sym (ap (λ (x : SheetOutcome). first_line_outputs x id number at) e)

pub answer_same : (a a' : ListingAnswer) (count form id number at line : ℕ) → a ≡ a' → read_outputs a' count form id number at line ≡ read_outputs a count form id number at line
answer_same a a' count form id number at line e = sym (ap (λ (x : ListingAnswer). read_outputs x count form id number at line) e)

pub read_same : (a : ListingAnswer) (o : SheetOutcome) (held form' id' number' at' count form id number at line : ℕ)
    → a ≡ Read o held → form' ∷ id' ∷ number' ∷ at' ∷ [] ≡ first_line_outputs o id number at
    → 0 ∷ held ∷ form' ∷ id' ∷ number' ∷ at' ∷ line ∷ [] ≡ read_outputs a count form id number at line
read_same a o held form' id' number' at' count form id number at line e f =
    ap (λ (xs : List ℕ). 0 ∷ held ∷ (xs ++ line ∷ [])) f ∙ answer_same a (Read o held) count form id number at line e

pub name_same : (a a' : Name.NameReply) (held : List ℕ) (known size : ℕ) (bytes : List ℕ) → a ≡ a' → name_outputs a' held known size bytes ≡ name_outputs a held known size bytes
name_same a a' held known size bytes e = sym (ap (λ (x : Name.NameReply). name_outputs x held known size bytes) e)
