-- The plain registry of names: a list of names in order of first interning. A name is a list of bytes,
-- and its number is its place in the list.
use Rattle.std.specs.Prelude.{ℕ, suc, min, Bool, true, false, ◌&&◌, cond, List, [], ◌∷◌, ◌++◌, length, get_or, leb, ltb, eqb}
use Rattle.std.proofs.Math.Option.{Option, none, some}
use Rattle.definitions.specs.Refusals.{bad_name_length, no_name_place}

-- "Names of 1 to 32 bytes": any bytes
abbrev pub shortest_name : ℕ
shortest_name = 1

abbrev pub longest_name : ℕ
longest_name = 32

-- an entry of the lent list: "length byte, then 32 bytes"
abbrev pub entry_bytes : ℕ
entry_bytes = 33

-- "a lent list of up to 4,096 entries"
abbrev pub most_names : ℕ
most_names = 4096

-- a call: intern a name, look a name up, or ask for the name of a number
pub data NameCall : Type 0 where
  intern_name : List ℕ → NameCall
  lookup_name : List ℕ → NameCall
  name_of : ℕ → NameCall

-- an answer: a name's number, none such, a name's bytes, or the number of a refusal
pub data NameAnswer : Type 0 where
  numbered : ℕ → NameAnswer
  unknown : NameAnswer
  named : List ℕ → NameAnswer
  refused : ℕ → NameAnswer

pub record NameResult : Type 0 where
  pub answer : NameAnswer
  pub names : List (List ℕ)

abbrev pub answers : NameAnswer → List (List ℕ) → NameResult
answers a names = record { answer = a; names = names }

-- two names are one: the same bytes, as many
unfoldable pub same_name : List ℕ → List ℕ → Bool
same_name [] [] = true
same_name [] (b ∷ bs) = false
same_name (a ∷ al) [] = false
same_name (a ∷ al) (b ∷ bs) = eqb a b && same_name al bs

-- the number of a name among names that are numbered from n on
unfoldable pub number_from : List (List ℕ) → ℕ → List ℕ → Option ℕ
number_from [] n name = none
number_from (m ∷ ms) n name = elim (same_name m name) [ true ↦ some n | false ↦ number_from ms (suc n) name ]

abbrev pub length_allowed : List ℕ → Bool
length_allowed name = leb shortest_name (length name) && leb (length name) longest_name

-- "a known name keeps its number, also in a full list"; a new one gets the next, or 24
abbrev pub intern_at : ℕ → List (List ℕ) → List ℕ → Option ℕ → NameResult
intern_at lent names name (some n) = answers (numbered n) names
intern_at lent names name none =
    cond (ltb (length names) (min lent most_names))
    (answers (numbered (length names)) (names ++ name ∷ []))
    (answers (refused no_name_place) names)

-- a name that is not known is no refusal
abbrev pub lookup_at : Option ℕ → NameAnswer
lookup_at (some n) = numbered n
lookup_at none = unknown

-- a call on the names, with so many lent entries: its answer, and the names after it. "for names 20, 9, 24"; a plain registry is always
-- sound.
unfoldable pub name_call : ℕ → List (List ℕ) → NameCall → NameResult
unfolding number_from
name_call lent names (intern_name name) = cond (length_allowed name) (intern_at lent names name (number_from names 0 name)) (answers (refused bad_name_length) names)
name_call lent names (lookup_name name) = cond (length_allowed name) (answers (lookup_at (number_from names 0 name)) names) (answers (refused bad_name_length) names)
name_call lent names (name_of n) = cond (ltb n (length names)) (answers (named (get_or names n [])) names) (answers unknown names)
