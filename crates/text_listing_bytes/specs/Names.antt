-- A line a name, by rising number: `name`, the number and the name, one space between.
use Rattle.std.specs.Prelude.{ℕ, List, [], ◌∷◌, ◌++◌, length, get_or}
use Rattle.definitions.specs.Listing.{space, line_feed, decimal}
use Rattle.names.specs.declared.NameReply.{NameReply}
use Rattle.names.specs.declared.NameReply.TheVariants.{Numbered, Unknown, Named, Refused}
use Rattle.listing_lines.specs.Outcome.{joined}

-- `name`
abbrev pub name_word : List ℕ
name_word = 110 ∷ 97 ∷ 109 ∷ 101 ∷ []

-- each line ends with a line feed, as the others do
abbrev pub name_line : List (List ℕ) → ℕ → List ℕ
name_line names i = name_word ++ space ∷ decimal i ++ space ∷ get_or names i [] ++ line_feed ∷ []

abbrev pub name_lines : List (List ℕ) → List ℕ
name_lines names = joined (name_line names) (length names) 0

-- the length that an answer gives
abbrev pub name_length : NameReply → ℕ
name_length (Numbered n) = 0
name_length Unknown = 0
name_length (Named n) = n
name_length (Refused r) = 0
