-- A name call in numbers, as a store call is.
use Rattle.std.specs.Prelude.{ℕ, zero, suc, ◌≤◌, ◌<◌, ◌≡◌, List, ◌∷◌, take}
use Rattle.definitions.specs.Names.{NameAnswer, numbered, unknown, named, refused, longest_name}
use Rattle.names.specs.declared.NameReply.{NameReply}
use Rattle.names.specs.declared.NameReply.TheVariants.{Numbered, Unknown, Named, Refused}
use Rattle.names.specs.Calls.{bytes_beside}

abbrev pub name_unless_refused : ℕ → NameAnswer → NameAnswer
name_unless_refused zero answer = answer
name_unless_refused (suc number) answer = refused (suc number)

-- the number of a name that is known: `known` is 1, else 0
abbrev pub number_if_known : ℕ → ℕ → NameAnswer
number_if_known zero number = unknown
number_if_known (suc known) number = numbered number

-- the name of a number that is known
abbrev pub name_if_known : ℕ → ℕ → List ℕ → NameAnswer
name_if_known zero size bytes = unknown
name_if_known (suc known) size bytes = named (take size bytes)

-- `known` is 0 or 1; where it is 0, the numbers behind the other pointers stay
abbrev pub Known : ℕ → ℕ → List ℕ → List ℕ → Type 0
Known r known before after = r ≡ 0 → (known ≤ 1) × (known ≡ 0 → after ≡ before)

-- a name has at most 32 bytes, and those after it are 0
abbrev pub Padded : ℕ → ℕ → ℕ → List ℕ → Type 0
Padded r known size bytes = r ≡ 0 → 0 < known → (size ≤ longest_name) × (bytes ≡ bytes_beside (named (take size bytes)))

-- the number returned and the `known`, length and bytes that an answer with bytes beside it leaves; what it does not speak of stays
abbrev pub name_outputs : NameReply → List ℕ → ℕ → ℕ → List ℕ → List ℕ
name_outputs (Numbered n) held known size bytes = 0 ∷ known ∷ size ∷ bytes
name_outputs Unknown held known size bytes = 0 ∷ 0 ∷ size ∷ bytes
name_outputs (Named n) held known size bytes = 0 ∷ 1 ∷ n ∷ held
name_outputs (Refused number) held known size bytes = number ∷ known ∷ size ∷ bytes
