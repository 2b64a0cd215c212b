-- Names and texts spelled by operands.
use Rattle.std.specs.Prelude.{ℕ, suc, ◌≤◌, ◌≡◌, List, length, take}
use Rattle.definitions.specs.Names.{longest_name}
use Rattle.text_language.specs.Reading.{most_bytes}
use Rattle.encoding.specs.Encoding.{bytes_of}

-- how many bytes of a name are looked at, and of a text: one more than there are at most
abbrev pub most_name_bytes : ℕ
most_name_bytes = suc longest_name

abbrev pub most_text_bytes : ℕ
most_text_bytes = suc most_bytes

-- the bytes that operands spell, as far as they are looked at
pub record SpellsUpTo (most : ℕ) (operands bytes : List ℕ) (long : ℕ) : Type 0 where
  pub few : long ≤ most
  pub size : length bytes ≡ most
  pub is : take long bytes ≡ take most (bytes_of operands)
