-- A line's text, and how it grows.
use Rattle.std.specs.Prelude.{ℕ, ◌+◌, ◌*◌, ◌≤◌, ◌≡◌, List, ◌++◌, take, drop, replicate}
use Rattle.definitions.specs.Limits.{most_children}
use Rattle.listing_lines.specs.declared.line.Line.{Line}
use Rattle.listing_lines.specs.declared.digits.Digits.{Digits}

-- the bytes of a line; no line of the listing fills them
abbrev pub line_bytes : ℕ
line_bytes = 448

-- the most digits that a number takes, and with the space before it
abbrev pub most_digits : ℕ
most_digits = 20

abbrev pub number_bytes : ℕ
number_bytes = 21

-- a space and a number for each child
abbrev pub children_bytes : ℕ
children_bytes = most_children * number_bytes

-- the bytes of a line that are its text
abbrev pub text : Line → List ℕ
text l = take l.length l.bytes

-- a line without text: its bytes are 0
pub record EmptyLine (l : Line) : Type 0 where
  pub zeros : l.bytes ≡ replicate line_bytes 0
  pub long : l.length ≡ 0

-- a line with more text, at most so many bytes longer; the bytes past it stay
pub record ExtendsLine (l : Line) (more : List ℕ) (most : ℕ) (r : Line) : Type 0 where
  pub is : text r ≡ text l ++ more
  pub longer : l.length ≤ r.length
  pub long : r.length ≤ l.length + most
  pub rest : drop r.length r.bytes ≡ drop r.length l.bytes

-- a line with this text, which its bytes have room for; the bytes past it are 0
pub record Holds (t : List ℕ) (r : Line) : Type 0 where
  pub is : text r ≡ t
  pub within : r.length ≤ line_bytes
  pub rest : drop r.length r.bytes ≡ drop r.length (replicate line_bytes 0)

-- the digits of a number stand at the end of an array
pub record SpellsNumber (digits : List ℕ) (r : Digits) : Type 0 where
  pub is : drop r.first r.bytes ≡ digits
  pub within : r.first ≤ most_digits
