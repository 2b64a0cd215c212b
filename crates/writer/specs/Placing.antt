-- What the functions say that put a node's text in front of other bytes, at the end of an array.
use Rattle.std.specs.Prelude.{◌≡◌, ℕ, ◌+◌, ◌*◌, ◌<◌, ◌≤◌, true, ◌⊎◌, List, [], ◌∷◌, length, drop, nat_le, slice_index_or, Option, Some, None}
use Rattle.std.proofs.Math.Option as Math
use Rattle.text_language.specs.Grammar.{Expr}
use Rattle.text_language.specs.Reader.{rank}
use Rattle.text_language.specs.Program.{Join, plus, minus, times, over, raise}
use Rattle.text_language.specs.Reading.{most_bytes}
use Rattle.definitions.specs.Names.{longest_name, entry_bytes}
use Rattle.writer.specs.Expression.{join_kind}
use Rattle.arena.specs.Nodes.{Nodes}
use Rattle.store.specs.View.{nodes_in}
use Rattle.name_entries.specs.Sound as Names
use Rattle.expression_text.specs.Numeral.{most_whole, most_digits, hex_digits, number_sign, numeral, decimals, hexes}
use Rattle.expression_text.specs.Written.{natural, wrap, bare, deeper, depth_of}
use Rattle.writer.specs.Expression.{expression_of, is_some, or_any}
use Rattle.writer.specs.declared.operators.Joint.{Joint}
use Rattle.writer.specs.declared.placing.Formulas.{Formulas}

-- a text of at most 8,192 bytes ends the array; in front of it is a place for the longest leaf, so that a leaf always fits: a place below
-- `spare` says that the text has more bytes than it may
abbrev pub spare : ℕ
spare = 32

abbrev pub space : ℕ
space = 8224

-- the text of an expression where a text of the kind of so high a rank is wanted, in front of r
abbrev pub placed : ℕ → Expr → List ℕ → List ℕ
placed n e r = wrap (nat_le (rank (natural e)) n) (bare e) r

-- and how deep it nests
abbrev pub deep : ℕ → Expr → ℕ
deep n e = deeper (nat_le (rank (natural e)) n) (depth_of e)

-- ---- operators

-- an operator's sign, the ranks of what may stand left and right of it with no brackets, and how much deeper the right one stands: "a ^
-- nests what stands after it"
abbrev pub joint_for : Join → Joint
joint_for plus = record { sign = 43; left = 4; right = 3; nesting = 0 }
joint_for minus = record { sign = 45; left = 4; right = 3; nesting = 0 }
joint_for times = record { sign = 42; left = 3; right = 2; nesting = 0 }
joint_for over = record { sign = 47; left = 3; right = 2; nesting = 0 }
joint_for raise = record { sign = 94; left = 1; right = 2; nesting = 1 }

abbrev pub sign_of : Join → ℕ
sign_of o = (joint_for o).sign

abbrev pub left_rank : Join → ℕ
left_rank o = (joint_for o).left

abbrev pub right_rank : Join → ℕ
right_rank o = (joint_for o).right

abbrev pub nests : Join → ℕ
nests o = (joint_for o).nesting

-- the rank of its own text
abbrev pub own_rank : Join → ℕ
own_rank plus = 4
own_rank minus = 4
own_rank times = 3
own_rank over = 3
own_rank raise = 2

pub record JoinsText (o : Join) (r : Joint) : Type 0 where
  pub sign : r.sign ≡ sign_of o
  pub left : r.left ≡ left_rank o
  pub right : r.right ≡ right_rank o
  pub nesting : r.nesting ≡ nests o

pub record JoinsKind (kind : ℕ) (r : Joint) : Type 0 where
  pub told : (o : Join) → kind ≡ join_kind o → JoinsText o r

pub record Ranked (kind r : ℕ) : Type 0 where
  pub leaf : kind ≤ 1 → r ≡ 1
  pub sums : 2 ≤ kind → kind ≤ 3 → r ≡ 4
  pub products : 4 ≤ kind → kind ≤ 5 → r ≡ 3
  pub power : kind ≡ 6 → r ≡ 2
  pub minus : kind ≡ 8 → r ≡ 1

-- ---- bytes put in front of others at the end of an array

-- places of the array where more can be put in front
pub record Open (out : List ℕ) (at : ℕ) : Type 0 where
  pub long : length out ≡ space
  pub low : spare ≤ at
  pub high : at ≤ space

-- the bytes from r on are these; at most so many were put
pub record PutsBytes (bytes : List ℕ) (most at r : ℕ) (out : List ℕ) : Type 0 where
  pub is : drop r out ≡ bytes
  pub long : length out ≡ space
  pub low : at ≤ r + most
  pub high : r ≤ at

-- ---- leaves

-- a constant is printed as the whole number that it is, or as # and hex
abbrev pub IsWhole : ℕ → Option ℕ → Type 0
IsWhole bits (Some n) = (n ≤ most_whole) × (numeral bits ≡ decimals most_digits n [])
IsWhole bits None = numeral bits ≡ number_sign ∷ hexes hex_digits bits []

-- a name of the list can be read
pub record NamedSymbol (entries : List ℕ) (symbol : ℕ) : Type 0 where
  pub fits : symbol * entry_bytes + entry_bytes ≤ length entries
  pub short : slice_index_or entries (symbol * entry_bytes) 0 ≤ longest_name

-- ---- nodes

-- sound nodes and names
pub record KnownText (words : List ℕ) (count : ℕ) (entries : List ℕ) (named : ℕ) : Type 0 where
  pub nodes : Nodes words count
  pub names : Names.SoundNames entries named

abbrev pub expression_at : List ℕ → ℕ → List ℕ → ℕ → ℕ → Math.Option Expr
expression_at words count entries named id = expression_of (Names.names_of entries named) (nodes_in words count) id

-- the expression of a node that has one
abbrev pub meant : List ℕ → ℕ → List ℕ → ℕ → ℕ → Expr
meant words count entries named id = or_any (expression_at words count entries named id)

pub record Writable (words : List ℕ) (count : ℕ) (entries : List ℕ) (named id : ℕ) : Type 0 where
  pub known : KnownText words count entries named
  pub below : id < count
  pub has : is_some (expression_at words count entries named id) ≡ true

-- the same of the nodes and the entries that are written from
abbrev pub Known : Formulas → Type 0
Known f = KnownText f.nodes.now f.count f.entries.now f.named

abbrev pub spelled_at : Formulas → ℕ → Math.Option Expr
spelled_at f id = expression_at f.nodes.now f.count f.entries.now f.named id

abbrev pub IsWritable : Formulas → ℕ → Type 0
IsWritable f id = Writable f.nodes.now f.count f.entries.now f.named id

abbrev pub meant_by : Formulas → ℕ → Expr
meant_by f id = meant f.nodes.now f.count f.entries.now f.named id

-- an expression put in front of the bytes r, if there is a place for it and it nests no deeper than left; else a place below `spare`
pub record PlacedText (e : Expr) (level left : ℕ) (r : List ℕ) (out : List ℕ) (place : ℕ) : Type 0 where
  pub long : length out ≡ space
  pub stopped : place < spare → (most_bytes < length (placed level e r)) ⊎ (left < deep level e)
  pub done : spare ≤ place → (drop place out ≡ placed level e r) × (deep level e ≤ left)
  pub within : place ≤ space
