-- The listing of a sheet's result, as bytes.
use Rattle.std.specs.Prelude.{ℕ, zero, suc, ◌+◌, ◌*◌, ◌/◌, ◌%◌, ◌^◌, Bool, true, false, cond, List, [], ◌∷◌, ◌++◌, length, ltb}
use Rattle.std.proofs.Math.Option.{Option, none, some}
use Rattle.definitions.specs.Node.{Node, canonical_flag}
use Rattle.definitions.specs.Machine.{Answer, stored, simplified, pruned, refused, State}
use Rattle.definitions.specs.Sheet.{Ran, answer_id}

-- ---- numbers and words in ASCII

abbrev pub space : ℕ
space = 32

-- "Each line ends with the byte 0A (hex)."
abbrev pub line_feed : ℕ
line_feed = 10

-- a decimal number of at most so many digits, before what follows it
unfoldable pub decimal_from : ℕ → ℕ → List ℕ → List ℕ
decimal_from zero n r = r
decimal_from (suc d) n r = elim (ltb n 10) [ true ↦ (48 + n) ∷ r | false ↦ decimal_from d (n / 10) ((48 + n % 10) ∷ r) ]

-- in fewest digits; a number of 64 bits has 20 at most
unfoldable pub decimal : ℕ → List ℕ
unfolding decimal_from
decimal n = decimal_from 20 n []

-- "capital hex digits"
abbrev pub hex_digit : ℕ → ℕ
hex_digit d = cond (ltb d 10) (48 + d) (55 + d)

-- the lowest so many hex digits of a number, before what follows them
unfoldable pub hex_from : ℕ → ℕ → List ℕ → List ℕ
hex_from zero n r = r
hex_from (suc d) n r = hex_from d (n / 16) (hex_digit (n % 16) ∷ r)

-- "payload in 16 capital hex digits"
unfoldable pub hex : ℕ → List ℕ
unfolding hex_from
hex n = hex_from 16 n []

-- `ok`, `spent`, `refused`, `at`, `-`
abbrev pub ok_word : List ℕ
ok_word = 111 ∷ 107 ∷ []

abbrev pub spent_word : List ℕ
spent_word = 115 ∷ 112 ∷ 101 ∷ 110 ∷ 116 ∷ []

abbrev pub refused_word : List ℕ
refused_word = 114 ∷ 101 ∷ 102 ∷ 117 ∷ 115 ∷ 101 ∷ 100 ∷ []

abbrev pub at_word : List ℕ
at_word = 97 ∷ 116 ∷ []

abbrev pub dash : List ℕ
dash = 45 ∷ []

-- ---- the first line

-- the last of a list, or what stood before it
abbrev pub last_of : {A : Type 0} → A → List A → A
last_of x [] = x
last_of x (y ∷ ys) = last_of y ys

-- "`ok` and the last answer's id", or "`spent` and the id if the last record ran out"
unfoldable pub answered : Answer → List ℕ
unfolding decimal
answered (stored i) = ok_word ++ space ∷ decimal i
answered (simplified i false steps) = ok_word ++ space ∷ decimal i
answered (simplified i true steps) = spent_word ++ space ∷ decimal i
answered (pruned i kept dropped) = ok_word ++ space ∷ decimal i
answered (refused r) = ok_word ++ space ∷ dash

-- "(`-` without records)", or "`refused` number `at` record"
unfoldable pub first_line : Option (ℕ × ℕ) → List Answer → List ℕ
unfolding decimal answered
first_line (some r) al = refused_word ++ space ∷ decimal r.0 ++ space ∷ at_word ++ space ∷ decimal r.1
first_line none [] = ok_word ++ space ∷ dash
first_line none (a ∷ al) = answered (last_of a al)

-- ---- a line a node

unfoldable pub children_part : List ℕ → List ℕ
unfolding decimal
children_part [] = []
children_part (c ∷ cs) = space ∷ decimal c ++ children_part cs

-- flags with the mark, 4 canonical
abbrev pub all_flags : Node → ℕ
all_flags n = cond n.canonical (n.flags + canonical_flag) n.flags

-- "id, kind, payload in 16 capital hex digits, flags, children; one space between, the rest decimal"
unfoldable pub node_line : ℕ → Node → List ℕ
unfolding decimal hex children_part
node_line i n = decimal i ++ space ∷ decimal n.kind ++ space ∷ hex n.payload ++ space ∷ decimal (all_flags n) ++ children_part n.children

-- "one line a node by rising id"
unfoldable pub node_lines : ℕ → List Node → List ℕ
unfolding node_line
node_lines i [] = []
node_lines i (n ∷ ns) = node_line i n ++ line_feed ∷ node_lines (suc i) ns

-- "Then, also after `spent` or `refused`, one line a node"
unfoldable pub listing : Ran → List ℕ
unfolding first_line node_lines
listing r = first_line r.refusal r.answers ++ line_feed ∷ node_lines 0 r.left.nodes
