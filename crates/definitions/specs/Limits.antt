-- The limits and sizes that have a meaning, each once.
use Rattle.std.specs.Prelude.{ℕ}

-- "65,536 at most" (refusal 21)
abbrev pub most_nodes : ℕ
most_nodes = 65536

-- "Functions may have up to 16 children": a node has so many child places
abbrev pub most_children : ℕ
most_children = 16

-- "Add and Mul one to four"
abbrev pub most_operands : ℕ
most_operands = 4

-- "the table starts at 64 slots"
abbrev pub first_table_size : ℕ
first_table_size = 64

-- how often the least table size doubles at most: 64 * 2 ^ 16 slots hold far more than 65,536 nodes
abbrev pub most_doublings : ℕ
most_doublings = 16

-- "depth limit 0 to 255"
abbrev pub most_depth : ℕ
most_depth = 255

-- "over 4,096 terms" (refusal 23)
abbrev pub most_terms : ℕ
most_terms = 4096

-- halvings that bring 4,096 terms down to one, and one more for the term itself
abbrev pub most_halvings : ℕ
most_halvings = 13

-- the bits of the largest threshold, infinity; every number above it has a NaN's bits or the sign bit
abbrev pub infinity_bits : ℕ
infinity_bits = 0x7FF0000000000000

-- "over 16,384 bytes" (refusal 1)
abbrev pub most_sheet_bytes : ℕ
most_sheet_bytes = 16384

-- "record 1,024 reached" (refusal 3)
abbrev pub most_records : ℕ
most_records = 1024
