-- The numbers of the refusals, by what they say. Those that a text meets stand with the language, 10 among them,
-- which a store call and a sheet meet too.
use Rattle.std.specs.Prelude.{ℕ}
pub use Rattle.text_language.specs.Refusals.{bad_text, not_a_number, outside_language, nested_too_deep}

-- 1: sheet empty, over 16,384 bytes, or first byte not 1
abbrev pub bad_sheet : ℕ
bad_sheet = 1

-- 2: record past the end, unknown, or wrong length
abbrev pub bad_record : ℕ
bad_record = 2

-- 3: record 1,024 reached
abbrev pub too_many_records : ℕ
too_many_records = 3

-- 4: operand not earlier, or id not below the count
abbrev pub bad_operand : ℕ
bad_operand = 4

-- 5: operator, flags, control or depth value not listed
abbrev pub bad_code : ℕ
bad_code = 5

-- 6: number of children
abbrev pub bad_child_count : ℕ
bad_child_count = 6

-- 7: threshold NaN or sign bit set
abbrev pub bad_threshold : ℕ
bad_threshold = 7

-- 8: a setting above 200
abbrev pub bad_setting : ℕ
bad_setting = 8

-- 9: name length
abbrev pub bad_name_length : ℕ
bad_name_length = 9

-- 13: a node that has no text, or a symbol without a name of the text's form
abbrev pub no_text : ℕ
no_text = 13

-- 14: text over 8,192 bytes, longer than the lent text buffer, or too deep for reading
abbrev pub text_too_long : ℕ
text_too_long = 14

-- 20: store or name list not sound
abbrev pub not_sound : ℕ
not_sound = 20

-- 21: no place for a new node
abbrev pub no_node_place : ℕ
no_node_place = 21

-- 22: a new node needs a doubling and the lent slots are too few; also a fresh store with under 64
abbrev pub no_slot_place : ℕ
no_slot_place = 22

-- 23: over 4,096 terms
abbrev pub too_many_terms : ℕ
too_many_terms = 23

-- 24: no name place
abbrev pub no_name_place : ℕ
no_name_place = 24
