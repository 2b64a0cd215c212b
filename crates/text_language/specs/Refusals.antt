-- The numbers of the refusals that a text meets, by what they say.
use Rattle.std.specs.Prelude.{ℕ}

-- 1: a text of 0 or over 8,192 bytes
abbrev pub bad_text : ℕ
bad_text = 1

-- 10: a constant whose bits are a NaN
abbrev pub not_a_number : ℕ
not_a_number = 10

-- 11: text outside the language
abbrev pub outside_language : ℕ
outside_language = 11

-- 12: brackets, minus factors and powers, counted together, nested over 64 deep
abbrev pub nested_too_deep : ℕ
nested_too_deep = 12
