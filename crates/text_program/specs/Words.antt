-- The words of a program: an operator's is that of its kind.
use Rattle.std.specs.Prelude.{ℕ, ◌+◌, cond, eqb}
use Rattle.text_language.specs.Program.{first_operator}

abbrev pub plus_word : ℕ
plus_word = first_operator + 2

abbrev pub minus_word : ℕ
minus_word = first_operator + 3

abbrev pub times_word : ℕ
times_word = first_operator + 4

abbrev pub over_word : ℕ
over_word = first_operator + 5

abbrev pub raise_word : ℕ
raise_word = first_operator + 6

-- a minus factor's
abbrev pub negate_word : ℕ
negate_word = first_operator + 8

-- the word of a sign between two operands, by its byte: + - * / and ^
abbrev pub join_word : ℕ → ℕ
join_word c =
    cond (eqb c 43) plus_word
    (cond (eqb c 45) minus_word
    (cond (eqb c 42) times_word
    (cond (eqb c 47) over_word raise_word)))
