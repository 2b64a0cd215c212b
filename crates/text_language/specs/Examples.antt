-- Texts of request c, computed.
use Rattle.std.specs.Prelude.{ℕ, ◌+◌, ◌*◌, ◌≡◌, refl, Bool, true, false, List, [], ◌∷◌}
use Rattle.std.proofs.Math.ListN.{length}
use Rattle.text_language.specs.Grammar.{sums, products, Expr, constant, variable, linked, raised, chain}
use Rattle.text_language.specs.Reader.{Got, got, bad, after, level, read}
use Rattle.text_language.specs.Scan.{scan, is_text, whole, onto, pop, operand}
use Rattle.text_language.specs.Program.{Token, number, name, negate, join, plus, minus, times, raise, postfix, tall}

abbrev reading : List ℕ → Got
reading s = unfold read after in read (4 * length s + 4) (level (chain sums)) s

abbrev x : Expr
x = variable (120 ∷ [])

abbrev two : ℕ
two = 0x4000000000000000

abbrev three : ℕ
three = 0x4008000000000000

abbrev flow : List ℕ
flow = 102 ∷ 108 ∷ 111 ∷ 119 ∷ []

abbrev t1 : List ℕ
t1 = 116 ∷ 49 ∷ []

-- 2*(flow + 3) - t1^2
abbrev dose : Expr
dose = linked sums true (linked products false (constant two) (linked sums false (variable flow) (constant three))) (raised (variable t1) (constant two))

dose_read : reading (50 ∷ 42 ∷ 40 ∷ 102 ∷ 108 ∷ 111 ∷ 119 ∷ 32 ∷ 43 ∷ 32 ∷ 51 ∷ 41 ∷ 32 ∷ 45 ∷ 32 ∷ 116 ∷ 49 ∷ 94 ∷ 50 ∷ []) ≡ got dose 1 []
unfolding read after
dose_read = refl

dose_program : postfix dose ≡ number two ∷ name flow ∷ number three ∷ join plus ∷ join times ∷ name t1 ∷ number two ∷ join raise ∷ join minus ∷ []
unfolding postfix
dose_program = refl

-- x-x-x groups left
left_group : reading (120 ∷ 45 ∷ 120 ∷ 45 ∷ 120 ∷ []) ≡ got (linked sums true (linked sums true x x) x) 0 []
unfolding read after
left_group = refl

-- 2x, 1234567890 and an empty text are none; ( x ) is one
no_sign : is_text (50 ∷ 120 ∷ []) ≡ false
unfolding is_text after
no_sign = refl

ten_digits : is_text (49 ∷ 50 ∷ 51 ∷ 52 ∷ 53 ∷ 54 ∷ 55 ∷ 56 ∷ 57 ∷ 48 ∷ []) ≡ false
unfolding is_text after
ten_digits = refl

nothing : is_text [] ≡ false
unfolding is_text after
nothing = refl

blanks : is_text (32 ∷ 40 ∷ 32 ∷ 120 ∷ 32 ∷ 41 ∷ 32 ∷ []) ≡ true
unfolding is_text after
blanks = refl

-- the waiting results of x+x*(x+x*x), which nests 1 deep: 2·1 + 3
most_waiting : tall (linked sums false x (linked products false x (linked sums false x (linked products false x x)))) ≡ 5
unfolding tall
most_waiting = refl
