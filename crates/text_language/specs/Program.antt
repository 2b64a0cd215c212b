-- An expression as a postfix program: operands first, left before right, each operator after its operands.
use Rattle.std.specs.Prelude.{ℕ, zero, suc, ◌+◌, ◌-◌, ◌≤◌, ◌<◌, max, ◌≡◌, refl, Bool, true, false, cond, List, [], ◌∷◌, ◌++◌, map, drop, take, ltb}
use Rattle.text_language.specs.Grammar.{Chain, sums, products, Expr, constant, variable, negated, linked, raised, Level, chain, power, factor}
use Rattle.text_language.specs.Reader.{Got, got, bad, atom_of}

-- the operators of two operands
pub data Join : Type 0 where
  plus minus times over raise : Join

pub data Token : Type 0 where
  number : ℕ → Token  -- the bits of a binary64 number
  name : List ℕ → Token  -- the bytes of a name
  negate : Token
  join : Join → Token

abbrev pub join_of : Chain → Bool → Join
join_of sums false = plus
join_of sums true = minus
join_of products false = times
join_of products true = over

unfoldable pub postfix : Expr → List Token
postfix (constant b) = number b ∷ []
postfix (variable w) = name w ∷ []
postfix (negated a) = postfix a ++ negate ∷ []
postfix (linked k x a b) = postfix a ++ (postfix b ++ join (join_of k x) ∷ [])
postfix (raised a b) = postfix a ++ (postfix b ++ join raise ∷ [])

-- x - y: the left operand first
pub left_first : postfix (linked sums true (variable (120 ∷ [])) (variable (121 ∷ []))) ≡ name (120 ∷ []) ∷ name (121 ∷ []) ∷ join minus ∷ []
unfolding postfix
left_first = refl

-- how many results a token takes
abbrev pub operands : Token → ℕ
operands (number b) = 0
operands (name w) = 0
operands negate = 1
operands (join o) = 2

-- ---- how many results wait at once

-- the most results that wait while an expression's program runs, its own at the end counted
unfoldable pub tall : Expr → ℕ
tall (constant b) = 1
tall (variable w) = 1
tall (negated a) = tall a
tall (linked k x a b) = max (tall a) (suc (tall b))
tall (raised a b) = max (tall a) (suc (tall b))

-- a text that nests d deep has at most 2·d + 3 waiting results: a sum's and a product's left operand wait for each level
abbrev pub waiting : Level → ℕ
waiting factor = 1
waiting power = 1
waiting (chain products) = 2
waiting (chain sums) = 3

-- the most for texts that are not refused: 2·64 + 3
abbrev pub most_waiting : ℕ
most_waiting = 131

-- with so many results waiting, every token finds its operands, and there is a place for its result
unfoldable pub FitsProgram : ℕ → List Token → Type 0
FitsProgram h [] = 1 ≤ h
FitsProgram h (number b ∷ ts) = (h < most_waiting) × FitsProgram (suc h) ts
FitsProgram h (name w ∷ ts) = (h < most_waiting) × FitsProgram (suc h) ts
FitsProgram h (negate ∷ ts) = (1 ≤ h) × FitsProgram h ts
FitsProgram h (join o ∷ ts) = (2 ≤ h) × FitsProgram (h - 1) ts

-- ---- a program as words over its text

-- a word below this is the place of a number or a name; above it is a kind's code
abbrev pub first_operator : ℕ
first_operator = 8192

unfoldable pub token_of : Expr → Token
token_of (constant b) = number b
token_of (variable w) = name w
token_of (negated a) = number 0
token_of (linked k x a b) = number 0
token_of (raised a b) = number 0

-- a place where no number or name stands is read as the number 0; no program has one
unfoldable pub atom_token : Got → Token
unfolding token_of
atom_token (got e d r) = token_of e
atom_token bad = number 0

-- the operators by their kinds' codes: 2 Add, 3 Sub, 4 Mul, 5 Div, 6 Pow, and 8 or any other Neg
unfoldable pub operator_token : ℕ → Token
operator_token zero = negate
operator_token (suc zero) = negate
operator_token (suc (suc zero)) = join plus
operator_token (suc (suc (suc zero))) = join minus
operator_token (suc (suc (suc (suc zero)))) = join times
operator_token (suc (suc (suc (suc (suc zero))))) = join over
operator_token (suc (suc (suc (suc (suc (suc zero)))))) = join raise
operator_token (suc (suc (suc (suc (suc (suc (suc k))))))) = negate

unfoldable pub token_at : List ℕ → ℕ → Token
unfolding atom_token operator_token atom_of
token_at s w = cond (ltb w first_operator) (atom_token (atom_of (drop w s))) (operator_token (w - first_operator))

-- the tokens of the first words of a program
unfoldable pub tokens : List ℕ → List ℕ → ℕ → List Token
unfolding token_at
tokens s program n = map (token_at s) (take n program)
