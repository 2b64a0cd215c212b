-- The text of an expression: without blanks, and no text that reads to it has fewer bracket pairs.
use Rattle.std.specs.Prelude.{ℕ, suc, ◌+◌, max, ◌≡◌, refl, Bool, true, false, cond, List, [], ◌∷◌, ◌++◌, leb, eqb}
use Rattle.text_language.specs.Grammar.{sums, products, Expr, constant, variable, negated, linked, raised, Level, chain, power, factor, under, sign}
use Rattle.text_language.specs.Reader.{rank}
use Rattle.expression_text.specs.Numeral.{numeral}

-- the kind of text that an expression's own sign makes
abbrev pub natural : Expr → Level
natural (constant b) = factor
natural (variable w) = factor
natural (negated a) = factor
natural (linked k x a b) = chain k
natural (raised a b) = power

-- it may stand where a text of the kind l is wanted, with no brackets
abbrev pub fits : Level → Expr → Bool
fits l e = leb (rank (natural e)) (rank l)

-- a text in front of r, in brackets or not
abbrev pub wrap : Bool → (List ℕ → List ℕ) → List ℕ → List ℕ
wrap true f r = f r
wrap false f r = 40 ∷ f (41 ∷ r)

-- an expression's text, with no brackets round it, in front of r: an operand has brackets where it does not fit
unfoldable pub bare : Expr → List ℕ → List ℕ
unfolding numeral
bare (constant b) r = numeral b ++ r
bare (variable w) r = w ++ r
bare (negated a) r = 45 ∷ wrap (fits factor a) (bare a) r
bare (linked k x a b) r = wrap (fits (chain k) a) (bare a) (sign k x ∷ wrap (fits (under k) b) (bare b) r)
bare (raised a b) r = wrap (fits factor a) (bare a) (94 ∷ wrap (fits power b) (bare b) r)

unfoldable pub text_of : Expr → List ℕ
unfolding bare
text_of e = bare e []

-- one more, or not
abbrev pub deeper : Bool → ℕ → ℕ
deeper true d = d
deeper false d = suc d

-- how deep it nests: brackets, minus factors and powers, counted together, where a ^ nests what stands after it
unfoldable pub depth_of : Expr → ℕ
depth_of (constant b) = 0
depth_of (variable w) = 0
depth_of (negated a) = suc (deeper (fits factor a) (depth_of a))
depth_of (linked k x a b) = max (deeper (fits (chain k) a) (depth_of a)) (deeper (fits (under k) b) (depth_of b))
depth_of (raised a b) = max (deeper (fits factor a) (depth_of a)) (suc (deeper (fits power b) (depth_of b)))

-- ---- what is counted in a text

-- how often a byte stands in it
unfoldable pub count : ℕ → List ℕ → ℕ
count k [] = 0
count k (c ∷ s) = cond (eqb c k) 1 0 + count k s

-- a text of the language has as many opening as closing brackets
abbrev pub bracket_pairs : List ℕ → ℕ
bracket_pairs s = count 40 s

-- blanks are the byte 20 hex
abbrev pub blanks : List ℕ → ℕ
blanks s = count 32 s

-- ---- texts, computed

abbrev a : Expr
a = variable (97 ∷ [])

abbrev b : Expr
b = variable (98 ∷ [])

abbrev c : Expr
c = variable (99 ∷ [])

abbrev sub : Expr → Expr → Expr
sub x y = linked sums true x y

-- a-b-c, but a-(b-c)
left_group : text_of (sub (sub a b) c) ≡ 97 ∷ 45 ∷ 98 ∷ 45 ∷ 99 ∷ []
unfolding text_of bare
left_group = refl

right_group : text_of (sub a (sub b c)) ≡ 97 ∷ 45 ∷ 40 ∷ 98 ∷ 45 ∷ 99 ∷ 41 ∷ []
unfolding text_of bare
right_group = refl

-- a/(b*c)
divided : text_of (linked products true a (linked products false b c)) ≡ 97 ∷ 47 ∷ 40 ∷ 98 ∷ 42 ∷ 99 ∷ 41 ∷ []
unfolding text_of bare
divided = refl

-- a^b^c, but (a^b)^c
power_right : text_of (raised a (raised b c)) ≡ 97 ∷ 94 ∷ 98 ∷ 94 ∷ 99 ∷ []
unfolding text_of bare
power_right = refl

power_left : text_of (raised (raised a b) c) ≡ 40 ∷ 97 ∷ 94 ∷ 98 ∷ 41 ∷ 94 ∷ 99 ∷ []
unfolding text_of bare
power_left = refl

-- -a^b is (-a)^b, and -(a^b) has brackets
minus_base : text_of (raised (negated a) b) ≡ 45 ∷ 97 ∷ 94 ∷ 98 ∷ []
unfolding text_of bare
minus_base = refl

minus_power : text_of (negated (raised a b)) ≡ 45 ∷ 40 ∷ 97 ∷ 94 ∷ 98 ∷ 41 ∷ []
unfolding text_of bare
minus_power = refl

-- a--b
minus_minus : text_of (sub a (negated b)) ≡ 97 ∷ 45 ∷ 45 ∷ 98 ∷ []
unfolding text_of bare
minus_minus = refl
