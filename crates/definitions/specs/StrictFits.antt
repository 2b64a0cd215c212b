-- "A strict walk has only these patterns, which name all operands of the node, each firing wherever it fits": the patterns as a list
-- of cases, and what is proved of `strict_apply` by it (proofs StrictFits).
use Rattle.std.specs.Prelude.{ℕ, ◌≡◌, true, false, List, [], ◌∷◌, Float}
use Rattle.std.proofs.Math.Option.{none, some}
use Rattle.std.specs.Float.Ieee.{is_nan}
use Rattle.definitions.specs.Node.{Node, at, add_kind, sub_kind, mul_kind, div_kind, neg_kind}
use Rattle.definitions.specs.Intern.{Lent, Built, built}
use Rattle.definitions.specs.Patterns.{constant_value, binary64_result, intern_constant}
use Rattle.definitions.specs.Strict.{minus_zero_bits, plus_zero_bits, one_bits, is_constant_of, strict_apply}

-- a pattern that fits a kind over these operands, and its result
pub data StrictPattern (l : Lent) (ns : List Node) : ℕ → List ℕ → Built → Type 0 where
  -- x + (-0.0) and (-0.0) + x
  sum_right : {a b : ℕ} → is_constant_of minus_zero_bits (at ns b) ≡ true → StrictPattern l ns add_kind (a ∷ b ∷ []) (built ns a)
  sum_left : {a b : ℕ} → is_constant_of minus_zero_bits (at ns a) ≡ true → StrictPattern l ns add_kind (a ∷ b ∷ []) (built ns b)
  -- x - (+0.0)
  difference : {a b : ℕ} → is_constant_of plus_zero_bits (at ns b) ≡ true → StrictPattern l ns sub_kind (a ∷ b ∷ []) (built ns a)
  -- 1·x and x·1
  product_left : {a b : ℕ} → is_constant_of one_bits (at ns a) ≡ true → StrictPattern l ns mul_kind (a ∷ b ∷ []) (built ns b)
  product_right : {a b : ℕ} → is_constant_of one_bits (at ns b) ≡ true → StrictPattern l ns mul_kind (a ∷ b ∷ []) (built ns a)
  -- x/1
  quotient : {a b : ℕ} → is_constant_of one_bits (at ns b) ≡ true → StrictPattern l ns div_kind (a ∷ b ∷ []) (built ns a)
  -- "double Neg"
  double_neg : {a b : ℕ} → (at ns a).kind ≡ neg_kind → (at ns a).children ≡ b ∷ [] → StrictPattern l ns neg_kind (a ∷ []) (built ns b)
  -- "folding of two constants by +, -, ·, / where not NaN and not by zero": by zero there is no `binary64_result`
  folding : {k a b : ℕ} {x y z : Float} → constant_value (at ns a) ≡ some x → constant_value (at ns b) ≡ some y → binary64_result k x y ≡ some z
      → is_nan z ≡ false → StrictPattern l ns k (a ∷ b ∷ []) (intern_constant l ns z)

abbrev pub OnlyThese : Type 0
OnlyThese = (l : Lent) (ns : List Node) (k : ℕ) (vs : List ℕ) (m : Built) → strict_apply l ns k vs ≡ some m → StrictPattern l ns k vs m

abbrev pub WhereverItFits : Type 0
WhereverItFits = (l : Lent) (ns : List Node) (k : ℕ) (vs : List ℕ) (m : Built) → StrictPattern l ns k vs m → strict_apply l ns k vs ≡ none → ⊥
