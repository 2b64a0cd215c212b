-- The laboratory's evaluation of a formula: "The laboratory evaluates in binary64 and wants equal results." A value is a number of
-- lib.Ieee, which has one NaN.
use Rattle.std.specs.Prelude.{ℕ, cond, List, [], ◌∷◌, map, eqb, Float}
use Rattle.std.specs.Float.{nan, binary64}
use Rattle.std.specs.Float.Ieee.{of_bits, to_bits, add, sub, mul, div, neg}
use Rattle.definitions.specs.Node.{variable_kind, constant_kind, add_kind, sub_kind, mul_kind, div_kind, neg_kind}
use Rattle.definitions.specs.Formula.{Tree, tree, Forest, nil, cons}

-- "all binary64 variable values": the bits of a symbol's value. "Pow, Mod, functions and controls read as any function of bits, NaNs
-- alike": of the kind, the payload and the arguments' bits, in which `to_bits` writes every NaN alike.
pub record Evaluation : Type 0 where
  pub variables : ℕ → ℕ
  pub functions : ℕ → ℕ → List ℕ → ℕ

-- "several operands are taken left to right"
abbrev pub left_to_right : (Float → Float → Float) → Float → List Float → Float
left_to_right f x [] = x
left_to_right f x (y ∷ ys) = left_to_right f (f x y) ys

-- an Add or Mul of one operand is that operand
abbrev pub of_several : (Float → Float → Float) → List Float → Float
of_several f [] = nan
of_several f (x ∷ xs) = left_to_right f x xs

abbrev pub of_two : (Float → Float → Float) → List Float → Float
of_two f [] = nan
of_two f (x ∷ []) = nan
of_two f (x ∷ y ∷ []) = f x y
of_two f (x ∷ y ∷ z ∷ r) = nan

abbrev pub of_one : (Float → Float) → List Float → Float
of_one f [] = nan
of_one f (x ∷ []) = f x
of_one f (x ∷ y ∷ r) = nan

-- a node of a kind and payload over its operands' values; flags do not enter
abbrev pub evaluate_node : Evaluation → ℕ → ℕ → List Float → Float
evaluate_node e k p vs =
    cond (eqb k variable_kind) (of_bits binary64 (e.variables p))
    (cond (eqb k constant_kind) (of_bits binary64 p)
    (cond (eqb k add_kind) (of_several (add binary64) vs)
    (cond (eqb k sub_kind) (of_two (sub binary64) vs)
    (cond (eqb k mul_kind) (of_several (mul binary64) vs)
    (cond (eqb k div_kind) (of_two (div binary64) vs)
    (cond (eqb k neg_kind) (of_one neg vs)
    (of_bits binary64 (e.functions k p (map (to_bits binary64) vs)))))))))

unfoldable mutual
  unfolding of_bits to_bits add sub mul div neg

  pub evaluate : Evaluation → Tree → Float
  evaluate e (tree k p f c) = evaluate_node e k p (evaluate_all e c)

  pub evaluate_all : Evaluation → Forest → List Float
  evaluate_all e nil = []
  evaluate_all e (cons t c) = evaluate e t ∷ evaluate_all e c

-- "the same bits, all NaNs counted as one"
abbrev pub bits_of : Evaluation → Tree → ℕ
bits_of e t = to_bits binary64 (evaluate e t)
