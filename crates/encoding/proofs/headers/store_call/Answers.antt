use Prim.Native.Nat.{ℕ}
use mathlib.Core.Path.{◌≡◌, refl, sym, ap}
use mathlib.Core.Option.{some}
use mathlib.Core.List.{List}
use lib.ListN.{length}
use borrow.Author.Rules.{rules}
use Rattle.definitions.specs.Machine as M
use Rattle.definitions.specs.Modes.{mode_of}
use Rattle.definitions.specs.declared.mode.Mode.TheVariants.{Standard, Strict}
use Rattle.definitions.specs.Controller.{asked}
use Rattle.encoding.specs.Encoding.{call_of_code}
use Rattle.encoding.proofs.HeaderCalls.{a, b, c, d, first_one, first_two, first_three, all_four, decodes_call, decodes_node}
use Rattle.encoding.proofs.headers.store_call.Goals as goal

pub returns-in-Variable : goal.returns-in-Variable
unfolding call_of_code
returns-in-Variable k = decodes_call k.args.header.now k.args.operands.now _ k.in-Variable.is _ refl

pub returns-in-Constant : goal.returns-in-Constant
unfolding call_of_code
returns-in-Constant k = decodes_call k.args.header.now k.args.operands.now _ k.in-Constant.is _ (ap (λ (n : ℕ). some (asked (M.store (M.constant n)))) (sym k.wide.ensures))

pub returns-in-Add : goal.returns-in-Add
unfolding call_of_code
returns-in-Add k = let ns = k.args.header.now.numbers in let long : length ns ≡ 4 = search rules in decodes_node k.args.header.now k.args.operands.now _ k.in-Add.is _ (M.add (a ns) (b ns)) (M.operator 0 3 _) refl refl (ap (λ (l : List ℕ). M.requested (M.operator 0 3 l)) (first_two ns long))

pub returns-in-Sub : goal.returns-in-Sub
unfolding call_of_code
returns-in-Sub k = let ns = k.args.header.now.numbers in let long : length ns ≡ 4 = search rules in decodes_node k.args.header.now k.args.operands.now _ k.in-Sub.is _ (M.sub (a ns) (b ns)) (M.operator 1 0 _) refl refl (ap (λ (l : List ℕ). M.requested (M.operator 1 0 l)) (first_two ns long))

pub returns-in-Mul : goal.returns-in-Mul
unfolding call_of_code
returns-in-Mul k = let ns = k.args.header.now.numbers in let long : length ns ≡ 4 = search rules in decodes_node k.args.header.now k.args.operands.now _ k.in-Mul.is _ (M.mul (a ns) (b ns)) (M.operator 2 3 _) refl refl (ap (λ (l : List ℕ). M.requested (M.operator 2 3 l)) (first_two ns long))

pub returns-in-Div : goal.returns-in-Div
unfolding call_of_code
returns-in-Div k = let ns = k.args.header.now.numbers in let long : length ns ≡ 4 = search rules in decodes_node k.args.header.now k.args.operands.now _ k.in-Div.is _ (M.div (a ns) (b ns)) (M.operator 3 0 _) refl refl (ap (λ (l : List ℕ). M.requested (M.operator 3 0 l)) (first_two ns long))

pub returns-in-Pow : goal.returns-in-Pow
unfolding call_of_code
returns-in-Pow k = let ns = k.args.header.now.numbers in let long : length ns ≡ 4 = search rules in decodes_node k.args.header.now k.args.operands.now _ k.in-Pow.is _ (M.pow (a ns) (b ns)) (M.operator 4 0 _) refl refl (ap (λ (l : List ℕ). M.requested (M.operator 4 0 l)) (first_two ns long))

pub returns-in-Modulo : goal.returns-in-Modulo
unfolding call_of_code
returns-in-Modulo k = let ns = k.args.header.now.numbers in let long : length ns ≡ 4 = search rules in decodes_node k.args.header.now k.args.operands.now _ k.in-Modulo.is _ (M.modulo (a ns) (b ns)) (M.operator 5 0 _) refl refl (ap (λ (l : List ℕ). M.requested (M.operator 5 0 l)) (first_two ns long))

pub returns-in-Neg : goal.returns-in-Neg
unfolding call_of_code
returns-in-Neg k = let ns = k.args.header.now.numbers in let long : length ns ≡ 4 = search rules in decodes_node k.args.header.now k.args.operands.now _ k.in-Neg.is _ (M.neg (a ns)) (M.operator 6 0 _) refl refl (ap (λ (l : List ℕ). M.requested (M.operator 6 0 l)) (first_one ns long))

pub returns-in-Operator : goal.returns-in-Operator
unfolding call_of_code
returns-in-Operator k = decodes_call k.args.header.now k.args.operands.now _ k.in-Operator.is _ refl

pub returns-in-Function : goal.returns-in-Function
unfolding call_of_code
returns-in-Function k = decodes_call k.args.header.now k.args.operands.now _ k.in-Function.is _ refl

pub returns-in-Select : goal.returns-in-Select
unfolding call_of_code
returns-in-Select k = let ns = k.args.header.now.numbers in let long : length ns ≡ 4 = search rules in decodes_node k.args.header.now k.args.operands.now _ k.in-Select.is _ (M.select (a ns) (b ns) (c ns)) (M.control 0 _) refl refl (ap (λ (l : List ℕ). M.requested (M.control 0 l)) (first_three ns long))

pub returns-in-IfElse : goal.returns-in-IfElse
unfolding call_of_code
returns-in-IfElse k = let ns = k.args.header.now.numbers in let long : length ns ≡ 4 = search rules in decodes_node k.args.header.now k.args.operands.now _ k.in-IfElse.is _ (M.if_else (a ns) (b ns) (c ns)) (M.control 1 _) refl refl (ap (λ (l : List ℕ). M.requested (M.control 1 l)) (first_three ns long))

pub returns-in-ForLoop : goal.returns-in-ForLoop
unfolding call_of_code
returns-in-ForLoop k = let ns = k.args.header.now.numbers in let long : length ns ≡ 4 = search rules in decodes_node k.args.header.now k.args.operands.now _ k.in-ForLoop.is _ (M.for_loop (a ns) (b ns) (c ns) (d ns)) (M.control 2 _) refl refl (ap (λ (l : List ℕ). M.requested (M.control 2 l)) (all_four ns long))

pub returns-in-Control : goal.returns-in-Control
unfolding call_of_code
returns-in-Control k = decodes_call k.args.header.now k.args.operands.now _ k.in-Control.is _ refl

pub returns-in-Simplify : goal.returns-in-Simplify
unfolding call_of_code
returns-in-Simplify k = let ns = k.args.header.now.numbers in decodes_call k.args.header.now k.args.operands.now _ k.in-Simplify.is _ (ap (λ (n : ℕ). some (asked (M.simplify (mode_of Standard) (a ns) (b ns) n))) (sym k.wide-in-Simplify.ensures))

pub returns-in-Prune : goal.returns-in-Prune
unfolding call_of_code
returns-in-Prune k = let ns = k.args.header.now.numbers in decodes_call k.args.header.now k.args.operands.now _ k.in-Prune.is _ (ap (λ (n : ℕ). some (asked (M.prune (a ns) n))) (sym k.wide-in-Prune.ensures))

pub returns-in-PruneBySetting : goal.returns-in-PruneBySetting
unfolding call_of_code
returns-in-PruneBySetting k = decodes_call k.args.header.now k.args.operands.now _ k.in-PruneBySetting.is _ refl

pub returns-in-SimplifyStrictly : goal.returns-in-SimplifyStrictly
unfolding call_of_code
returns-in-SimplifyStrictly k = let ns = k.args.header.now.numbers in decodes_call k.args.header.now k.args.operands.now _ k.in-SimplifyStrictly.is _ (ap (λ (n : ℕ). some (asked (M.simplify (mode_of Strict) (a ns) (b ns) n))) (sym k.wide-in-SimplifyStrictly.ensures))
