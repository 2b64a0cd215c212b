-- The codes of the calls.
use Rattle.std.specs.Prelude.{ℕ}
use Rattle.encoding.specs.declared.codes.CallCode.{CallCode}
use Rattle.encoding.specs.declared.codes.CallCode.TheVariants.{Variable, Constant, Add, Sub, Mul, Div, Pow, Modulo, Neg, Operator, Function, Select, IfElse, ForLoop, Control, Simplify, Prune, PruneBySetting, SimplifyStrictly, Intern, Lookup, NameOf, Read}

abbrev pub code_of : CallCode → ℕ
code_of Variable = 0
code_of Constant = 1
code_of Add = 2
code_of Sub = 3
code_of Mul = 4
code_of Div = 5
code_of Pow = 6
code_of Modulo = 7
code_of Neg = 8
code_of Operator = 9
code_of Function = 10
code_of Select = 11
code_of IfElse = 12
code_of ForLoop = 13
code_of Control = 14
code_of Simplify = 15
code_of Prune = 16
code_of PruneBySetting = 17
code_of SimplifyStrictly = 18
code_of Intern = 19
code_of Lookup = 20
code_of NameOf = 21
code_of Read = 22
