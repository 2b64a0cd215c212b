-- Kinds, payloads and child counts as 01 lists them.
use Rattle.std.specs.Prelude.{ℕ, ◌^◌, Bool, false, cond, not, ◌&&◌, eqb, leb, ltb}
use Rattle.std.specs.Float.{binary64}
use Rattle.std.specs.Float.Ieee.{nan_bits}
use Rattle.definitions.specs.Limits.{most_children}
use Rattle.definitions.specs.Node.{variable_kind, constant_kind, add_kind, neg_kind, function_kind, control_kind, for_loop_control, operator_children, control_children}

-- 01: "symbols and function numbers below 2^32"
abbrev pub is_symbol_number : ℕ → Bool
is_symbol_number payload = ltb payload (2 ^ 32)

-- 01: "Add and Mul one to four, Neg one, other operators two"
unfoldable pub operator_arity : ℕ → ℕ → Bool
operator_arity kind arity = operator_children kind arity

-- 01: "Select and IfElse three, ForLoop four", and no other control
unfoldable pub control_arity : ℕ → ℕ → Bool
control_arity payload arity = leb payload for_loop_control && control_children payload arity

-- 01: "In every sound store kinds, payloads (symbols and function numbers below 2^32), child counts .. are as listed"; 02 (b): "The audit
-- (20) turns back a store that holds a NaN"
unfoldable pub listed : ℕ → ℕ → ℕ → Bool
listed kind payload arity =
    cond (eqb kind variable_kind) (is_symbol_number payload && eqb arity 0)
    (cond (eqb kind constant_kind) (not (nan_bits binary64 payload) && eqb arity 0)
    (cond (leb add_kind kind && leb kind neg_kind) (eqb payload 0 && operator_arity kind arity)
    (cond (eqb kind function_kind) (is_symbol_number payload && leb arity most_children)
    (cond (eqb kind control_kind) (control_arity payload arity)
    false))))
