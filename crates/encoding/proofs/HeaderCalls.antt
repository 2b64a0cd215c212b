-- A header's call, by its code.
use Prim.Native.Nat.{ℕ}
use mathlib.Core.Path.{◌≡◌, refl, sym, ap, ◌∙◌, subst}
use mathlib.Core.Option.{some}
use mathlib.Core.List.{List, [], ◌∷◌}
use lib.ListN.{length, get_or, take}
use native.Mathlib.Omega.{arith}
use Rattle.definitions.specs.Machine as M
use Rattle.definitions.specs.Controller.{asked}
use Rattle.store_calls.specs.declared.Call.{Call}
use Rattle.store_calls.specs.Calls.{call_of, SameCall}
use Rattle.store_calls.proofs.Same.{same_equal, same_request}
use Rattle.encoding.specs.declared.codes.CallCode.{CallCode}
use Rattle.encoding.specs.declared.headers.Header.{Header}
use Rattle.encoding.specs.Codes.{code_of}
use Rattle.encoding.specs.Encoding.{call_of_code}
use Rattle.encoding.specs.Headers.{header_call, DecodesTo}

-- ---- the first of a header's four numbers
module _ (ns : List ℕ) where
  abbrev pub a : ℕ
  a = get_or ns 0 0

  abbrev pub b : ℕ
  b = get_or ns 1 0

  abbrev pub c : ℕ
  c = get_or ns 2 0

  abbrev pub d : ℕ
  d = get_or ns 3 0

pub first_one : (ns : List ℕ) → length ns ≡ 4 → take 1 ns ≡ a ns ∷ []
first_one [] e = absurd (omega arith)
first_one (x ∷ ns) e = refl

pub first_two : (ns : List ℕ) → length ns ≡ 4 → take 2 ns ≡ a ns ∷ b ns ∷ []
first_two [] e = absurd (omega arith)
first_two (x ∷ []) e = absurd (omega arith)
first_two (x ∷ y ∷ ns) e = refl

pub first_three : (ns : List ℕ) → length ns ≡ 4 → take 3 ns ≡ a ns ∷ b ns ∷ c ns ∷ []
first_three [] e = absurd (omega arith)
first_three (x ∷ []) e = absurd (omega arith)
first_three (x ∷ y ∷ []) e = absurd (omega arith)
first_three (x ∷ y ∷ z ∷ ns) e = refl

pub all_four : (ns : List ℕ) → length ns ≡ 4 → ns ≡ a ns ∷ b ns ∷ c ns ∷ d ns ∷ []
all_four [] e = absurd (omega arith)
all_four (x ∷ []) e = absurd (omega arith)
all_four (x ∷ y ∷ []) e = absurd (omega arith)
all_four (x ∷ y ∷ z ∷ []) e = absurd (omega arith)
all_four (x ∷ y ∷ z ∷ w ∷ []) e = refl
all_four (x ∷ y ∷ z ∷ w ∷ v ∷ ns) e = absurd (omega arith)

-- ---- a line of the codes' table
module _ (h : Header) (operands : List ℕ) (code : CallCode) (e : h.code ≡ code) (call : Call) where
  decodes : (plain : M.Call) → call_of_code (code_of code) (a h.numbers) (b h.numbers) (c h.numbers) (d h.numbers) operands ≡ some (asked plain) → SameCall (call_of call) plain
      → DecodesTo (header_call h operands) call
  decodes plain line same = record { plain = plain; is = ap (λ k. call_of_code (code_of k) (a h.numbers) (b h.numbers) (c h.numbers) (d h.numbers) operands) e ∙ line; same = same }

  -- a call that is the code's own
  pub decodes_call : call_of_code (code_of code) (a h.numbers) (b h.numbers) (c h.numbers) (d h.numbers) operands ≡ some (asked (call_of call)) → DecodesTo (header_call h operands) call
  decodes_call line = decodes (call_of call) line (same_equal _ _ refl)

  -- a store call that wants the same node
  pub decodes_node : (plain same : M.Store) → call_of_code (code_of code) (a h.numbers) (b h.numbers) (c h.numbers) (d h.numbers) operands ≡ some (asked (M.store plain))
      → call_of call ≡ M.store same → M.requested same ≡ M.requested plain → DecodesTo (header_call h operands) call
  decodes_node plain same line is wants = decodes (M.store plain) line (subst (λ (x : M.Call). SameCall x (M.store plain)) (sym is) (same_request same plain wants))
