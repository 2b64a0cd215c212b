-- The kinds that the constructors ask for: their child counts are those of a sound store.
use Prim.Native.Nat.{ℕ, zero, suc, ◌+◌, ◌≤◌, ◌<◌}
use mathlib.Core.Path.{◌≡◌, refl, sym, ap, ◌∙◌}
use mathlib.Core.Bool.{Bool, true, ◌&&◌}
use mathlib.Core.List.{List}
use lib.Dec.{leb}
use native.Mathlib.Omega.{arith}
use borrow.Author.Tests.{ne_eqb, le-leb, leb-true}
use Rattle.kinds.specs.Kind as Kind
use Rattle.kinds.specs.Kind.{operator_arity, control_arity}
use Rattle.arena.specs.Node.{canonical}
use Rattle.definitions.proofs.Deciding.{both}
use Rattle.kinds.proofs.Listing as L
use Rattle.definitions.specs.Node.{child_count_listed, node, variable_kind, constant_kind, add_kind, neg_kind, function_kind, control_kind, for_loop_control, last_operator, both_flags}
use Rattle.definitions.specs.Machine.{requested, request, operator}
use Rattle.building.specs.Requests.{Asked}

operator_counts : (kind n : ℕ) → add_kind ≤ kind → kind ≤ neg_kind → child_count_listed kind 0 n ≡ Kind.listed kind 0 n
unfolding child_count_listed Kind.listed operator_arity
operator_counts kind n a b = rw (ne_eqb kind 0 (λ e. omega arith), ne_eqb kind 1 (λ e. omega arith), le-leb add_kind kind a, le-leb kind neg_kind b) refl

control_counts : (payload n : ℕ) → payload ≤ for_loop_control → child_count_listed control_kind payload n ≡ Kind.listed control_kind payload n
unfolding child_count_listed Kind.listed control_arity
control_counts zero n l = refl
control_counts (suc zero) n l = refl
control_counts (suc (suc zero)) n l = refl
control_counts (suc (suc (suc payload))) n l = absurd (omega arith)

pub asked_variable : (symbol : ℕ) → symbol < 4294967296 → Asked true variable_kind symbol 0
unfolding child_count_listed
asked_variable symbol l = record { counts = λ _ _ n. L.variable_low variable_kind symbol n refl l; unmarked = λ _. omega arith }

pub asked_constant : (bits : ℕ) → Asked true constant_kind bits 0
unfolding child_count_listed
asked_constant bits = record { counts = λ _ v n. L.constant constant_kind bits n refl v; unmarked = λ _. omega arith }

pub asked_function : (number : ℕ) → number < 4294967296 → Asked true function_kind number 0
unfolding child_count_listed
asked_function number l = record { counts = λ _ _ n. L.function_low function_kind number n refl l; unmarked = λ _. omega arith }

pub asked_operator : (kind flags : ℕ) → add_kind ≤ kind → kind ≤ neg_kind → flags < canonical → Asked true kind 0 flags
asked_operator kind flags a b f = record { counts = λ _ _ n. operator_counts kind n a b; unmarked = λ _. f }

pub asked_control : (payload : ℕ) → payload ≤ for_loop_control → Asked true control_kind payload 0
asked_control payload l = record { counts = λ _ _ n. control_counts payload n l; unmarked = λ _. omega arith }

-- a control by its code
pub asked_control_code : (code : ℕ) → Asked (leb code for_loop_control) control_kind code 0
asked_control_code code = record { counts = λ t _ n. control_counts code n (leb-true code for_loop_control t); unmarked = λ _. omega arith }

-- an operator by its code
module _ (listed : Bool) (code flags : ℕ) (e : listed ≡ (leb code last_operator && leb flags both_flags)) where
  pub asked_operator_code : Asked listed (add_kind + code) 0 flags
  asked_operator_code = record {
    counts = λ t _ n. let l = leb-true code last_operator (both (leb code last_operator) (leb flags both_flags) (sym e ∙ t)).0 in operator_counts (add_kind + code) n (omega arith) (omega arith);
    unmarked = λ t. let l = leb-true flags both_flags (both (leb code last_operator) (leb flags both_flags) (sym e ∙ t)).1 in omega arith;
  }

  pub operator_request : (operands : List ℕ) → requested (operator code flags operands) ≡ request listed (node (add_kind + code) 0 flags operands)
  operator_request operands = ap (λ (b : Bool). request b (node (add_kind + code) 0 flags operands)) (sym e)
