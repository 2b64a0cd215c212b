-- Of a store call the equation alone gives the whole contract: on a sound store each has an answer with it.
use Prim.Native.Nat.{ℕ, ◌+◌}
use mathlib.Core.Path.{◌≡◌, refl, sym, ◌∙◌, subst}
use mathlib.Core.Bool.{Bool, true, false, ◌&&◌}
use mathlib.Core.List.{List, [], ◌∷◌}
use lib.Dec.{leb}
use native.Mathlib.Omega.{arith}
use Rattle.definitions.specs.Refusals.{not_sound}
use Rattle.definitions.specs.Node as N
use Rattle.definitions.specs.Machine as M
use Rattle.definitions.specs.Machine.{Store, variable, constant, add, sub, mul, div, pow, modulo, neg, operator, function, select, if_else, for_loop, control}
use Rattle.store.specs.Memory.{Memory, memory, model, answer_of, Left, left, left_by, Leaves}
use Rattle.store.proofs.Leaving.{leaves_unsound}
use Rattle.building.specs.Requests.{Asked}
use Rattle.building.proofs.Codes.{asked_variable, asked_constant, asked_function, asked_operator, asked_control, asked_control_code, asked_operator_code}
use Rattle.building.proofs.Requesting.{stores_sound, refuse_code}
use Rattle.text.proofs.StoreCalls.{request_answered}
use Rattle.public_calls.specs.Stores.{InWidths, EquationGivesLeaves}

-- an answer and a memory with the contract of a call
record Possible (c : Store) (m : Memory) : Type 0 where
  answer : M.Answer
  after : Memory
  leaves : Leaves (M.store c) m answer after

module _ (c : Store) (m : Memory) (h : model.Sound m) where
  wanted : (kind payload flags : ℕ) (operands : List ℕ) → Asked true kind payload flags → M.requested c ≡ M.request true (N.node kind payload flags operands) → Possible c m
  wanted kind payload flags operands asked e =
      let x = request_answered kind payload flags operands m asked h in
      let after = memory x.words x.slots x.arena in
      record { answer = answer_of x.answer; after = after; leaves = stores_sound c _ e m (answer_of x.answer) after h x.builds }

  -- a code or flags that may not be listed
  by_code : (listed : Bool) (kind payload flags : ℕ) (operands : List ℕ) → Asked listed kind payload flags → M.requested c ≡ M.request listed (N.node kind payload flags operands) → Possible c m
  by_code true kind payload flags operands asked e = wanted kind payload flags operands asked e
  by_code false kind payload flags operands asked e = record {
    answer = M.refused _;
    after = m;
    leaves = stores_sound c _ e m _ m h (refuse_code false kind payload flags operands m.words m.slots m.arena asked h refl);
  }

possible : (c : Store) (m : Memory) → model.Sound m → InWidths c → Possible c m
possible (variable s) m h w = wanted (variable s) m h N.variable_kind s 0 [] (asked_variable s (omega arith)) refl
possible (constant b) m h w = wanted (constant b) m h N.constant_kind b 0 [] (asked_constant b) refl
possible (add a b) m h w = wanted (add a b) m h N.add_kind 0 N.both_flags (a ∷ b ∷ []) (asked_operator N.add_kind N.both_flags (omega arith) (omega arith) (omega arith)) refl
possible (sub a b) m h w = wanted (sub a b) m h N.sub_kind 0 0 (a ∷ b ∷ []) (asked_operator N.sub_kind 0 (omega arith) (omega arith) (omega arith)) refl
possible (mul a b) m h w = wanted (mul a b) m h N.mul_kind 0 N.both_flags (a ∷ b ∷ []) (asked_operator N.mul_kind N.both_flags (omega arith) (omega arith) (omega arith)) refl
possible (div a b) m h w = wanted (div a b) m h N.div_kind 0 0 (a ∷ b ∷ []) (asked_operator N.div_kind 0 (omega arith) (omega arith) (omega arith)) refl
possible (pow a b) m h w = wanted (pow a b) m h N.pow_kind 0 0 (a ∷ b ∷ []) (asked_operator N.pow_kind 0 (omega arith) (omega arith) (omega arith)) refl
possible (modulo a b) m h w = wanted (modulo a b) m h N.mod_kind 0 0 (a ∷ b ∷ []) (asked_operator N.mod_kind 0 (omega arith) (omega arith) (omega arith)) refl
possible (neg a) m h w = wanted (neg a) m h N.neg_kind 0 0 (a ∷ []) (asked_operator N.neg_kind 0 (omega arith) (omega arith) (omega arith)) refl
possible (operator o f l) m h w =
    by_code (operator o f l) m h (leb o N.last_operator && leb f N.both_flags) (N.add_kind + o) 0 f l (asked_operator_code (leb o N.last_operator && leb f N.both_flags) o f refl) refl
possible (function f l) m h w = wanted (function f l) m h N.function_kind f 0 l (asked_function f (omega arith)) refl
possible (select a b c) m h w = wanted (select a b c) m h N.control_kind N.select_control 0 (a ∷ b ∷ c ∷ []) (asked_control N.select_control (omega arith)) refl
possible (if_else a b c) m h w = wanted (if_else a b c) m h N.control_kind N.if_else_control 0 (a ∷ b ∷ c ∷ []) (asked_control N.if_else_control (omega arith)) refl
possible (for_loop a b c d) m h w = wanted (for_loop a b c d) m h N.control_kind N.for_loop_control 0 (a ∷ b ∷ c ∷ d ∷ []) (asked_control N.for_loop_control (omega arith)) refl
possible (control o l) m h w = by_code (control o l) m h (leb o N.for_loop_control) N.control_kind o 0 l (asked_control_code o) refl

-- what the equation gives is that answer and that memory
leaves_as : (c : Store) (m m' m'' : Memory) (a b : M.Answer) → left b m'' ≡ left a m' → Leaves (M.store c) m b m'' → Leaves (M.store c) m a m'
leaves_as c m m' m'' a b e l = subst (λ (x : Left). Leaves (M.store c) m x.answer x.memory) e l

pub equation_gives_leaves : EquationGivesLeaves
equation_gives_leaves c m m' a w e (yes h) =
    let x = possible c m h w in
    leaves_as c m m' x.after a x.answer (x.leaves.equation (yes h) ∙ sym (e (yes h))) x.leaves
equation_gives_leaves c m m' a w e (no n) = leaves_as c m m' m a (M.refused not_sound) (sym (e (no n))) (leaves_unsound (M.store c) m n)
