-- What a body's bytes are, by its first byte and its length.
use Prim.Native.Nat.{ℕ, zero, suc, ◌+◌, ◌-◌, ◌/◌, ◌%◌, ◌≤◌, ◌<◌}
use mathlib.Core.Path.{◌≡◌, refl, sym, ap, ap₂, ◌∙◌}
use mathlib.Core.Bool.{Bool, cond}
use mathlib.Core.List.{List}
use mathlib.Core.Option.{Option, none, some}
use lib.ListN.{length, get_or, drop}
use lib.Dec.{eqb}
use native.Mathlib.Omega.{arith}
use borrow.Author.Tests.{eq-eqb, ne_eqb, lt-ltb, le-ltb}
use Rattle.definitions.specs.Walk.{standard, strict}
use Rattle.definitions.specs.Modes.{mode_of}
use Rattle.definitions.specs.declared.mode.Mode.{Mode}
use Rattle.definitions.specs.Machine.{Call, store, variable, constant, operator, function, control, simplify, prune}
use Rattle.definitions.specs.Sheet.{big_endian, operands, with_operands, sized, variable_body, constant_body, operator_body, function_body, control_body, simplify_body, prune_body, body}
use Rattle.records.specs.declared.Body.{Body}
use Rattle.records.specs.declared.Body.TheVariants.{Variable, Constant, Operator, Function, Control, Simplify, Prune}
use Rattle.refusal.specs.declared.Refusal.{Refusal}
use Rattle.refusal.specs.declared.Refusal.TheVariants.{BadRecord}
use Rattle.std.specs.Prelude.{Result, Ok, Err}
use Rattle.records.specs.Reading.{part, operand_from, operands_from, call_of, OperandsInSheet, Decodes}
use Rattle.records.proofs.Parts.{part_length, part_cons, part_take, part_drop, part_get_d}
use Rattle.records.proofs.Operands.{part_two, operands_odd, operands_even}

ap₃ : {A B C D : Type 0} (f : A → B → C → D) {a a' : A} {b b' : B} {c c' : C} → a ≡ a' → b ≡ b' → c ≡ c' → f a b c ≡ f a' b' c'
ap₃ f p q r = cc

pub malformed : (s : List ℕ) (c : Option Call) → c ≡ none → Decodes s c (Err BadRecord)
malformed s c e = record { is = sym e; within = tt; reason = refl }

-- ---- bodies of one length
module _ (s : List ℕ) (at n : ℕ) (h : at + n ≤ length s) where
  sized_wrong : (k : ℕ) (c : Call) → (n ≡ k → ⊥) → sized k (part s at n) c ≡ none
  sized_wrong k c w = ap (λ (b : Bool). cond b (some c) none) (ap (λ (m : ℕ). eqb m k) (part_length s at n h) ∙ ne_eqb n k w)

  sized_right : (k : ℕ) (c : Call) → n ≡ k → sized k (part s at n) c ≡ some c
  sized_right k c w = ap (λ (b : Bool). cond b (some c) none) (ap (λ (m : ℕ). eqb m k) (part_length s at n h) ∙ eq-eqb n k w)

  -- 01 symbol(4)
  pub variable_wrong : (n ≡ 4 → ⊥) → Decodes s (variable_body (part s at n)) (Err BadRecord)
  variable_wrong w = malformed s _ (sized_wrong 4 _ w)

  pub variable_whole : n ≡ 4 → (v : ℕ) → v ≡ big_endian (part s at 4) → Decodes s (variable_body (part s at n)) (Ok (Variable v))
  variable_whole e v i =
      record { is = sym (sized_right 4 _ e ∙ ap (λ (x : ℕ). some (store (variable x))) (ap (λ (m : ℕ). big_endian (part s at m)) e ∙ sym i)); within = tt; reason = tt }

  -- 02 bits(8)
  pub constant_wrong : (n ≡ 8 → ⊥) → Decodes s (constant_body (part s at n)) (Err BadRecord)
  constant_wrong w = malformed s _ (sized_wrong 8 _ w)

  pub constant_whole : n ≡ 8 → (v : ℕ) → v ≡ big_endian (part s at 8) → Decodes s (constant_body (part s at n)) (Ok (Constant v))
  constant_whole e v i =
      record { is = sym (sized_right 8 _ e ∙ ap (λ (x : ℕ). some (store (constant x))) (ap (λ (m : ℕ). big_endian (part s at m)) e ∙ sym i)); within = tt; reason = tt }

  -- 06 and 08 operand, depth(1), budget(4)
  pub simplify_wrong : (mode : Mode) → (n ≡ 7 → ⊥) → Decodes s (simplify_body (mode_of mode) (part s at n)) (Err BadRecord)
  simplify_wrong mode w = malformed s _ (sized_wrong 7 _ w)

  pub simplify_whole : (mode : Mode) → n ≡ 7 → (o b : ℕ) → o ≡ operand_from s at → b ≡ big_endian (part s (at + 2 + 1) 4) → Decodes s (simplify_body (mode_of mode) (part s at n)) (Ok (Simplify mode o (get_or s (at + 2) 0) b))
  simplify_whole mode e o b i j = let three : at + 3 ≡ at + 2 + 1 = omega arith in record {
    is =
        sym
        (sized_right 7 _ e
        ∙ ap some
        (ap₃ (simplify (mode_of mode)) (ap big_endian (part_take s at 2 n (omega arith)) ∙ sym i) (part_get_d s at n 2 (omega arith))
        (ap big_endian (ap (λ (m : ℕ). drop 3 (part s at m)) e ∙ part_drop s at 3 4 ∙ ap (λ (k : ℕ). part s k 4) three) ∙ sym j)));
    within = tt;
    reason = tt;
  }

  -- 07 operand, threshold bits(8)
  pub prune_wrong : (n ≡ 10 → ⊥) → Decodes s (prune_body (part s at n)) (Err BadRecord)
  prune_wrong w = malformed s _ (sized_wrong 10 _ w)

  pub prune_whole : n ≡ 10 → (o t : ℕ) → o ≡ operand_from s at → t ≡ big_endian (part s (at + 2) 8) → Decodes s (prune_body (part s at n)) (Ok (Prune o t))
  prune_whole e o t i j = record {
    is =
        sym
        (sized_right 10 _ e
        ∙ ap some
        (ap₂ prune (ap big_endian (part_take s at 2 n (omega arith)) ∙ sym i)
        (ap big_endian (ap (λ (m : ℕ). drop 2 (part s at m)) e ∙ part_drop s at 2 8) ∙ sym j)));
    within = tt;
    reason = tt;
  }

-- ---- bodies with operands

-- a body whose operands are this part of the sheet: half ones are malformed, whole ones a call on their list
module _ (s : List ℕ) (at n : ℕ) (h : at + n ≤ length s) (f : List ℕ → Call) (call : Option Call) (e : call ≡ with_operands f (operands (part s at n))) where
  half : (n % 2 ≡ 0 → ⊥) → Decodes s call (Err BadRecord)
  half o = malformed s call (e ∙ ap (with_operands f) (operands_odd s at n h o))

  whole : n % 2 ≡ 0 → (b : Body) → call_of s b ≡ f (operands_from s at (n / 2)) → OperandsInSheet (length s) b → Decodes s call (Ok b)
  whole o b c w = record { is = ap some c ∙ sym (e ∙ ap (with_operands f) (operands_even s at n h o)); within = w; reason = tt }

-- 03 operator(1), flags(1), operands
pub operator_short : (s : List ℕ) (at n : ℕ) → at + n ≤ length s → n < 2 → Decodes s (operator_body (part s at n)) (Err BadRecord)
unfolding operator_body
operator_short s at zero h l = malformed s _ refl
operator_short s at (suc zero) h l = malformed s _ (ap operator_body (part_cons s at 0 h))
operator_short s at (suc (suc n)) h l = absurd (omega arith)

module _ (s : List ℕ) (at : ℕ) where
  operator_is : (n : ℕ) → at + n ≤ length s → 2 ≤ n → operator_body (part s at n) ≡ with_operands (λ os. store (operator (get_or s at 0) (get_or s (at + 1) 0) os)) (operands (part s (at + 2) (n - 2)))
  unfolding operator_body
  operator_is zero h l = absurd (omega arith)
  operator_is (suc zero) h l = absurd (omega arith)
  operator_is (suc (suc n)) h l =
      let e : n ≡ suc (suc n) - 2 = omega arith in
      ap operator_body (part_two s at n h) ∙ ap (λ (m : ℕ). with_operands (λ os. store (operator (get_or s at 0) (get_or s (at + 1) 0) os)) (operands (part s (at + 2) m))) e

  module _ (n : ℕ) (h : at + n ≤ length s) (l : 2 ≤ n) where
    pub operator_half : ((n - 2) % 2 ≡ 0 → ⊥) → Decodes s (operator_body (part s at n)) (Err BadRecord)
    operator_half = half s (at + 2) (n - 2) (omega arith) _ _ (operator_is n h l)

    pub operator_whole : (n - 2) % 2 ≡ 0 → Decodes s (operator_body (part s at n)) (Ok (Operator (get_or s at 0) (get_or s (at + 1) 0) (at + 2) ((n - 2) / 2)))
    operator_whole e = whole s (at + 2) (n - 2) (omega arith) _ _ (operator_is n h l) e _ refl (omega arith)

-- 04 function(4), operands
pub function_short : (s : List ℕ) (at n : ℕ) → at + n ≤ length s → n < 4 → Decodes s (function_body (part s at n)) (Err BadRecord)
unfolding function_body
function_short s at n h l = malformed s _ (rw (part_length s at n h, lt-ltb n 4 l) refl)

module _ (s : List ℕ) (at n : ℕ) (h : at + n ≤ length s) (l : 4 ≤ n) where
  function_is : function_body (part s at n) ≡ with_operands (λ os. store (function (big_endian (part s at 4)) os)) (operands (part s (at + 4) (n - 4)))
  unfolding function_body
  function_is =
      let e : n ≡ 4 + (n - 4) = omega arith in
      rw (part_length s at n h, le-ltb n 4 l)
      (ap₂ (λ (a b : List ℕ). with_operands (λ os. store (function (big_endian a) os)) (operands b)) (part_take s at 4 n l)
      (ap (λ (m : ℕ). drop 4 (part s at m)) e ∙ part_drop s at 4 (n - 4)))

  pub function_half : ((n - 4) % 2 ≡ 0 → ⊥) → Decodes s (function_body (part s at n)) (Err BadRecord)
  function_half = half s (at + 4) (n - 4) (omega arith) _ _ function_is

  pub function_whole : (n - 4) % 2 ≡ 0 → (f : ℕ) → f ≡ big_endian (part s at 4) → Decodes s (function_body (part s at n)) (Ok (Function f (at + 4) ((n - 4) / 2)))
  function_whole e f i = whole s (at + 4) (n - 4) (omega arith) _ _ function_is e _ (ap (λ (g : ℕ). store (function g (operands_from s (at + 4) ((n - 4) / 2)))) i) (omega arith)

-- 05 control(1), operands
pub control_short : (s : List ℕ) (at n : ℕ) → n < 1 → Decodes s (control_body (part s at n)) (Err BadRecord)
unfolding control_body
control_short s at zero l = malformed s _ refl
control_short s at (suc n) l = absurd (omega arith)

module _ (s : List ℕ) (at : ℕ) where
  control_is : (n : ℕ) → at + n ≤ length s → 1 ≤ n → control_body (part s at n) ≡ with_operands (λ os. store (control (get_or s at 0) os)) (operands (part s (at + 1) (n - 1)))
  unfolding control_body
  control_is zero h l = absurd (omega arith)
  control_is (suc n) h l =
      let e : n ≡ suc n - 1 = omega arith in
      ap control_body (part_cons s at n h) ∙ ap (λ (m : ℕ). with_operands (λ os. store (control (get_or s at 0) os)) (operands (part s (at + 1) m))) e

  module _ (n : ℕ) (h : at + n ≤ length s) (l : 1 ≤ n) where
    pub control_half : ((n - 1) % 2 ≡ 0 → ⊥) → Decodes s (control_body (part s at n)) (Err BadRecord)
    control_half = half s (at + 1) (n - 1) (omega arith) _ _ (control_is n h l)

    pub control_whole : (n - 1) % 2 ≡ 0 → Decodes s (control_body (part s at n)) (Ok (Control (get_or s at 0) (at + 1) ((n - 1) / 2)))
    control_whole e = whole s (at + 1) (n - 1) (omega arith) _ _ (control_is n h l) e _ refl (omega arith)

-- ---- "Body by first byte"
pub body_empty : (s : List ℕ) (at n : ℕ) → n ≡ 0 → Decodes s (body (part s at n)) (Err BadRecord)
unfolding body
body_empty s at n e = malformed s _ (ap (λ (m : ℕ). body (part s at m)) e)

-- the bodies by first byte, and the first byte that none has
abbrev pub by_first : ℕ → List ℕ → Option Call
by_first k r =
    cond (eqb k 1) (variable_body r)
    (cond (eqb k 2) (constant_body r)
    (cond (eqb k 3) (operator_body r)
    (cond (eqb k 4) (function_body r)
    (cond (eqb k 5) (control_body r)
    (cond (eqb k 6) (simplify_body standard r)
    (cond (eqb k 7) (prune_body r)
    (cond (eqb k 8) (simplify_body strict r) none)))))))

body_cons : (s : List ℕ) (at n : ℕ) → at + n ≤ length s → 0 < n → body (part s at n) ≡ by_first (get_or s at 0) (part s (at + 1) (n - 1))
unfolding body
body_cons s at zero h l = absurd (omega arith)
body_cons s at (suc n) h l =
    let e : n ≡ suc n - 1 = omega arith in
    ap body (part_cons s at n h) ∙ ap (λ (m : ℕ). by_first (get_or s at 0) (part s (at + 1) m)) e

module _ (s : List ℕ) (at n : ℕ) (h : at + n ≤ length s) (l : 0 < n) where
  pub body_known : (k : ℕ) → get_or s at 0 ≡ k → (r : Result Body Refusal) → Decodes s (by_first k (part s (at + 1) (n - 1))) r → Decodes s (body (part s at n)) r
  body_known k e r d = record {
    is = d.is ∙ sym (body_cons s at n h l ∙ ap (λ (b : ℕ). by_first b (part s (at + 1) (n - 1))) e);
    within = d.within;
    reason = d.reason;
  }

  abbrev first : ℕ
  first = get_or s at 0

  pub body_unknown : (first ≡ 1 → ⊥) → (first ≡ 2 → ⊥) → (first ≡ 3 → ⊥) → (first ≡ 4 → ⊥) → (first ≡ 5 → ⊥) → (first ≡ 6 → ⊥) → (first ≡ 7 → ⊥) → (first ≡ 8 → ⊥) → Decodes s (body (part s at n)) (Err BadRecord)
  body_unknown a b c d f g i j =
      malformed s _ (body_cons s at n h l ∙ (rw (ne_eqb first 1 a, ne_eqb first 2 b, ne_eqb first 3 c, ne_eqb first 4 d, ne_eqb first 5 f, ne_eqb first 6 g, ne_eqb first 7 i, ne_eqb first 8 j) refl))
