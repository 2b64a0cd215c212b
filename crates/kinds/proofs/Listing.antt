-- The test of kinds, payloads and child counts, by the kind.
use Prim.Native.Nat.{ℕ, zero, suc, ◌*◌, ◌/◌, ◌%◌, ◌^◌, ◌≤◌, ◌<◌}
use mathlib.Core.Path.{◌≡◌, refl, sym, subst}
use mathlib.Core.Bool.{Bool, true, false, cond, not, ◌&&◌, ◌||◌, false≢true}
use mathlib.Core.Logic.{◌⊎◌, inl, inr, ⊎_elim}
use lib.Dec.{eqb, leb, ltb}
use lib.Ieee.{binary64, nan_bits}
use native.Mathlib.Omega.{arith}
use borrow.Author.Tests.{eq-eqb, ne_eqb, le-leb, lt-leb, lt-ltb, le-ltb, eqb-true, leb-true}
use Rattle.definitions.specs.Limits.{most_children, most_operands}
use Rattle.kinds.specs.Kind.{operator_arity, control_arity, listed, is_symbol_number}
use Rattle.definitions.specs.Node.{nan_constant}
use Rattle.definitions.proofs.Deciding.{both, same_test}

-- the digits that the code reads: `LEAST_OPERANDS` and `MOST_OPERANDS`, four bits a kind
abbrev least_digit : ℕ → ℕ
least_digit kind = 0x122212100 / 2 ^ (kind * 4) % 16

abbrev most_digit : ℕ → ℕ
most_digit kind = 0x122242400 / 2 ^ (kind * 4) % 16

-- a count of at least n is at most n just if it is n
at_least : (n arity : ℕ) → n ≤ arity → leb arity n ≡ eqb arity n
at_least n arity l = same_test (leb arity n) (eqb arity n)
    (λ e. let z = leb-true arity n e in eq-eqb arity n (omega arith))
    (λ e. let z = eqb-true arity n e in le-leb arity n (omega arith))

-- fewer children than the kind's digit of `LEAST_OPERANDS`
pub too_few : (kind arity : ℕ) → 2 ≤ kind → kind ≤ 8 → arity < least_digit kind → false ≡ operator_arity kind arity
unfolding operator_arity
too_few zero arity l h f = absurd (omega arith)
too_few (suc zero) arity l h f = absurd (omega arith)
too_few (suc (suc zero)) arity l h f = rw (lt-leb 1 arity f) refl
too_few (suc (suc (suc zero))) arity l h f = sym (ne_eqb arity 2 (omega (arith, f)))
too_few (suc (suc (suc (suc zero)))) arity l h f = rw (lt-leb 1 arity f) refl
too_few (suc (suc (suc (suc (suc zero))))) arity l h f = sym (ne_eqb arity 2 (omega (arith, f)))
too_few (suc (suc (suc (suc (suc (suc zero)))))) arity l h f = sym (ne_eqb arity 2 (omega (arith, f)))
too_few (suc (suc (suc (suc (suc (suc (suc zero))))))) arity l h f = sym (ne_eqb arity 2 (omega (arith, f)))
too_few (suc (suc (suc (suc (suc (suc (suc (suc zero)))))))) arity l h f = sym (ne_eqb arity 1 (omega (arith, f)))
too_few (suc (suc (suc (suc (suc (suc (suc (suc (suc kind))))))))) arity l h f = absurd (omega arith)

-- else the kind's digit of `MOST_OPERANDS` decides
pub enough : (kind arity : ℕ) → 2 ≤ kind → kind ≤ 8 → least_digit kind ≤ arity → leb arity (most_digit kind) ≡ operator_arity kind arity
unfolding operator_arity
enough zero arity l h f = absurd (omega arith)
enough (suc zero) arity l h f = absurd (omega arith)
enough (suc (suc zero)) arity l h f = rw (le-leb 1 arity f) refl
enough (suc (suc (suc zero))) arity l h f = at_least 2 arity f
enough (suc (suc (suc (suc zero)))) arity l h f = rw (le-leb 1 arity f) refl
enough (suc (suc (suc (suc (suc zero))))) arity l h f = at_least 2 arity f
enough (suc (suc (suc (suc (suc (suc zero)))))) arity l h f = at_least 2 arity f
enough (suc (suc (suc (suc (suc (suc (suc zero))))))) arity l h f = at_least 2 arity f
enough (suc (suc (suc (suc (suc (suc (suc (suc zero)))))))) arity l h f = at_least 1 arity f
enough (suc (suc (suc (suc (suc (suc (suc (suc (suc kind))))))))) arity l h f = absurd (omega arith)

pub three : (payload arity : ℕ) → payload < 2 → eqb arity 3 ≡ control_arity payload arity
unfolding control_arity
three zero arity l = refl
three (suc zero) arity l = refl
three (suc (suc payload)) arity l = absurd (omega arith)

pub four : (payload arity : ℕ) → payload ≡ 2 → eqb arity 4 ≡ control_arity payload arity
unfolding control_arity
four payload arity e = rw e refl

pub no_control : (payload arity : ℕ) → 2 ≤ payload → (payload ≡ 2 → ⊥) → false ≡ control_arity payload arity
unfolding control_arity
no_control payload arity l n = rw (lt-leb payload 2 (omega arith)) refl

and_false : (b : Bool) → false ≡ b && false
and_false true = refl
and_false false = refl

and_true : (b : Bool) → b ≡ b && true
and_true true = refl
and_true false = refl

-- the test for a NaN
pub constant_tested : (kind payload : ℕ) (r : Bool) → kind ≡ 1 → r ≡ nan_bits binary64 payload → r ≡ nan_constant kind payload
constant_tested kind payload r e h = rw e h

pub no_constant_tested : (kind payload : ℕ) → (kind ≡ 1 → ⊥) → false ≡ nan_constant kind payload
no_constant_tested kind payload n = rw (ne_eqb kind 1 n) refl

-- a variable or a constant
pub leaf_children : (kind payload arity : ℕ) → kind ≤ 1 → (arity ≡ 0 → ⊥) → false ≡ listed kind payload arity
unfolding listed
leaf_children zero payload arity l n = rw (ne_eqb arity 0 n) (and_false (is_symbol_number payload))
leaf_children (suc zero) payload arity l n = rw (ne_eqb arity 0 n) (and_false (not (nan_bits binary64 payload)))
leaf_children (suc (suc kind)) payload arity l n = absurd (omega arith)

pub leaf_constant : (kind payload arity : ℕ) → kind ≡ 1 → arity ≡ 0 → not (nan_bits binary64 payload) ≡ listed kind payload arity
unfolding listed
leaf_constant kind payload arity e n = rw (e, n) (and_true (not (nan_bits binary64 payload)))

pub leaf_variable : (kind payload arity : ℕ) → kind ≤ 1 → (kind ≡ 1 → ⊥) → arity ≡ 0 → ltb payload 4294967296 ≡ listed kind payload arity
unfolding listed
leaf_variable zero payload arity l c n = rw n (and_true (is_symbol_number payload))
leaf_variable (suc zero) payload arity l c n = absurd (c refl)
leaf_variable (suc (suc kind)) payload arity l c n = absurd (omega arith)

module _ (kind payload arity : ℕ) where
  pub variable_low : kind ≡ 0 → payload < 4294967296 → eqb arity 0 ≡ listed kind payload arity
  unfolding listed
  variable_low e l = rw (e, lt-ltb payload 4294967296 l) refl

  pub constant : kind ≡ 1 → nan_bits binary64 payload ≡ false → eqb arity 0 ≡ listed kind payload arity
  unfolding listed
  constant e n = rw (e, n) refl

  pub function_low : kind ≡ 16 → payload < 4294967296 → leb arity most_children ≡ listed kind payload arity
  unfolding listed
  function_low e l = rw (e, lt-ltb payload 4294967296 l) refl

  pub function_high : kind ≡ 16 → 4294967296 ≤ payload → false ≡ listed kind payload arity
  unfolding listed
  function_high e l = rw (e, le-ltb payload 4294967296 l) refl

  pub control : kind ≡ 32 → control_arity payload arity ≡ listed kind payload arity
  unfolding listed
  control e = rw e refl

  -- what is neither a variable nor a constant
  module _ (from : 2 ≤ kind) where
    pub operator : kind < 9 → payload ≡ 0 → operator_arity kind arity ≡ listed kind payload arity
    unfolding listed
    operator l e = rw (ne_eqb kind 0 (omega arith), ne_eqb kind 1 (omega arith), le-leb 2 kind (omega arith), le-leb kind 8 (omega arith), eq-eqb payload 0 e) refl

    pub operator_payload : kind < 9 → (payload ≡ 0 → ⊥) → false ≡ listed kind payload arity
    unfolding listed
    operator_payload l e = rw (ne_eqb kind 0 (omega arith), ne_eqb kind 1 (omega arith), le-leb 2 kind (omega arith), le-leb kind 8 (omega arith), ne_eqb payload 0 e) refl

    pub no_kind : 9 ≤ kind → (kind ≡ 16 → ⊥) → (kind ≡ 32 → ⊥) → false ≡ listed kind payload arity
    unfolding listed
    no_kind l n16 n32 = rw (ne_eqb kind 0 (omega arith), ne_eqb kind 1 (omega arith), le-leb 2 kind (omega arith), lt-leb kind 8 (omega arith), ne_eqb kind 16 n16, ne_eqb kind 32 n32) refl

-- a child count that is listed is at most that of the places
choice : (b x y : Bool) → cond b x y ≡ true → (x ≡ true) ⊎ (y ≡ true)
choice true x y h = inl h
choice false x y h = inr h

few_operator : (kind arity : ℕ) → operator_arity kind arity ≡ true → arity ≤ most_children
unfolding operator_arity
few_operator kind arity h = ⊎_elim
    (λ s. let z = leb-true arity most_operands (both (leb 1 arity) (leb arity most_operands) s).1 in omega arith)
    (λ r. ⊎_elim (λ e. let z = eqb-true arity 1 e in omega arith) (λ e. let z = eqb-true arity 2 e in omega arith) (choice (eqb kind 8) (eqb arity 1) (eqb arity 2) r))
    (choice (eqb kind 2 || eqb kind 4) (leb 1 arity && leb arity most_operands) (cond (eqb kind 8) (eqb arity 1) (eqb arity 2)) h)

few_control : (payload arity : ℕ) → control_arity payload arity ≡ true → arity ≤ most_children
unfolding control_arity
few_control payload arity h = ⊎_elim
    (λ e. let z = eqb-true arity 4 e in omega arith)
    (λ e. let z = eqb-true arity 3 e in omega arith)
    (choice (eqb payload 2) (eqb arity 4) (eqb arity 3) (both (leb payload 2) _ h).1)

pub listed_few : (kind payload arity : ℕ) → listed kind payload arity ≡ true → arity ≤ most_children
unfolding listed
listed_few kind payload arity h = ⊎_elim
    (λ v. none (both (is_symbol_number payload) (eqb arity 0) v).1)
    (λ r1. ⊎_elim (λ c. none (both (not (nan_bits binary64 payload)) (eqb arity 0) c).1)
    (λ r2. ⊎_elim (λ o. few_operator kind arity (both (eqb payload 0) (operator_arity kind arity) o).1)
    (λ r3. ⊎_elim (λ f. leb-true arity most_children (both (is_symbol_number payload) (leb arity most_children) f).1)
    (λ r4. ⊎_elim (few_control payload arity) (λ e. absurd (false≢true e)) (choice (eqb kind 32) (control_arity payload arity) false r4))
    (choice (eqb kind 16) (is_symbol_number payload && leb arity most_children) (cond (eqb kind 32) (control_arity payload arity) false) r3))
    (choice (leb 2 kind && leb kind 8) (eqb payload 0 && operator_arity kind arity) _ r2))
    (choice (eqb kind 1) (not (nan_bits binary64 payload) && eqb arity 0) _ r1))
    (choice (eqb kind 0) (is_symbol_number payload && eqb arity 0) _ h)
  where
    none : eqb arity 0 ≡ true → arity ≤ most_children
    none e = let z = eqb-true arity 0 e in omega arith

-- a listed node is no constant whose bits are a NaN
pub listed_number : (kind payload arity : ℕ) → listed kind payload arity ≡ true → nan_constant kind payload ≡ false
unfolding listed
listed_number kind payload arity h = go (eqb kind 1) refl
  where
    number : (b : Bool) → not b && eqb arity 0 ≡ true → b ≡ false
    number true e = absurd (false≢true e)
    number false e = refl

    go : (b : Bool) → eqb kind 1 ≡ b → b && nan_bits binary64 payload ≡ false
    go true e = number (nan_bits binary64 payload) (subst (λ (k : ℕ). listed k payload arity ≡ true) (eqb-true kind 1 e) h)
    go false e = refl
