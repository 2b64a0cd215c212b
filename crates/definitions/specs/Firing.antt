-- Which pattern fires: "each built-in rule's firings (the nine functions of `patterns.rs` from `add_zero` to `add_coef_merge`, in the
-- file's order)".
use Rattle.std.specs.Prelude.{ℕ, ◌≡◌, refl, cond, List, [], ◌∷◌, eqb}
use Rattle.std.proofs.Math.Option.{Option, none, some}
use Rattle.std.specs.Float.Ieee.{of_bits, eq}
use Rattle.definitions.specs.Node.{Node, node, at, variable_kind, constant_kind, add_kind, sub_kind, mul_kind, div_kind, pow_kind, neg_kind, both_flags}
use Rattle.definitions.specs.Intern.{Lent, Built, built, stopped}
use Rattle.definitions.specs.Patterns as P
use Rattle.definitions.specs.Patterns.{try_apply}
use Rattle.definitions.specs.Strict.{minus_zero_bits, plus_zero_bits, strict_identities, strict_apply}
use Rattle.definitions.specs.Walk.{Mode, standard, strict, rebuild_or_match, rebuild_strictly, rebuild_as}

-- the nine functions, in the file's order
pub data Pattern : Type 0 where
  add_zero : Pattern
  sub_identity : Pattern
  mul_identity : Pattern
  div_identity : Pattern
  pow_identity : Pattern
  neg_double : Pattern
  constant_fold : Pattern
  mul_coef_merge : Pattern
  add_coef_merge : Pattern

-- the patterns of a mode
unfoldable pub apply_as : Mode → Lent → List Node → ℕ → List ℕ → Option Built
unfolding try_apply strict_apply
apply_as standard l ns k c = try_apply l ns k c
apply_as strict l ns k c = strict_apply l ns k c

-- an operator's first function: its identities, strict ones too
abbrev pub first_function : ℕ → Pattern
first_function k =
    cond (eqb k add_kind) add_zero
    (cond (eqb k sub_kind) sub_identity
    (cond (eqb k mul_kind) mul_identity (cond (eqb k div_kind) div_identity (cond (eqb k pow_kind) pow_identity neg_double))))

-- an operator's merge: only Mul and Add have one
abbrev pub merge_function : ℕ → Pattern
merge_function k = cond (eqb k mul_kind) mul_coef_merge add_coef_merge

-- a pattern where it fits, else what is tried after it
abbrev pub if_fits : Option Built → Pattern → Option Pattern → Option Pattern
if_fits none p rest = rest
if_fits (some m) p rest = some p

-- over two operands; "a strict fold counts under `constant_fold`, other strict firings (tried first) under their operator's first function"
unfoldable pub binary_firing : Mode → Lent → List Node → ℕ → ℕ → ℕ → Option Pattern
unfolding P.identities P.constant_fold P.merges strict_identities
binary_firing standard l ns k a b =
    if_fits (P.identities l ns k a b) (first_function k)
    (if_fits (P.constant_fold l ns k a b) constant_fold (if_fits (P.merges l ns k a b) (merge_function k) none))
binary_firing strict l ns k a b =
    if_fits (strict_identities ns k a b) (first_function k) (if_fits (P.constant_fold l ns k a b) constant_fold none)

-- the first pattern of a mode that fits a kind over new children: `none` exactly where `apply_as` declines (proofs Firing)
unfoldable pub firing : Mode → Lent → List Node → ℕ → List ℕ → Option Pattern
unfolding binary_firing
firing m l ns k [] = none
firing m l ns k (a ∷ []) = cond (eqb k neg_kind) (if_fits (P.neg_double ns a) neg_double none) none
firing m l ns k (a ∷ b ∷ []) = binary_firing m l ns k a b
firing m l ns k (a ∷ b ∷ c ∷ r) = none

-- "A rule fires when a finished frame takes its result, so not when stopped by 21 or 22"
abbrev pub taken : Built → Option Pattern → Option Pattern
taken (built ns i) p = p
taken (stopped ns r) p = none

-- what fires at the finished frame of node i over new children
unfoldable pub frame_firing : Mode → Lent → List Node → ℕ → List ℕ → Option Pattern
unfolding firing rebuild_or_match rebuild_strictly
frame_firing m l ns i c = taken (rebuild_as m l ns i c) (firing m l ns (at ns i).kind c)

-- ---- cases, each computed

-- x, 0.0, -0.0, 2, 3, the infinities, 2·x, 2 + 3, x + 0.0, -x, 1, and x + 2
abbrev nodes : List Node
nodes =
    node variable_kind 0 0 [] ∷ node constant_kind plus_zero_bits 0 [] ∷ node constant_kind minus_zero_bits 0 []
    ∷ node constant_kind 0x4000000000000000 0 [] ∷ node constant_kind 0x4008000000000000 0 []
    ∷ node constant_kind 0x7FF0000000000000 0 [] ∷ node constant_kind 0xFFF0000000000000 0 []
    ∷ node mul_kind 0 both_flags (3 ∷ 0 ∷ []) ∷ node add_kind 0 both_flags (3 ∷ 4 ∷ []) ∷ node add_kind 0 both_flags (0 ∷ 1 ∷ [])
    ∷ node neg_kind 0 0 (0 ∷ []) ∷ node constant_kind 0x3FF0000000000000 0 [] ∷ node add_kind 0 both_flags (0 ∷ 3 ∷ []) ∷ []

-- each of the nine: x + 0.0, x - x, x · 1, x / 1, x ^ 1, -(-x), 2 + 3, (2·x)·3 and (x + 2) + 3
pub cases : (l : Lent) → (firing standard l nodes add_kind (0 ∷ 1 ∷ []) ≡ some add_zero)
    × (firing standard l nodes sub_kind (0 ∷ 0 ∷ []) ≡ some sub_identity)
    × (firing standard l nodes mul_kind (0 ∷ 11 ∷ []) ≡ some mul_identity)
    × (firing standard l nodes div_kind (0 ∷ 11 ∷ []) ≡ some div_identity)
    × (firing standard l nodes pow_kind (0 ∷ 11 ∷ []) ≡ some pow_identity)
    × (firing standard l nodes neg_kind (10 ∷ []) ≡ some neg_double)
    × (firing standard l nodes add_kind (3 ∷ 4 ∷ []) ≡ some constant_fold)
    × (firing standard l nodes mul_kind (7 ∷ 4 ∷ []) ≡ some mul_coef_merge)
    × (firing standard l nodes add_kind (12 ∷ 4 ∷ []) ≡ some add_coef_merge)
unfolding firing P.add_zero P.sub_identity P.mul_identity P.div_identity P.pow_identity P.constant_value P.fold P.binary64_result P.mul_coef_merge P.add_coef_merge of_bits eq
cases l = (refl, refl, refl, refl, refl, refl, refl, refl, refl)

-- inf + -inf, which folds to NaN, fires nothing; strictly 2 + (-0.0), an identity before a fold, 2 + 3, -(-x), and x + 0.0, which is none
pub other_cases : (l : Lent) → (firing standard l nodes add_kind (5 ∷ 6 ∷ []) ≡ none)
    × (firing strict l nodes add_kind (3 ∷ 2 ∷ []) ≡ some add_zero)
    × (firing strict l nodes add_kind (3 ∷ 4 ∷ []) ≡ some constant_fold)
    × (firing strict l nodes neg_kind (10 ∷ []) ≡ some neg_double)
    × (firing strict l nodes add_kind (0 ∷ 1 ∷ []) ≡ none)
unfolding firing P.add_zero P.mul_identity P.constant_value P.fold P.binary64_result P.mul_coef_merge of_bits eq
other_cases l = (refl, refl, refl, refl, refl)

-- a store without a place: the fold of 2 + 3 is stopped by 21, and x + 0.0 needs no place
abbrev full : Lent
full = record { nodes = 13; slots = 64 }

pub stopped_cases : (frame_firing standard full nodes 8 (3 ∷ 4 ∷ []) ≡ none) × (frame_firing standard full nodes 9 (0 ∷ 1 ∷ []) ≡ some add_zero)
unfolding frame_firing
stopped_cases = (refl, refl)
