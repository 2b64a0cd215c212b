-- "No NaN in the store": what is proved of folding, merging, rebuilding, store calls and sheets (proofs NoNaN). That no list of
-- calls leaves a NaN among the nodes is `numbers` of the promise.
use Rattle.std.specs.Prelude.{ℕ, suc, ◌≡◌, true, false, List, [], ◌∷◌, length, Float}
use Rattle.std.proofs.Math.Option.{Option, none, some}
use Rattle.std.specs.Float.{nan, binary64}
use Rattle.std.specs.Float.Ieee.{is_nan, nan_bits}
use Rattle.definitions.specs.Refusals.{not_a_number}
use Rattle.definitions.specs.Node.{Node, at}
use Rattle.definitions.specs.Intern.{Lent}
use Rattle.definitions.specs.Patterns.{constant_value, pair_of, binary64_result, fold, identities, try_apply}
use Rattle.definitions.specs.Walk.{rebuilt, rebuild_or_match}
use Rattle.definitions.specs.Machine.{Answer, State, constant, store, requested, refused, outcome, store_call}
use Rattle.definitions.specs.Sheet.{ran, cut, record_call, records}

-- What folding answers, which merging takes its constant from, is IEEE's result and never a NaN: "A fold to NaN is now declined".
abbrev pub FoldsToNumbers : Type 0
FoldsToNumbers = (k : ℕ) (x y z : Float) → fold k x y ≡ some z → (is_nan z ≡ false) × (binary64_result k x y ≡ some z)

-- and every other result is answered
abbrev pub FoldsAllNumbers : Type 0
FoldsAllNumbers = (k : ℕ) (x y z : Float) → binary64_result k x y ≡ some z → is_nan z ≡ false → fold k x y ≡ some z

-- the constant of a sum or product of two that merging takes: the left one first
abbrev pub first_constant : Option Float → Option Float → Option Float
first_constant none y = y
first_constant (some x) y = some x

abbrev pub coefficient_of : List Node → ℕ × ℕ → Option Float
coefficient_of ns pq = first_constant (constant_value (at ns pq.0)) (constant_value (at ns pq.1))

-- IEEE's result is a NaN for what an operator of kind k over a and b would fold, or for its constant and that of an operator of the same
-- kind on its left or right, as a merge would fold them
pub data GivesNaN (ns : List Node) (k a b : ℕ) : Type 0 where
  folding : {x y : Float} → constant_value (at ns a) ≡ some x → constant_value (at ns b) ≡ some y
      → binary64_result k x y ≡ some nan → GivesNaN ns k a b
  merging_left : {pq : ℕ × ℕ} {c d : Float} → pair_of k (at ns a) ≡ some pq → coefficient_of ns pq ≡ some d → constant_value (at ns b) ≡ some c
      → binary64_result k d c ≡ some nan → GivesNaN ns k a b
  merging_right : {pq : ℕ × ℕ} {c d : Float} → pair_of k (at ns b) ≡ some pq → coefficient_of ns pq ≡ some d → constant_value (at ns a) ≡ some c
      → binary64_result k d c ≡ some nan → GivesNaN ns k a b

-- "merging then does not fire": where no identity fits either, no pattern does, and nothing is interned
abbrev pub Declines : Type 0
Declines = (l : Lent) (ns : List Node) (k a b : ℕ) → GivesNaN ns k a b → identities l ns k a b ≡ none → try_apply l ns k (a ∷ b ∷ []) ≡ none

-- "the node is rebuilt plainly": itself over its own children, or a node anew
abbrev pub RebuildsPlainly : Type 0
RebuildsPlainly =
    (l : Lent) (ns : List Node) (i a b : ℕ) → GivesNaN ns (at ns i).kind a b → identities l ns (at ns i).kind a b ≡ none
    → rebuild_or_match l ns i (a ∷ b ∷ []) ≡ rebuilt l ns i (a ∷ b ∷ []) none

-- "10, a constant whose bits are a NaN": nothing is changed, also where the store is full
abbrev pub RefusesNaN : Type 0
RefusesNaN =
    (l : Lent) (ns : List Node) (b : ℕ) → nan_bits binary64 b ≡ true → store_call l ns (requested (constant b)) ≡ outcome (refused not_a_number) ns

-- and a sheet ends with 10 at such a record, and keeps what the earlier ones left
abbrev pub RecordRefusesNaN : Type 0
RecordRefusesNaN =
    (more : ℕ) (l : Lent) (al : List Answer) (s : State) (x : ℕ) (bytes rest : List ℕ) (b : ℕ)
    → record_call (cut (x ∷ bytes)) ≡ some (store (constant b), rest) → nan_bits binary64 b ≡ true
    → records (suc more) l al s (x ∷ bytes) ≡ ran al (some (not_a_number, length al)) s
