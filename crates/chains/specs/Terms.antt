-- The terms of a chain that are kept, in an array.
use Rattle.std.specs.Prelude.{ℕ, ◌+◌, ◌-◌, ◌<◌, ◌≤◌, ◌≡◌, Bool, List, ◌++◌, length, get_or, set, take, drop, Option, None, Some, Result, Ok, Err}
use Rattle.definitions.specs.Limits.{most_terms}
use Rattle.definitions.specs.Node.{at, add_kind}
use Rattle.definitions.specs.Prune.{filter}
use Rattle.store.specs.View.{nodes_in}
use Rattle.store.specs.Lookup.{Lookup}
use Rattle.chains.specs.declared.chain.Terms.{Terms}
use Rattle.refusal.specs.declared.Refusal.{Refusal}
use Rattle.refusal.specs.declared.Refusal.TheVariants.{TooManyTerms}
pub use Rattle.child_places.specs.Places.{AllBelow}

-- the children of a node in memory
abbrev pub children_in : List ℕ → ℕ → ℕ → List ℕ
children_in words count id = (at (nodes_in words count) id).children

-- What is read of a sound store's nodes: each id can be looked up, and an Add has a child.
pub record Readable (words : List ℕ) (count : ℕ) : Type 0 where
  pub lookup : (id : ℕ) → id < count → Lookup words count id
  pub filled : (id : ℕ) → id < count → (at (nodes_in words count) id).kind ≡ add_kind → 0 < length (children_in words count id)

-- How the children of an Add before its last are put after the ids that wait before `top`: before a place, so that those from `free` on
-- stay, or nowhere, since there are more children than places.
abbrev pub Pushes : List ℕ → ℕ → ℕ → List ℕ → Option ℕ → List ℕ → Type 0
Pushes children top free array (Some to) array' =
    (to ≤ free) × (to + 1 ≡ top + length children) × (take to array' ≡ take top array ++ take (length children - 1) children) × (drop free array' ≡ drop free array) × (length array' ≡ most_terms)
Pushes children top free array None array' = (free + 1 < top + length children) × (length array' ≡ most_terms)

-- An Add's two children of which the one at a place is a term.
pub record HasTerm (words : List ℕ) (count id place : ℕ) : Type 0 where
  pub two : length (children_in words count id) ≡ 2
  pub term : (at (nodes_in words count) (get_or (children_in words count id) place 0)).kind ≡ add_kind → ⊥

-- How a term put at a place changes the array, and whether it is kept.
abbrev pub PutsTerm : Bool → ℕ → ℕ → List ℕ → Bool → List ℕ → Type 0
PutsTerm kept place id array answer array' = (answer ≡ kept) × (array' ≡ set array place id)

-- How the first `front` places and the last `back` places of the array come to stand side by side, from a place on.
pub record Closes (found front back : ℕ) (array : List ℕ) (terms : Terms) (array' : List ℕ) : Type 0 where
  pub number : terms.found ≡ found
  pub kept : terms.kept ≡ front + back
  pub inside : terms.from + terms.kept ≤ most_terms
  pub beside : take terms.kept (drop terms.from array') ≡ take front array ++ drop (most_terms - back) array
  pub long : length array' ≡ most_terms

-- The number of the chain's terms, and those kept, "a term is kept if its magnitude is at least the threshold", in order from a place of
-- the array on; or, "over 4,096 terms", kept or not, the answer that there are too many.
abbrev pub HoldsTerms : List ℕ → (ℕ → Bool) → Result Terms Refusal → List ℕ → Type 0
HoldsTerms terms keep (Ok t) array =
    (t.found ≡ length terms) × (t.found ≤ most_terms) × (t.kept ≡ length (filter keep terms)) × (t.from + t.kept ≤ most_terms) × (take t.kept (drop t.from array) ≡ filter keep terms)
HoldsTerms terms keep (Err refusal) array = (refusal ≡ TooManyTerms) × (most_terms < length terms)

-- How a flattening ends. The array keeps its length.
pub record Flattens (terms : List ℕ) (keep : ℕ → Bool) (answer : Result Terms Refusal) (array : List ℕ) : Type 0 where
  pub holds : HoldsTerms terms keep answer array
  pub long : length array ≡ most_terms
