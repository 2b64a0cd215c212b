-- The chain of a node, over the chains of its children.
use Prim.Native.Nat.{ℕ, zero, suc, ◌<◌, ◌≤◌}
use mathlib.Core.Path.{◌≡◌, refl, sym, ap, ◌∙◌}
use mathlib.Core.Bool.{Bool, true, false}
use mathlib.Core.List.{List, [], ◌∷◌, ◌++◌, map, append_assoc}
use lib.ListN.{length, length-append}
use lib.Dec.{eqb}
use native.Mathlib.Omega.{arith}
use borrow.Author.Tests.{eqb-true, eq-eqb, ne_eqb}
use Rattle.definitions.specs.Node.{Node, at, add_kind}
use Rattle.definitions.specs.Prune.{concat, flatten, chain}
use Rattle.definitions.proofs.Stable.{Lower}
use Rattle.definitions.proofs.Intern.{lower_up}
use Rattle.chains.proofs.Below.{lower_concat}

-- children lie below their node, and an Add has some
pub record Layered (ns : List Node) : Type 0 where
  pub low : (i : ℕ) → i < length ns → Lower i (at ns i).children
  pub filled : (i : ℕ) → i < length ns → (at ns i).kind ≡ add_kind → 0 < length (at ns i).children

-- the chains of ids, one after another
abbrev pub chains : List Node → List ℕ → List ℕ
chains ns ids = concat (map (chain ns) ids)

pub chains_append : (ns : List Node) (a b : List ℕ) → chains ns (a ++ b) ≡ chains ns a ++ chains ns b
chains_append ns [] b = refl
chains_append ns (i ∷ a) b = ap (λ (l : List ℕ). chain ns i ++ l) (chains_append ns a b) ∙ sym (append_assoc (chain ns i) (chains ns a) (chains ns b))

concat_same : (f g : ℕ → List ℕ) (n : ℕ) → ((k : ℕ) → k < n → f k ≡ g k) → (ids : List ℕ) → Lower n ids → concat (map f ids) ≡ concat (map g ids)
concat_same f g n h [] l = refl
concat_same f g n h (i ∷ ids) l = let e = h i l.0 in let r = concat_same f g n h ids l.1 in cc

concat_filled : (f : ℕ → List ℕ) (n : ℕ) → ((k : ℕ) → k < n → 0 < length (f k)) → (ids : List ℕ) → Lower n ids → length ids ≤ length (concat (map f ids))
concat_filled f n h [] l = omega arith
concat_filled f n h (i ∷ ids) l = omega (arith, length-append (f i) (concat (map f ids)), h i l.0, concat_filled f n h ids l.1)

module _ (ns : List Node) (s : Layered ns) where
  -- a longer descent than an id needs gives the same
  same_descent : (d e i : ℕ) → i < length ns → i < d → i < e → flatten d ns i ≡ flatten e ns i
  unfolding flatten
  same_descent zero e i h hd he = absurd (omega arith)
  same_descent (suc d) zero i h hd he = absurd (omega arith)
  same_descent (suc d) (suc e) i h hd he = go (eqb (at ns i).kind add_kind) (λ k l. same_descent d e k (omega arith) (omega arith) (omega arith))
    where
      go : (b : Bool) → ((k : ℕ) → k < i → flatten d ns k ≡ flatten e ns k)
          → ◌≡◌ {A = List ℕ} (elim b [ true ↦ concat (map (flatten d ns) (at ns i).children) | false ↦ i ∷ [] ]) (elim b [ true ↦ concat (map (flatten e ns) (at ns i).children) | false ↦ i ∷ [] ])
      go true ih = concat_same (flatten d ns) (flatten e ns) i ih (at ns i).children (s.low i h)
      go false ih = refl

  pub chain_add : (i : ℕ) → i < length ns → (at ns i).kind ≡ add_kind → chain ns i ≡ chains ns (at ns i).children
  unfolding chain flatten
  chain_add i h e =
      ap (λ (b : Bool). elim b [ true ↦ concat (map (flatten i ns) (at ns i).children) | false ↦ i ∷ [] ]) (eq-eqb (at ns i).kind add_kind e)
      ∙ concat_same (flatten i ns) (chain ns) i (λ k l. same_descent i (suc k) k (omega arith) l (omega arith)) (at ns i).children (s.low i h)

  pub chain_term : (i : ℕ) → ((at ns i).kind ≡ add_kind → ⊥) → chain ns i ≡ i ∷ []
  unfolding chain flatten
  chain_term i other = ap (λ (b : Bool). elim b [ true ↦ concat (map (flatten i ns) (at ns i).children) | false ↦ i ∷ [] ]) (ne_eqb (at ns i).kind add_kind other)

  -- every chain has a term, so ids have a term each at least
  flatten_filled : (d i : ℕ) → i < length ns → 0 < length (flatten d ns i)
  unfolding flatten
  flatten_filled zero i h = omega arith
  flatten_filled (suc d) i h = go (eqb (at ns i).kind add_kind) refl (flatten_filled d)
    where
      go : (b : Bool) → eqb (at ns i).kind add_kind ≡ b → ((k : ℕ) → k < length ns → 0 < length (flatten d ns k))
          → 0 < length {A = ℕ} (elim b [ true ↦ concat (map (flatten d ns) (at ns i).children) | false ↦ i ∷ [] ])
      go true e ih =
          let some = s.filled i h (eqb-true (at ns i).kind add_kind e) in
          omega (arith, concat_filled (flatten d ns) (length ns) ih (at ns i).children (lower_up i (length ns) (omega arith) (at ns i).children (s.low i h)))
      go false e ih = omega arith

  pub chains_filled : (ids : List ℕ) → Lower (length ns) ids → length ids ≤ length (chains ns ids)
  unfolding chain
  chains_filled = concat_filled (chain ns) (length ns) (λ k l. flatten_filled (suc k) k l)

  -- the terms are ids of the store
  flatten_low : (d i : ℕ) → i < length ns → Lower (length ns) (flatten d ns i)
  unfolding flatten
  flatten_low zero i h = (h, tt)
  flatten_low (suc d) i h = go (eqb (at ns i).kind add_kind) (flatten_low d)
    where
      go : (b : Bool) → ((k : ℕ) → k < length ns → Lower (length ns) (flatten d ns k))
          → Lower (length ns) (elim b [ true ↦ concat (map (flatten d ns) (at ns i).children) | false ↦ i ∷ [] ])
      go true ih = lower_concat (length ns) (length ns) (flatten d ns) ih (at ns i).children (lower_up i (length ns) (omega arith) (at ns i).children (s.low i h))
      go false ih = (h, tt)

  pub chain_low : (i : ℕ) → i < length ns → Lower (length ns) (chain ns i)
  unfolding chain
  chain_low i h = flatten_low (suc i) i h
