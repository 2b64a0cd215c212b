-- The search that compares a key with every node.
use Prim.Native.Nat.{ℕ, zero, suc, ◌<◌}
use mathlib.Core.Path.{◌≡◌, refl, sym, ap, ◌∙◌}
use mathlib.Core.Bool.{Bool, true, false, cond, false≢true}
use mathlib.Core.List.{List}
use mathlib.Core.Logic.{◌⊎◌, inl, inr}
use mathlib.Core.Option.{none, some}
use native.Mathlib.Omega.{arith}
use native.Mathlib.Nat.{eq-or-lt_of_le, le_of_suc-le-suc}
use Rattle.arena.specs.declared.node.DagNode.{DagNode}
use Rattle.arena.specs.Node.{node_at, one, find}
use Rattle.arena.specs.Nodes.{Nodes}
use Rattle.arena.proofs.OneNode.{one_sym, one_trans}

module _ (w : List ℕ) (key : DagNode) where
  -- none of the nodes is the key
  pub find_none : (n : ℕ) → ((i : ℕ) → i < n → one (node_at w i) key ≡ false) → find w n key ≡ none
  unfolding find
  find_none zero h = refl
  find_none (suc n) h = rw (h n (omega arith)) (find_none n (λ i l. h i (omega arith)))

  -- a search that found nothing met no such node
  pub none_below : (n : ℕ) → find w n key ≡ none → (i : ℕ) → i < n → one (node_at w i) key ≡ false
  unfolding find
  none_below zero h i l = absurd (omega arith)
  none_below (suc n) h i l = go (λ h' m. none_below n h' i m) (one (node_at w n) key) refl (eq-or-lt_of_le (le_of_suc-le-suc l)) h
    where
      go : (find w n key ≡ none → i < n → one (node_at w i) key ≡ false) → (b : Bool) → one (node_at w n) key ≡ b → (i ≡ n) ⊎ (i < n) → cond (one (node_at w n) key) (some n) (find w n key) ≡ none → one (node_at w i) key ≡ false
      go rec true e s h' = absurd (let z : ◌≡◌ {A = ℕ} 0 1 = cc (rw e at h') in omega arith)
      go rec false e (inl s) h' = rw s e
      go rec false e (inr s) h' = rec (rw e at h') s

  -- one of them is, and no other
  find_at : (n i : ℕ) → i < n → one (node_at w i) key ≡ true → ((j : ℕ) → j < n → one (node_at w j) key ≡ true → j ≡ i) → find w n key ≡ some i
  unfolding find
  find_at zero i l h u = absurd (omega arith)
  find_at (suc n) i l h u = go (λ m. find_at n i m h (λ j m' o. u j (omega arith) o)) (eq-or-lt_of_le (le_of_suc-le-suc l)) (one (node_at w n) key) refl
    where
      go : (i < n → find w n key ≡ some i) → (i ≡ n) ⊎ (i < n) → (b : Bool) → one (node_at w n) key ≡ b → cond (one (node_at w n) key) (some n) (find w n key) ≡ some i
      go rec (inl e) true f = rw f (ap some (u n (omega arith) f))
      go rec (inr m) true f = rw f (ap some (u n (omega arith) f))
      go rec (inl e) false f = absurd (false≢true (sym f ∙ ap (λ (x : ℕ). one (node_at w x) key) (sym e) ∙ h))
      go rec (inr m) false f = rw f (rec m)

  -- what a search found
  pub found_at : (n j : ℕ) → find w n key ≡ some j → (j < n) × (one (node_at w j) key ≡ true)
  unfolding find
  found_at zero j h = absurd (let z : ◌≡◌ {A = ℕ} 0 1 = cc in omega arith)
  found_at (suc n) j h = go (one (node_at w n) key) refl (λ h'. found_at n j h') h
    where
      go : (b : Bool) → one (node_at w n) key ≡ b → (find w n key ≡ some j → (j < n) × (one (node_at w j) key ≡ true)) → cond (one (node_at w n) key) (some n) (find w n key) ≡ some j → (j < suc n) × (one (node_at w j) key ≡ true)
      go true e rec q = let same : n ≡ j = cc (rw e at q) in (omega arith, rw (← same) e)
      go false e rec q = let r = rec (rw e at q) in (omega (arith, r.0), r.1)

  -- among nodes no two of which are one, the one that is the key is found
  pub find_one : (count : ℕ) → Nodes w count → (i : ℕ) → i < count → one (node_at w i) key ≡ true → find w count key ≡ some i
  find_one count s i l o = find_at count i l o (λ j m p. s.apart j i m l (one_trans _ _ _ p (one_sym _ _ o)))
