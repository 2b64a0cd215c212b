-- A new node over lent children: it may be interned, and is plainly the node with its parts.
use Prim.Native.Nat.{ℕ, ◌<◌}
use mathlib.Core.Path.{◌≡◌, refl, sym, ap, ◌∙◌, subst}
use mathlib.Core.List.{List}
use lib.ListN.{length, get_or-eq_default}
use native.Mathlib.Omega.{arith}
use Rattle.hash.specs.Fnv.{node_hash_of}
use Rattle.arena.specs.Layout.{most_children}
use Rattle.arena.specs.Node.{node_of, node_hash}
use Rattle.arena.specs.Nodes.{WellFormed}
use Rattle.arena.proofs.Places.{places_at, places_taken, places_length}
use Rattle.definitions.specs.Node as N
use Rattle.store.specs.View.{plain_node}
use Rattle.store.specs.Lookup.{Fits}
use Rattle.store.proofs.Reading.{plain_unmarked}

module _ (count kind payload flags : ℕ) (children : List ℕ) (f : Fits count kind payload flags children) where
  pub new_formed : WellFormed count (node_of kind payload flags children)
  unfolding node_of node_hash
  new_formed = record {
    kinds = f.listing;
    places = record {
      lower = λ j l. subst (λ (x : ℕ). x < count) (sym (places_at children j)) (f.lower j l);
      unused = λ j l. places_at children j ∙ get_or-eq_default children 0 l;
    };
    marks = let u = f.unmarked in omega arith;
    hashed = ap (node_hash_of kind payload) (sym (places_taken children));
    weighed = refl;
  }

  pub new_plain : plain_node (node_of kind payload flags children) ≡ N.node kind payload flags children
  unfolding node_of
  new_plain = plain_unmarked (node_of kind payload flags children) f.unmarked ∙ ap (N.node kind payload flags) (places_taken children)

  pub new_places : length (node_of kind payload flags children).children ≡ most_children
  unfolding node_of
  new_places = places_length children f.few
