-- The word of a node's flags is the flags with the mark.
use Prim.Native.Nat.{ℕ, ◌+◌, ◌*◌, ◌%◌, ◌<◌}
use mathlib.Core.Path.{◌≡◌, refl, sym, ap, ◌∙◌}
use mathlib.Core.Bool.{Bool, true, false, cond}
use mathlib.Core.List.{List}
use lib.ListN.{get_or}
use lib.Dec.{leb}
use native.Mathlib.Omega.{arith}
use borrow.Author.Tests.{leb-true, leb-false}
use Rattle.arena.specs.Layout.{node_words, flags_word}
use Rattle.arena.specs.Node.{node_at, flags_end}
use Rattle.definitions.specs.Node as N
use Rattle.definitions.specs.Listing.{all_flags}
use Rattle.store.specs.View.{plain_node, nodes_in}
use Rattle.store.specs.Lookup.{Lookup}
use Rattle.store.proofs.Viewing.{at_plain}

-- "Flags: 1 commutative, 2 associative, 4 canonical"; "flags are 0 to 7"
whole : (f : ℕ) → f < flags_end → cond (leb 4 f) (f % 4 + 4) (f % 4) ≡ f
whole f h = go (leb 4 f) refl
  where
    go : (b : Bool) → leb 4 f ≡ b → cond b (f % 4 + 4) (f % 4) ≡ f
    go true e = let l = leb-true 4 f e in omega arith
    go false e = let l = leb-false 4 f e in omega arith

pub flags_are : (w : List ℕ) (count i : ℕ) → Lookup w count i → get_or w (i * node_words + flags_word) 0 ≡ all_flags (N.at (nodes_in w count) i)
unfolding plain_node node_at
flags_are w count i k =
    sym (ap all_flags (at_plain w count i k.below) ∙ whole (get_or w (i * node_words + flags_word) 0) (k.nodes.formed.each i k.below).marks)
