-- `store::lookup::has_children` meets its contract.
use Prim.Native.Nat.{ℕ, ◌+◌, ◌*◌}
use mathlib.Core.Path.{◌∙◌, ap}
use mathlib.Core.List.{List}
use native.Mathlib.Omega.{arith}
use Rattle.arena.specs.Layout.{node_words, children_word}
use Rattle.arena.specs.Node.{words_from}
use Rattle.definitions.specs.Node.{same_children}
use Rattle.store.proofs.Reading as R
use Rattle.store.proofs.lookup.has_children.Goals as goal

pub has_children-requires : goal.has_children-requires
has_children-requires c = let few = R.few _ _ _ c.requires.1 in let h = c.requires.0 in let b = c.requires.1.below in let f = c.requires.1.nodes.formed.fits in omega arith

pub returns : goal.returns
returns c =
    let a = c.args in
    c.has_children.ensures
    ∙ ap (λ (k : ℕ). same_children (words_from k a.nodes.now (a.id * node_words + children_word)) a.children.now) c.requires.0
    ∙ ap (λ (l : List ℕ). same_children l a.children.now) (R.used_are a.nodes.now a.count a.id c.requires.1)
