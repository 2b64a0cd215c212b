-- How deep a formula is, and that one of which the program says nothing has no more levels than the depth limit of the walk.
use Rattle.std.specs.Prelude.{Option, Ok}
use Rattle.write_back.specs.declared.Written.{Written}
use Rattle.std.specs.Prelude.{ℕ, suc, max, ◌≤◌, Bool, false, List}
use Rattle.definitions.specs.Formula.{Tree, tree, Forest, nil, cons, formula}
use Rattle.store.specs.declared.NodeAnswer.TheVariants.{Id}
use Rattle.text.specs.Memory.{ControllerMemory, controller_of, BothSound}
use Rattle.text.specs.Reading.{ReadsText}
use Rattle.write_back.specs.Answers.{depth_limit, Answers}

-- the levels of nodes that have children
unfoldable mutual
  pub levels : Tree → ℕ
  levels (tree k p f c) = levels_over c

  pub levels_over : Forest → ℕ
  levels_over nil = 0
  levels_over (cons t ts) = max (suc (levels t)) (levels_over ts)

-- what was typed has no more levels than the walk goes deep
pub record ShallowText (typed : List ℕ) (m : ControllerMemory) : Type 0 where
  pub after : ControllerMemory
  pub id : ℕ
  pub read : ReadsText typed m (Id id) after
  pub shallow : levels (formula (controller_of after).nodes id) ≤ depth_limit

abbrev pub Shallow : Type 0
Shallow = (typed : List ℕ) (pruning : Option ℕ) (m m' : ControllerMemory) (buffer buffer' : List ℕ)
    (size steps kept dropped : ℕ) (spent : Bool)
    → BothSound m → Answers typed pruning m buffer (Ok (record { length = size; steps = steps; spent = spent; deep = false; kept = kept; dropped = dropped })) m' buffer' → ShallowText typed m
