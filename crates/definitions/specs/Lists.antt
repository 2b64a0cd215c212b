-- What a controller hands on from call to call, and how much is lent for it.
use Rattle.std.specs.Prelude.{ℕ, List, []}
use Rattle.definitions.specs.Intern.{Lent}
use Rattle.definitions.specs.Node.{Node}

-- "lent places known": the store's nodes and slots, and how many entries of each list
pub record LentLists : Type 0 where
  pub store : Lent
  pub names : ℕ

-- "name and rule lists handed on like the store"
pub record Controller : Type 0 where
  pub nodes : List Node
  pub names : List (List ℕ)

abbrev pub controller : List (List ℕ) → List Node → Controller
controller names nodes = record { nodes = nodes; names = names }

-- "empty at first"
abbrev pub empty_controller : Controller
empty_controller = controller [] []
