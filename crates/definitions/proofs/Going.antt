-- What every call keeps: formulas and ids of nodes, and the numbers of names.
use Prim.Native.Nat.{ℕ}
use mathlib.Core.Path.{◌≡◌}
use mathlib.Core.Option.{some}
use mathlib.Core.List.{List}
use Rattle.definitions.specs.Intern.{Lent}
use Rattle.definitions.specs.Node.{Node}
use Rattle.definitions.specs.Threshold.{given}
use Rattle.definitions.specs.Settings.{setting}
use Rattle.definitions.specs.Machine.{Call, store, simplify, prune, prune_by_setting, requested, state, call}
use Rattle.definitions.specs.Names.{NameCall, name_call}
use Rattle.definitions.specs.Controller.{LentLists, Controller}
use Rattle.definitions.specs.Promise.{nth}
use Rattle.definitions.proofs.Intern.{Sound, Step, stay, trans}
use Rattle.definitions.proofs.Floats.{laws}
use Rattle.definitions.proofs.Calls.{builds}
use Rattle.definitions.proofs.SimplifyCalls.{simplifies}
use Rattle.definitions.proofs.PruneCalls.{given_taken, setting_taken, prune_steps}
use Rattle.definitions.proofs.NameLists.{Listed, name_says}

pub call_step : (l : Lent) (ns : List Node) (c : Call) → Sound ns → Step ns (call l (state ns) c).left.nodes
unfolding call
call_step l ns (store c) h = (builds l ns (requested c) h).step
call_step l ns (simplify m i d b) h = (simplifies laws l m ns i d b h).step
call_step l ns (prune i t) h = prune_steps l ns i (given t) (given_taken t) h
call_step l ns (prune_by_setting i n) h = prune_steps l ns i (setting n) (setting_taken n) h

-- what every call needs
pub record Whole (s : Controller) : Type 0 where
  pub nodes : Sound s.nodes
  pub names : Listed s.names

-- what one or more calls keep
pub record Goes (s s' : Controller) : Type 0 where
  pub step : Step s.nodes s'.nodes
  pub kept : (i : ℕ) (name : List ℕ) → nth s.names i ≡ some name → nth s'.names i ≡ some name
  pub listed : Listed s'.names

pub whole_after : {s s' : Controller} → Goes s s' → Whole s'
whole_after g = record { nodes = g.step.sound; names = g.listed }

pub goes_nowhere : (s : Controller) → Whole s → Goes s s
goes_nowhere s w = record { step = stay s.nodes w.nodes; kept = λ i name e. e; listed = w.names }

pub goes_further : {s s' s'' : Controller} → Goes s s' → Goes s' s'' → Goes s s''
goes_further g h = record { step = trans g.step h.step; kept = λ i name e. h.kept i name (g.kept i name e); listed = h.listed }

pub by_store : (l : LentLists) (s : Controller) (c : Call) → Whole s → Goes s (record { nodes = (call l.store (state s.nodes) c).left.nodes; names = s.names })
by_store l s c w = record { step = call_step l.store s.nodes c w.nodes; kept = λ i name e. e; listed = w.names }

pub by_names : (l : LentLists) (s : Controller) (c : NameCall) → Whole s → Goes s (record { nodes = s.nodes; names = (name_call l.names s.names c).names })
by_names l s c w =
    let says = name_says l.names s.names w.names c in
    record { step = stay s.nodes w.nodes; kept = says.kept; listed = says.listed }
