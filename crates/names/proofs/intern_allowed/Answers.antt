-- `names::intern_allowed` meets its contract: each way through it is one case of the plain registry.
use Prim.Native.Nat.{◌≤◌, min}
use native.Mathlib.Omega.{arith}
use Rattle.names.proofs.Calling.{is_found, is_nothing, intern_known, intern_full, intern_put}
use Rattle.names.proofs.Determined.{clauses_give_equation}
use Rattle.definitions.specs.Names.{most_names}
use Rattle.name_entries.specs.Sound.{lent_entries}
use Rattle.names.proofs.intern_allowed.Goals.{then-count-ge-MOST_NAMES-via-then-count-ge-MOST_NAMES, then-count-ge-MOST_NAMES-via-else-count-ge-MOST_NAMES+then-entries-count}
use Rattle.names.proofs.intern_allowed.Goals as goal

pub of_name-key-requires : goal.of_name-key-requires
of_name-key-requires c = c.requires.1.longest

pub find-requires : goal.find-requires
find-requires c = (let m = c.requires.0.lent in omega arith, c.of_name-key.ensures.size)

pub overflow_cast-result : goal.overflow_cast-result
overflow_cast-result c = let b = (is_found _ _ _ _ c.of_name-key.ensures _ c.in-Some.ensures).below in let m = c.requires.0.many in omega arith

pub returns-in-Some : goal.returns-in-Some
returns-in-Some c = clauses_give_equation _ _ _ _ _ _ (intern_known _ _ c.requires.0 _ c.requires.1 _ (is_found _ _ _ _ c.of_name-key.ensures _ c.in-Some.ensures))

pub returns-then-count-ge-MOST_NAMES : goal.returns-then-count-ge-MOST_NAMES
returns-then-count-ge-MOST_NAMES c = clauses_give_equation _ _ _ _ _ _ (intern_full _ _ c.requires.0 _ c.requires.1 (is_nothing _ _ _ _ c.of_name-key.ensures c.in_default.ensures) full)
  where
    full : min (lent_entries c.args.entries.now) most_names ≤ c.args.count
    full = elim c.then-count-ge-MOST_NAMES.branch [ then-count-ge-MOST_NAMES-via-then-count-ge-MOST_NAMES w ↦ omega arith | then-count-ge-MOST_NAMES-via-else-count-ge-MOST_NAMES+then-entries-count w ↦ omega arith ]

pub put-requires : goal.put-requires
put-requires c = (omega arith, c.of_name-key.ensures.size)

pub returns : goal.returns
returns c = clauses_give_equation _ _ _ _ _ _ (intern_put _ _ c.requires.0 _ _ _ c.requires.1 c.of_name-key.ensures (is_nothing _ _ _ _ c.of_name-key.ensures c.in_default.ensures) c.if-count-ge-MOST_NAMES.false c.if-entries-count.false c.put.ensures)
