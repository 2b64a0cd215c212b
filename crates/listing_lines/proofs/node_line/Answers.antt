-- `listing_lines::node_line` meets its contract.
use Prim.Native.Nat.{ℕ}
use mathlib.Core.Path.{subst}
use native.Mathlib.Omega.{arith}
use Rattle.store.specs.View.{nodes_in}
use Rattle.listing_lines.specs.Line.{Holds}
use Rattle.listing_lines.specs.Outcome.{line_of}
use Rattle.listing_lines.proofs.Asking.{lists_unsound, lists_unknown, lists_found}
use Rattle.listing_lines.proofs.node_line.Goals as goal

pub returns-then-not-audit : goal.returns-then-not-audit
returns-then-not-audit c = lists_unsound _ _ (c.audit.ensures.no c.if-not-audit.true)

pub returns-then-arena-place : goal.returns-then-arena-place
returns-then-arena-place c = lists_unknown _ _ (c.audit.ensures.yes c.if-not-audit.false) (omega arith)

pub node_line_sound-requires : goal.node_line_sound-requires
node_line_sound-requires c = record { below = omega arith; nodes = (c.audit.ensures.yes c.if-not-audit.false).nodes }

pub returns : goal.returns
returns c =
    let h = c.audit.ensures.yes c.if-not-audit.false in
    lists_found _ _ h (omega arith) _
    (subst (λ (i : ℕ). Holds (line_of (nodes_in c.args.nodes.now c.args.arena.count) i) c.node_line_sound.result) c.from-place.ensures c.node_line_sound.ensures)
