-- Refusals 5 and 4, or the walk from its first state.
use mathlib.Core.Path.{sym}
use Rattle.store.specs.Held.{held}
use Rattle.walk.proofs.Calling as C
use Rattle.walk.proofs.simplify_in.Goals as goal

pub returns-then-depth-gt-MOST_DEPTH-clause-leaves : goal.returns-then-depth-gt-MOST_DEPTH-clause-leaves
returns-then-depth-gt-MOST_DEPTH-clause-leaves c = C.too_deep c.args.mode (held c.args.store.now) _ _ _ c.args.store.now.sound c.if-depth-gt-MOST_DEPTH.true

pub returns-then-store-id-clause-leaves : goal.returns-then-store-id-clause-leaves
returns-then-store-id-clause-leaves c = rw (sym c.from-id.ensures) (C.no_node c.args.mode (held c.args.store.now) _ _ _ c.args.store.now.sound c.if-depth-gt-MOST_DEPTH.false c.if-store-id.true)

pub run-requires : goal.run-requires
run-requires c = C.startable c.args.mode (held c.args.store.now) _ _ c.args.budget c.args.store.now.sound c.if-depth-gt-MOST_DEPTH.false c.if-store-id.false _ c.new-walk.ensures

pub returns-clause-leaves : goal.returns-clause-leaves
returns-clause-leaves c = rw (sym c.from-id.ensures) (C.ran c.args.mode (held c.args.store.now) _ _ c.args.budget c.args.store.now.sound c.if-depth-gt-MOST_DEPTH.false c.if-store-id.false _ c.new-walk.ensures (held c.run.new.store) _ c.run.ensures.walks)
