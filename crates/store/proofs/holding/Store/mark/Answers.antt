use Rattle.std.proofs.Common.{refl}
use Rattle.store.proofs.holding.Store.mark.Goals as goal

pub invariant_of-self : goal.invariant_of-self
invariant_of-self c = record { sound = (c.mark.ensures.kept _ _ refl c.args.self.now.sound).whole }
