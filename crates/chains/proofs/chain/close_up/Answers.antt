-- `chains::chain::close_up` meets its contract.
use native.Mathlib.Omega.{arith}
use Rattle.chains.proofs.Closing as Q
use Rattle.chains.proofs.chain.close_up.Goals as goal

pub returns-then-front-eq0 : goal.returns-then-front-eq0
returns-then-front-eq0 c = Q.stays _ _ _ _ c.requires.0 c.requires.1 c.if-front-eq0.true

pub returns : goal.returns
returns c = Q.closed _ _ _ _ c.requires.0 c.requires.1 _ _ (omega (arith, c.requires.1)) c.copy_within.ensures.after
