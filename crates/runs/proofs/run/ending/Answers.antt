-- By the test on the frames.
use mathlib.Core.Path.{refl}
use Rattle.runs.proofs.run.ending.Goals as goal

pub returns-then-depth-eq0 : goal.returns-then-depth-eq0
returns-then-depth-eq0 c = record { finished = λ _. rw c.from.ensures refl; spent = λ n. absurd (n c.if-depth-eq0.true) }

pub returns : goal.returns
returns c = record { finished = λ z. absurd (c.if-depth-eq0.false z); spent = λ _. refl }
