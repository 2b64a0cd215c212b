use mathlib.Core.Path.{sym, ◌∙◌}
use native.Mathlib.Omega.{arith}
use borrow.Author.Tests.{ne_eqb}
use Rattle.text_program.proofs.Scans.{step_minus, step_open, step_none, step_atom, step_join, step_shut, step_close, step_rest, step_end}
use Rattle.text_program.proofs.scanning.step.Goals as goal

pub returns-then-next-eq45 : goal.returns-then-next-eq45
returns-then-next-eq45 c = step_minus _ _ _ _ c.requires.inside c.requires.few c.next_byte-next.ensures c.if-state.true c.if-next-eq45.true

pub returns-then-next-eq40 : goal.returns-then-next-eq40
returns-then-next-eq40 c = step_open _ _ _ _ c.requires.inside c.requires.few c.next_byte-next.ensures c.if-state.true c.if-next-eq45.false c.if-next-eq40.true

pub returns-in-None : goal.returns-in-None
returns-in-None c = step_none _ _ _ _ c.requires.inside c.requires.few c.next_byte-next.ensures c.if-state.true c.if-next-eq45.false c.if-next-eq40.false c.in-None.ensures

pub returns-in-Some : goal.returns-in-Some
returns-in-Some c = step_atom _ _ _ _ c.requires.inside c.requires.few c.next_byte-next.ensures c.if-state.true _ c.if-next-eq45.false c.if-next-eq40.false c.in-Some.ensures

pub returns-then-joins : goal.returns-then-joins
returns-then-joins c = step_join _ _ _ _ c.requires.inside c.requires.few c.next_byte-next.ensures c.if-state.false (sym c.joins.ensures ∙ c.if-joins.true)

pub returns-then-brackets-eq0 : goal.returns-then-brackets-eq0
returns-then-brackets-eq0 c = step_shut _ _ _ _ c.requires.inside c.requires.few c.next_byte-next.ensures c.if-state.false (sym c.joins.ensures ∙ c.if-joins.false) c.if-next-eq41.true c.if-brackets-eq0.true

pub returns-then-next-eq41 : goal.returns-then-next-eq41
returns-then-next-eq41 c = step_close _ _ _ _ c.requires.inside c.requires.few c.next_byte-next.ensures c.if-state.false (sym c.joins.ensures ∙ c.if-joins.false) c.if-next-eq41.true c.if-brackets-eq0.false

pub returns-then-next-text : goal.returns-then-next-text
returns-then-next-text c = let e = c.if-next-text.true in step_end _ _ _ _ c.requires.inside c.requires.few c.next_byte-next.ensures c.if-state.false (sym c.joins.ensures ∙ c.if-joins.false) c.if-next-eq41.false (omega arith)

pub returns-else-next-text : goal.returns-else-next-text
returns-else-next-text c = λ n. step_rest _ _ _ _ c.requires.inside c.requires.few c.next_byte-next.ensures c.if-state.false (sym c.joins.ensures ∙ c.if-joins.false) c.if-next-eq41.false (let h = c.next_byte-next.ensures.high in omega arith) n ∙ sym (ne_eqb _ _ c.if-next-text.false)
