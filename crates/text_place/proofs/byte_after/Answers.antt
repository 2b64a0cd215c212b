use mathlib.Core.Path.{sym, ◌∙◌}
use Rattle.text_place.proofs.Bytes.{after_blank, after_sign, after_other, after_none, after_bracket}
use Rattle.text_place.proofs.byte_after.Goals as goal

pub returns-then-byte-eq-BLANK : goal.returns-then-byte-eq-BLANK
returns-then-byte-eq-BLANK c = after_blank _ _ c.if-byte-eq-BLANK.true

pub returns-then-joins : goal.returns-then-joins
returns-then-joins c = after_sign _ _ c.if-byte-eq-BLANK.false (sym c.joins.ensures ∙ c.if-joins.true)

pub returns-then-byte-ne-CLOSE : goal.returns-then-byte-ne-CLOSE
returns-then-byte-ne-CLOSE c = after_other _ _ c.if-byte-eq-BLANK.false (sym c.joins.ensures ∙ c.if-joins.false) c.if-byte-ne-CLOSE.true

pub returns-then-brackets-eq0 : goal.returns-then-brackets-eq0
returns-then-brackets-eq0 c = after_none _ _ c.if-byte-eq-BLANK.false (sym c.joins.ensures ∙ c.if-joins.false) c.if-byte-ne-CLOSE.false c.if-brackets-eq0.true

pub returns : goal.returns
returns c = after_bracket _ _ c.if-byte-eq-BLANK.false (sym c.joins.ensures ∙ c.if-joins.false) c.if-byte-ne-CLOSE.false c.if-brackets-eq0.false
