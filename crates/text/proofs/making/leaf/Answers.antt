use mathlib.Core.Path.{sym, ◌∙◌}
use Rattle.text_language.proofs.Tokens.{letter_inside, name_token, name_short}
use Rattle.text.proofs.Performing.{makes_number, makes_token}
use Rattle.text.proofs.making.leaf.Goals as goal

pub named-requires : goal.named-requires
named-requires c = (c.requires, let n = name_short _ _ _ (letter_inside c.args.text.now c.args.at (sym c.name_starts.ensures ∙ c.if-name_starts.true)) (sym c.name_starts.ensures ∙ c.if-name_starts.true) c.name_end-end.ensures in record { shortest = n.0; longest = n.1 })

pub returns-then-name_starts : goal.returns-then-name_starts
returns-then-name_starts c = makes_token _ _ _ _ _ _ _ _ _ (sym (name_token _ _ _ (letter_inside c.args.text.now c.args.at (sym c.name_starts.ensures ∙ c.if-name_starts.true)) (sym c.name_starts.ensures ∙ c.if-name_starts.true) c.name_end-end.ensures)) c.named.ensures

pub returns : goal.returns
returns c = makes_token _ _ _ _ _ _ _ _ _ (sym c.bits_at-bits.ensures) (makes_number _ _ c.requires _ _ _ _ c.number-built.ensures)
