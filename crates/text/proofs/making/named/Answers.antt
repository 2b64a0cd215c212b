use Rattle.text.proofs.Performing.{makes_unnamed, makes_named}
use Rattle.text.proofs.Tags.{not_numbered}
use borrow.Author.Rules.{rules}
use Rattle.text.proofs.making.named.Goals as goal

pub returns-in_default : goal.returns-in_default
returns-in_default c = makes_unnamed _ c.requires.0 _ _ _ c.intern_allowed-interned.result.answer (search rules) c.intern_allowed-interned.ensures 0 0 _ (not_numbered c.intern_allowed-interned.result.answer c.in_default.not-Numbered) c.refusal_of.ensures

pub returns : goal.returns
returns c = makes_named _ c.requires.0 _ _ _ c.intern_allowed-interned.result.answer (search rules) c.intern_allowed-interned.ensures 0 0 _ c.in-Numbered.is _ _ _ _ c.variable-built.ensures
