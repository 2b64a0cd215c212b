-- `name_entries::entry::same` meets its contract. The loop's invariant: the bytes of the words passed agree.
use native.Mathlib.Omega.{arith}
use Rattle.name_entries.proofs.Words.{word_more, word_other, words_agree}
use Rattle.name_entries.proofs.entry.same.Goals as goal

pub loop-k-init : goal.loop-k-init
loop-k-init c = λ j l m. absurd (omega arith)

pub returns-then-word : goal.returns-then-word
returns-then-word c = word_other _ _ _ _ _ c.word.ensures c.word-in-loop-k.ensures c.if-word.true

pub loop-k-preserved : goal.loop-k-preserved
loop-k-preserved c = word_more _ _ (λ i. (c.type_inv.a i).fits) (λ i. (c.type_inv.b i).fits) _ _ _ c.loop-k.invariant c.word.ensures c.word-in-loop-k.ensures c.if-word.false

pub returns : goal.returns
returns c = words_agree _ _ c.requires.0 c.requires.1 _ (omega arith) c.loop-k.invariant
