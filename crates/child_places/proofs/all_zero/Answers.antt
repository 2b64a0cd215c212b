-- `child_places::all_zero` meets its contract. The invariant: what is gathered is 0 exactly if the words passed are.
use Rattle.std.proofs.Common.{ℕ, get_or, arith, refl}
use borrow.Author.Count.{below_more}
use Rattle.definitions.proofs.Deciding.{says_map, says_eq}
use Rattle.child_places.proofs.Forming.{or_zero, zero_or, zeros_passed}
use Rattle.child_places.proofs.all_zero.Goals as goal

pub loop-word-init : goal.loop-word-init
loop-word-init c = (λ e k l. absurd (omega arith), λ all. refl)

pub loop-word-preserved : goal.loop-word-preserved
loop-word-preserved c =
    let word : ℕ = get_or c.args.words.now c.loop-word.word-index 0 in
    let split = or_zero c.loop-word.any word in
    (λ e. below_more _ _ (c.loop-word.invariant.0 (split e).0) (split e).1, λ all. zero_or c.loop-word.any word (c.loop-word.invariant.1 all) (all c.loop-word.word-index))

pub returns : goal.returns
returns c = says_map _ (λ e. zeros_passed c.args.words.now (λ k l. c.loop-word.invariant.0 e k (omega arith))) c.loop-word.invariant.1 (says_eq _ 0)
