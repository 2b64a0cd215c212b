-- `child_places::all_zero` meets its contract. The invariant: what is gathered is 0 exactly if the words passed are.
use Rattle.std.proofs.Common.{ℕ, ◌≡◌, ◌<◌, get_or}
use Rattle.child_places.specs.Places.{AllZero}
use Rattle.child_places.proofs.all_zero.Given as goal

abbrev pub invariant-loop-word : goal.invariant-loop-word
invariant-loop-word l = (l.any ≡ 0 → (k : ℕ) → k < l.word-index → get_or l.words k 0 ≡ 0) × (AllZero l.words → l.any ≡ 0)
