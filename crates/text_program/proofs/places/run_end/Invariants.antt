use Rattle.std.specs.Prelude.{ℕ, ◌+◌, ◌-◌, ◌≤◌, Bool, length}
use Rattle.text_language.proofs.Place.{Running}
use Rattle.text_program.specs.Readers.{Decides}
use Rattle.text_program.proofs.places.run_end.Given as goal

-- Whatever test the closure makes, the bytes so far pass it.
abbrev pub invariant-loop-passed : goal.invariant-loop-passed
invariant-loop-passed g l = record {
  inside : l.from + l.passed ≤ length l.text;
  runs : (p : ℕ → Bool) → Decides (λ c. g.F.Fn.post l.passes (c, tt)) p → Running l.text l.from p l.most (l.from + l.passed) (l.most - l.passed);
}
