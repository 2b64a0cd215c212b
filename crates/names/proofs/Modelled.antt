-- A name call's contract is the one that the promise of demand 3 takes, and a list without names is sound, whatever its bytes.
use Prim.Native.Nat.{ℕ}
use mathlib.Core.Path.{refl}
use mathlib.Core.List.{List}
use native.Mathlib.Omega.{arith}
use Rattle.definitions.specs.Refusals.{not_sound}
use Rattle.definitions.specs.Names.{NameCall, NameAnswer}
use Rattle.definitions.specs.Beside.{NamesCalled, FreshNames}
use Rattle.name_entries.specs.Sound.{names_of}
use Rattle.names.specs.Calls.{NameListCalled}
use Rattle.names.specs.Memory.{name_memory, name_model}
use Rattle.names.proofs.Clauses.{equation_gives_clauses}

pub names_called : (c : NameCall) (bytes : List ℕ) (count : ℕ) (a : NameAnswer) (bytes' : List ℕ) (count' : ℕ) → NameListCalled bytes count c a bytes' count'
    → NamesCalled name_model c (name_memory bytes count) a (name_memory bytes' count')
names_called c bytes count a bytes' count' h =
    let clauses = equation_gives_clauses bytes count c a bytes' count' h in
    record {
      unsound = λ u. let e = clauses.unsound u in let s = clauses.refusal not_sound e in (e, λ i. name_memory (s.0 i) (s.1 i));
      answer = clauses.answered;
      left = clauses.names;
      sound = clauses.sound;
      same_lent = clauses.same_lent;
    }

pub no_names : (bytes : List ℕ) → FreshNames name_model (name_memory bytes 0)
unfolding names_of
no_names bytes = record {
  sound = record { many = omega arith; lent = omega arith; entries = λ i l. absurd (omega arith); once = λ i j l. absurd (omega arith) };
  view = refl;
}
