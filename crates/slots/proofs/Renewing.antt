-- A table made anew.
use Prim.Native.Nat.{ℕ, ◌+◌, ◌≤◌}
use mathlib.Core.Path.{◌≡◌, refl, sym, ◌∙◌}
use mathlib.Core.List.{List, ◌++◌}
use lib.ListN.{length, drop, replicate, length-replicate, length-append, length-drop}
use lib.Seq.{take_at, drop_at}
use native.Mathlib.Omega.{arith}
use Rattle.definitions.specs.Intern.{capacity}
use Rattle.slots.specs.Table.{TableSize, Table}
use Rattle.slots.specs.Insert.{Taken}
use Rattle.slots.proofs.Inserting.{inserted_none, table_add, past_add}

-- a table without nodes
pub empty : (hash : ℕ → ℕ) (n : ℕ) (l : List ℕ) → TableSize n → n ≤ length l → Table hash 0 (replicate n 0 ++ drop n l) n
empty hash n l t h = record {
  doubled = t;
  sized = simp (length-append, length-replicate, length-drop) (omega arith);
  load = omega arith;
  filled = take_at (replicate n 0) (drop n l) n (length-replicate n 0) ∙ sym (inserted_none hash n);
}

pub empty_past : (n : ℕ) (l : List ℕ) → drop n (replicate n 0 ++ drop n l) ≡ drop n l
empty_past n l = drop_at (replicate n 0) (drop n l) n (length-replicate n 0)

-- one id more
module _ (hash : ℕ → ℕ) (i : ℕ) (slots : List ℕ) (size h : ℕ) (slots' : List ℕ) (t : Table hash i slots size) (e : h ≡ hash i) (fits : i + 1 ≤ capacity size) (k : Taken slots size h i slots') where
  pub table_more : Table hash (i + 1) slots' size
  table_more = rw k.after (table_add hash i slots size t hash (λ _ _. refl) k.place (rw (← e) k.free) fits)

  pub past_more : drop size slots' ≡ drop size slots
  past_more = rw k.after (past_add hash i slots size t hash (λ _ _. refl) k.place (rw (← e) k.free) fits)
