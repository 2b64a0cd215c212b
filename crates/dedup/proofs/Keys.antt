-- What the end of a search says of a key.
use Prim.Native.Nat.{ℕ, suc, ◌-◌, ◌<◌}
use mathlib.Core.Path.{◌≡◌, sym, ap, ◌∙◌}
use mathlib.Core.Bool.{true, false≢true}
use mathlib.Core.List.{List}
use mathlib.Core.Option.{none, some}
use lib.ListN.{get_or}
use native.Mathlib.Omega.{arith}
use native.Mathlib.Decide.{dec_lt}
use Rattle.arena.specs.declared.node.DagNode.{DagNode}
use Rattle.arena.specs.Node.{node_at, one, node_hash, find}
use Rattle.arena.specs.Nodes.{Nodes}
use Rattle.definitions.proofs.Deciding.{is_false}
use Rattle.arena.proofs.OneNode.{one_hash}
use Rattle.arena.proofs.Finding.{find_none, find_one}
use Rattle.slots.specs.Table.{slot_from, Placed, Table, hash_at}
use Rattle.dedup.specs.Probe.{Passed, Frees, Finds}
use Rattle.slots.specs.Held.{holds}
use Rattle.slots.specs.Insert.{Room}
use Rattle.slots.proofs.Held.{holds_known, held}
use Rattle.slots.proofs.FreePlaces.{not_round}
use Rattle.slots.proofs.Inserting.{table_order}

-- a table with an empty slot is not passed whole
pub not_passed : (w : List ℕ) (known : ℕ) (slots : List ℕ) (size : ℕ) (key : DagNode) → Room slots size → Passed w known slots size key size → ⊥
not_passed w known slots size key r ps = let l = not_round slots size key.hash size r ps.used in omega arith

module _ (w : List ℕ) (count : ℕ) (slots : List ℕ) (size : ℕ) (key : DagNode) (hashed : key.hash ≡ node_hash key) (s : Nodes w count) where
  -- a slot that holds the key has the id that is found
  pub found : (at : ℕ) → Finds w count slots size key at → find w count key ≡ some (get_or slots at 0 - 1)
  found at f = let h = held w count key (get_or slots at 0) f.held in find_one w key count s (get_or slots at 0 - 1) h.1 h.2

  -- an empty slot ends the search: no node is the key
  module _ (t : Table (hash_at w) count slots size) (at : ℕ) (f : Frees w count slots size key at) where
    abbrev far : ℕ
    far = f.reached.far

    not_key : (i : ℕ) → i < count → one (node_at w i) key ≡ true → ⊥
    not_key i l o = before (dec_lt m.far far)
      where
        m : Placed slots size (hash_at w i) (suc i)
        m = (table_order (hash_at w) count slots size t).placed i l

        same : hash_at w i ≡ key.hash
        same = (s.formed.each i l).hashed ∙ one_hash (node_at w i) key o ∙ sym hashed

        here : slot_from slots size key.hash m.far ≡ suc i
        here = ap (λ (h : ℕ). slot_from slots size h m.far) (sym same) ∙ m.here

        empty : slot_from slots size key.hash far ≡ 0
        empty = ap (λ (x : ℕ). get_or slots x 0) (sym f.reached.is) ∙ f.empty

        before : Dec (m.far < far) → ⊥
        before (yes p) =
            let e : i ≡ suc i - 1 = omega arith in
            false≢true (sym (f.reached.passed.other m.far p) ∙ ap (holds w count key) here ∙ sym (holds_known w count key (suc i) i (omega arith) e l) ∙ o)
        before (no p) = after (dec_lt far m.far)
          where
            after : Dec (far < m.far) → ⊥
            after (yes q) =
                let v = (m.earlier far q).0 in
                let z : slot_from slots size (hash_at w i) far ≡ 0 = ap (λ (h : ℕ). slot_from slots size h far) same ∙ empty in
                omega arith
            after (no q) =
                let e : m.far ≡ far = omega arith in
                let z : suc i ≡ 0 = sym here ∙ ap (slot_from slots size key.hash) e ∙ empty in
                omega arith

    pub absent : find w count key ≡ none
    absent = find_none w key count (λ i l. is_false _ (not_key i l))
