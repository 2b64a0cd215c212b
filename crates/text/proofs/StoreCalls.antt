-- On a sound store each store call of a reading has an answer, and a sound store after it.
use Prim.Native.Nat.{ℕ, ◌+◌, ◌*◌, ◌≤◌, ◌<◌}
use mathlib.Core.Path.{◌≡◌, refl, sym, ◌∙◌, subst}
use mathlib.Core.Bool.{Bool, true, false}
use mathlib.Core.Option.{Option, none, some}
use mathlib.Core.List.{List, ◌++◌}
use lib.ListN.{length, drop, length-append, length-drop}
use lib.Seq.{take_at, drop_at}
use native.Mathlib.Omega.{arith}
use native.Mathlib.Decide.{dec_le, dec_lt}
use borrow.Author.Tests.{le-leb, lt-leb, le-ltb}
use Rattle.arena.specs.declared.node.DagNode.{DagNode}
use Rattle.arena.specs.declared.DagArena.{DagArena}
use Rattle.arena.specs.Layout.{node_words, most_nodes, most_children}
use Rattle.kinds.specs.Kind as Kind
use Rattle.arena.specs.Node.{node_of, put, find}
use Rattle.arena.specs.Nodes.{WellFormed}
use Rattle.arena.proofs.Putting.{put_length}
use Rattle.arena.proofs.Adding.{nodes_add}
use Rattle.std.proofs.Common.{Ok}
use Rattle.slots.specs.Table.{TableSize, hash_at, inserted}
use Rattle.dedup.specs.Intern as Dedup
use Rattle.dedup.specs.Intern.{Interned, answered, new_answer, intern_answer, words_after, Absent}
use Rattle.slots.proofs.Doubling.{at_least, doubled_twice}
use Rattle.slots.proofs.Inserting.{inserted_length}
use Rattle.dedup.proofs.Answers.{old_answer, refuse_count, refuse_words, refuse_slots}
use Rattle.definitions.specs.Node as N
use Rattle.definitions.specs.Intern.{capacity}
use Rattle.definitions.specs.Machine as M
use Rattle.store.specs.declared.NodeAnswer.{NodeAnswer}
use Rattle.store.specs.declared.NodeAnswer.TheVariants.{Refused}
use Rattle.store.specs.Sound.{Sound}
use Rattle.store.specs.Lookup.{Fits}
use Rattle.store.specs.Interning.{Interns}
use Rattle.store.specs.Memory.{Memory, memory, model, answer_of}
use Rattle.store.proofs.NewNodes.{new_formed, new_plain, new_places}
use Rattle.store.proofs.Refining.{out, refined}
use Rattle.building.specs.Requests.{BuildsSound, Asked}
use Rattle.building.proofs.Requesting.{refuse_nan, refuse_operand, fits, interned}
use Rattle.building.proofs.Requesting as Requesting

-- ---- a node

module _ (w slots : List ℕ) (s : DagArena) (key : DagNode) (places : length key.children ≡ most_children) (formed : WellFormed s.count key) (h : Sound w slots s) where
  abbrev count : ℕ
  count = s.count

  abbrev size : ℕ
  size = s.size

  -- an answer to a node, and the words and slots after it
  record Answers : Type 0 where
    result : Interned
    words_then : List ℕ
    slots_after : List ℕ
    is : Dedup.Inserts w slots s key result words_then slots_after
    long : length words_then ≡ length w
    wide : length slots_after ≡ length slots

  same : (r : Interned) → Dedup.Inserts w slots s key r w slots → Answers
  same r i = record { result = r; words_then = w; slots_after = slots; is = i; long = refl; wide = refl }

  module _ (none_is : find w s.count key ≡ none) where
    absent : Absent w slots s key
    absent = record { nodes = h.nodes; table = h.table; formed = formed; absent = none_is }

    -- a new node in the table of a size that holds it
    module _ (many : s.count < most_nodes) (room : s.count * node_words + node_words ≤ length w) where
      abbrev w' : List ℕ
      w' = put w count key

      new_at : (z : ℕ) → TableSize z → z ≤ length slots → count + 1 ≤ capacity z → answered (Ok count) (count + 1) z ≡ new_answer (length w) (length slots) count size → Answers
      unfolding intern_answer words_after
      new_at z doubled sized load e =
          let table = inserted (hash_at w') z (count + 1) in
          let long = inserted_length (hash_at w') z (count + 1) in
          record {
            result = answered (Ok count) (count + 1) z;
            words_then = w';
            slots_after = table ++ drop z slots;
            is = record {
              answer = rw none_is e;
              words_then = rw (le-ltb count count (omega arith)) refl;
              slots_past = drop_at table (drop z slots) z long;
              nodes = nodes_add w count key many room places h.nodes formed none_is;
              table = record { doubled = doubled; sized = rw (length-append table (drop z slots), long) (omega arith); load = load; filled = take_at table (drop z slots) z long };
            };
            long = put_length w count key room places;
            wide = length-append table (drop z slots) ∙ (rw (long, length-drop z slots) (omega arith));
          }

      by_load : Dec (count + 1 ≤ capacity size) → Answers
      unfolding new_answer
      by_load (yes l) =
          new_at size h.table.doubled h.table.sized l
          (rw (lt-leb most_nodes count many, le-ltb (length w) (count * node_words + node_words) room, le-leb (count + 1) (capacity size) l) refl)
      by_load (no l) = by_slots (dec_le (size * 2) (length slots))
        where
          by_slots : Dec (size * 2 ≤ length slots) → Answers
          by_slots (yes k) =
              let p = h.table.load in
              let q = at_least size h.table.doubled in
              new_at (size * 2) (doubled_twice size h.table.doubled) k (omega arith)
              (rw (lt-leb most_nodes count many, le-ltb (length w) (count * node_words + node_words) room, lt-leb (count + 1) (capacity size) (omega arith), le-ltb (length slots) (size * 2) k) refl)
          by_slots (no k) = same _ (refuse_slots w slots s key absent many room (omega arith) (omega arith))

    by_place : Dec (count < most_nodes) → Dec (count * node_words + node_words ≤ length w) → Answers
    by_place (yes p) (yes q) = by_load p q (dec_le (count + 1) (capacity size))
    by_place (yes p) (no q) = same _ (refuse_words w slots s key absent p (omega arith))
    by_place (no p) q = same _ (refuse_count w slots s key absent (omega arith))

  node_answers : Answers
  node_answers = by (find w count key) refl
    where
      by : (o : Option ℕ) → find w count key ≡ o → Answers
      by (some id) e = same _ (old_answer w slots s key id e h.nodes h.table)
      by none e = by_place e (dec_lt count most_nodes) (dec_le (count * node_words + node_words) (length w))

-- ---- a request

-- an answer to a request, and the memory after it
pub record Answered (q : M.Request) (m : Memory) : Type 0 where
  pub answer : NodeAnswer
  pub words : List ℕ
  pub slots : List ℕ
  pub arena : DagArena
  pub builds : BuildsSound q m (answer_of answer) (memory words slots arena)

module _ (kind payload flags : ℕ) (operands : List ℕ) (m : Memory) (asked : Asked true kind payload flags) (h : model.Sound m) where
  abbrev wanted : M.Request
  wanted = M.request true (N.node kind payload flags operands)

  stays : (number : ℕ) → BuildsSound wanted m (M.refused number) m → Answered wanted m
  stays number b = record { answer = Refused number; words = m.words; slots = m.slots; arena = m.arena; builds = b }

  module _ (v : N.nan_constant kind payload ≡ false) (k : Kind.listed kind payload (length operands) ≡ true) (b : M.all_below m.arena.count operands ≡ true) where
    fitting : Fits m.arena.count kind payload flags operands
    fitting = fits true kind payload flags operands m.words m.slots m.arena asked h refl v k b

    abbrev key : DagNode
    key = node_of kind payload flags operands

    stores : Answered wanted m
    stores =
        let places = new_places m.arena.count kind payload flags operands fitting in
        let formed = new_formed m.arena.count kind payload flags operands fitting in
        let one = node_answers m.words m.slots m.arena key places formed h in
        let plain = new_plain m.arena.count kind payload flags operands fitting in
        let i = subst (λ (n : N.Node). Interns m.words m.slots m.arena n one.words_then one.slots_after (out one.result)) plain
        (refined m.words m.slots m.arena key places formed h one.result one.words_then one.slots_after one.is one.long one.wide) in
        record {
          answer = (out one.result).answer;
          words = one.words_then;
          slots = one.slots_after;
          arena = one.result.arena;
          builds = interned true kind payload flags operands m.words m.slots m.arena asked h refl v k b one.words_then one.slots_after (out one.result) i;
        }

  pub request_answered : Answered wanted m
  request_answered = by_number (N.nan_constant kind payload) refl
    where
      by_operands : N.nan_constant kind payload ≡ false → Kind.listed kind payload (length operands) ≡ true → (b : Bool) → b ≡ M.all_below m.arena.count operands → Answered wanted m
      by_operands v k true e = stores v k (sym e)
      by_operands v k false e = stays 4 (refuse_operand true kind payload flags operands m.words m.slots m.arena asked h refl v k false e refl)

      by_count : N.nan_constant kind payload ≡ false → (b : Bool) → b ≡ Kind.listed kind payload (length operands) → Answered wanted m
      by_count v true e = by_operands v (sym e) (M.all_below m.arena.count operands) refl
      by_count v false e = stays 6 (Requesting.refuse_count true kind payload flags operands m.words m.slots m.arena asked h refl v false e refl)

      by_number : (b : Bool) → b ≡ N.nan_constant kind payload → Answered wanted m
      by_number true e = stays 10 (refuse_nan true kind payload flags operands m.words m.slots m.arena asked h refl true e refl)
      by_number false e = by_count (sym e) (Kind.listed kind payload (length operands)) refl
