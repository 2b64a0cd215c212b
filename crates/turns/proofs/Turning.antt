-- A turn of the code is a turn of the plain machine.
use Prim.Native.Nat.{ℕ, ◌+◌, ◌-◌, ◌≤◌, ◌<◌}
use mathlib.Core.Path.{◌≡◌, sym, ap, ◌∙◌, subst}
use mathlib.Core.Bool.{Bool, cond}
use mathlib.Core.List.{List, [], ◌∷◌}
use lib.ListN.{length, get_or, take, drop, set, length-set, length-drop}
use lib.Dec.{ltb}
use lib.Seq.{get_or-take, get_or-drop, length-take-le}
use native.Mathlib.Omega.{arith}
use borrow.Author.Tests.{le-leb, lt-leb, lt-ltb, le-ltb}
use Rattle.definitions.specs.Limits.{most_children, most_nodes}
use Rattle.definitions.specs.Node.{Node, at}
use Rattle.definitions.specs.Intern.{Lent}
use Rattle.definitions.specs.Walk.{Mode, Frame, go, turn, descend, ascend, finish, reverse_onto, rebuild_as}
use Rattle.store.specs.Lookup.{Lookup}
use Rattle.store.proofs.Reading as R
use Rattle.store.proofs.Viewing.{plain_length}
use Rattle.store.proofs.Keeping.{kept_refl}
use Rattle.std.specs.Prelude.{Result, Ok, Err}
use Rattle.refusal.specs.declared.Refusal.{Refusal}
use Rattle.rebuild.specs.Memory.{Memory, SoundMemory, nodes_of, lent_of, Keeps}
use Rattle.patterns.specs.declared.Rewritten.{Rewritten}
use Rattle.rebuild.specs.Rebuild.{Rebuildable, finished, finished_in, FinishesIn}
use Rattle.turns.specs.Stack.{Stack, most_frames, most_values, values_of, frames_in, values_in, top_id, top_taken, top_frame, frames_under, left, ValuesBelow, held, Valid, Invariant}
use Rattle.turns.specs.Turns.{Descendable, Descends, Turnable, turn_of, Turns}
use Rattle.turns.proofs.Stacks as S
use Rattle.turns.proofs.Descending.{frames_are}

-- ---- the plain machine's turn, case by case

module _ (mode : Mode) (l : Lent) (limit : ℕ) (ns : List Node) (f : Frame) (fs : List Frame) (vs : List ℕ) where
  abbrev arity : ℕ
  arity = length (at ns f.id).children

  limited : limit ≤ f.depth → turn mode l limit ns f fs vs ≡ go ns fs (f.id ∷ drop f.cursor vs)
  unfolding turn
  limited h =
      ap (λ (b : Bool). cond b (go ns fs (f.id ∷ drop f.cursor vs)) (cond (ltb f.cursor arity) (descend mode ns f fs vs) (ascend mode l ns f fs vs)))
      (le-leb limit f.depth h)

  module _ (h : f.depth < limit) where
    within : turn mode l limit ns f fs vs ≡ cond (ltb f.cursor arity) (descend mode ns f fs vs) (ascend mode l ns f fs vs)
    unfolding turn
    within =
        ap (λ (b : Bool). cond b (go ns fs (f.id ∷ drop f.cursor vs)) (cond (ltb f.cursor arity) (descend mode ns f fs vs) (ascend mode l ns f fs vs)))
        (lt-leb limit f.depth h)

    descending : f.cursor < arity → turn mode l limit ns f fs vs ≡ descend mode ns f fs vs
    descending c = within ∙ ap (λ (b : Bool). cond b (descend mode ns f fs vs) (ascend mode l ns f fs vs)) (lt-ltb f.cursor arity c)

    ascending : arity ≡ f.cursor
        → turn mode l limit ns f fs vs ≡ finish mode fs (drop f.cursor vs) (rebuild_as mode l ns f.id (reverse_onto (take f.cursor vs) []))
    unfolding ascend
    ascending c =
        within ∙ ap (λ (b : Bool). cond b (descend mode ns f fs vs) (ascend mode l ns f fs vs)) (le-ltb f.cursor arity (omega (arith, c)))
        ∙ ap (λ (x : ℕ). finish mode fs (drop x vs) (rebuild_as mode l ns f.id (reverse_onto (take x vs) []))) c

-- ---- what a turn knows

module _ (m : Memory) (limit : ℕ) (k : Stack) (sound : SoundMemory m) (r : Turnable m limit k) where
  abbrev ns : List Node
  ns = nodes_of m

  abbrev top : ℕ
  top = k.depth - 1

  abbrev id : ℕ
  id = top_id k

  abbrev cursor : ℕ
  cursor = top_taken k

  abbrev from : ℕ
  from = k.filled - top_taken k

  abbrev fs : List Frame
  fs = frames_under k

  abbrev vs : List ℕ
  vs = values_in k

  abbrev I : Invariant (nodes_of m) limit k
  I = r.invariant

  count_is : length ns ≡ m.arena.count
  count_is = plain_length m.words m.arena.count

  valid : Valid ns (top_frame k ∷ fs) vs
  valid = subst (λ (x : List Frame). Valid ns x vs) (frames_are k r.some) I.valid

  pub below : top_id k < m.arena.count
  below = omega (arith, valid.0, count_is)

  -- a value holds it
  pub id_small : top_id k < most_nodes
  id_small = omega (arith, below, sound.nodes.formed.many)

  lookup : (i : ℕ) → i < m.arena.count → Lookup m.words m.arena.count i
  lookup = R.lookup_of m.words m.slots m.arena sound

  all_few : (i : ℕ) → i < length ns → length (at ns i).children ≤ most_children
  all_few i h = R.few m.words m.arena.count i (lookup i (omega (arith, count_is)))

  few : length (at ns id).children ≤ most_children
  few = all_few id valid.0

  filled_is : k.filled ≡ cursor + held fs
  filled_is = sym (S.values_length k.values k.filled) ∙ valid.3

  -- the bounds of what is read and written
  pub record Bounds : Type 0 where
    pub some : 1 ≤ k.depth
    pub deep : k.depth ≤ most_frames
    pub frames : length k.frames ≡ most_frames
    pub values : length k.values ≡ most_values
    pub results : top_taken k ≤ k.filled
    pub room : k.filled < most_values
    pub small : top_taken k ≤ most_children

  pub bounds : Bounds
  bounds = record {
    some = r.some;
    deep = omega (arith, I.deep, I.listed);
    frames = I.whole.frames;
    values = I.whole.values;
    results = omega (arith, filled_is);
    room = omega (arith, filled_is, S.few_held ns all_few fs valid.2, S.frames_length k.frames top, valid.1, few, I.deep, I.listed);
    small = omega (arith, valid.1, few);
  }

  turn_is : (mode : Mode) → turn_of mode (lent_of m) limit ns (frames_in k) vs ≡ turn mode (lent_of m) limit ns (top_frame k) fs vs
  turn_is mode = ap (λ (x : List Frame). turn_of mode (lent_of m) limit ns x vs) (frames_are k r.some)

  unchanged : Keeps m m
  unchanged = kept_refl m.words m.slots m.arena sound

  -- the values under the top frame's
  under : drop cursor vs ≡ values_of k.values from
  under =
      let e : k.filled ≡ from + cursor = omega (arith, filled_is) in
      ap (λ (x : ℕ). drop cursor (values_of k.values x)) e ∙ S.values_drop k.values from cursor

  under_length : length (values_of k.values from) ≡ held fs
  under_length = S.values_length k.values from ∙ (let h = filled_is in omega arith)

  under_below : ValuesBelow (length ns) (values_of k.values from)
  under_below = subst (ValuesBelow (length ns)) under (S.below_drop (length ns) cursor vs valid.4)

  -- the top frame leaves a value
  module _ (mode : Mode) (m' : Memory) (kept : Keeps m m') (i : ℕ) (low : i < m'.arena.count) where
    abbrev ms : List Node
    ms = nodes_of m'

    long : length ms ≡ m'.arena.count
    long = plain_length m'.words m'.arena.count

    grown : length ns ≤ length ms
    grown = omega (arith, long, count_is, kept.count)

    popped : Valid ms fs (i ∷ values_of k.values from)
    popped =
        S.popped ms i fs (values_of k.values from) (omega (arith, low, long))
        (S.waiting_up ns ms grown (λ j p. kept.children j (omega (arith, count_is))) fs valid.2)
        under_length (S.below_up (length ns) (length ms) grown (values_of k.values from) under_below)

    leaves : turn mode (lent_of m) limit ns (top_frame k) fs vs ≡ go ms fs (i ∷ values_of k.values from)
        → Turns mode m limit k m' (left k (k.filled - top_taken k) i) (Ok tt)
    leaves t = record {
      plainly = ap (go ms fs) values ∙ sym (turn_is mode ∙ t);
      kept = kept;
      goes = λ _. record {
        listed = I.listed;
        deep = omega (arith, I.deep);
        whole = record { frames = I.whole.frames; values = length-set k.values from i ∙ I.whole.values };
        valid = subst (Valid ms fs) (sym values) popped;
      };
    }
      where
        values : values_of (set k.values from i) (from + 1) ≡ i ∷ values_of k.values from
        values = S.push_value k.values from i (let b = bounds in omega arith)

  -- ---- a frame at the limit

  pub at_limit : (mode : Mode) → limit ≤ k.depth - 1 → Turns mode m limit k m (left k (k.filled - top_taken k) (top_id k)) (Ok tt)
  at_limit mode h = leaves mode m unchanged id below (limited mode (lent_of m) limit ns (top_frame k) fs vs h ∙ ap (λ (x : List ℕ). go ns fs (id ∷ x)) under)

  module _ (h : k.depth - 1 < limit) (arity : ℕ) (ea : arity ≡ length (at (nodes_of m) (top_id k)).children) where
    -- ---- the next child

    pub descendable : top_taken k < arity → Descendable m.words m.arena.count k
    descendable c = record {
      some = r.some;
      room = omega (arith, I.listed);
      whole = I.whole;
      valid = I.valid;
      more = omega (arith, ea);
      free = bounds.room;
    }

    pub descended : (mode : Mode) → top_taken k < arity → (k' : Stack) → Descends mode (nodes_of m) k k' → Turns mode m limit k m k' (Ok tt)
    descended mode c k' d = record {
      plainly = d.plainly ∙ sym (turn_is mode ∙ descending mode (lent_of m) limit ns (top_frame k) fs vs h (omega (arith, ea)));
      kept = unchanged;
      goes = λ _. record { listed = I.listed; deep = omega (arith, d.near); whole = d.whole; valid = d.valid };
    }

    -- ---- a finished frame

    module _ (c : arity ≤ top_taken k) where
      all_taken : length (at ns id).children ≡ cursor
      all_taken = omega (arith, ea, valid.1)

      from_on : from + cursor ≡ k.filled
      from_on = omega (arith, filled_is)

      value_low : (j : ℕ) → j < cursor → get_or k.values (from + j) 0 < m.arena.count
      value_low j i = subst (λ (x : ℕ). get_or k.values (from + j) 0 < x) count_is (S.below_at (length ns) k.values k.filled (from + j) valid.4 (omega (arith, from_on)))

      -- the values of the frame, which are lent as its node's children
      abbrev children : List ℕ
      children = take (k.filled - (k.filled - top_taken k)) (drop (k.filled - top_taken k) k.values)

      children_taken : children ≡ take cursor (drop from k.values)
      children_taken = ap (λ (n : ℕ). take n (drop from k.values)) (let e : k.filled - from ≡ cursor = omega (arith, filled_is) in e)

      children_length : length children ≡ cursor
      children_length = ap length children_taken ∙ length-take-le cursor (drop from k.values) (let b = bounds in rw length-drop (omega (arith, from_on)))

      pub rebuildable : Rebuildable m (top_id k) (take (k.filled - (k.filled - top_taken k)) (drop (k.filled - top_taken k) k.values))
      rebuildable = record {
        sound = sound;
        below = below;
        many = children_length ∙ sym all_taken;
        lower = λ j q. let i : j < cursor = omega (arith, children_length) in
            subst (λ (x : ℕ). x < m.arena.count)
            (sym (ap (λ (l : List ℕ). get_or l j 0) children_taken ∙ get_or-take cursor (drop from k.values) j 0 i ∙ get_or-drop from k.values j 0)) (value_low j i);
      }

      children_are : children ≡ reverse_onto (take cursor vs) []
      children_are =
          children_taken ∙ S.lent_values k.values from cursor (let b = bounds in omega (arith, from_on))
          ∙ ap (λ (x : ℕ). reverse_onto (take cursor (values_of k.values x)) []) from_on

      module _ (mode : Mode) (m' : Memory) (answer : Result Rewritten Refusal)
          (f : FinishesIn mode m (top_id k) (take (k.filled - (k.filled - top_taken k)) (drop (k.filled - top_taken k) k.values)) answer m') where
        finishing : turn mode (lent_of m) limit ns (top_frame k) fs vs ≡ finished (finished_in answer m').answer (nodes_of m') fs (values_of k.values from)
        finishing =
            ascending mode (lent_of m) limit ns (top_frame k) fs vs h all_taken
            ∙ ap (λ (x : List ℕ). finish mode fs (drop cursor vs) (rebuild_as mode (lent_of m) ns id x)) (sym children_are)
            ∙ ap (λ (x : List ℕ). finish mode fs x (rebuild_as mode (lent_of m) ns id children)) under
            ∙ sym (f.plainly fs (values_of k.values from))

      module _ (mode : Mode) (m' : Memory) where
        -- the result as a value in the frame's place
        module _ (w : Rewritten)
            (f : FinishesIn mode m (top_id k) (take (k.filled - (k.filled - top_taken k)) (drop (k.filled - top_taken k) k.values)) (Ok w) m') where
          pub result_small : w.id < most_nodes
          result_small = let low : w.id < m'.arena.count = f.low in omega (arith, low, f.kept.whole.nodes.formed.many)

          pub answers : Turns mode m limit k m' (left k (k.filled - top_taken k) w.id) (Ok tt)
          answers = leaves mode m' f.kept w.id f.low (finishing mode m' (Ok w) f)

        -- or the refusal of a new node, which stops the walk
        pub stops : (refusal : Refusal)
            → FinishesIn mode m (top_id k) (take (k.filled - (k.filled - top_taken k)) (drop (k.filled - top_taken k) k.values)) (Err refusal) m'
            → Turns mode m limit k m' k (Err refusal)
        stops refusal f = record {
          plainly = sym (turn_is mode ∙ finishing mode m' (Err refusal) f);
          kept = f.kept;
          goes = λ z. let zero_one : ◌≡◌ {A = ℕ} 0 1 = cc in absurd (omega arith);
        }
