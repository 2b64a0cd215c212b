-- What calls one after another leave, seen from the memory before the first of them.
use Prim.Native.Nat.{ℕ, zero, suc, ◌*◌, ◌^◌, ◌≤◌}
use mathlib.Core.Path.{◌≡◌, refl, sym, ap, ◌∙◌, subst}
use mathlib.Core.Bool.{Bool, true, false}
use lib.ListN.{length, drop}
use lib.Seq.{length-take-le, drop_at}
use lib.Dec.{leb}
use lib.Pow.{pow_pos}
use native.Mathlib.Omega.{arith}
use native.Mathlib.Nat.{mul-one, mul-le-mul_left}
use borrow.Author.Tests.{leb-false}
use Rattle.arena.specs.Layout.{node_words}
use Rattle.definitions.specs.Limits.{first_table_size, most_doublings}
use Rattle.definitions.specs.Intern.{capacity, table_size_from, table_size}
use Rattle.slots.specs.Table.{inserted}
use Rattle.slots.proofs.Inserting.{inserted_length}
use Rattle.definitions.specs.Machine.{Call, Answer, State}
use Rattle.store.specs.View.{Grown}
use Rattle.store.specs.Stored.{nodes_words, hash_in}
use Rattle.store.specs.Memory.{Memory, model, nodes_of, size_for, memory_after, Left, Leaves, Stays}
use Rattle.store.proofs.Viewing.{plain_length}
use Rattle.store.proofs.Sizes.{grown_refl, grown_once, grown_trans, grown_is}
use Rattle.store.proofs.Keeping.{later}
use Rattle.store.proofs.Stored.{words_are, memory_is}
use Rattle.store.proofs.Leaving.{KeptMemory}
use Rattle.store.proofs.Determined.{own_memory}

-- the least size that holds a count is grown
grown_from : (f size count : ℕ) → Grown size count (table_size_from f size count)
unfolding table_size_from
grown_from zero size count = grown_refl size count
grown_from (suc f) size count = go (leb count (capacity size)) refl (grown_from f (size * 2) count)
  where
    go : (b : Bool) → leb count (capacity size) ≡ b → Grown (size * 2) count (table_size_from f (size * 2) count) → Grown size count (elim b [ true ↦ size | false ↦ table_size_from f (size * 2) count ])
    go true e r = grown_refl size count
    go false e r = grown_trans size count (size * 2) count (table_size_from f (size * 2) count) (omega arith) (grown_once size count (leb-false count (capacity size) e)) r

pub grown_up : (size count size' : ℕ) → Grown size count size' → size ≤ size'
grown_up size count size' g = rw g.is (subst (λ (x : ℕ). x ≤ size * 2 ^ g.doublings) (mul-one size) (mul-le-mul_left size (pow_pos g.doublings)))

pub stays_refl : (m : Memory) → model.Sound m → Stays m m
stays_refl m h = record { sound = h; count = omega arith; grown = grown_refl m.arena.size m.arena.count; same_lent = refl; words_past = refl; slots_past = refl }

pub stays_trans : (m m' m'' : Memory) → Stays m m' → Stays m' m'' → Stays m m''
stays_trans m m' m'' a b = record {
  sound = b.sound;
  count = omega (arith, a.count, b.count);
  grown = grown_trans m.arena.size m'.arena.count m'.arena.size m''.arena.count m''.arena.size b.count a.grown b.grown;
  same_lent = b.same_lent ∙ a.same_lent;
  words_past = b.words_past ∙ later m'.words m.words (m'.arena.count * node_words) (m''.arena.count * node_words) (omega (arith, b.count)) a.words_past;
  slots_past = b.slots_past ∙ later m'.slots m.slots m'.arena.size m''.arena.size (grown_up _ _ _ b.grown) a.slots_past;
}

-- what every call keeps stays
pub kept_stays : (m m' : Memory) → KeptMemory m m' → Stays m m'
kept_stays m m' k = record {
  sound = k.whole;
  count = k.count;
  grown = k.grown;
  same_lent = rw (k.long, k.wide) refl;
  words_past = k.words_past;
  slots_past = k.slots_past;
}

-- what stays of a sound memory is the one that its nodes give
pub stays_is : (m m' : Memory) → model.Sound m → Stays m m' → m' ≡ memory_after m (nodes_of m')
stays_is m m' h s =
    memory_is m m' s.sound
    (grown_is m.arena.size m'.arena.count m'.arena.size h.table.doubled s.sound.nodes.formed.many s.sound.table.load s.grown)
    s.words_past s.slots_past

-- ---- one call

module _ (c : Call) (m : Memory) (a : Answer) (m' : Memory) (h : model.Sound m) (l : Leaves c m a m') where
  pub leaves_is : m' ≡ memory_after m (nodes_of m')
  leaves_is = ap (λ (x : Left). x.memory) (l.equation (yes h)) ∙ ap (λ (s : State). memory_after m s.nodes) (sym (l.called.left h))

  -- a call that leaves the nodes leaves the memory
  pub leaves_same : nodes_of m' ≡ nodes_of m → m' ≡ m
  leaves_same e = leaves_is ∙ ap (memory_after m) e ∙ sym (own_memory m h)

  count_is : length (nodes_of m') ≡ m'.arena.count
  count_is = plain_length m'.words m'.arena.count

  size_is : m'.arena.size ≡ size_for m (nodes_of m')
  size_is = ap (λ (x : Memory). x.arena.size) leaves_is

  words_past : drop (m'.arena.count * node_words) m'.words ≡ drop (m'.arena.count * node_words) m.words
  words_past =
      let s = (l.called.sound h).nodes.formed in
      let long : length (nodes_words (nodes_of m')) ≡ m'.arena.count * node_words = ap length (sym (words_are m'.words m'.arena.count s)) ∙ length-take-le (m'.arena.count * node_words) m'.words s.fits in
      ap (λ (x : Memory). drop (m'.arena.count * node_words) x.words) leaves_is
      ∙ drop_at (nodes_words (nodes_of m')) (drop (length (nodes_of m') * node_words) m.words) (m'.arena.count * node_words) long
      ∙ ap (λ (k : ℕ). drop (k * node_words) m.words) count_is

  slots_past : drop m'.arena.size m'.slots ≡ drop m'.arena.size m.slots
  slots_past =
      ap (λ (x : Memory). drop m'.arena.size x.slots) leaves_is
      ∙ drop_at (inserted (hash_in (nodes_of m')) (size_for m (nodes_of m')) (length (nodes_of m'))) (drop (size_for m (nodes_of m')) m.slots) m'.arena.size (inserted_length (hash_in (nodes_of m')) (size_for m (nodes_of m')) (length (nodes_of m')) ∙ sym size_is)
      ∙ ap (λ (k : ℕ). drop k m.slots) (sym size_is)

  pub leaves_stays : Stays m m'
  leaves_stays = record {
    sound = l.called.sound h;
    count = l.count;
    grown = subst (λ (size : ℕ). Grown m.arena.size m'.arena.count size) (sym (size_is ∙ ap (table_size_from most_doublings m.arena.size) count_is)) (grown_from most_doublings m.arena.size m'.arena.count);
    same_lent = l.called.same_lent;
    words_past = words_past;
    slots_past = slots_past;
  }

-- from the first size on, the table has the least size that holds the nodes
pub least_size : (m m' : Memory) → m.arena.size ≡ first_table_size → Stays m m' → m'.arena.size ≡ table_size m'.arena.count
unfolding table_size
least_size m m' e s =
    grown_is first_table_size m'.arena.count m'.arena.size (record { doublings = 0; is = refl }) s.sound.nodes.formed.many s.sound.table.load
    (subst (λ (x : ℕ). Grown x m'.arena.count m'.arena.size) e s.grown)
