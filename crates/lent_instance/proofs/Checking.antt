-- Memory that passes a test, which computes, is sound.
use Prim.Native.Nat.{ℕ, zero, suc, ◌+◌, ◌*◌, ◌%◌, ◌≤◌, ◌<◌}
use mathlib.Core.Path.{◌≡◌, refl, sym, ap, subst, ◌∙◌}
use mathlib.Core.Bool.{Bool, true, false, ◌&&◌, ◌||◌, not}
use mathlib.Core.List.{List, [], ◌∷◌}
use lib.ListN.{length, get_or, drop, replicate, length-replicate, get_or-eq_default}
use lib.Seq.{take_all}
use lib.Dec.{T, eqb, leb, ltb, leb→le, ltb→lt, eqb→eq}
use native.Mathlib.Omega.{arith}
use native.Mathlib.Decide.{dec_lt}
use borrow.Author.Tests.{le-ltb}
use Rattle.arena.specs.Layout.{node_words, most_children, most_nodes, arena_of}
use Rattle.kinds.specs.Kind.{listed}
use Rattle.arena.specs.Node.{node_at, one, flags_end, node_hash, coefficient}
use Rattle.arena.specs.Nodes.{WellFormed, Nodes}
use Rattle.arena.proofs.Words.{children_length}
use Rattle.slots.specs.Table.{Table, TableSize, inserted, hash_at}
use Rattle.slots.proofs.Inserting.{inserted_length}
use Rattle.definitions.specs.Limits.{first_table_size}
use Rattle.definitions.specs.Intern.{capacity}
use Rattle.store.specs.Sound.{Sound}

-- ---- tests

-- a test of every number below one
abbrev pub every : ℕ → (ℕ → Bool) → Bool
every zero p = true
every (suc n) p = p n && every n p

pub and_both : (a b : Bool) → T (a && b) → T a × T b
and_both true b t = (tt, t)
and_both false b t = absurd t

pub every_below : (n : ℕ) (p : ℕ → Bool) → T (every n p) → (i : ℕ) → i < n → T (p i)
every_below zero p t i l = absurd (omega arith)
every_below (suc n) p t i l = let both = and_both (p n) (every n p) t in by (dec_lt i n) both.0 (every_below n p both.1 i)
  where
    by : Dec (i < n) → T (p n) → (i < n → T (p i)) → T (p i)
    by (yes m) a f = f m
    by (no m) a f = let e : n ≡ i = omega arith in subst (λ (k : ℕ). T (p k)) e a

passed : (b : Bool) → T b → b ≡ true
passed true t = refl
passed false t = absurd t

either : (a b : Bool) → T (a || b) → a ≡ false → T b
either true b t e = let z : ◌≡◌ {A = ℕ} 0 1 = cc in absurd (omega arith)
either false b t e = t

-- ---- a node

unfoldable well_formed : List ℕ → ℕ → Bool
well_formed words i =
    let n = node_at words i in
    listed n.kind n.payload n.arity
    && (every n.arity (λ j. ltb (get_or n.children j 0) i)
    && (every most_children (λ j. ltb j n.arity || eqb (get_or n.children j 0) 0)
    && (ltb n.flags flags_end && (eqb n.hash (node_hash n) && eqb n.coefficient (coefficient n.kind n.payload)))))

well_formed_lem : (words : List ℕ) (i : ℕ) → T (well_formed words i) → WellFormed i (node_at words i)
unfolding well_formed
well_formed_lem words i t =
    let n = node_at words i in
    let a = and_both (listed n.kind n.payload n.arity) _ t in
    let b = and_both (every n.arity (λ j. ltb (get_or n.children j 0) i)) _ a.1 in
    let c = and_both (every most_children (λ j. ltb j n.arity || eqb (get_or n.children j 0) 0)) _ b.1 in
    let d = and_both (ltb n.flags flags_end) _ c.1 in
    let e = and_both (eqb n.hash (node_hash n)) (eqb n.coefficient (coefficient n.kind n.payload)) d.1 in
    record {
      kinds = passed (listed n.kind n.payload n.arity) a.0;
      places = record {
        lower = λ j l. ltb→lt (get_or n.children j 0) i (every_below n.arity (λ j. ltb (get_or n.children j 0) i) b.0 j l);
        unused = λ j l. unused j l c.0 (dec_lt j most_children);
      };
      marks = ltb→lt n.flags flags_end d.0;
      hashed = eqb→eq n.hash (node_hash n) e.0;
      weighed = eqb→eq n.coefficient (coefficient n.kind n.payload) e.1;
    }
  where
    unused : (j : ℕ) → (node_at words i).arity ≤ j → T (every most_children (λ j. ltb j (node_at words i).arity || eqb (get_or (node_at words i).children j 0) 0)) → Dec (j < most_children)
        → get_or (node_at words i).children j 0 ≡ 0
    unused j l t (yes m) =
        eqb→eq (get_or (node_at words i).children j 0) 0
        (either (ltb j (node_at words i).arity) (eqb (get_or (node_at words i).children j 0) 0) (every_below most_children (λ j. ltb j (node_at words i).arity || eqb (get_or (node_at words i).children j 0) 0) t j m) (le-ltb j (node_at words i).arity l))
    unused j l t (no m) = get_or-eq_default (node_at words i).children 0 {n = j} (let e = children_length words i in omega arith)

-- ---- the nodes

-- no two of them are one
unfoldable apart : List ℕ → ℕ → Bool
apart words count = every count (λ i. every count (λ j. eqb i j || not (one (node_at words i) (node_at words j))))

unfoldable nodes_sound : List ℕ → ℕ → Bool
unfolding well_formed apart
nodes_sound words count = leb count most_nodes && (leb (count * node_words) (length words) && (every count (well_formed words) && apart words count))

nodes_sound_lem : (words : List ℕ) (count : ℕ) → T (nodes_sound words count) → Nodes words count
unfolding nodes_sound apart
nodes_sound_lem words count t =
    let a = and_both (leb count most_nodes) _ t in
    let b = and_both (leb (count * node_words) (length words)) _ a.1 in
    let c = and_both (every count (well_formed words)) (apart words count) b.1 in
    record {
      formed = record {
        many = leb→le count most_nodes a.0;
        fits = leb→le (count * node_words) (length words) b.0;
        each = λ i l. well_formed_lem words i (every_below count (well_formed words) c.0 i l);
      };
      apart = λ i j l m e. same i j e (every_below count (λ j. eqb i j || not (one (node_at words i) (node_at words j))) (every_below count (λ i. every count (λ j. eqb i j || not (one (node_at words i) (node_at words j)))) c.1 i l) j m);
    }
  where
    same : (i j : ℕ) → one (node_at words i) (node_at words j) ≡ true → T (eqb i j || not (one (node_at words i) (node_at words j))) → i ≡ j
    same i j e h = by (eqb i j) refl (subst (λ (b : Bool). T (eqb i j || not b)) e h)
      where
        by : (b : Bool) → eqb i j ≡ b → T (b || false) → i ≡ j
        by true q u = eqb→eq i j (subst T (sym q) tt)
        by false q u = absurd u

-- ---- the table

first_size : TableSize first_table_size
first_size = record { doublings = 0; is = refl }

table_for : (hash : ℕ → ℕ) (count : ℕ) → count ≤ capacity first_table_size → Table hash count (inserted hash first_table_size count) first_table_size
table_for hash count l =
    let long = inserted_length hash first_table_size count in
    record {
      doubled = first_size;
      sized = omega (arith, long);
      load = l;
      filled = take_all first_table_size (inserted hash first_table_size count) (omega (arith, long));
    }

-- ---- the store

unfoldable pub store_sound : List ℕ → ℕ → Bool
unfolding nodes_sound
store_sound words count = leb count (capacity first_table_size) && nodes_sound words count

pub store_sound_lem : (words : List ℕ) (count : ℕ) → T (store_sound words count) → Sound words (inserted (hash_at words) first_table_size count) (arena_of count first_table_size)
unfolding store_sound
store_sound_lem words count t =
    let a = and_both (leb count (capacity first_table_size)) (nodes_sound words count) t in
    record { nodes = nodes_sound_lem words count a.1; table = table_for (hash_at words) count (leb→le count (capacity first_table_size) a.0) }
