-- Interning in memory is the plain machine's.
use Prim.Native.Nat.{ℕ, ◌+◌, ◌*◌, ◌/◌, ◌≤◌, ◌<◌, min}
use mathlib.Core.Path.{◌≡◌, refl, sym, ap, ◌∙◌, subst}
use mathlib.Core.Bool.{Bool, true, false, cond, ◌||◌, false≢true}
use mathlib.Core.List.{List, [], ◌∷◌, ◌++◌}
use mathlib.Core.Logic.{◌⊎◌, inl, inr, ⊎_elim}
use mathlib.Core.Option.{Option, none, some}
use lib.ListN.{length, drop, get_or-append}
use lib.Dec.{leb, ltb}
use native.Mathlib.Omega.{arith}
use native.Mathlib.Numerals.{add-one}
use borrow.Author.Tests.{leb-true, leb-false, ltb-true, ltb-false, lt-ltb, le-ltb}
use Rattle.arena.specs.declared.node.DagNode.{DagNode}
use Rattle.arena.specs.declared.DagArena.{DagArena}
use Rattle.arena.specs.Layout.{node_words, most_nodes, most_children}
use Rattle.arena.specs.Node as A
use Rattle.arena.specs.Node.{put}
use Rattle.arena.specs.Nodes.{WellFormed}
use Rattle.arena.proofs.Putting.{put_past, put_old, put_new}
use Rattle.arena.proofs.Finding.{found_at}
use Rattle.std.proofs.Common.{Result, Ok, Err}
use Rattle.refusal.specs.declared.Refusal.{Refusal}
use Rattle.refusal.specs.declared.Refusal.TheVariants.{NoNodePlace, NoSlotPlace}
use Rattle.refusal.specs.Number.{number_of}
use Rattle.store.specs.Held.{node_answer}
use Rattle.slots.specs.Table.{Table, hash_at}
use Rattle.dedup.specs.Intern as D
use Rattle.dedup.specs.Intern.{Interned, answered, new_answer, intern_answer, words_after}
use Rattle.slots.proofs.Inserting.{slots_one}
use Rattle.definitions.specs.Node as N
use Rattle.definitions.specs.Intern as I
use Rattle.definitions.specs.Intern.{capacity, no_place, found_or_new, add_new}
use Rattle.store.specs.declared.Built.{Built}
use Rattle.store.specs.Sound.{Sound}
use Rattle.store.specs.View.{plain_node, nodes_in, lent, Grown, plain_built, Low}
use Rattle.store.specs.Interning.{Interns}
use Rattle.store.proofs.Viewing.{neat_of, find_is, plain_length, plain_more, plain_same}
use Rattle.store.proofs.Sizes.{full_nodes, full_not, full_slots, full_double, grown_refl, grown_once}

abbrev pub out : Interned → Built
out t = record { answer = node_answer t.answer; arena = t.arena }

either : (x y : Bool) → x || y ≡ true → (x ≡ true) ⊎ (y ≡ true)
either true y h = inl refl
either false y h = inr h

neither : (x y : Bool) → x || y ≡ false → (x ≡ false) × (y ≡ false)
neither true y h = absurd (false≢true (sym h))
neither false y h = (refl, h)

module _ (w slots : List ℕ) (s : DagArena) (key : DagNode) (four : length key.children ≡ most_children) (f : WellFormed s.count key) (h : Sound w slots s) where
  abbrev c : ℕ
  c = s.count

  abbrev z : ℕ
  z = s.size

  abbrev plain : I.Built
  plain = I.intern (lent w slots) (nodes_in w s.count) (plain_node key)

  found : (o : Option ℕ) → A.find w c key ≡ o → plain ≡ found_or_new (lent w slots) (nodes_in w c) (plain_node key) o
  unfolding I.intern
  found o e = ap (found_or_new (lent w slots) (nodes_in w c) (plain_node key)) (find_is w c key h.nodes (neat_of c key four f) ∙ e)

  fresh : (k : Option ℕ) → A.find w c key ≡ none → no_place (lent w slots) c ≡ k → plain ≡ add_new (nodes_in w c) (plain_node key) k
  fresh k e q = found none e ∙ ap (add_new (nodes_in w c) (plain_node key)) (ap (no_place (lent w slots)) (plain_length w c) ∙ q)

  -- the nodes with a new one
  put_nodes : c * node_words + node_words ≤ length w → nodes_in (put w c key) (c + 1) ≡ nodes_in w c ++ (plain_node key ∷ [])
  put_nodes fits =
      ap (nodes_in (put w c key)) (add-one c)
      ∙ plain_more (put w c key) c
      ∙ (rw (plain_same w (put w c key) c (put_old w c key fits four), put_new w c key fits four) refl)

  module _ (t : Interned) (w' slots' : List ℕ) (i : D.Inserts w slots s key t w' slots') (lw : length w' ≡ length w) (ls : length slots' ≡ length slots) where
    abbrev Goal : Type 0
    Goal = Interns w slots s (plain_node key) w' slots' (out t)

    sound : Sound w' slots' t.arena
    sound = record { nodes = i.nodes; table = i.table }

    after : (a : Result ℕ Refusal) → t.answer ≡ a → w' ≡ words_after a w c key
    after a e = i.words_then ∙ ap (λ (x : Result ℕ Refusal). words_after x w c key) e

    -- no node more, at the same size, leaves every slot
    same_slots : (a : Result ℕ Refusal) → t ≡ answered a c z → w' ≡ w → slots' ≡ slots
    same_slots a e q =
        slots_one (hash_at w) c slots slots' z h.table
        (subst (λ (x : List ℕ). Table (hash_at x) c slots' z) q (subst (λ (x : Interned). Table (hash_at w') x.arena.count slots' x.arena.size) e i.table))
        (subst (λ (x : Interned). drop x.arena.size slots' ≡ drop x.arena.size slots) e i.slots_past)

    -- the same nodes and slots
    stays : (a : Result ℕ Refusal) → t ≡ answered a s.count s.size → w' ≡ w → slots' ≡ slots → plain_built (node_answer a) (nodes_in w c) ≡ plain → Low (node_answer a) c → Goal
    stays a e q r p low =
        subst (λ (x : Interned). Interns w slots s (plain_node key) w' slots' (out x)) (sym e)
        (record {
          builds = record {
            answer = ap (λ (x : List ℕ). plain_built (node_answer a) (nodes_in x c)) q ∙ p;
            kept = record {
              whole = subst (λ (x : Interned). Sound w' slots' x.arena) e sound;
              count = omega arith;
              size = omega arith;
              grown = grown_refl z c;
              long = lw;
              wide = ls;
              words_past = ap (drop (c * node_words)) q;
              slots_past = ap (drop z) r;
              children = λ j l. ap (λ (x : List ℕ). (N.at (nodes_in x c) j).children) q;
            };
            low = low;
          };
          unchanged = λ number e'. rw (q, r) refl;
        })

    old : (j : ℕ) → A.find w c key ≡ some j → t ≡ answered (Ok j) c z → Goal
    unfolding words_after
    old j g e =
        let low = (found_at w key c j g).0 in
        let q : w' ≡ w = rw (lt-ltb j c low) at (after (Ok j) (ap (λ (x : Interned). x.answer) e)) in
        stays (Ok j) e q (same_slots (Ok j) e q) (sym (found (some j) g)) low

    module _ (g : A.find w s.count key ≡ none) where
      refuse : (r : Refusal) → no_place (lent w slots) c ≡ some (number_of r) → t ≡ answered (Err r) c z → Goal
      unfolding words_after
      refuse r q e = let p : w' ≡ w = after (Err r) (ap (λ (x : Interned). x.answer) e) in stays (Err r) e p (same_slots (Err r) e p) (sym (fresh (some (number_of r)) g q)) tt

      add : (size : ℕ) → c * node_words + node_words ≤ length w → s.size ≤ size → Grown s.size (c + 1) size → no_place (lent w slots) c ≡ none → t ≡ answered (Ok c) (c + 1) size → Goal
      unfolding words_after
      add size fits m d q e =
          let p : w' ≡ put w c key = rw (le-ltb c c (omega arith)) at (after (Ok c) (ap (λ (x : Interned). x.answer) e)) in
          let ten : (c + 1) * node_words ≡ c * node_words + node_words = omega arith in
          let nodes : nodes_in w' (c + 1) ≡ nodes_in w c ++ (plain_node key ∷ []) = ap (λ (x : List ℕ). nodes_in x (c + 1)) p ∙ put_nodes fits in
          subst (λ (x : Interned). Interns w slots s (plain_node key) w' slots' (out x)) (sym e)
          (record {
            builds = record {
              answer =
                  ap (λ (x : List N.Node). I.built x c) nodes
                  ∙ ap (I.built (nodes_in w c ++ (plain_node key ∷ []))) (sym (plain_length w c))
                  ∙ sym (fresh none g q);
              kept = record {
                whole = subst (λ (x : Interned). Sound w' slots' x.arena) e sound;
                count = omega arith;
                size = m;
                grown = d;
                long = lw;
                wide = ls;
                words_past = rw ten (ap (drop (c * node_words + node_words)) p ∙ put_past w c key fits four);
                slots_past = subst (λ (x : Interned). drop x.arena.size slots' ≡ drop x.arena.size slots) e i.slots_past;
                children = λ j l.
                    ap (λ (x : List N.Node). (N.at x j).children) nodes
                    ∙ ap (λ (x : N.Node). x.children) (get_or-append (nodes_in w c) (plain_node key ∷ []) N.blank j (rw (plain_length w c) l));
              };
              low = omega arith;
            };
            unchanged = λ number e'. absurd (let one : ◌≡◌ {A = ℕ} 0 1 = cc in omega arith);
          })

      pick : (x : Bool) (p q : Interned) → (x ≡ true → t ≡ p → Goal) → (x ≡ false → t ≡ q → Goal) → t ≡ cond x p q → Goal
      pick true p q when_true when_false e = when_true refl e
      pick false p q when_true when_false e = when_false refl e

      abbrev L : I.Lent
      L = lent w slots

      new : t ≡ new_answer (length w) (length slots) c z → Goal
      unfolding new_answer
      new = let d = h.table.doubled in let load = h.table.load in let sized = h.table.sized in
          pick (leb most_nodes c || ltb (length w) (c * node_words + node_words)) _ _
          (λ y. refuse NoNodePlace (full_nodes L c z d load sized (⊎_elim
          (λ a. let b = leb-true most_nodes c a in omega arith)
          (λ a. let b = ltb-true (length w) (c * node_words + node_words) a in omega arith)
          (either (leb most_nodes c) (ltb (length w) (c * node_words + node_words)) y))))
          (λ y. let both = neither (leb most_nodes c) (ltb (length w) (c * node_words + node_words)) y in
          let few = leb-false most_nodes c both.0 in
          let fits = ltb-false (length w) (c * node_words + node_words) both.1 in
          let place : c < min (length w / node_words) most_nodes = omega arith in
          pick (leb (c + 1) (capacity z)) _ _
          (λ m. let k = leb-true (c + 1) (capacity z) m in add z fits (omega arith) (grown_refl z (c + 1)) (full_not L c z d load sized place k))
          (λ m. let k = leb-false (c + 1) (capacity z) m in
          pick (ltb (length slots) (z * 2)) _ _
          (λ r. refuse NoSlotPlace (full_slots L c z d load sized place k (ltb-true (length slots) (z * 2) r)))
          (λ r. add (z * 2) fits (omega arith) (grown_once z (c + 1) k) (full_double L c z d load sized place k (ltb-false (length slots) (z * 2) r)))))

    pub refined : Goal
    unfolding intern_answer
    refined = go (A.find w c key) refl i.answer
      where
        go : (o : Option ℕ) → A.find w c key ≡ o → t ≡ intern_answer o (length w) (length slots) c z → Goal
        go (some j) e q = old j e q
        go none e q = new e q

    -- with the answer taken apart
    pub seen : (a : Result ℕ Refusal) → t.answer ≡ a → Interns w slots s (plain_node key) w' slots' (record { answer = node_answer a; arena = t.arena })
    seen a e = subst (λ (x : Result ℕ Refusal). Interns w slots s (plain_node key) w' slots' (record { answer = node_answer x; arena = t.arena })) e refined
