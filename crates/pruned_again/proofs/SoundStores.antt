-- Every sound store is plainly sound, however its memory came about.
use Prim.Native.Nat.{ℕ, zero, suc, ◌<◌}
use mathlib.Core.Path.{◌≡◌, refl, sym, ◌∙◌, subst}
use mathlib.Core.Bool.{true, false, ◌&&◌, ◌||◌, false≢true}
use mathlib.Core.List.{List, [], ◌∷◌}
use lib.ListN.{length, get_or, take}
use lib.Seq.{length-take-le}
use lib.Dec.{eqb, leb}
use native.Mathlib.Omega.{arith}
use borrow.Author.Tests.{lt-ltb, leb-true, eqb-true, ne_eqb}
use Rattle.kinds.specs.Kind.{listed, operator_arity}
use Rattle.arena.specs.Node.{node_at}
use Rattle.arena.specs.Nodes.{Nodes}
use Rattle.kinds.proofs.Listing.{listed_number}
use Rattle.definitions.specs.Node as N
use Rattle.definitions.specs.Machine.{all_below}
use Rattle.definitions.proofs.Deciding.{both}
use Rattle.store.specs.View.{plain_node, nodes_in}
use Rattle.store.proofs.Viewing.{neat_at, at_plain, plain_length, same_one}
use Rattle.pruned_again.specs.Plain.{PlainlySound}
use Rattle.pruned_again.specs.Stored.{SoundPlainly}

below_taken : (n k : ℕ) (xs : List ℕ) → ((j : ℕ) → j < k → get_or xs j 0 < n) → all_below n (take k xs) ≡ true
below_taken n zero xs h = refl
below_taken n (suc k) [] h = refl
below_taken n (suc k) (x ∷ xs) h = rw (lt-ltb x n (h 0 (omega arith))) (below_taken n k xs (λ j l. h (suc j) (omega arith)))

some_child : (kind payload arity : ℕ) → listed kind payload arity ≡ true → (eqb kind 2 || eqb kind 3) ≡ true → 0 < arity
unfolding listed operator_arity
some_child zero p a e h = absurd (false≢true h)
some_child (suc zero) p a e h = absurd (false≢true h)
some_child (suc (suc zero)) p a e h = leb-true 1 a (both (leb 1 a) (leb a 4) (both (eqb p 0) (leb 1 a && leb a 4) e).1).0
some_child (suc (suc (suc zero))) p a e h = let z = eqb-true a 2 (both (eqb p 0) (eqb a 2) e).1 in omega arith
some_child (suc (suc (suc (suc k)))) p a e h =
    let kind = suc (suc (suc (suc k))) in
    absurd (false≢true (sym (λ x. ne_eqb kind 2 (omega arith) x || ne_eqb kind 3 (omega arith) x) ∙ h))

module _ (w : List ℕ) (count : ℕ) (s : Nodes w count) where
  here : (i : ℕ) → i < length (nodes_in w count) → i < count
  here i l = rw (plain_length w count) at l

  plainly_sound : PlainlySound (nodes_in w count)
  unfolding plain_node
  plainly_sound = record {
    lower = λ i l.
        subst (λ (n : N.Node). all_below i n.children ≡ true) (sym (at_plain w count i (here i l)))
        (below_taken i (node_at w i).arity (node_at w i).children (s.formed.each i (here i l)).places.lower);
    filled = λ i l.
        subst (λ (n : N.Node). (eqb n.kind 2 || eqb n.kind 3) ≡ true → 0 < length n.children) (sym (at_plain w count i (here i l)))
        (λ h.
        let some = some_child (node_at w i).kind (node_at w i).payload (node_at w i).arity (s.formed.each i (here i l)).kinds h in
        let neat = neat_at w count i s (here i l) in
        let four = neat.four in
        let few = neat.few in
        let long = length-take-le (node_at w i).arity (node_at w i).children (omega arith) in
        omega arith);
    numbers = λ i l.
        subst (λ (n : N.Node). N.nan_constant n.kind n.payload ≡ false) (sym (at_plain w count i (here i l)))
        (listed_number (node_at w i).kind (node_at w i).payload (node_at w i).arity (s.formed.each i (here i l)).kinds);
    apart = λ i j l k e.
        s.apart i j (here i l) (here j k)
        (sym (same_one (node_at w i) (node_at w j) (neat_at w count i s (here i l)) (neat_at w count j s (here j k)))
        ∙ (λ x. N.same (sym (at_plain w count i (here i l)) x) (sym (at_plain w count j (here j k)) x)) ∙ e);
  }

pub sound_plainly : SoundPlainly
sound_plainly m h = plainly_sound m.words m.arena.count h.nodes
