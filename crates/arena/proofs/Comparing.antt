-- A node compared by the children that it has: unused places are 0.
use Prim.Native.Nat.{ℕ, ◌+◌, ◌*◌, ◌≤◌, ◌<◌}
use mathlib.Core.Path.{◌≡◌, sym, ap, ◌∙◌}
use mathlib.Core.Bool.{true}
use mathlib.Core.List.{List}
use lib.ListN.{get_or, length, get_or-eq_default}
use lib.Seq.{ext_get_or}
use native.Mathlib.Omega.{arith}
use native.Mathlib.Decide.{dec_lt}
use Rattle.definitions.specs.Node.{same_children}
use Rattle.definitions.proofs.Deciding.{same_test}
use Rattle.arena.specs.Layout.{node_words, most_children, children_word}
use Rattle.arena.specs.Node.{words_from, node_at, places_of}
use Rattle.arena.specs.Nodes.{WellFormed}
use Rattle.arena.proofs.Words.{words_length, words_at, children_length}
use Rattle.arena.proofs.OneNode.{children_eq, children_refl}
use Rattle.arena.proofs.Places.{places_at, places_length}

module _ (w : List ℕ) (id : ℕ) (c : List ℕ) (few : length c ≤ most_children) (arity : (node_at w id).arity ≡ length c) (f : WellFormed id (node_at w id)) where
  abbrev used : List ℕ
  used = words_from (length c) w (id * node_words + children_word)

  -- a child in use, among the places
  there : (j : ℕ) → j < length c → get_or (node_at w id).children j 0 ≡ get_or used j 0
  unfolding node_at
  there j l = words_at most_children w (id * node_words + children_word) j (omega arith) ∙ sym (words_at (length c) w (id * node_words + children_word) j l)

  whole : used ≡ c → (node_at w id).children ≡ places_of c
  whole e = ext_get_or 0 (node_at w id).children (places_of c) (children_length w id ∙ sym (places_length c few)) (λ j l. by j (dec_lt j (length c)))
    where
      by : (j : ℕ) → Dec (j < length c) → get_or (node_at w id).children j 0 ≡ get_or (places_of c) j 0
      by j (yes l) = there j l ∙ ap (λ (x : List ℕ). get_or x j 0) e ∙ sym (places_at c j)
      by j (no l) = f.places.unused j (omega arith) ∙ sym (places_at c j ∙ get_or-eq_default c 0 (omega arith))

  part : (node_at w id).children ≡ places_of c → used ≡ c
  part e =
      let len = words_length (length c) w (id * node_words + children_word) in
      ext_get_or 0 used c len (λ j l. let m : j < length c = rw len at l in sym (there j m) ∙ ap (λ (x : List ℕ). get_or x j 0) e ∙ places_at c j)

  pub used_compared : same_children used c ≡ same_children (node_at w id).children (places_of c)
  used_compared =
      same_test (same_children used c) (same_children (node_at w id).children (places_of c))
      (λ h. rw (whole (children_eq used c h)) (children_refl (places_of c)))
      (λ h. rw (part (children_eq (node_at w id).children (places_of c) h)) (children_refl c))
