-- The loop of `flatten`: the terms found at the beginning, the chains of the ids that wait, the chain of the id at hand and the terms found at the end
-- make up the chain. Of the terms found only the kept ones stand in the array.
use Prim.Native.Nat.{ℕ, suc, ◌+◌, ◌-◌, ◌<◌, ◌≤◌}
use mathlib.Core.Path.{◌≡◌, refl, sym, ap, ap₂, ◌∙◌, subst}
use mathlib.Core.Bool.{Bool}
use mathlib.Core.List.{List, [], ◌∷◌, ◌++◌, append-nil, append_assoc}
use lib.ListN.{length, get_or, take, drop, set, length-append, length-set, length-drop, drop_of_length-le}
use lib.Seq.{take-suc, take-length, length-take-le, take-append-le, drop-append-le, take-set-le, drop-set-lt, take-take, drop-drop}
use native.Mathlib.Omega.{arith}
use Rattle.definitions.specs.Limits.{most_terms, most_nodes}
use Rattle.definitions.specs.Node.{Node, at, add_kind}
use Rattle.definitions.specs.Prune.{chain, filter}
use Rattle.definitions.proofs.Stable.{Lower}
use Rattle.definitions.proofs.Intern.{lower_up}
use Rattle.store.specs.View.{nodes_in}
use Rattle.store.proofs.Viewing.{plain_length}
use Rattle.chains.specs.Terms.{children_in, Readable, Pushes, HasTerm, PutsTerm, Closes, Flattens}
use Rattle.std.specs.Prelude.{Option, None, Some, Ok, Err}
use Rattle.chains.specs.declared.chain.Terms.{Terms}
use Rattle.refusal.specs.declared.Refusal.TheVariants.{TooManyTerms}
use Rattle.chains.proofs.Below.{lower_append, lower_parts}
use Rattle.chains.proofs.Chains.{chains, chains_append, chain_add, chain_term, chains_filled}
use Rattle.chains.proofs.Weights.{weights, weights_append, weight_some, children_lighter}
use Rattle.chains.proofs.Reading.{layered, few_children, id_limited}
use Rattle.chains.proofs.Filtering.{Counts, at_most_one, put_first, put_last}
use Rattle.chains.proofs.Closing.{flattens}

-- the ids that wait, and the one at hand
abbrev pub ahead : List ℕ → ℕ → ℕ → ℕ → List ℕ
ahead array front top id = drop front (take top array) ++ id ∷ []

-- between turns
pub record Flattening (words : List ℕ) (count root : ℕ) (keep : ℕ → Bool) (array : List ℕ) (found front back top id : ℕ) : Type 0 where
  pub long : length array ≡ most_terms
  pub few : front + back ≤ found
  pub ordered : front ≤ top
  pub room : found + top < most_terms + front
  pub below : Lower count (ahead array front top id)
  pub number : length (chains (nodes_in words count) (ahead array front top id)) + found ≡ length (chain (nodes_in words count) root)
  pub parts : take front array ++ (filter keep (chains (nodes_in words count) (ahead array front top id)) ++ drop (most_terms - back) array) ≡ filter keep (chain (nodes_in words count) root)

-- a number that falls with each turn
abbrev pub work : List ℕ → ℕ → ℕ → ℕ → ℕ
work array front top id = weights (ahead array front top id)

pub begins : (words : List ℕ) (count root : ℕ) (keep : ℕ → Bool) → root < count → (array : List ℕ) → length array ≡ most_terms → Flattening words count root keep array 0 0 0 0 root
begins words count root keep low array long =
    let none : drop most_terms array ≡ [] = drop_of_length-le array {i = most_terms} (omega arith) in
    let all : chains (nodes_in words count) (root ∷ []) ≡ chain (nodes_in words count) root = append-nil (chain (nodes_in words count) root) in
    record {
      long = long;
      few = omega arith;
      ordered = omega arith;
      room = omega arith;
      below = (low, tt);
      number = omega (arith, ap length all);
      parts =
          ap (λ (l : List ℕ). filter keep (chains (nodes_in words count) (root ∷ [])) ++ l) none
          ∙ append-nil (filter keep (chains (nodes_in words count) (root ∷ [])))
          ∙ ap (filter keep) all;
    }

-- where no id waits
none_waits : (array : List ℕ) (place : ℕ) → place ≤ length array → drop place (take place array) ≡ []
none_waits array place h = drop_of_length-le (take place array) {i = place} (omega (arith, length-take-le place array h))

two_are : (l : List ℕ) → length l ≡ 2 → l ≡ get_or l 0 0 ∷ get_or l 1 0 ∷ []
two_are [] h = absurd (omega arith)
two_are (a ∷ []) h = absurd (omega arith)
two_are (a ∷ b ∷ []) h = refl
two_are (a ∷ b ∷ c ∷ l) h = absurd (omega arith)

module _ (words : List ℕ) (count root : ℕ) (keep : ℕ → Bool) (r : Readable words count) (array : List ℕ) (found front back top id : ℕ) (f : Flattening words count root keep array found front back top id) where
  abbrev ns : List Node
  ns = nodes_in words count

  abbrev rest : List ℕ
  rest = drop front (take top array)

  top_inside : top ≤ length array
  top_inside = omega (arith, f.long, f.few, f.room)

  waits : length rest ≡ top - front
  waits = omega (arith, length-drop front (take top array), length-take-le top array top_inside)

  none_left : top ≡ front → rest ≡ []
  none_left e = ap (λ (k : ℕ). drop front (take k array)) e ∙ none_waits array front (omega (arith, top_inside))

  both_below : Lower count rest × Lower count (id ∷ [])
  both_below = lower_parts count rest (id ∷ []) f.below

  pub id_below : id < count
  id_below = both_below.1.0

  known : id < length ns
  known = omega (arith, plain_length words count, id_below)

  -- ---- a term that ends the chains ahead is put before the last ones
  module _ (term : ℕ) (answer : Bool) (after : List ℕ) (puts : PutsTerm (keep term) (most_terms - 1 - back) term array answer after) where
    pub long_too : length after ≡ most_terms
    long_too = ap length puts.1 ∙ length-set array (most_terms - 1 - back) term ∙ f.long

    before_same : (k : ℕ) → k ≤ most_terms - 1 - back → take k after ≡ take k array
    before_same k h = ap (take k) puts.1 ∙ take-set-le k array (most_terms - 1 - back) term h

    few_too : (back' : ℕ) → Counts answer back back' → front + back' ≤ found + 1
    few_too back' counts = omega (arith, at_most_one answer back back' counts, f.few)

    pub kept_inside : (back' : ℕ) → Counts answer back back' → front + back' ≤ most_terms
    kept_inside back' counts = omega (arith, few_too back' counts, f.room, f.ordered)

    -- ids are left whose chains come before it
    module _ (other : (at (nodes_in words count) term).kind ≡ add_kind → ⊥) (left : List ℕ) (ends : chains ns (ahead array front top id) ≡ chains ns (left ++ term ∷ [])) (back' : ℕ) (counts : Counts answer back back') where
      is_term : chains ns (ahead array front top id) ≡ chains ns left ++ term ∷ []
      is_term = ends ∙ chains_append ns left (term ∷ []) ∙ ap (λ (l : List ℕ). chains ns left ++ (l ++ [])) (chain_term ns (layered words count r) term other)

      number_too : length (chains ns left) + (found + 1) ≡ length (chain ns root)
      number_too = omega (arith, f.number, ap length is_term, length-append (chains ns left) (term ∷ []))

      abbrev those : List ℕ
      those = drop (most_terms - back') after

      parts_too : take front after ++ (filter keep (chains ns left) ++ those) ≡ filter keep (chain ns root)
      parts_too =
          ap (λ (l : List ℕ). l ++ (filter keep (chains ns left) ++ those)) (before_same front (omega (arith, f.few, f.room, f.ordered)))
          ∙ ap (λ (l : List ℕ). take front array ++ (filter keep (chains ns left) ++ drop (most_terms - back') l)) puts.1
          ∙ ap (λ (l : List ℕ). take front array ++ l) (put_last keep array back back' term (chains ns left) f.long (omega (arith, f.few, f.room, f.ordered)) (subst (λ (b : Bool). Counts b back back') puts.0 counts))
          ∙ ap (λ (l : List ℕ). take front array ++ (filter keep l ++ drop (most_terms - back) array)) (sym is_term)
          ∙ f.parts

      -- the last of them is gone on with
      goes_on : (top' id' : ℕ) → ahead after front top' id' ≡ left → Lower count left → front ≤ top' → found + 1 + top' < most_terms + front
          → Flattening words count root keep after (found + 1) front back' top' id'
      goes_on top' id' are low ordered room = record {
        long = long_too;
        few = few_too back' counts;
        ordered = ordered;
        room = room;
        below = subst (Lower count) (sym are) low;
        number = omega (arith, number_too, ap (λ (l : List ℕ). length (chains ns l)) are);
        parts = ap (λ (l : List ℕ). take front after ++ (filter keep (chains ns l) ++ those)) are ∙ parts_too;
      }

  -- ---- an id that is no Add is a term
  module _ (answer : Bool) (after : List ℕ) (puts : PutsTerm (keep id) (most_terms - 1 - back) id array answer after) where
    -- the last of the ids that wait
    module _ (t : top ≡ front → ⊥) where
      next : ahead after front (top - 1) (get_or after (top - 1) 0) ≡ rest
      next =
          let long : length after ≡ most_terms = long_too id answer after puts in
          let e : suc (top - 1) ≡ top = omega (arith, t, f.ordered) in
          sym (drop-append-le front (take (top - 1) after) (get_or after (top - 1) 0 ∷ []) (omega (arith, t, f.ordered, length-take-le (top - 1) after (omega (arith, f.long, top_inside)))))
          ∙ ap (drop front)
          (sym (take-suc after (top - 1) 0 (omega (arith, t, f.ordered, f.long, top_inside)))
          ∙ ap (λ (k : ℕ). take k after) e
          ∙ before_same id answer after puts top (omega (arith, f.few, f.room)))

      pub finds_less : work after front (top - 1) (get_or after (top - 1) 0) < work array front top id
      finds_less = omega (arith, ap weights next, weights_append rest (id ∷ []), weight_some id)

      pub next_limited : get_or after (top - 1) 0 < most_nodes
      next_limited =
          let low = lower_parts count (drop front (take (top - 1) after)) (get_or after (top - 1) 0 ∷ []) (subst (Lower count) (sym next) both_below.0) in
          id_limited words count (get_or after (top - 1) 0) (r.lookup (get_or after (top - 1) 0) low.1.0)

    module _ (other : (at (nodes_in words count) id).kind ≡ add_kind → ⊥) (back' : ℕ) (counts : Counts answer back back') where
      -- the only one left
      pub ends_flat : top ≡ front → (answer : Terms) (array' : List ℕ) → Closes (found + 1) front back' after answer array'
          → Flattens (chain (nodes_in words count) root) keep (Ok answer) array'
      ends_flat e answer' array' c =
          let none : chains ns rest ≡ [] = ap (chains ns) (none_left e) in
          let all : take front after ++ drop (most_terms - back') after ≡ filter keep (chain ns root) =
          ap (λ (l : List ℕ). take front after ++ (filter keep l ++ drop (most_terms - back') after)) (sym none) ∙ parts_too id answer after puts other rest refl back' counts in
          let number : found + 1 ≡ length (chain ns root) = omega (arith, number_too id answer after puts other rest refl back' counts, ap length none) in
          flattens (found + 1) front back' after answer' array' c (chain ns root) keep (few_too id answer after puts back' counts) (omega (arith, f.room)) (long_too id answer after puts) number all

      pub finds : (top ≡ front → ⊥)
          → Flattening words count root keep after (found + 1) front back' (top - 1) (get_or after (top - 1) 0)
      finds t = goes_on id answer after puts other rest refl back' counts (top - 1) (get_or after (top - 1) 0) (next t) both_below.0 (omega (arith, f.ordered, t)) (omega (arith, f.room, f.ordered, t))

  -- ---- an Add gives way to its children
  module _ (add : (at (nodes_in words count) id).kind ≡ add_kind) where
    abbrev children : List ℕ
    children = (at ns id).children

    expands : chains ns (ahead array front top id) ≡ chains ns (rest ++ children)
    expands =
        chains_append ns rest (id ∷ [])
        ∙ ap (λ (l : List ℕ). chains ns rest ++ l) (append-nil (chain ns id) ∙ chain_add ns (layered words count r) id known add)
        ∙ sym (chains_append ns rest children)

    pub has_child : 0 < length (children_in words count id)
    has_child = r.filled id id_below add

    children_below : Lower count children
    children_below = lower_up id count (omega (arith, id_below)) children ((layered words count r).low id known)

    family_below : Lower count (rest ++ children)
    family_below = lower_append count rest children both_below.0 children_below

    -- found terms, and a term at least for each id that waits and each child
    at_least : found + (top - front) + length children ≤ length (chain ns root)
    at_least =
        let low = subst (λ (n : ℕ). Lower n (rest ++ children)) (sym (plain_length words count)) family_below in
        let each = chains_filled ns (layered words count r) (rest ++ children) low in
        omega (arith, length-append rest children, waits, f.number, ap length expands)

    lighter : weights children < weights (id ∷ [])
    lighter = omega (arith, children_lighter id children ((layered words count r).low id known) (few_children words count r id id_below))

    -- ---- two children
    pub exceeds_two : length (children_in words count id) ≡ 2 → most_terms - 1 - found + front ≤ top → Flattens (chain (nodes_in words count) root) keep (Err TooManyTerms) array
    exceeds_two two h = record { holds = (refl, omega (arith, at_least, f.room, f.ordered)); long = f.long }

    both_are : length children ≡ 2 → (first : ℕ) → first ≡ get_or children 0 0 → (last : ℕ) → last ≡ get_or children 1 0 → children ≡ first ∷ last ∷ []
    both_are two first opens_with last closes_with = two_are children two ∙ ap₂ (λ (x y : ℕ). x ∷ y ∷ []) (sym opens_with) (sym closes_with)

    is_other : (place : ℕ) → HasTerm words count id place → (child : ℕ) → child ≡ get_or children place 0 → (at ns child).kind ≡ add_kind → ⊥
    is_other place h child is e = h.term (ap (λ (i : ℕ). (at ns i).kind) (sym is) ∙ e)

    -- ---- the last of two children is put before the last ones if it is a term
    module _ (e : HasTerm words count id 1) (h : top < most_terms - 1 - found + front) (last : ℕ) (closes_with : last ≡ get_or (children_in words count id) 1 0) (first : ℕ) (opens_with : first ≡ get_or (children_in words count id) 0 0) (answer : Bool) (after : List ℕ) (puts : PutsTerm (keep last) (most_terms - 1 - back) last array answer after) where
      first_left : ahead after front top first ≡ rest ++ first ∷ []
      first_left = ap (λ (l : List ℕ). drop front l ++ first ∷ []) (before_same last answer after puts top (omega (arith, f.few, f.room, f.ordered)))

      family_is : rest ++ children ≡ (rest ++ first ∷ []) ++ last ∷ []
      family_is = ap (λ (l : List ℕ). rest ++ l) (both_are e.two first opens_with last closes_with) ∙ sym (append_assoc rest (first ∷ []) (last ∷ []))

      pub takes_last : (back' : ℕ) → Counts answer back back' → Flattening words count root keep after (found + 1) front back' top first
      takes_last back' counts =
          goes_on
          last
          answer
          after
          puts
          (is_other 1 e last closes_with)
          (rest ++ first ∷ [])
          (expands ∙ ap (chains ns) family_is)
          back'
          counts
          top
          first
          first_left
          (lower_parts count (rest ++ first ∷ []) (last ∷ []) (subst (Lower count) family_is family_below)).0
          f.ordered
          (omega (arith, f.room, f.ordered))

      pub takes_last_less : work after front top first < work array front top id
      takes_last_less = omega (arith, ap weights first_left, ap weights family_is, weights_append rest children, weights_append (rest ++ first ∷ []) (last ∷ []), weights_append rest (id ∷ []), lighter)

    -- ---- where no id waits, the first of two children is put after the first ones if it is a term
    module _ (alone : top ≡ front) (b : HasTerm words count id 0) (h : found + 1 < most_terms) (first : ℕ) (opens_with : first ≡ get_or (children_in words count id) 0 0) (second : ℕ) (closes_with : second ≡ get_or (children_in words count id) 1 0) (answer : Bool) (longer : List ℕ) (puts : PutsTerm (keep first) front first array answer longer) (front' : ℕ) (counts : Counts answer front front') where
      are_two : children ≡ first ∷ second ∷ []
      are_two = both_are b.two first opens_with second closes_with

      long_still : length longer ≡ most_terms
      long_still = ap length puts.1 ∙ length-set array front first ∙ f.long

      few_still : front' + back ≤ found + 1
      few_still = omega (arith, at_most_one answer front front' counts, f.few)

      one_left : ahead longer front' front' second ≡ second ∷ []
      one_left = ap (λ (l : List ℕ). l ++ second ∷ []) (none_waits longer front' (omega (arith, few_still, long_still)))

      is_first : chain ns first ≡ first ∷ []
      is_first = chain_term ns (layered words count r) first (is_other 0 b first opens_with)

      begins_so : chains ns (ahead array front top id) ≡ first ∷ chains ns (ahead longer front' front' second)
      begins_so =
          expands
          ∙ ap₂ (λ (l k : List ℕ). chains ns (l ++ k)) (none_left alone) are_two
          ∙ ap (λ (l : List ℕ). l ++ chains ns (second ∷ [])) is_first
          ∙ ap (λ (l : List ℕ). first ∷ chains ns l) (sym one_left)

      abbrev left : List ℕ
      left = chains ns (ahead longer front' front' second)

      pub takes_first : Flattening words count root keep longer (found + 1) front' back front' second
      takes_first = record {
        long = long_still;
        few = few_still;
        ordered = omega arith;
        room = omega arith;
        below = subst (Lower count) (sym one_left) (subst (Lower count) are_two children_below).1;
        number = omega (arith, f.number, ap length begins_so);
        parts =
            ap (λ (l : List ℕ). take front' l ++ (filter keep left ++ drop (most_terms - back) l)) puts.1
            ∙ ap (λ (l : List ℕ). take front' (set array front first) ++ (filter keep left ++ l)) (drop-set-lt (most_terms - back) array front first (omega (arith, f.few)))
            ∙ sym (append_assoc (take front' (set array front first)) (filter keep left) (drop (most_terms - back) array))
            ∙ ap (λ (l : List ℕ). l ++ drop (most_terms - back) array) (put_first keep array front front' first left (omega (arith, f.long, f.few)) (subst (λ (b : Bool). Counts b front front') puts.0 counts))
            ∙ append_assoc (take front array) (filter keep (first ∷ left)) (drop (most_terms - back) array)
            ∙ ap (λ (l : List ℕ). take front array ++ (filter keep l ++ drop (most_terms - back) array)) (sym begins_so)
            ∙ f.parts;
      }

      pub takes_first_less : work longer front' front' second < work array front top id
      takes_first_less = omega (arith, ap weights one_left, ap weights are_two, lighter, weights_append rest (id ∷ []))

    -- ---- or all but the last wait
    abbrev free : ℕ
    free = most_terms - 1 - found + front

    module _ (waiting : Option ℕ) (array' : List ℕ) (pushes : Pushes (children_in words count id) top (most_terms - 1 - found + front) array waiting array') where
      pub exceeds : waiting ≡ None → Flattens (chain (nodes_in words count) root) keep (Err TooManyTerms) array'
      exceeds e =
          let p = subst (λ (x : Option ℕ). Pushes children top free array x array') e pushes in
          record { holds = (refl, omega (arith, p.0, f.room, f.ordered, at_least)); long = p.1 }

      module _ (to : ℕ) (is : waiting ≡ Some to) where
        pushed : Pushes children top free array (Some to) array'
        pushed = subst (λ (x : Option ℕ). Pushes children top free array x array') is pushes

        abbrev between : ℕ
        between = found + 1 - front - back

        -- the last ones stand behind the places that were free
        behind : (l : List ℕ) → drop (most_terms - back) l ≡ drop between (drop free l)
        behind l =
            let e : most_terms - back ≡ free + between = omega (arith, f.few, f.room, f.ordered) in
            ap (λ (k : ℕ). drop k l) e ∙ sym (drop-drop between free l)

        backs : drop (most_terms - back) array' ≡ drop (most_terms - back) array
        backs = behind array' ∙ ap (drop between) pushed.3 ∙ sym (behind array)

        long_top : length (take top array) ≡ top
        long_top = length-take-le top array top_inside

        to_more : front ≤ to
        to_more = omega (arith, pushed.1, has_child, f.ordered)

        -- the first ones stand before the ids that wait
        fronts : take front array' ≡ take front array
        fronts =
            sym (take-take front to array' to_more)
            ∙ ap (take front) pushed.2
            ∙ take-append-le front (take top array) (take (length children - 1) children) (omega (arith, long_top, f.ordered))
            ∙ take-take front top array f.ordered

        module _ (many : ℕ) (counted : many ≡ length (children_in words count id)) (last : ℕ) (closes : last ≡ get_or (children_in words count id) (many - 1) 0) where
          children_are : take (length children - 1) children ++ last ∷ [] ≡ children
          children_are =
              let e : suc (length children - 1) ≡ length children = omega (arith, has_child) in
              ap (λ (x : ℕ). take (length children - 1) children ++ x ∷ []) (closes ∙ ap (λ (k : ℕ). get_or children (k - 1) 0) counted)
              ∙ sym (take-suc children (length children - 1) 0 (omega (arith, has_child)))
              ∙ ap (λ (k : ℕ). take k children) e
              ∙ take-length children

          family : ahead array' front to last ≡ rest ++ children
          family =
              ap (λ (l : List ℕ). drop front l ++ last ∷ []) pushed.2
              ∙ ap (λ (l : List ℕ). l ++ last ∷ []) (drop-append-le front (take top array) (take (length children - 1) children) (omega (arith, long_top, f.ordered)))
              ∙ append_assoc rest (take (length children - 1) children) (last ∷ [])
              ∙ ap (λ (l : List ℕ). rest ++ l) children_are

          same : chains ns (ahead array' front to last) ≡ chains ns (ahead array front top id)
          same = ap (chains ns) family ∙ sym expands

          pub opens : Flattening words count root keep array' found front back to last
          opens = record {
            long = pushed.4;
            few = f.few;
            ordered = to_more;
            room = omega (arith, pushed.0, f.room, f.ordered);
            below = subst (Lower count) (sym family) family_below;
            number = omega (arith, f.number, ap length same);
            parts =
                ap₂ (λ (l k : List ℕ). l ++ (filter keep (chains ns (ahead array' front to last)) ++ k)) fronts backs
                ∙ ap (λ (l : List ℕ). take front array ++ (filter keep l ++ drop (most_terms - back) array)) same
                ∙ f.parts;
          }

          pub opens_less : work array' front to last < work array front top id
          opens_less = omega (arith, ap weights family, weights_append rest children, weights_append rest (id ∷ []), lighter)
