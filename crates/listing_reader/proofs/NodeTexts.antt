-- The line of a node tells the node.
use Prim.Native.Nat.{ℕ, ◌+◌, ◌%◌, ◌≤◌, ◌<◌}
use mathlib.Core.Path.{◌≡◌, refl, sym, ap, ap₂, ◌∙◌, subst}
use mathlib.Core.Bool.{Bool, true, false, cond, false≢true}
use mathlib.Core.List.{List, ◌∷◌, ◌++◌, append_assoc}
use lib.ListN.{length, get_or, take, drop, get_or-eq_default}
use lib.Seq.{length-take-le, get_or-take, ext_get_or}
use lib.Dec.{leb}
use native.Mathlib.Omega.{arith}
use native.Mathlib.Decide.{dec_lt}
use borrow.Author.Tests.{leb-true, leb-false}
use Rattle.definitions.specs.Listing.{space, line_feed, decimal, hex, children_part, node_line, all_flags}
use Rattle.hash.specs.Fnv.{node_hash_of}
use Rattle.arena.specs.declared.node.DagNode.{DagNode}
use Rattle.arena.specs.Layout.{most_children}
use Rattle.definitions.specs.Says.{Says}
use Rattle.kinds.specs.Kind.{listed}
use Rattle.arena.specs.Node.{flags_end, new_node, node_hash, coefficient}
use Rattle.child_places.specs.Places.{LowerChildren}
use Rattle.arena.specs.Nodes.{WellFormed}
use Rattle.kinds.proofs.Listing.{listed_few, no_kind}
use Rattle.store.specs.View.{plain_node}
use Rattle.std.specs.Prelude.{Option, Some, None}
use Rattle.listing_reader.specs.declared.node.Heading.{Heading}
use Rattle.listing_reader.specs.declared.node.Children.{Children}
use Rattle.listing_reader.specs.declared.node.ListedNode.{ListedNode}
use Rattle.listing_reader.specs.Numbers.{word_end}
use Rattle.listing_reader.specs.Line.{heading, headed, SmallHeading, HeadingAt, ReadsHeading, PlacedChildren, ReadsChildren, LineOf, NoLine, ReadsLine}
use Rattle.listing_reader.proofs.Headings.{SameHeading, headed_unique}
use Rattle.listing_reader.proofs.ChildLines.{children_end_digits, children_unique}

-- ---- a node's line in the order in which it is read

-- "Flags: 1 commutative, 2 associative, 4 canonical"; "flags are 0 to 7"
flags_whole : (f : ℕ) → f < flags_end → cond (leb 4 f) (f % 4 + 4) (f % 4) ≡ f
flags_whole f h = go (leb 4 f) refl
  where
    go : (b : Bool) → leb 4 f ≡ b → cond b (f % 4 + 4) (f % 4) ≡ f
    go true e = let l = leb-true 4 f e in omega arith
    go false e = let l = leb-false 4 f e in omega arith

in_order : (a b c d e x : List ℕ) → ((((a ++ (space ∷ b)) ++ (space ∷ c)) ++ (space ∷ d)) ++ e) ++ x ≡ a ++ (space ∷ (b ++ (space ∷ (c ++ (space ∷ (d ++ (e ++ x)))))))
in_order a b c d e x =
    append_assoc (((a ++ (space ∷ b)) ++ (space ∷ c)) ++ (space ∷ d)) e x
    ∙ append_assoc ((a ++ (space ∷ b)) ++ (space ∷ c)) (space ∷ d) (e ++ x)
    ∙ append_assoc (a ++ (space ∷ b)) (space ∷ c) (space ∷ (d ++ (e ++ x)))
    ∙ append_assoc a (space ∷ b) (space ∷ (c ++ (space ∷ (d ++ (e ++ x)))))

-- the children that a node has
abbrev pub children_of : DagNode → List ℕ
children_of n = take n.arity n.children

node_text : (id : ℕ) (n : DagNode) (rest : List ℕ) → n.flags < flags_end → node_line id (plain_node n) ++ line_feed ∷ rest ≡ headed id n.kind n.payload n.flags (children_part (children_of n) ++ line_feed ∷ rest)
unfolding node_line plain_node
node_text id n rest h =
    in_order (decimal id) (decimal n.kind) (hex n.payload) (decimal (all_flags (plain_node n))) (children_part (children_of n)) (line_feed ∷ rest)
    ∙ ap (λ (f : ℕ). headed id n.kind n.payload f (children_part (children_of n) ++ line_feed ∷ rest)) (flags_whole n.flags h)

-- ---- its numbers fit words of 64 bits

small_kind : (kind payload arity : ℕ) → listed kind payload arity ≡ true → kind ≤ 32
small_kind kind payload arity h = go (dec_lt 32 kind)
  where
    go : Dec (32 < kind) → kind ≤ 32
    go (yes l) = absurd (false≢true (no_kind kind payload arity (omega arith) (omega arith) (λ e. omega arith) (λ e. omega arith) ∙ h))
    go (no l) = omega arith

module _ {text : List ℕ} {id : ℕ} {n : DagNode} {rest : List ℕ} (l : LineOf text id n rest) where
  few_children : n.arity ≤ most_children
  few_children = listed_few n.kind n.payload n.arity l.formed.kinds

  children_long : length (children_of n) ≡ n.arity
  children_long = length-take-le n.arity n.children (let f = l.four in let g = few_children in omega arith)

  in_order_is : text ≡ headed id n.kind n.payload n.flags (children_part (children_of n) ++ line_feed ∷ rest)
  in_order_is = l.is ∙ node_text id n rest l.formed.marks

  module _ (low : id < word_end) where
    small_heading : SmallHeading id n.kind n.payload n.flags
    small_heading = record {
      id_small = low;
      kind_small = let k = small_kind n.kind n.payload n.arity l.formed.kinds in omega arith;
      payload_small = l.wide;
      flags_small = let f : n.flags < flags_end = l.formed.marks in omega arith;
    }

    small_children : (j : ℕ) → get_or (children_of n) j 0 < word_end
    small_children j = go (dec_lt j n.arity)
      where
        go : Dec (j < n.arity) → get_or (children_of n) j 0 < word_end
        go (yes k) =
            let e : get_or (children_of n) j 0 ≡ get_or n.children j 0 = get_or-take n.arity n.children j 0 k in
            let b : get_or n.children j 0 < id = l.formed.places.lower j k in
            omega arith
        go (no k) =
            let c = children_long in
            let m : length (children_of n) ≤ j = omega arith in
            let e : get_or (children_of n) j 0 ≡ 0 = get_or-eq_default (children_of n) 0 m in
            omega arith

    -- what was read before the children is what the node's line has there
    agrees : {bytes : List ℕ} {at i k p f next : ℕ} → text ≡ drop at bytes → HeadingAt bytes at i k p f next → SameHeading i k p f id n.kind n.payload n.flags (drop next bytes) (children_part (children_of n) ++ line_feed ∷ rest)
    agrees e h = headed_unique h.small small_heading h.follows (children_end_digits (children_of n) rest) (sym h.text ∙ sym e ∙ in_order_is)

-- the same children in use, and unused places 0, are the same places
same_places : (places : List ℕ) (count : ℕ) (children : List ℕ) (arity : ℕ) → length places ≡ most_children → count ≤ most_children → ((j : ℕ) → count ≤ j → get_or places j 0 ≡ 0) → length children ≡ most_children → arity ≤ most_children → ((j : ℕ) → arity ≤ j → get_or children j 0 ≡ 0) → take count places ≡ take arity children → (count ≡ arity) × (places ≡ children)
same_places places count children arity pf pc pu cf ca cu e = (same, ext_get_or 0 places children (pf ∙ sym cf) (λ j l. place j (dec_lt j count)))
  where
    same : count ≡ arity
    same = sym (length-take-le count places (omega arith)) ∙ ap length e ∙ length-take-le arity children (omega arith)

    place : (j : ℕ) → Dec (j < count) → get_or places j 0 ≡ get_or children j 0
    place j (yes k) = sym (get_or-take count places j 0 k) ∙ ap (λ (x : List ℕ). get_or x j 0) e ∙ get_or-take arity children j 0 (omega (arith, same))
    place j (no k) = pu j (omega arith) ∙ sym (cu j (omega (arith, same)))

-- ---- the line of a node, or none

not_found : {bytes : List ℕ} {at id : ℕ} → (id < word_end → NoLine (drop at bytes) id) → ReadsLine bytes at id None
not_found h = record { found = λ n t. absurd (let z : ◌≡◌ {A = ℕ} 0 1 = cc in omega arith); nothing = λ t. h }

pub no_heading_line : {bytes : List ℕ} {at id : ℕ} {r : Option Heading} → ReadsHeading bytes at r → r ≡ None → ReadsLine bytes at id None
no_heading_line {id = id} d e = not_found (λ low n rest l. d.nothing e id n.kind n.payload n.flags (children_part (children_of n) ++ line_feed ∷ rest) (small_heading l low) (children_end_digits (children_of n) rest) (in_order_is l))

module _ {bytes : List ℕ} {at : ℕ} {r : Option Heading} (d : ReadsHeading bytes at r) {i k p f next : ℕ} (e : r ≡ Some (heading i k p f next)) where
  headed_here : HeadingAt bytes at i k p f next
  headed_here = d.found i k p f next e

  pub other_id : {id : ℕ} → (i ≡ id → ⊥) → ReadsLine bytes at id None
  other_id h = not_found (λ low n rest l. h (agrees l low refl headed_here).ids)

  pub other_flags : {id : ℕ} → flags_end ≤ f → ReadsLine bytes at id None
  other_flags h = not_found (λ low n rest l.
      let m : n.flags < flags_end = l.formed.marks in
      let s : f ≡ n.flags = (agrees l low refl headed_here).flag in
      omega arith)

  pub other_children : {id : ℕ} {cr : Option Children} → ReadsChildren bytes next cr → cr ≡ None → ReadsLine bytes at id None
  other_children dc h = not_found (λ low n rest l.
      dc.nothing h (children_of n) rest (let a = children_long l in let b = few_children l in omega arith) (small_children l low) (agrees l low refl headed_here).rests)

  module _ {cr : Children} (dc : ReadsChildren bytes next (Some cr)) where
    placed : PlacedChildren cr.places cr.count
    placed = dc.placed cr refl

    read_small : (j : ℕ) → get_or (take cr.count cr.places) j 0 < word_end
    read_small j = go (dec_lt j cr.count)
      where
        go : Dec (j < cr.count) → get_or (take cr.count cr.places) j 0 < word_end
        go (yes k) = subst (λ (x : ℕ). x < word_end) (sym (get_or-take cr.count cr.places j 0 k)) (placed.small j)
        go (no k) =
            let a : length (take cr.count cr.places) ≡ cr.count = length-take-le cr.count cr.places (let f = placed.four in let g = placed.few in omega arith) in
            let m : length (take cr.count cr.places) ≤ j = omega arith in
            let e : get_or (take cr.count cr.places) j 0 ≡ 0 = get_or-eq_default (take cr.count cr.places) 0 m in
            omega arith

    same_node : {id : ℕ} (n : DagNode) (rest : List ℕ) → id < word_end → LineOf (drop at bytes) id n rest → (cr.count ≡ n.arity) × (cr.places ≡ n.children)
    same_node {id} n rest low l =
        let u = children_unique (take cr.count cr.places) (children_of n) (drop cr.next bytes) rest read_small (small_children l low) (sym (dc.text cr refl) ∙ (agrees l low refl headed_here).rests) in
        same_places cr.places cr.count n.children n.arity placed.four placed.few placed.unused l.four (few_children l) l.formed.places.unused u.0

    pub other_kind : {id : ℕ} {t : Bool} → t ≡ listed k p cr.count → t ≡ false → ReadsLine bytes at id None
    other_kind {t = t} h g = not_found (λ low n rest l.
        let a = agrees l low refl headed_here in
        let c : cr.count ≡ n.arity = (same_node n rest low l).0 in
        let m : k ≡ n.kind = a.kinds in
        let o : p ≡ n.payload = a.payloads in
        let s : listed k p cr.count ≡ true = ap (λ (x : ℕ). listed x p cr.count) m ∙ ap₂ (λ (x y : ℕ). listed n.kind x y) o c ∙ l.formed.kinds in
        false≢true (sym g ∙ h ∙ s))

    pub other_places : {id : ℕ} {t : Bool} → i ≡ id → Says t (LowerChildren i cr.count cr.places) → t ≡ false → ReadsLine bytes at id None
    other_places {id} {t = t} w h g = not_found (λ low n rest l.
        let s = same_node n rest low l in
        h.no g (subst (λ (x : ℕ). LowerChildren x cr.count cr.places) (sym w)
        (subst (λ (x : ℕ). LowerChildren id x cr.places) (sym s.0) (subst (λ (x : List ℕ). LowerChildren id n.arity x) (sym s.1) l.formed.places))))

    module _ {id : ℕ} (w : i ≡ id) (few : f < flags_end) {t u : Bool} (h : t ≡ listed k p cr.count) (ht : t ≡ true) (g : Says u (LowerChildren i cr.count cr.places)) (gt : u ≡ true) where
      formed : WellFormed id (new_node k p f cr.count cr.places)
      unfolding new_node node_hash
      formed = record {
        kinds = sym h ∙ ht;
        places = subst (λ (x : ℕ). LowerChildren x cr.count cr.places) w (g.yes gt);
        marks = few;
        hashed = refl;
        weighed = refl;
      }

      line : (rest : List ℕ) → drop next bytes ≡ children_part (take cr.count cr.places) ++ line_feed ∷ rest → LineOf (drop at bytes) id (new_node k p f cr.count cr.places) rest
      unfolding new_node
      line rest e = record {
        is = headed_here.text ∙ ap₂ (λ (x : ℕ) (y : List ℕ). headed x k p f y) w e ∙ sym (node_text id (new_node k p f cr.count cr.places) rest few);
        formed = formed;
        four = placed.four;
        wide = headed_here.small.payload_small;
      }

      pub line_found : {q : ListedNode} → q.node ≡ new_node k p f cr.count cr.places → q.next ≡ cr.next → ReadsLine bytes at id (Some q)
      line_found {q} m o = record {
        found = λ n e. let s : q ≡ n = cc in subst (λ (x : ListedNode). LineOf (drop at bytes) id x.node (drop x.next bytes)) s here;
        nothing = λ e. absurd (let z : ◌≡◌ {A = ℕ} 0 1 = cc in omega arith);
      }
        where
          here : LineOf (drop at bytes) id q.node (drop q.next bytes)
          here = subst (λ (x : DagNode). LineOf (drop at bytes) id x (drop q.next bytes)) (sym m) (line (drop q.next bytes) (dc.text cr refl ∙ ap (λ (x : ℕ). children_part (take cr.count cr.places) ++ line_feed ∷ drop x bytes) (sym o)))

-- ---- two nodes of one line are one

module _ (n m : DagNode) where
  same_fields : n.kind ≡ m.kind → n.payload ≡ m.payload → n.hash ≡ m.hash → n.coefficient ≡ m.coefficient → n.flags ≡ m.flags → n.arity ≡ m.arity → n.children ≡ m.children → n ≡ m
  same_fields k p h c f a ch =
      ap (λ (x : ℕ). record { kind = x; payload = n.payload; hash = n.hash; coefficient = n.coefficient; flags = n.flags; arity = n.arity; children = n.children }) k
      ∙ ap₂ (λ (x y : ℕ). record { kind = m.kind; payload = x; hash = y; coefficient = n.coefficient; flags = n.flags; arity = n.arity; children = n.children }) p h
      ∙ ap₂ (λ (x y : ℕ). record { kind = m.kind; payload = m.payload; hash = m.hash; coefficient = x; flags = y; arity = n.arity; children = n.children }) c f
      ∙ ap₂ (λ (x : ℕ) (y : List ℕ). record { kind = m.kind; payload = m.payload; hash = m.hash; coefficient = m.coefficient; flags = m.flags; arity = x; children = y }) a ch

pub line_unique : {text : List ℕ} {id : ℕ} {n m : DagNode} {r s : List ℕ} → id < word_end → LineOf text id n r → LineOf text id m s → (n ≡ m) × (r ≡ s)
unfolding node_hash
line_unique {text} {id} {n} {m} {r} {s} low l k =
    let a = headed_unique (small_heading l low) (small_heading k low) (children_end_digits (children_of n) r) (children_end_digits (children_of m) s) (sym (in_order_is l) ∙ in_order_is k) in
    let b = children_unique (children_of n) (children_of m) r s (small_children l low) (small_children k low) a.rests in
    let c = same_places n.children n.arity m.children m.arity l.four (few_children l) l.formed.places.unused k.four (few_children k) k.formed.places.unused b.0 in
    let h : node_hash n ≡ node_hash m = ap₂ (λ (x y : ℕ). node_hash_of x y (children_of n)) a.kinds a.payloads ∙ ap (node_hash_of m.kind m.payload) b.0 in
    (same_fields n m a.kinds a.payloads (l.formed.hashed ∙ h ∙ sym k.formed.hashed) (l.formed.weighed ∙ ap₂ coefficient a.kinds a.payloads ∙ sym k.formed.weighed) a.flag c.0 c.1, b.1)
