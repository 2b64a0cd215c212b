-- A checked text's reading answers an id of the store, or is stopped by 24, 21 or 22.
use Prim.Native.Nat.{ℕ, suc, ◌+◌, ◌≤◌, ◌<◌, min}
use mathlib.Core.Path.{◌≡◌, refl, ap, ◌∙◌, subst}
use mathlib.Core.Bool.{Bool, true, false, ◌&&◌, cond}
use mathlib.Core.Option.{Option, none, some}
use mathlib.Core.List.{List, [], ◌∷◌, ◌++◌}
use lib.ListN.{length, length-append}
use lib.Dec.{leb, ltb}
use lib.Ieee.{binary64, nan_bits}
use native.Mathlib.Omega.{arith}
use borrow.Author.Tests.{lt-ltb, le-leb}
use Rattle.definitions.specs.Node.{Node, nan_constant, child_count_listed, same}
use Rattle.definitions.specs.Refusals.{no_name_place, no_node_place, no_slot_place}
use Rattle.definitions.specs.Intern.{Lent, find, no_place, intern, add_new, found_or_new, table_size}
use Rattle.definitions.specs.Limits.{most_nodes}
use Rattle.definitions.specs.Names as Names
use Rattle.definitions.specs.Machine as M
use Rattle.text_language.specs.Grammar.{Expr, constant, variable, negated, linked, raised, Level, Atom, Reads, one, next, base, raise, atom, minus, bracket}
use Rattle.text_language.specs.Program as P
use Rattle.text_language.specs.Program.{Join, join_of, postfix}
use Rattle.definitions.specs.Making.{Controller, controller, LentLists, Made, made, stopped, bind, stored_as, named_as, storing, naming, joined, make}
use Rattle.text_language.specs.Reading.{any_nan, Denotes}
use Rattle.text_language.proofs.Constants.{any_parts, any_both, both_numbers}
use Rattle.definitions.specs.Controller.{refused, from_made}
use Rattle.definitions.specs.Promise.{StopsReading, no_name, no_node, no_slots}

-- an id of the nodes then, of which none was taken away; or one of these refusals
abbrev Ends : ℕ → Made → Type 0
Ends count (made i s) = (count ≤ length s.nodes) × (i < length s.nodes)
Ends count (stopped r s) = StopsReading r

-- "Names are a letter, then letters or digits, 32 at most", and no constant is a NaN
abbrev LeavesAllowed : Expr → Type 0
LeavesAllowed (constant b) = nan_bits binary64 b ≡ false
LeavesAllowed (variable w) = Names.length_allowed w ≡ true
LeavesAllowed (negated a) = LeavesAllowed a
LeavesAllowed (linked k x a b) = LeavesAllowed a × LeavesAllowed b
LeavesAllowed (raised a b) = LeavesAllowed a × LeavesAllowed b

-- what `find` finds is below the end
pub find_from : (n : Node) (ns : List Node) (j : ℕ) (i : ℕ) → find n ns j ≡ some i → i < j + length ns
unfolding find
find_from n [] j i e = absurd (let z : ◌≡◌ {A = ℕ} 0 1 = cc in omega arith)
find_from n (m ∷ ns) j i e = go (same m n) refl e (find_from n ns (suc j) i)
  where
    go : (b : Bool) → same m n ≡ b → (elim b as (λ _. Option ℕ) [ true ↦ some j | false ↦ find n ns (suc j) ]) ≡ some i → (find n ns (suc j) ≡ some i → i < suc j + length ns) → i < j + suc (length ns)
    go true q e h = let z : ◌≡◌ {A = ℕ} j i = cc in omega arith
    go false q e h = let z = h e in omega arith

-- ---- store calls

interned_ends : (names : List (List ℕ)) (l : Lent) (ns : List Node) (n : Node) → Ends (length ns) (stored_as names (M.stored_as (intern l ns n)).answer (M.stored_as (intern l ns n)).nodes)
unfolding intern no_place
interned_ends names l ns n = go (find n ns 0) refl
  where
    slots : (b : Bool) → Ends (length ns) (stored_as names (M.stored_as (add_new ns n (cond b (some no_slot_place) none))).answer (M.stored_as (add_new ns n (cond b (some no_slot_place) none))).nodes)
    slots true = no_slots
    slots false = let e = length-append ns (n ∷ []) in (omega arith, omega arith)

    place : (b : Bool) → Ends (length ns) (stored_as names (M.stored_as (add_new ns n (cond b (some no_node_place) (cond (ltb l.slots (table_size (suc (length ns)))) (some no_slot_place) none)))).answer (M.stored_as (add_new ns n (cond b (some no_node_place) (cond (ltb l.slots (table_size (suc (length ns)))) (some no_slot_place) none)))).nodes)
    place true = no_node
    place false = slots (ltb l.slots (table_size (suc (length ns))))

    go : (o : Option ℕ) → find n ns 0 ≡ o → Ends (length ns) (stored_as names (M.stored_as (found_or_new l ns n o)).answer (M.stored_as (found_or_new l ns n o)).nodes)
    go (some i) e = let f = find_from n ns 0 i e in (omega arith, omega arith)
    go none e = place (leb (min l.nodes most_nodes) (length ns))

-- a call whose operands are ids, and which asks for a listed node
storing_ends : (l : LentLists) (c : M.Store) (s : Controller) → (M.requested c).listed ≡ true → nan_constant (M.requested c).node.kind (M.requested c).node.payload ≡ false
    → child_count_listed (M.requested c).node.kind (M.requested c).node.payload (length (M.requested c).node.children) ≡ true
    → M.all_below (length s.nodes) (M.requested c).node.children ≡ true → Ends (length s.nodes) (storing l c s)
unfolding storing M.store_call
storing_ends l c s p v q r = rw (p, v, q, r) (interned_ends s.names l.store s.nodes (M.requested c).node)

below_one : (n i : ℕ) → i < n → M.all_below n (i ∷ []) ≡ true
below_one n i l = ap (λ (b : Bool). b && true) (lt-ltb i n l)

below_two : (n i j : ℕ) → i < n → j < n → M.all_below n (i ∷ j ∷ []) ≡ true
below_two n i j l m = ap (λ (b : Bool). b && (ltb j n && true)) (lt-ltb i n l) ∙ ap (λ (b : Bool). b && true) (lt-ltb j n m)

joining_ends : (l : LentLists) (o : Join) (i j : ℕ) (s : Controller) → i < length s.nodes → j < length s.nodes → Ends (length s.nodes) (storing l (joined o i j) s)
unfolding child_count_listed
joining_ends l P.plus i j s p q = storing_ends l (M.add i j) s refl refl refl (below_two _ i j p q)
joining_ends l P.minus i j s p q = storing_ends l (M.sub i j) s refl refl refl (below_two _ i j p q)
joining_ends l P.times i j s p q = storing_ends l (M.mul i j) s refl refl refl (below_two _ i j p q)
joining_ends l P.over i j s p q = storing_ends l (M.div i j) s refl refl refl (below_two _ i j p q)
joining_ends l P.raise i j s p q = storing_ends l (M.pow i j) s refl refl refl (below_two _ i j p q)

leaf_ends : (l : LentLists) (n : ℕ) (s : Controller) → Ends (length s.nodes) (storing l (M.variable n) s)
unfolding child_count_listed
leaf_ends l n s = storing_ends l (M.variable n) s refl refl refl refl

number_ends : (l : LentLists) (b : ℕ) (s : Controller) → nan_bits binary64 b ≡ false → Ends (length s.nodes) (storing l (M.constant b) s)
unfolding child_count_listed
number_ends l b s v = storing_ends l (M.constant b) s refl v refl refl

negated_ends : (l : LentLists) (i : ℕ) (s : Controller) → i < length s.nodes → Ends (length s.nodes) (storing l (M.neg i) s)
unfolding child_count_listed
negated_ends l i s p = storing_ends l (M.neg i) s refl refl refl (below_one _ i p)

-- ---- a name, and its node

named_ends : (l : LentLists) (w : List ℕ) (s : Controller) → Names.length_allowed w ≡ true → Ends (length s.nodes) (bind (naming l w s) (λ n t. storing l (M.variable n) t))
unfolding bind naming Names.name_call
named_ends l w s a = rw a (at (Names.number_from s.names 0 w))
  where
    room : (b : Bool) → Ends (length s.nodes) (bind (named_as s.nodes (cond b (Names.answers (Names.numbered (length s.names)) (s.names ++ w ∷ [])) (Names.answers (Names.refused no_name_place) s.names)).answer (cond b (Names.answers (Names.numbered (length s.names)) (s.names ++ w ∷ [])) (Names.answers (Names.refused no_name_place) s.names)).names) (λ n t. storing l (M.variable n) t))
    room true = leaf_ends l (length s.names) (controller (s.names ++ w ∷ []) s.nodes)
    room false = no_name

    at : (o : Option ℕ) → Ends (length s.nodes) (bind (named_as s.nodes (Names.intern_at l.names s.names w o).answer (Names.intern_at l.names s.names w o).names) (λ n t. storing l (M.variable n) t))
    at (some n) = leaf_ends l n s
    at none = room (ltb (length s.names) (min l.names Names.most_names))

-- ---- expressions

then : (n : ℕ) (m : Made) (f : ℕ → Controller → Made) → Ends n m → ((i : ℕ) (t : Controller) → n ≤ length t.nodes → i < length t.nodes → Ends n (f i t)) → Ends n (bind m f)
unfolding bind
then n (made i t) f e g = g i t e.0 e.1
then n (stopped r t) f e g = e

up : (n k : ℕ) (m : Made) → n ≤ k → Ends k m → Ends n m
up n k (made i t) l e = (omega (arith, l, e.0), e.1)
up n k (stopped r t) l e = e

-- two operands, and what joins them
both_end : (l : LentLists) (o : Join) (e f : Expr) (s : Controller) → Ends (length s.nodes) (make l e s) → ((t : Controller) → Ends (length t.nodes) (make l f t))
    → Ends (length s.nodes) (bind (make l e s) (λ i t. bind (make l f t) (λ j u. storing l (joined o i j) u)))
both_end l o e f s g h =
    then (length s.nodes) (make l e s) (λ i t. bind (make l f t) (λ j u. storing l (joined o i j) u)) g
    (λ i t p q. up (length s.nodes) (length t.nodes) (bind (make l f t) (λ j u. storing l (joined o i j) u)) p
    (then (length t.nodes) (make l f t) (λ j u. storing l (joined o i j) u) (h t)
    (λ j u y z. up (length t.nodes) (length u.nodes) (storing l (joined o i j) u) y (joining_ends l o i j u (omega (arith, q, y)) z))))

pub make_ends : (l : LentLists) (e : Expr) (s : Controller) → LeavesAllowed e → Ends (length s.nodes) (make l e s)
unfolding make
make_ends l (constant b) s a = number_ends l b s a
make_ends l (variable w) s a = named_ends l w s a
make_ends l (negated e) s a =
    then (length s.nodes) (make l e s) (λ i t. storing l (M.neg i) t) (make_ends l e s a) (λ i t p q. up (length s.nodes) (length t.nodes) (storing l (M.neg i) t) p (negated_ends l i t q))
make_ends l (linked k x e f) s a = both_end l (join_of k x) e f s (make_ends l e s a.0) (λ t. make_ends l f t a.1)
make_ends l (raised e f) s a = both_end l P.raise e f s (make_ends l e s a.0) (λ t. make_ends l f t a.1)

-- ---- texts have allowed names, and no NaN where none is in their program

atom_leaves : {s r : List ℕ} {e : Expr} → Atom s e r → any_nan (postfix e) ≡ false → LeavesAllowed e
unfolding postfix
atom_leaves (Atom.blank e a) h = atom_leaves a h
atom_leaves (Atom.whole e f l) h = (any_parts _ [] h).0
atom_leaves (Atom.bits e f l) h = (any_parts _ [] h).0
atom_leaves (Atom.name {c} {s} {w} e f l) h = ap (λ (b : Bool). b && leb (suc (length w)) 32) (le-leb 1 (suc (length w)) (omega arith)) ∙ le-leb (suc (length w)) 32 (omega arith)

text_leaves : {l : Level} {s r : List ℕ} {e : Expr} {d : ℕ} → Reads l s e d r → any_nan (postfix e) ≡ false → LeavesAllowed e
unfolding postfix
text_leaves (one h) n = text_leaves h n
text_leaves (next {k} {a = a} {b = b} x h p q) n = let m = both_numbers a b (join_of k x) n in (text_leaves h m.0, text_leaves q m.1)
text_leaves (base h) n = text_leaves h n
text_leaves (raise {a = a} {b = b} h p q) n = let m = both_numbers a b P.raise n in (text_leaves h m.0, text_leaves q m.1)
text_leaves (atom a) n = atom_leaves a n
text_leaves (minus {e = e} p h) n = text_leaves h (any_both (postfix e) _ n).0
text_leaves (bracket p h q) n = text_leaves h n

pub reading_ends : (l : LentLists) (s : List ℕ) (e : Expr) (t : Controller) → Denotes s e → Ends (length t.nodes) (make l e t)
reading_ends l s e t h = make_ends l e t (text_leaves h.text.reads h.numbers)

pub reading_stops : (l : LentLists) (s : List ℕ) (e : Expr) (t : Controller) (number : ℕ) → Denotes s e → (from_made (make l e t)).answer ≡ refused number → StopsReading number
reading_stops l s e t number h = go (make l e t) (reading_ends l s e t h)
  where
    go : (m : Made) → Ends (length t.nodes) m → (from_made m).answer ≡ refused number → StopsReading number
    go (made i u) x q = let z : ◌≡◌ {A = ℕ} 0 1 = cc in absurd (omega arith)
    go (stopped r u) x q = let z : r ≡ number = cc in subst StopsReading z x
