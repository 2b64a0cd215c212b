-- A reading is the list of its name and store calls: its answer is the last one's, stopped or not, and what they leave it leaves.
use Prim.Native.Nat.{ℕ, min}
use mathlib.Core.Path.{◌≡◌, refl, ap, ◌∙◌}
use mathlib.Core.Bool.{Bool, true, false, cond}
use mathlib.Core.Option.{Option, none, some}
use mathlib.Core.List.{List, [], ◌∷◌, ◌++◌}
use lib.ListN.{length}
use lib.Dec.{ltb}
use Rattle.text_language.specs.Grammar.{constant, variable, negated, linked, raised}
use Rattle.text_language.specs.Program.{join_of}
use Rattle.definitions.specs.Refusals.{bad_code, not_a_number, bad_child_count, bad_operand, bad_name_length, no_name_place}
use Rattle.definitions.specs.Node.{Node, nan_constant, child_count_listed}
use Rattle.definitions.specs.Intern.{Lent, Built, intern}
use Rattle.definitions.specs.Intern as Intern
use Rattle.definitions.specs.Names as Names
use Rattle.definitions.specs.Machine as M
use Rattle.definitions.specs.Lists.{LentLists, Controller, controller}
use Rattle.definitions.specs.Making as Making
use Rattle.definitions.specs.Making.{Made, made, stopped, bind, stored_as, named_as, storing, joined, make}
use Rattle.definitions.specs.Controller.{ControllerCall, building, naming, from_store, from_names, AfterCall, from_made, controller_call}
use Rattle.definitions.specs.ReadingCalls.{after_calls, if_answered, reading_calls, ReadsAsCalls}

after_append : (l : LentLists) (r : AfterCall) (cs ds : List ControllerCall) → after_calls l r (cs ++ ds) ≡ after_calls l (after_calls l r cs) ds
unfolding after_calls
after_append l r [] ds = refl
after_append l r (c ∷ cs) ds = after_append l (controller_call l r.left c) cs ds

-- ---- a store call answers an id or a refusal

abbrev BuildAnswers : M.Answer → Type 0
BuildAnswers (M.stored i) = Unit {0}
BuildAnswers (M.simplified i b k) = ⊥
BuildAnswers (M.pruned i k d) = ⊥
BuildAnswers (M.refused r) = Unit {0}

build_answers : (l : Lent) (ns : List Node) (r : M.Request) → BuildAnswers (M.store_call l ns r).answer
unfolding M.store_call
build_answers l ns r = listed r.listed
  where
    n : Node
    n = r.node

    interned : (b : Built) → BuildAnswers (M.stored_as b).answer
    interned (Intern.built ms i) = tt
    interned (Intern.stopped ms k) = tt

    below : (b : Bool) → BuildAnswers (cond b (M.stored_as (intern l ns n)) (M.outcome (M.refused bad_operand) ns)).answer
    below true = interned (intern l ns n)
    below false = tt

    counted : (b : Bool)
        → BuildAnswers (cond b (cond (M.all_below (length ns) n.children) (M.stored_as (intern l ns n)) (M.outcome (M.refused bad_operand) ns)) (M.outcome (M.refused bad_child_count) ns)).answer
    counted true = below (M.all_below (length ns) n.children)
    counted false = tt

    after_count : M.Outcome
    after_count = cond (child_count_listed n.kind n.payload (length n.children)) (cond (M.all_below (length ns) n.children) (M.stored_as (intern l ns n)) (M.outcome (M.refused bad_operand) ns)) (M.outcome (M.refused bad_child_count) ns)

    a_number : (b : Bool) → BuildAnswers (cond b (M.outcome (M.refused not_a_number) ns) after_count).answer
    a_number true = tt
    a_number false = counted (child_count_listed n.kind n.payload (length n.children))

    listed : (b : Bool) → BuildAnswers (cond b (cond (nan_constant n.kind n.payload) (M.outcome (M.refused not_a_number) ns) after_count) (M.outcome (M.refused bad_code) ns)).answer
    listed true = a_number (nan_constant n.kind n.payload)
    listed false = tt

stored_as_lem : (names : List (List ℕ)) (a : M.Answer) (nodes : List Node) → BuildAnswers a
    → record { answer = from_store a; left = controller names nodes } ≡ from_made (stored_as names a nodes)
stored_as_lem names (M.stored i) nodes h = refl
stored_as_lem names (M.simplified i b k) nodes h = absurd h
stored_as_lem names (M.pruned i k d) nodes h = absurd h
stored_as_lem names (M.refused r) nodes h = refl

build : (l : LentLists) (c : M.Store) (r : AfterCall) → after_calls l r (building c ∷ []) ≡ from_made (storing l c r.left)
unfolding after_calls storing controller_call M.call
build l c r =
    let s = r.left in
    let o = M.store_call l.store s.nodes (M.requested c) in
    stored_as_lem s.names o.answer o.nodes (build_answers l.store s.nodes (M.requested c))

-- ---- a name call for a number answers one or a refusal

abbrev InternAnswers : Names.NameAnswer → Type 0
InternAnswers (Names.numbered n) = Unit {0}
InternAnswers Names.unknown = ⊥
InternAnswers (Names.named w) = ⊥
InternAnswers (Names.refused r) = Unit {0}

intern_answers : (lent : ℕ) (names : List (List ℕ)) (w : List ℕ) → InternAnswers (Names.name_call lent names (Names.intern_name w)).answer
unfolding Names.name_call
intern_answers lent names w = allowed (Names.length_allowed w)
  where
    room : (b : Bool)
        → InternAnswers (cond b (Names.answers (Names.numbered (length names)) (names ++ w ∷ [])) (Names.answers (Names.refused no_name_place) names)).answer
    room true = tt
    room false = tt

    found : (o : Option ℕ) → InternAnswers (Names.intern_at lent names w o).answer
    found (some n) = tt
    found none = room (ltb (length names) (min lent Names.most_names))

    allowed : (b : Bool)
        → InternAnswers (cond b (Names.intern_at lent names w (Names.number_from names 0 w)) (Names.answers (Names.refused bad_name_length) names)).answer
    allowed true = found (Names.number_from names 0 w)
    allowed false = tt

-- a name, and just after it its node
name_node : (l : LentLists) (w : List ℕ) (r : AfterCall)
    → after_calls l r (naming (Names.intern_name w) ∷ if_answered (Making.naming l w r.left) (λ n t. building (M.variable n) ∷ []))
    ≡ from_made (bind (Making.naming l w r.left) (λ n t. storing l (M.variable n) t))
unfolding after_calls if_answered bind Making.naming controller_call
name_node l w r =
    let s = r.left in
    let q = Names.name_call l.names s.names (Names.intern_name w) in
    go q.answer q.names (intern_answers l.names s.names w)
  where
    go : (a : Names.NameAnswer) (names : List (List ℕ)) → InternAnswers a
        → after_calls l (record { answer = from_names a; left = controller names r.left.nodes }) (if_answered (named_as r.left.nodes a names) (λ n t. building (M.variable n) ∷ []))
        ≡ from_made (bind (named_as r.left.nodes a names) (λ n t. storing l (M.variable n) t))
    go (Names.numbered n) names h = build l (M.variable n) (record { answer = from_names (Names.numbered n); left = controller names r.left.nodes })
    go Names.unknown names h = absurd h
    go (Names.named v) names h = absurd h
    go (Names.refused k) names h = refl

-- ---- expressions

-- what follows an answer
then : (l : LentLists) (r : AfterCall) (cs : List ControllerCall) (m : Made) (f : ℕ → Controller → Made) (g : ℕ → Controller → List ControllerCall)
    → after_calls l r cs ≡ from_made m → ((i : ℕ) (q : AfterCall) → after_calls l q (g i q.left) ≡ from_made (f i q.left))
    → after_calls l r (cs ++ if_answered m g) ≡ from_made (bind m f)
unfolding if_answered bind after_calls
then l r cs (made i t) f g e h = after_append l r cs (g i t) ∙ ap (λ (x : AfterCall). after_calls l x (g i t)) e ∙ h i (from_made (made i t))
then l r cs (stopped k t) f g e h = after_append l r cs [] ∙ e

pub reads_as_calls : ReadsAsCalls
unfolding reading_calls make
reads_as_calls l (constant b) r = build l (M.constant b) r
reads_as_calls l (variable w) r = name_node l w r
reads_as_calls l (negated a) r =
    then l r (reading_calls l a r.left) (make l a r.left) _ _ (reads_as_calls l a r) (λ i q. build l (M.neg i) q)
reads_as_calls l (linked k x a b) r =
    then l r (reading_calls l a r.left) (make l a r.left) _ _ (reads_as_calls l a r)
    (λ i q. then l q (reading_calls l b q.left) (make l b q.left) _ _ (reads_as_calls l b q) (λ j p. build l (joined (join_of k x) i j) p))
reads_as_calls l (raised a b) r =
    then l r (reading_calls l a r.left) (make l a r.left) _ _ (reads_as_calls l a r)
    (λ i q. then l q (reading_calls l b q.left) (make l b q.left) _ _ (reads_as_calls l b q) (λ j p. build l (M.pow i j) p))
