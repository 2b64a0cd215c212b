-- A reading keeps what every call keeps, and answers the formula of its text's expression.
use Prim.Native.Nat.{ℕ, ◌<◌}
use mathlib.Core.Path.{◌≡◌, refl, sym, ◌∙◌, subst}
use mathlib.Core.Bool.{Bool, true, false}
use mathlib.Core.Option.{some}
use mathlib.Core.List.{List}
use lib.ListN.{length}
use native.Mathlib.Omega.{arith}
use Rattle.text_language.specs.Grammar.{Chain, sums, products, Expr, constant, variable, negated, linked, raised}
use Rattle.text_language.specs.Program as Program
use Rattle.text_language.specs.Program.{Join, join_of}
use Rattle.text_language.specs.Reading.{Verdict, refuses, denotes, Judged}
use Rattle.text_language.proofs.Complete.{one_reading}
use Rattle.definitions.specs.Node.{Node, add_kind, sub_kind, mul_kind, div_kind, pow_kind, both_flags}
use Rattle.definitions.specs.Machine as M
use Rattle.definitions.specs.Names as N
use Rattle.definitions.specs.Making.{LentLists, Controller, controller, Made, made, stopped, bind, stored_as, storing, named_as, naming, joined, make}
use Rattle.definitions.specs.Controller.{stored, from_made, on_text}
use Rattle.definitions.specs.Formula.{Tree, tree, nil, cons, formula}
use Rattle.definitions.specs.Promise.{nth, Spells, number, name, minus, sum, difference, product, quotient, power, ReadTo}
use Rattle.definitions.proofs.Intern.{over}
use Rattle.definitions.proofs.Calls.{Done, StoreSays, builds}
use Rattle.definitions.proofs.NameLists.{NameSays, name_says}
use Rattle.definitions.proofs.Going.{Whole, Goes, whole_after, goes_nowhere, goes_further}

-- ---- what a part of a reading leaves, and what is said of its number

pub data Ends (s : Controller) (A : ℕ → Controller → Type 0) : Made → Type 0 where
  answers : {i : ℕ} {t : Controller} → Goes s t → A i t → Ends s A (made i t)
  stops : {r : ℕ} {t : Controller} → Goes s t → Ends s A (stopped r t)

after : {s t : Controller} {B : ℕ → Controller → Type 0} {m : Made} → Goes s t → Ends t B m → Ends s B m
after g (answers h b) = answers (goes_further g h) b
after g (stops h) = stops (goes_further g h)

then : {s : Controller} {A B : ℕ → Controller → Type 0} {m : Made} (f : ℕ → Controller → Made) → Ends s A m
    → ((i : ℕ) (t : Controller) → Whole t → A i t → Ends t B (f i t)) → Ends s B (bind m f)
unfolding bind
then f (answers {i} {t} g a) h = after g (h i t (whole_after g) a)
then f (stops g) h = stops g

said : {s : Controller} {A B : ℕ → Controller → Type 0} {m : Made} → Ends s A m → ((i : ℕ) (t : Controller) → Goes s t → A i t → B i t) → Ends s B m
said (answers {i} {t} g a) h = answers g (h i t g a)
said (stops g) h = stops g

-- ---- one store call, and one name call

abbrev Stored : Controller → M.Store → ℕ → Controller → Type 0
Stored s c i t = (i < length t.nodes) × (formula t.nodes i ≡ over s.nodes (M.requested c).node)

storing_says : (l : LentLists) (c : M.Store) (s : Controller) → Whole s → Ends s (Stored s c) (storing l c s)
unfolding storing
storing_says l c s w = go o.answer b.says
  where
    o : M.Outcome
    o = M.store_call l.store s.nodes (M.requested c)

    b : Done s.nodes (StoreSays s.nodes (M.requested c).node) o
    b = builds l.store s.nodes (M.requested c) w.nodes

    goes : Goes s (controller s.names o.nodes)
    goes = record { step = b.step; kept = λ i name e. e; listed = w.names }

    go : (a : M.Answer) → StoreSays s.nodes (M.requested c).node o.nodes a → Ends s (Stored s c) (stored_as s.names a o.nodes)
    go (M.stored i) x = answers goes x
    go (M.simplified i spent steps) x = stops goes
    go (M.pruned i kept dropped) x = stops goes
    go (M.refused r) x = stops goes

abbrev Numbered : List ℕ → ℕ → Controller → Type 0
Numbered w n t = nth t.names n ≡ some w

naming_says : (l : LentLists) (w : List ℕ) (s : Controller) → Whole s → Ends s (Numbered w) (naming l w s)
unfolding naming
naming_says l w s h = go r.answer refl
  where
    r : N.NameResult
    r = N.name_call l.names s.names (N.intern_name w)

    says : NameSays s.names (N.intern_name w) r
    says = name_says l.names s.names h.names (N.intern_name w)

    goes : Goes s (controller r.names s.nodes)
    goes = record { step = (goes_nowhere s h).step; kept = says.kept; listed = says.listed }

    go : (a : N.NameAnswer) → r.answer ≡ a → Ends s (Numbered w) (named_as s.nodes a r.names)
    go (N.numbered n) e = answers goes (says.numbers n w refl e)
    go N.unknown e = stops goes
    go (N.named x) e = stops goes
    go (N.refused k) e = stops goes

-- ---- an expression

abbrev Says : Expr → ℕ → Controller → Type 0
Says e i t = (i < length t.nodes) × Spells t.names e (formula t.nodes i)

-- more names keep the numbers
later : {names names' : List (List ℕ)} {e : Expr} {t : Tree} → ((i : ℕ) (w : List ℕ) → nth names i ≡ some w → nth names' i ≡ some w) → Spells names e t → Spells names' e t
later f number = number
later f (name h) = name (f _ _ h)
later f (minus h) = minus (later f h)
later f (sum h k) = sum (later f h) (later f k)
later f (difference h k) = difference (later f h) (later f k)
later f (product h k) = product (later f h) (later f k)
later f (quotient h k) = quotient (later f h) (later f k)
later f (power h k) = power (later f h) (later f k)

-- the kind and "the constructors' flags" of a sign
abbrev join_kind : Join → ℕ
join_kind Program.plus = add_kind
join_kind Program.minus = sub_kind
join_kind Program.times = mul_kind
join_kind Program.over = div_kind
join_kind Program.raise = pow_kind

abbrev join_flags : Join → ℕ
join_flags Program.plus = both_flags
join_flags Program.minus = 0
join_flags Program.times = both_flags
join_flags Program.over = 0
join_flags Program.raise = 0

linked_spells : (k : Chain) (x : Bool) (a b : Expr) (names : List (List ℕ)) (t u : Tree) → Spells names a t → Spells names b u
    → Spells names (linked k x a b) (tree (join_kind (join_of k x)) 0 (join_flags (join_of k x)) (cons t (cons u nil)))
linked_spells sums false a b names t u p q = sum p q
linked_spells sums true a b names t u p q = difference p q
linked_spells products false a b names t u p q = product p q
linked_spells products true a b names t u p q = quotient p q

joined_is : (ns : List Node) (o : Join) (i j : ℕ) → over ns (M.requested (joined o i j)).node ≡ tree (join_kind o) 0 (join_flags o) (cons (formula ns i) (cons (formula ns j) nil))
joined_is ns Program.plus i j = refl
joined_is ns Program.minus i j = refl
joined_is ns Program.times i j = refl
joined_is ns Program.over i j = refl
joined_is ns Program.raise i j = refl

-- two operands, and what joins them
both_say : (l : LentLists) (o : Join) (a b e : Expr) (s : Controller) → Ends s (Says a) (make l a s) → ((t : Controller) → Whole t → Ends t (Says b) (make l b t))
    → ((names : List (List ℕ)) (t u : Tree) → Spells names a t → Spells names b u → Spells names e (tree (join_kind o) 0 (join_flags o) (cons t (cons u nil))))
    → Ends s (Says e) (bind (make l a s) (λ i t. bind (make l b t) (λ j u. storing l (joined o i j) u)))
unfolding bind
both_say l o a b e s ha hb spell =
    then (λ i t. bind (make l b t) (λ j u. storing l (joined o i j) u)) ha
    (λ i t w x. after_left i t x (make l b t) (hb t w))
  where
    after_left : (i : ℕ) (t : Controller) → Says a i t → (m : Made) → Ends t (Says b) m → Ends t (Says e) (bind m (λ j u. storing l (joined o i j) u))
    after_left i t x (stopped r u) (stops g) = stops g
    after_left i t x (made j u) (answers g y) =
        after g
        (said (storing_says l (joined o i j) u (whole_after g))
        (λ k v h z.
        let left : Spells v.names a (formula u.nodes i) = later (λ n q p. h.kept n q (g.kept n q p)) (subst (Spells t.names a) (sym (g.step.kept i x.0)) x.1) in
        (z.0, subst (Spells v.names e) (sym (z.1 ∙ joined_is u.nodes o i j)) (spell _ _ _ left (later h.kept y.1)))))

pub make_says : (l : LentLists) (e : Expr) (s : Controller) → Whole s → Ends s (Says e) (make l e s)
unfolding make
make_says l (constant b) s w = said (storing_says l (M.constant b) s w) (λ i t g x. (x.0, subst (Spells t.names (constant b)) (sym x.1) number))
make_says l (variable b) s w =
    then (λ n t. storing l (M.variable n) t) (naming_says l b s w)
    (λ n t v x. said (storing_says l (M.variable n) t v) (λ i u g y. (y.0, subst (Spells u.names (variable b)) (sym y.1) (name (g.kept n b x)))))
make_says l (negated a) s w =
    then (λ i t. storing l (M.neg i) t) (make_says l a s w)
    (λ i t v x. said (storing_says l (M.neg i) t v) (λ j u g y. (y.0, subst (Spells u.names (negated a)) (sym y.1) (minus (later g.kept x.1)))))
make_says l (linked k x a b) s w = both_say l (join_of k x) a b (linked k x a b) s (make_says l a s w) (make_says l b) (linked_spells k x a b)
make_says l (raised a b) s w = both_say l Program.raise a b (raised a b) s (make_says l a s w) (make_says l b) (λ _ _ _ p q. power p q)

-- ---- a text

pub reading_goes : (l : LentLists) (s : Controller) (v : Verdict) → Whole s → Goes s (on_text l s v).left
reading_goes l s (refuses k) w = goes_nowhere s w
reading_goes l s (denotes e) w = go (make l e s) (make_says l e s w)
  where
    go : (m : Made) → Ends s (Says e) m → Goes s (from_made m).left
    go (made i t) (answers g x) = g
    go (stopped r t) (stops g) = g

pub reading_says : (l : LentLists) (s s' : Controller) (text : List ℕ) (id : ℕ) (v : Verdict) → Whole s → Judged text v
    → (on_text l s v).answer ≡ stored id → (on_text l s v).left ≡ s' → ReadTo text s' id
reading_says l s s' text id (refuses k) w j ea es = let z : ◌≡◌ {A = ℕ} 0 1 = cc in absurd (omega arith)
reading_says l s s' text id (denotes e) w j ea es = go (make l e s) (make_says l e s w) ea es
  where
    go : (m : Made) → Ends s (Says e) m → (from_made m).answer ≡ stored id → (from_made m).left ≡ s' → ReadTo text s' id
    go (made i t) (answers g x) fa fs =
        let q : i ≡ id = cc in
        subst (λ y. ReadTo text y id) fs
        (subst (ReadTo text t) q (record { expr = e; denotes = j; one = λ a d h. (one_reading h j.text).0; known = x.0; spells = x.1 }))
    go (stopped r t) (stops g) fa fs = let z : ◌≡◌ {A = ℕ} 0 1 = cc in absurd (omega arith)
