-- Reading a node's expression with the same store and names gives the same id, and adds nothing.
use Rattle.std.proofs.Common.{◌≡◌, ℕ, zero, suc, ◌+◌, ◌<◌, Bool, true, false, cond, ◌&&◌, T, eqb, leb, List, [], ◌∷◌, length, get_or, sym, refl, ap, ◌∙◌, subst, ap₂, arith, lt-ltb, eqb-true, le-leb, leb-true}
use mathlib.Core.Bool.{false≢true}
use mathlib.Core.Option.{Option, some}
use Rattle.text_language.specs.Grammar.{Expr, is_letter}
use Rattle.text_language.specs.Program.{Join, plus, minus, times, over, raise}
use Rattle.text_language.proofs.Sound.{and_both}
use Rattle.definitions.specs.Node as N
use Rattle.definitions.specs.Intern as I
use Rattle.definitions.specs.Names as Names
use Rattle.definitions.specs.Machine as M
use Rattle.definitions.specs.Making.{LentLists, Controller, controller, Made, made, bind, stored_as, storing, named_as, naming, joined, make}
use Rattle.writer.specs.Expression.{join_kind, join_flags}
use Rattle.definitions.proofs.Intern.{eq_same, T_true, same_children_eq}
use Rattle.arena.specs.declared.DagArena.{DagArena}
use Rattle.arena.specs.Node.{node_at}
use Rattle.store.specs.Sound.{Sound}
use Rattle.store.specs.View.{nodes_in, listed}
use Rattle.store.proofs.Viewing.{plain_length, at_plain, neat_at, same_one}
use Rattle.store.proofs.Reading as R
use Rattle.name_entries.specs.Sound as NameList
use Rattle.names.proofs.Listing.{names_length, names_at, number_found}
use Rattle.expression_text.specs.Proper.{is_name, all_words}
use Rattle.writer.specs.Expression.{join_exprs, symbol_name, is_some, or_any, Standing, a_name, a_number, a_minus, a_pair}
use Rattle.writer.specs.Placing.{KnownText, Writable, expression_at, meant}
use Rattle.writer.proofs.Walking.{stands, at_minus, at_pair, at_name, at_number}
use Rattle.writer.proofs.Joining.{kind_one, two_up, minus_payload, pair_payload}
use Rattle.writer.proofs.Leaves.{name_known}

-- ---- a node that is there is found

find_own : (n : N.Node) (ns : List N.Node) (j i : ℕ) → i < length ns → N.same (N.at ns i) n ≡ true → ((k : ℕ) → k < i → N.same (N.at ns k) n ≡ false) → I.find n ns j ≡ some (j + i)
unfolding I.find
find_own n [] j i l e f = absurd (omega arith)
find_own n (m ∷ ms) j zero l e f = ap (λ (b : Bool). elim b as (λ x. Option ℕ) [ true ↦ some j | false ↦ I.find n ms (suc j) ]) e ∙ ap some (omega arith)
find_own n (m ∷ ms) j (suc i) l e f =
    ap (λ (b : Bool). elim b as (λ x. Option ℕ) [ true ↦ some j | false ↦ I.find n ms (suc j) ]) (f 0 (omega arith))
    ∙ find_own n ms (suc j) i (omega arith) e (λ k h. f (suc k) (omega arith)) ∙ ap some (omega arith)

pub record Like (m n : N.Node) : Type 0 where
  pub kind : m.kind ≡ n.kind
  pub payload : m.payload ≡ n.payload
  pub flags : m.flags ≡ n.flags
  pub children : m.children ≡ n.children

like : (m n : N.Node) → N.same m n ≡ true → Like m n
like m n h =
    let a = and_both (eqb m.kind n.kind) _ h in
    let b = and_both (eqb m.payload n.payload) _ a.1 in
    let c = and_both (eqb m.flags n.flags) _ b.1 in
    record { kind = eqb-true _ _ a.0; payload = eqb-true _ _ b.0; flags = eqb-true _ _ c.0; children = same_children_eq m.children n.children (subst T (sym c.1) tt) }

alike : (m n : N.Node) → Like m n → N.same m n ≡ true
alike m n l = T_true (N.same m n) (eq_same m n l.kind l.payload l.flags l.children)

module _ (w slots : List ℕ) (a : DagArena) (s : Sound w slots a) (es : List ℕ) (named : ℕ) (t : NameList.SoundNames es named) (l : LentLists) where
  abbrev count : ℕ
  count = a.count

  abbrev ns : List N.Node
  ns = nodes_in w count

  abbrev names : List (List ℕ)
  names = NameList.names_of es named

  abbrev S : Controller
  S = controller names ns

  -- no two nodes are one
  apart : (i j : ℕ) → i < count → j < count → N.same (N.at ns i) (N.at ns j) ≡ true → i ≡ j
  apart i j h k e =
      s.nodes.apart i j h k
      (sym (same_one (node_at w i) (node_at w j) (neat_at w count i s.nodes h) (neat_at w count j s.nodes k))
      ∙ ap₂ N.same (sym (at_plain w count i h)) (sym (at_plain w count j k)) ∙ e)

  own : (n : N.Node) (i : ℕ) → i < count → Like (N.at ns i) n → I.intern l.store ns n ≡ I.built ns i
  unfolding I.intern
  own n i h k =
      ap (I.found_or_new l.store ns n)
      (find_own n ns 0 i (omega (arith, plain_length w count)) (alike (N.at ns i) n k) (λ j x. go j x (N.same (N.at ns j) n) refl) ∙ ap some (omega arith))
    where
      go : (j : ℕ) → j < i → (b : Bool) → N.same (N.at ns j) n ≡ b → b ≡ false
      go j x false e = refl
      go j x true e =
          let p = like (N.at ns j) n e in
          let z = apart j i (omega arith) h (alike (N.at ns j) (N.at ns i) (record {
            kind = p.kind ∙ sym k.kind;
            payload = p.payload ∙ sym k.payload;
            flags = p.flags ∙ sym k.flags;
            children = p.children ∙ sym k.children;
          })) in
          absurd (omega arith)

  -- a store call for it answers its id and leaves all
  stored_own : (c : M.Store) (i : ℕ) → i < count → (M.requested c).listed ≡ true → Like (N.at ns i) (M.requested c).node
      → N.child_count_listed (M.requested c).node.kind (M.requested c).node.payload (length (M.requested c).node.children) ≡ true
      → M.all_below (length ns) (M.requested c).node.children ≡ true → storing l c S ≡ made i S
  unfolding storing M.store_call
  stored_own c i h r k f b =
      ap (λ (x : M.Outcome). stored_as names x.answer x.nodes)
      (ap₂ (λ (x n : Bool). cond x (cond n (M.outcome (M.refused 10) ns) (cond (N.child_count_listed (M.requested c).node.kind (M.requested c).node.payload (length (M.requested c).node.children)) (cond (M.all_below (length ns) (M.requested c).node.children) (M.stored_as (I.intern l.store ns (M.requested c).node)) (M.outcome (M.refused 4) ns)) (M.outcome (M.refused 6) ns))) (M.outcome (M.refused 5) ns)) r
      (sym (ap₂ N.nan_constant k.kind k.payload) ∙ R.number_at w slots a s i h)
      ∙ ap (λ (x : Bool). cond x (cond (M.all_below (length ns) (M.requested c).node.children) (M.stored_as (I.intern l.store ns (M.requested c).node)) (M.outcome (M.refused 4) ns)) (M.outcome (M.refused 6) ns)) f
      ∙ ap (λ (x : Bool). cond x (M.stored_as (I.intern l.store ns (M.requested c).node)) (M.outcome (M.refused 4) ns)) b
      ∙ ap M.stored_as (own (M.requested c).node i h k))

  below_one : (x : ℕ) → x < count → M.all_below (length ns) (x ∷ []) ≡ true
  below_one x h = ap (λ (b : Bool). b && true) (lt-ltb x (length ns) (omega (arith, plain_length w count)))

  below_two : (x y : ℕ) → x < count → y < count → M.all_below (length ns) (x ∷ (y ∷ [])) ≡ true
  below_two x y h k =
      ap₂ (λ (b c : Bool). b && (c && true)) (lt-ltb x (length ns) (omega (arith, plain_length w count))) (lt-ltb y (length ns) (omega (arith, plain_length w count)))

  make_joined : (o : Join) (x y : Expr) → make l (join_exprs o x y) S ≡ bind (make l x S) (λ i t. bind (make l y t) (λ j u. storing l (joined o i j) u))
  unfolding make
  make_joined plus x y = refl
  make_joined minus x y = refl
  make_joined times x y = refl
  make_joined over x y = refl
  make_joined raise x y = refl

  pair_own : (o : Join) (i x y : ℕ) → i < count → x < count → y < count → (N.at ns i).kind ≡ join_kind o → (N.at ns i).flags ≡ join_flags o → (N.at ns i).children ≡ x ∷ (y ∷ []) → storing l (joined o x y) S ≡ made i S
  unfolding N.child_count_listed
  pair_own o i x y h hx hy k g c = go o k g
    where
      zero_of : (o : Join) → (N.at ns i).kind ≡ join_kind o → (N.at ns i).payload ≡ 0
      zero_of o k = pair_payload o (N.at ns i).payload (length (N.at ns i).children) (subst (λ (z : ℕ). listed z (N.at ns i).payload (length (N.at ns i).children) ≡ true) k (R.listed_at w slots a s i h))

      go : (o : Join) → (N.at ns i).kind ≡ join_kind o → (N.at ns i).flags ≡ join_flags o → storing l (joined o x y) S ≡ made i S
      go plus k g = stored_own (M.add x y) i h refl (record { kind = k; payload = zero_of plus k; flags = g; children = c }) refl (below_two x y hx hy)
      go minus k g = stored_own (M.sub x y) i h refl (record { kind = k; payload = zero_of minus k; flags = g; children = c }) refl (below_two x y hx hy)
      go times k g = stored_own (M.mul x y) i h refl (record { kind = k; payload = zero_of times k; flags = g; children = c }) refl (below_two x y hx hy)
      go over k g = stored_own (M.div x y) i h refl (record { kind = k; payload = zero_of over k; flags = g; children = c }) refl (below_two x y hx hy)
      go raise k g = stored_own (M.pow x y) i h refl (record { kind = k; payload = zero_of raise k; flags = g; children = c }) refl (below_two x y hx hy)

  -- a known name keeps its number
  allowed : (v : List ℕ) → is_name v ≡ true → Names.length_allowed v ≡ true
  unfolding is_name
  allowed [] h = absurd (false≢true h)
  allowed (c ∷ v) h =
      let p = and_both (is_letter c) (all_words v && leb (length v) 31) h in
      let q = and_both (all_words v) (leb (length v) 31) p.1 in
      let z = leb-true (length v) 31 q.1 in
      ap₂ (λ (x y : Bool). x && y) (le-leb 1 (suc (length v)) (omega arith)) (le-leb (suc (length v)) 32 (omega arith))

  number_own : (p : ℕ) → is_name (symbol_name names p) ≡ true → Names.number_from names 0 (symbol_name names p) ≡ some p
  number_own p h =
      let k = name_known es named t p h in
      number_found names 0 p (symbol_name names p) (omega (arith, names_length es named)) refl
      (λ j x q. let z = t.once j p (omega arith) k (sym (names_at es named j (omega arith)) ∙ q ∙ names_at es named p k) in omega arith)
      ∙ ap some (omega arith)

  name_own : (p : ℕ) → is_name (symbol_name names p) ≡ true → naming l (symbol_name names p) S ≡ made p S
  unfolding naming Names.name_call
  name_own p h =
      ap (λ (x : Names.NameResult). named_as ns x.answer x.names)
      (ap (λ (b : Bool). cond b (Names.intern_at l.names names (symbol_name names p) (Names.number_from names 0 (symbol_name names p))) (Names.answers (Names.refused 9) names)) (allowed (symbol_name names p) h)
      ∙ ap (Names.intern_at l.names names (symbol_name names p)) (number_own p h))

  known : KnownText w count es named
  known = record { nodes = s.nodes; names = t }

  -- by rising id
  back : (n i : ℕ) → i < n → i < count → is_some (expression_at w count es named i) ≡ true → make l (meant w count es named i) S ≡ made i S
  unfolding make bind N.child_count_listed
  back zero i z h v = absurd (omega arith)
  back (suc n) i z h v = go (λ j x y u. back n j x y u) (stands w count es named i here)
    where
      here : Writable w count es named i
      here = record { known = known; below = h; has = v }

      go : ((j : ℕ) → j < n → j < count → is_some (expression_at w count es named j) ≡ true → make l (meant w count es named j) S ≡ made j S) → Standing names (N.at ns i) → make l (meant w count es named i) S ≡ made i S
      go rec (a_name k g c x) =
          let e = at_name w count es named i here k in
          ap (λ (y : Expr). make l y S) e.0
          ∙ ap (λ (y : Made). bind y (λ j u. storing l (M.variable j) u)) (name_own (N.at ns i).payload x)
          ∙ stored_own (M.variable (N.at ns i).payload) i h refl (record { kind = k; payload = refl; flags = g; children = c }) refl refl
      go rec (a_number k g c q) =
          ap (λ (y : Expr). make l y S) (at_number w count es named i here k)
          ∙ stored_own (M.constant (N.at ns i).payload) i h refl (record { kind = k; payload = refl; flags = g; children = c }) refl refl
      go rec (a_minus x k g c) =
          let m = at_minus w count es named i here k in
          let q : get_or (N.at ns i).children 0 0 ≡ x = ap (λ (y : List ℕ). get_or y 0 0) c in
          let lo = m.low in
          ap (λ (y : Expr). make l y S) m.is
          ∙ ap (λ (y : Made). bind y (λ j u. storing l (M.neg j) u)) (rec (get_or (N.at ns i).children 0 0) (omega arith) m.operand.below m.operand.has)
          ∙ stored_own (M.neg (get_or (N.at ns i).children 0 0)) i h refl
          (record {
            kind = k;
            payload = minus_payload (N.at ns i).payload (length (N.at ns i).children) (subst (λ (y : ℕ). listed y (N.at ns i).payload (length (N.at ns i).children) ≡ true) k (R.listed_at w slots a s i h));
            flags = g;
            children = c ∙ ap (λ (y : ℕ). y ∷ []) (sym q);
          })
          refl (below_one (get_or (N.at ns i).children 0 0) m.operand.below)
      go rec (a_pair o x y k g c) =
          let m = at_pair w count es named i here (two_up o k).0 (two_up o k).1 in
          let q : get_or (N.at ns i).children 0 0 ≡ x = ap (λ (u : List ℕ). get_or u 0 0) c in
          let q' : get_or (N.at ns i).children 1 0 ≡ y = ap (λ (u : List ℕ). get_or u 1 0) c in
          let lo = m.first_low in
          let lo' = m.second_low in
          ap (λ (u : Expr). make l u S) m.is
          ∙ make_joined m.join (meant w count es named (get_or (N.at ns i).children 0 0)) (meant w count es named (get_or (N.at ns i).children 1 0))
          ∙ ap (λ (u : Made). bind u (λ j t. bind (make l (meant w count es named (get_or (N.at ns i).children 1 0)) t) (λ d u. storing l (joined m.join j d) u)))
          (rec (get_or (N.at ns i).children 0 0) (omega arith) m.first.below m.first.has)
          ∙ ap (λ (u : Made). bind u (λ d u. storing l (joined m.join (get_or (N.at ns i).children 0 0) d) u))
          (rec (get_or (N.at ns i).children 1 0) (omega arith) m.second.below m.second.has)
          ∙ pair_own m.join i (get_or (N.at ns i).children 0 0) (get_or (N.at ns i).children 1 0) h m.first.below m.second.below m.kind
          (g ∙ ap join_flags (kind_one o m.join (sym k ∙ m.kind))) (c ∙ ap₂ (λ (u v : ℕ). u ∷ (v ∷ [])) (sym q) (sym q'))

  -- reading a node's expression gives its id, and leaves names and nodes as they are
  pub reads_back : (i : ℕ) → i < count → (e : Expr) → expression_at w count es named i ≡ some e → make l e S ≡ made i S
  reads_back i h e q = ap (λ (x : Option Expr). make l (or_any x) S) (sym q) ∙ back (suc i) i (omega arith) h (ap is_some q)
