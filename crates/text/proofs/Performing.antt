-- One token is one name call, one store call, or a name call and then a store call, on sound lists.
use Prim.Native.Nat.{ℕ, zero, suc, ◌-◌, ◌*◌, ◌≤◌, ◌<◌}
use mathlib.Core.Path.{◌≡◌, refl, sym, ap, ◌∙◌, subst}
use mathlib.Core.List.{List, []}
use lib.ListN.{length, drop}
use native.Mathlib.Omega.{arith}
use Rattle.arena.specs.declared.DagArena.{DagArena}
use Rattle.definitions.specs.Node.{Node}
use Rattle.definitions.specs.Names as Registry
use Rattle.definitions.specs.Names.{intern_name, entry_bytes}
use Rattle.definitions.specs.Machine as M
use Rattle.store.specs.declared.NodeAnswer.{NodeAnswer}
use Rattle.store.specs.declared.NodeAnswer.TheVariants.{Id, Refused}
use Rattle.store.specs.Memory.{memory, model, answer_of}
use Rattle.store.specs.View.{nodes_in}
use Rattle.store.proofs.Staying.{stays_refl, stays_trans, kept_stays}
use Rattle.store.proofs.Keeping.{later}
use Rattle.store.proofs.Viewing.{plain_length}
use Rattle.building.specs.Requests.{BuildsSound}
use Rattle.definitions.specs.Beside.{beside}
use Rattle.definitions.specs.Limits.{most_nodes}
use Rattle.definitions.proofs.NameLists.{names_longer}
use Rattle.names.specs.Memory.{name_memory, name_model}
use Rattle.names.specs.declared.NameReply as Named
use Rattle.names.specs.declared.NameReply.TheVariants as named
use Rattle.name_entries.specs.Sound as Names
use Rattle.names.specs.Calls as Calls
use Rattle.names.proofs.Listing.{names_length}
use Rattle.names.proofs.Clauses.{equation_gives_clauses}
use Rattle.text_language.specs.Grammar.{constant, variable, negated, linked, raised}
use Rattle.text_language.specs.Reader.{Got, got, bad, atom_of}
use Rattle.text_language.specs.Program.{Token, number, name, first_operator, token_of, atom_token, operator_token, token_at}
use Rattle.definitions.specs.Making as Plain
use Rattle.definitions.specs.Making.{Controller, controller, LentLists, bind, storing, naming, perform, stored_as, named_as}
use Rattle.text.proofs.Below.{store_below}
use Rattle.text_language.proofs.Tokens.{place_token, kind_token}
use Rattle.text.specs.Memory.{ControllerMemory, controller_memory, BothSound, controller_of, lent_of, Extends}
use Rattle.text.specs.Making.{outcome, FitsId, Makes, operator_call, refusal_of}

-- ---- what is kept

pub extends_refl : (d : ControllerMemory) → BothSound d → Extends d d
extends_refl d h = record { store = stays_refl d.store h.store; names = h.names; count = omega arith; long = refl; past = refl }

pub extends_trans : (d d' d'' : ControllerMemory) → Extends d d' → Extends d' d'' → Extends d d''
extends_trans d d' d'' f g = record {
  store = stays_trans d.store d'.store d''.store f.store g.store;
  names = g.names;
  count = omega (arith, f.count, g.count);
  long = g.long ∙ f.long;
  past = g.past ∙ later d'.names.bytes d.names.bytes (d'.names.count * entry_bytes) (d''.names.count * entry_bytes) (omega (arith, g.count)) f.past;
}

pub sound_after : (d d' : ControllerMemory) → Extends d d' → BothSound d'
sound_after d d' f = record { store = f.store.sound; names = f.names }

pub same_lent_of : (d d' : ControllerMemory) → Extends d d' → lent_of d' ≡ lent_of d
same_lent_of d d' f = ap (λ (n : ℕ). record { store = model.lent d'.store; names = n }) (ap (λ (n : ℕ). Prim.Native.Nat.◌/◌ n entry_bytes) f.long) ∙ ap (λ x. record { store = x; names = Names.lent_entries d.names.bytes }) f.store.same_lent

-- ---- a store call

id_fits : (a : NodeAnswer) (count : ℕ) → count ≤ most_nodes → ((i : ℕ) → answer_of a ≡ M.stored i → i < count) → FitsId a
id_fits (Id i) count c h = let l = h i refl in omega arith
id_fits (Refused r) count c h = tt

stored_is : (names : List (List ℕ)) (a : NodeAnswer) (nodes : List Node) → outcome a (controller names nodes) ≡ stored_as names (answer_of a) nodes
stored_is names (Id i) nodes = refl
stored_is names (Refused r) nodes = refl

pub makes_store : (c : M.Store) (d : ControllerMemory) → BothSound d → (words slots : List ℕ) (a : NodeAnswer) (arena : DagArena) → BuildsSound (M.requested c) d.store (answer_of a) (memory words slots arena)
    → Makes (storing (lent_of d) c (controller_of d)) d a (controller_memory words slots arena d.names.bytes d.names.count)
unfolding storing
makes_store c d h words slots a arena b = record {
  is = stored_is (Names.names_of d.names.bytes d.names.count) a (nodes_in words arena.count) ∙ ap (λ (o : M.Outcome). stored_as (Names.names_of d.names.bytes d.names.count) o.answer o.nodes) b.outcome;
  extends = record { store = kept_stays d.store (memory words slots arena) b.kept; names = h.names; count = omega arith; long = refl; past = refl };
  fits = id_fits a arena.count b.kept.whole.nodes.formed.many (λ i e.
      let l = store_below (model.lent d.store) (model.view d.store).nodes (M.requested c) i (ap (λ (o : M.Outcome). o.answer) (sym b.outcome) ∙ e) in
      let n = ap (λ (o : M.Outcome). length o.nodes) b.outcome in
      let p = plain_length words arena.count in
      omega (arith, l, n, p));
}

-- ---- a name call

-- an answer that is no number
abbrev pub NotNumbered : Named.NameReply → Type 0
NotNumbered (named.Numbered n) = ⊥
NotNumbered named.Unknown = Unit {0}
NotNumbered (named.Named n) = Unit {0}
NotNumbered (named.Refused r) = Unit {0}

module _ (d : ControllerMemory) (h : BothSound d) (w entries : List ℕ) (count : ℕ) (a : Named.NameReply) (long : length entries ≡ length d.names.bytes)
    (c : Calls.NameListCalled d.names.bytes d.names.count (intern_name w) (Calls.answer_of a []) entries count) where
  -- the lists after the name call
  abbrev pub after : ControllerMemory
  after = beside model name_model d.store (name_memory entries count)

  clauses : Calls.CallClauses d.names.bytes d.names.count (intern_name w) (Calls.answer_of a []) entries count
  clauses = equation_gives_clauses d.names.bytes d.names.count (intern_name w) (Calls.answer_of a []) entries count c

  pub name_extends : Extends d after
  name_extends = record {
    store = stays_refl d.store h.store;
    names = clauses.sound h.names;
    count =
        let m = names_longer (Names.lent_entries d.names.bytes) (Names.names_of d.names.bytes d.names.count) (intern_name w) in
        let e = ap (λ (x : List (List ℕ)). length x) (clauses.names h.names) in
        let p = names_length d.names.bytes d.names.count in
        let q = names_length entries count in
        omega (arith, m, e, p, q);
    long = long;
    past = clauses.past;
  }

  naming_is : naming (lent_of d) w (controller_of d) ≡ named_as (model.view d.store).nodes (Calls.answer_of a []) (Names.names_of entries count)
  unfolding naming
  naming_is =
      ap (λ (x : Registry.NameAnswer). named_as (model.view d.store).nodes x (Calls.plainly d.names.bytes d.names.count (intern_name w)).names) (sym (clauses.answered h.names))
      ∙ ap (named_as (model.view d.store).nodes (Calls.answer_of a [])) (sym (clauses.names h.names))

  abbrev on : ℕ → Controller → Plain.Made
  on n t = storing (lent_of d) (M.variable n) t

  perform_is : (first second : ℕ) → perform (lent_of d) (name w) first second (controller_of d) ≡ bind (named_as (model.view d.store).nodes (Calls.answer_of a []) (Names.names_of entries count)) on
  unfolding perform
  perform_is first second = ap (λ (m : Plain.Made). bind m on) naming_is

  -- stopped by 24
  pub makes_unnamed : (first second r : ℕ) → NotNumbered a → r ≡ refusal_of a → Makes (perform (lent_of d) (name w) first second (controller_of d)) d (Refused r) after
  unfolding bind
  makes_unnamed first second r n e = record { is = go a n e ∙ sym (perform_is first second); extends = name_extends; fits = tt }
    where
      go : (x : Named.NameReply) → NotNumbered x → r ≡ refusal_of x → Plain.stopped r (controller_of after) ≡ bind (named_as (model.view d.store).nodes (Calls.answer_of x []) (Names.names_of entries count)) on
      go (named.Numbered n) z e = absurd z
      go named.Unknown z e = ap (λ (k : ℕ). Plain.stopped k (controller_of after)) e
      go (named.Named n) z e = ap (λ (k : ℕ). Plain.stopped k (controller_of after)) e
      go (named.Refused k) z e = ap (λ (k : ℕ). Plain.stopped k (controller_of after)) e

  -- a number, and its node
  pub makes_named : (first second n : ℕ) → a ≡ named.Numbered n → (words slots : List ℕ) (x : NodeAnswer) (arena : DagArena) → BuildsSound (M.requested (M.variable n)) d.store (answer_of x) (memory words slots arena)
      → Makes (perform (lent_of d) (name w) first second (controller_of d)) d x (controller_memory words slots arena entries count)
  unfolding bind
  makes_named first second n e words slots x arena b =
      let m = makes_store (M.variable n) after (sound_after d after name_extends) words slots x arena b in
      record {
        is = m.is ∙ ap (λ (p : LentLists). storing p (M.variable n) (controller_of after)) (same_lent_of d after name_extends)
            ∙ ap (λ (y : Named.NameReply). bind (named_as (model.view d.store).nodes (Calls.answer_of y []) (Names.names_of entries count)) on) (sym e)
            ∙ sym (perform_is first second);
        extends = extends_trans d after (controller_memory words slots arena entries count) name_extends m.extends;
        fits = m.fits;
      }

-- ---- tokens

pub makes_token : (l : LentLists) (t t' : Token) (first second : ℕ) (s : Controller) (d : ControllerMemory) (a : NodeAnswer) (d' : ControllerMemory) → t ≡ t' → Makes (perform l t first second s) d a d' → Makes (perform l t' first second s) d a d'
makes_token l t t' first second s d a d' e m = subst (λ (x : Token). Makes (perform l x first second s) d a d') e m

pub makes_as : (plain plain' : Plain.Made) (d : ControllerMemory) (a : NodeAnswer) (d' : ControllerMemory) → plain ≡ plain' → Makes plain d a d' → Makes plain' d a d'
makes_as plain plain' d a d' e m = subst (λ (x : Plain.Made). Makes x d a d') e m

-- a constant
pub makes_number : (b : ℕ) (d : ControllerMemory) → BothSound d → (words slots : List ℕ) (a : NodeAnswer) (arena : DagArena) → BuildsSound (M.requested (M.constant b)) d.store (answer_of a) (memory words slots arena)
    → Makes (perform (lent_of d) (number b) 0 0 (controller_of d)) d a (controller_memory words slots arena d.names.bytes d.names.count)
unfolding perform
makes_number b d h words slots a arena k = makes_store (M.constant b) d h words slots a arena k

-- a number and a name take none
leaf_any : (l : LentLists) (g : Got) (a b a' b' : ℕ) (s : Controller) → perform l (atom_token g) a b s ≡ perform l (atom_token g) a' b' s
unfolding perform atom_token token_of
leaf_any l (got (constant b) d r) _ _ _ _ s = refl
leaf_any l (got (variable w) d r) _ _ _ _ s = refl
leaf_any l (got (negated e) d r) _ _ _ _ s = refl
leaf_any l (got (linked k x e f) d r) _ _ _ _ s = refl
leaf_any l (got (raised e f) d r) _ _ _ _ s = refl
leaf_any l bad _ _ _ _ s = refl

pub perform_place : (s : List ℕ) (w : ℕ) → w < first_operator → (l : LentLists) (first second : ℕ) (t : Controller) → perform l (atom_token (atom_of (drop w s))) 0 0 t ≡ perform l (token_at s w) first second t
perform_place s w l p first second t = leaf_any p (atom_of (drop w s)) 0 0 first second t ∙ ap (λ (x : Token). perform p x first second t) (sym (place_token s w l))

kind_is : (k first second : ℕ) (l : LentLists) (t : Controller) → storing l (operator_call (operator_token k) first second) t ≡ perform l (operator_token k) first second t
unfolding perform operator_token
kind_is zero first second l t = refl
kind_is (suc zero) first second l t = refl
kind_is (suc (suc zero)) first second l t = refl
kind_is (suc (suc (suc zero))) first second l t = refl
kind_is (suc (suc (suc (suc zero)))) first second l t = refl
kind_is (suc (suc (suc (suc (suc zero))))) first second l t = refl
kind_is (suc (suc (suc (suc (suc (suc zero)))))) first second l t = refl
kind_is (suc (suc (suc (suc (suc (suc (suc k))))))) first second l t = refl

pub perform_kind : (s : List ℕ) (w : ℕ) → first_operator ≤ w → (l : LentLists) (first second : ℕ) (t : Controller) → storing l (operator_call (operator_token (w - first_operator)) first second) t ≡ perform l (token_at s w) first second t
perform_kind s w l p first second t = kind_is (w - first_operator) first second p t ∙ ap (λ (x : Token). perform p x first second t) (sym (kind_token s w l))
