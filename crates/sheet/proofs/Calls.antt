-- A record's call on ids, from the call that was performed.
use Prim.Native.Nat.{ℕ, ◌+◌, ◌*◌, ◌≤◌, ◌<◌, min}
use mathlib.Core.Path.{◌≡◌, refl, sym, ap, ◌∙◌, subst}
use mathlib.Core.Bool.{Bool, cond}
use mathlib.Core.Logic.{◌⊎◌, inl, inr}
use mathlib.Core.List.{List, map}
use lib.ListN.{length, length-map}
use native.Mathlib.Omega.{arith}
use native.Mathlib.Decide.{dec_le}
use borrow.Author.Tests.{le-leb, lt-leb}
use Rattle.definitions.specs.Limits.{most_children}
use Rattle.definitions.specs.Node.{Node, node}
use Rattle.definitions.specs.Machine as M
use Rattle.definitions.specs.Sheet as Sheet
use Rattle.store.specs.Memory.{Memory, model, Leaves}
use Rattle.store.proofs.Viewing.{plain_length}
use Rattle.store_calls.specs.declared.Call.{Call}
use Rattle.store_calls.specs.declared.Call.TheVariants.{Variable, Constant, Operator, Function, Control, Simplify, Prune, PruneBySetting}
use Rattle.store_calls.specs.declared.answers.Answer.{Answer}
use Rattle.store_calls.specs.Calls as Store
use Rattle.store_calls.specs.Calls.{SameOn, SameCall}
use Rattle.store_calls.proofs.Same.{leaves_as, same_equal, same_trans}
use Rattle.definitions.specs.Modes.{mode_of}
use Rattle.definitions.specs.declared.mode.Mode.{Mode}
use Rattle.records.specs.declared.Body.{Body}
use Rattle.records.specs.declared.Body.TheVariants as B
use Rattle.records.specs.Reading.{call_of, operands_from, OperandsInSheet}
use Rattle.records.proofs.Operands.{operands_length}
use Rattle.sheet.specs.declared.performing.RecordRequest.{RecordRequest}
use Rattle.sheet.specs.Running.{id_of, id_below, operands_read, read_of, request, AsksFor, PerformsBody}
use Rattle.sheet.proofs.Clamping.{store_same, simplify_same, prune_same, setting_same, many_same}

-- ---- operands past those that are read

-- the same, or more than a node has children either way
abbrev Alike : List ℕ → List ℕ → Type 0
Alike os os' = (os ≡ os') ⊎ ((most_children < length os) × (most_children < length os'))

abbrev plainly : Memory → M.Request → M.After
plainly m q = M.on_nodes (model.view m) (M.store_call (model.lent m) (model.view m).nodes q)

many_one : (b : Bool) (kind payload flags : ℕ) (c c' : M.Store) (os os' : List ℕ) → M.requested c ≡ M.request b (node kind payload flags os) → M.requested c' ≡ M.request b (node kind payload flags os')
    → most_children < length os → most_children < length os' → SameCall (M.store c) (M.store c')
unfolding M.call
many_one b kind payload flags c c' os os' e e' h k m = record {
  outcome = ap (plainly m) e ∙ ap (M.on_nodes (model.view m)) (many_same (model.lent m) (model.view m).nodes b kind payload flags os os' h k) ∙ sym (ap (plainly m) e');
  changes = λ _. refl;
}

alike_same : (call : Call) (os os' : List ℕ) → Alike os os' → SameCall (Store.call_over call os) (Store.call_over call os')
alike_same call os os' (inl e) = same_equal (Store.call_over call os) (Store.call_over call os') (ap (Store.call_over call) e)
alike_same (Variable symbol) os os' (inr h) = same_equal _ _ refl
alike_same (Constant bits) os os' (inr h) = same_equal _ _ refl
alike_same (Operator code flags own) os os' (inr h) = many_one _ _ _ _ (M.operator code flags os) (M.operator code flags os') os os' refl refl h.0 h.1
alike_same (Function number own) os os' (inr h) = many_one _ _ _ _ (M.function number os) (M.function number os') os os' refl refl h.0 h.1
alike_same (Control code own) os os' (inr h) = many_one _ _ _ _ (M.control code os) (M.control code os') os os' refl refl h.0 h.1
alike_same (Simplify mode root depth budget) os os' (inr h) = same_equal _ _ refl
alike_same (Prune root threshold) os os' (inr h) = same_equal _ _ refl
alike_same (PruneBySetting root setting) os os' (inr h) = same_equal _ _ refl

read_few : (operands : ℕ) → operands ≤ operands_read → read_of operands ≡ operands
read_few operands h = ap (λ (b : Bool). cond b operands operands_read) (le-leb operands operands_read h)

read_many : (operands : ℕ) → operands_read < operands → read_of operands ≡ operands_read
read_many operands h = ap (λ (b : Bool). cond b operands operands_read) (lt-leb operands operands_read h)

pub read_least : (operands : ℕ) → min operands operands_read ≡ read_of operands
read_least operands = go (dec_le operands operands_read)
  where
    go : Dec (operands ≤ operands_read) → min operands operands_read ≡ read_of operands
    go (yes h) = let m : min operands operands_read ≡ operands = omega arith in m ∙ sym (read_few operands h)
    go (no n) = let m : min operands operands_read ≡ operands_read = omega arith in m ∙ sym (read_many operands (omega arith))

-- what is read of operands is at most all of them
read_within : (operands : ℕ) → read_of operands ≤ operands
read_within operands = go (dec_le operands operands_read)
  where
    go : Dec (operands ≤ operands_read) → read_of operands ≤ operands
    go (yes h) = let f = read_few operands h in omega arith
    go (no n) = let f = read_many operands (omega arith) in omega arith

-- and stands in the sheet
pub read_fits : (s : List ℕ) (first operands r : ℕ) → first + operands * 2 ≤ length s → r ≡ read_of operands → first + r * 2 ≤ length s
read_fits s first operands r h e = let w = read_within operands in omega arith

read_alike : (s : List ℕ) (id : ℕ → ℕ) (first operands : ℕ) → Alike (map id (operands_from s first (read_of operands))) (map id (operands_from s first operands))
read_alike s id first operands = go (dec_le operands operands_read)
  where
    long : (n : ℕ) → length (map id (operands_from s first n)) ≡ n
    long n = length-map (operands_from s first n) id ∙ operands_length s first n

    go : Dec (operands ≤ operands_read) → Alike (map id (operands_from s first (read_of operands))) (map id (operands_from s first operands))
    go (yes h) = inl (ap (λ (n : ℕ). map id (operands_from s first n)) (read_few operands h))
    go (no n) = let f = read_many operands (omega arith) in let a = long (read_of operands) in let b = long operands in inr (omega arith, omega arith)

-- ---- ids that no node has

mapped : (f : ℕ → ℕ) (c : M.Store) → M.requested (Sheet.store_on f c) ≡ M.request (M.requested c).listed (node (M.requested c).node.kind (M.requested c).node.payload (M.requested c).node.flags (map f (M.requested c).node.children))
mapped f (M.variable s) = refl
mapped f (M.constant b) = refl
mapped f (M.add a b) = refl
mapped f (M.sub a b) = refl
mapped f (M.mul a b) = refl
mapped f (M.div a b) = refl
mapped f (M.pow a b) = refl
mapped f (M.modulo a b) = refl
mapped f (M.neg a) = refl
mapped f (M.operator o g c) = refl
mapped f (M.function n c) = refl
mapped f (M.select a b c) = refl
mapped f (M.if_else a b c) = refl
mapped f (M.for_loop a b c d) = refl
mapped f (M.control o c) = refl

module _ (m : Memory) (ids : List ℕ) (done : ℕ) where
  abbrev count : ℕ
  count = m.arena.count

  abbrev ns : List Node
  ns = (model.view m).nodes

  counted : length ns ≡ count
  counted = plain_length m.words count

  store_clamped : (c : M.Store) → M.store_call (model.lent m) ns (M.requested (Sheet.store_on (id_below ids done count) c)) ≡ M.store_call (model.lent m) ns (M.requested (Sheet.store_on (id_of ids done count) c))
  store_clamped c =
      let q = M.requested c in
      ap (M.store_call (model.lent m) ns) (mapped (id_below ids done count) c)
      ∙ store_same ids done count (model.lent m) ns counted q.listed q.node.kind q.node.payload q.node.flags q.node.children
      ∙ sym (ap (M.store_call (model.lent m) ns) (mapped (id_of ids done count) c))

  -- brought down to the count, they change no call
  clamped : (c : M.Call) → SameOn m (Sheet.call_on (id_below ids done count) c) (Sheet.call_on (id_of ids done count) c)
  unfolding M.call
  clamped (M.store c) = record { outcome = ap (M.on_nodes (model.view m)) (store_clamped c); changes = λ _. refl }
  clamped (M.simplify mode o depth budget) = record { outcome = simplify_same ids done count (model.lent m) ns counted mode o depth budget; changes = λ _. refl }
  clamped (M.prune o threshold) = record { outcome = prune_same ids done count (model.lent m) ns counted o threshold; changes = λ _. refl }
  clamped (M.prune_by_setting o n) = record { outcome = setting_same ids done count (model.lent m) ns counted o n; changes = λ _. refl }

  -- ---- bodies
  module _ (s : List ℕ) (body : Body) where
    pub body_whole : (q : RecordRequest) → AsksFor s body (id_below ids done count) q → (r : ℕ) → r ≡ read_of q.operands
        → (children : List ℕ) → children ≡ map (id_below ids done count) (operands_from s q.first r) → (a : Answer) (m' : Memory) → Leaves (Store.call_over q.call children) m (Store.answer_of a) m'
        → PerformsBody s body ids done m a m'
    body_whole q asks r e children f a m' k =
        leaves_as m (Store.call_over q.call children) (Sheet.call_on (id_of ids done count) (call_of s body))
        (same_trans m _ _ _ (same_equal _ _ (ap (Store.call_over q.call) (f ∙ ap (λ (n : ℕ). map (id_below ids done count) (operands_from s q.first n)) e)) m)
        (same_trans m _ _ _ (alike_same q.call (map (id_below ids done count) (operands_from s q.first (read_of q.operands))) (map (id_below ids done count) (operands_from s q.first q.operands)) (read_alike s (id_below ids done count) q.first q.operands) m)
        (same_trans m _ _ _ (same_equal _ _ asks.same m) (clamped (call_of s body)))))
        (Store.answer_of a) m' k

-- ---- what a body asks for

module _ (body : Body) (id : ℕ → ℕ) where
  -- a call without operands
  pub asks_alone : (x : Body) → body ≡ x → (s : List ℕ) (call : Call) → Store.call_over call (map id (operands_from s 0 0)) ≡ Sheet.call_on id (call_of s x) → (r : RecordRequest) → r ≡ request call 0 0 → AsksFor s body id r
  asks_alone x e s call u r f =
      subst (AsksFor s body id) (sym f)
      (record { within = omega arith; same = u ∙ ap (λ (b : Body). Sheet.call_on id (call_of s b)) (sym e) })

  module _ (s : List ℕ) (r : RecordRequest) where
    pub asks_simplify : (mode : Mode) (o depth budget root : ℕ) → body ≡ B.Simplify mode o depth budget → root ≡ id o → r ≡ request (Simplify mode root depth budget) 0 0 → AsksFor s body id r
    asks_simplify mode o depth budget root e f t =
        asks_alone (B.Simplify mode o depth budget) e s (Simplify mode root depth budget) (ap (λ (i : ℕ). M.simplify (mode_of mode) i depth budget) f) r t

    pub asks_prune : (o threshold root : ℕ) → body ≡ B.Prune o threshold → root ≡ id o → r ≡ request (Prune root threshold) 0 0 → AsksFor s body id r
    asks_prune o threshold root e f t =
        asks_alone (B.Prune o threshold) e s (Prune root threshold) (ap (λ (i : ℕ). M.prune i threshold) f) r t

  -- a call over operands
  pub asks_over : (x : Body) → body ≡ x → (s : List ℕ) (call : Call) (first operands : ℕ) → OperandsInSheet (length s) body → (OperandsInSheet (length s) x → first + operands * 2 ≤ length s)
      → Store.call_over call (map id (operands_from s first operands)) ≡ Sheet.call_on id (call_of s x) → AsksFor s body id (request call first operands)
  asks_over x e s call first operands w f u = record { within = f (subst (OperandsInSheet (length s)) e w); same = u ∙ ap (λ (b : Body). Sheet.call_on id (call_of s b)) (sym e) }
