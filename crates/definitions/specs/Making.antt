-- The plain machine's reading of an expression: a fold of name calls and store calls, operands first, left before right, each name just
-- before its node. Stopped by 24, 21 or 22 it keeps the names and nodes made before.
use Rattle.std.specs.Prelude.{ℕ, zero, suc, Bool, List, [], ◌∷◌, get_or, drop}
use Rattle.definitions.specs.Node.{Node}
pub use Rattle.definitions.specs.Lists.{LentLists, Controller, controller}
use Rattle.definitions.specs.Names as Names
use Rattle.definitions.specs.Machine as M
use Rattle.text_language.specs.Grammar.{Expr, constant, variable, negated, linked, raised}
use Rattle.text_language.specs.Program.{Join, plus, minus, times, over, raise, Token, number, name, negate, join, join_of, operands}

-- an id or a name's number, or the refusal that stopped it; and what is left then
pub data Made : Type 0 where
  made : ℕ → Controller → Made
  stopped : ℕ → Controller → Made

unfoldable pub bind : Made → (ℕ → Controller → Made) → Made
bind (made i s) f = f i s
bind (stopped r s) f = stopped r s

-- a store call answers an id or a refusal: the other two answers are other calls'
abbrev pub stored_as : List (List ℕ) → M.Answer → List Node → Made
stored_as names (M.stored i) nodes = made i (controller names nodes)
stored_as names (M.simplified i spent steps) nodes = stopped 0 (controller names nodes)
stored_as names (M.pruned i kept dropped) nodes = stopped 0 (controller names nodes)
stored_as names (M.refused r) nodes = stopped r (controller names nodes)

unfoldable pub storing : LentLists → M.Store → Controller → Made
unfolding M.store_call
storing l c s = let o = M.store_call l.store s.nodes (M.requested c) in stored_as s.names o.answer o.nodes

-- a name call for a number answers one, or a refusal
abbrev pub named_as : List Node → Names.NameAnswer → List (List ℕ) → Made
named_as nodes (Names.numbered n) names = made n (controller names nodes)
named_as nodes Names.unknown names = stopped 0 (controller names nodes)
named_as nodes (Names.named w) names = stopped 0 (controller names nodes)
named_as nodes (Names.refused r) names = stopped r (controller names nodes)

unfoldable pub naming : LentLists → List ℕ → Controller → Made
unfolding Names.name_call
naming l w s = let r = Names.name_call l.names s.names (Names.intern_name w) in named_as s.nodes r.answer r.names

abbrev pub joined : Join → ℕ → ℕ → M.Store
joined plus i j = M.add i j
joined minus i j = M.sub i j
joined times i j = M.mul i j
joined over i j = M.div i j
joined raise i j = M.pow i j

-- the reading of an expression
unfoldable pub make : LentLists → Expr → Controller → Made
unfolding bind storing naming
make l (constant b) s = storing l (M.constant b) s
make l (variable w) s = bind (naming l w s) (λ n t. storing l (M.variable n) t)
make l (negated a) s = bind (make l a s) (λ i t. storing l (M.neg i) t)
make l (linked k x a b) s = bind (make l a s) (λ i t. bind (make l b t) (λ j u. storing l (joined (join_of k x) i j) u))
make l (raised a b) s = bind (make l a s) (λ i t. bind (make l b t) (λ j u. storing l (M.pow i j) u))

-- ---- the same over a program, with a stack of results, the last first

unfoldable pub perform : LentLists → Token → ℕ → ℕ → Controller → Made
unfolding bind storing naming
perform l (number b) first second s = storing l (M.constant b) s
perform l (name w) first second s = bind (naming l w s) (λ n t. storing l (M.variable n) t)
perform l negate first second s = storing l (M.neg first) s
perform l (join o) first second s = storing l (joined o second first) s

unfoldable pub run : LentLists → List Token → List ℕ → Controller → Made
unfolding bind perform
run l [] stack s = made (get_or stack 0 0) s
run l (t ∷ ts) stack s = bind (perform l t (get_or stack 0 0) (get_or stack 1 0) s) (λ i u. run l ts (i ∷ drop (operands t) stack) u)
