-- The walk: rewrite_iterative with rebuild_or_match, one step a turn of the Rust's loop.
use Rattle.std.specs.Prelude.{ℕ, zero, suc, Bool, true, false, ◌&&◌, ◌||◌, cond, List, [], ◌∷◌, length, get_or, take, drop, set, leb, ltb, eqb}
use Rattle.std.proofs.Math.Option.{Option, none, some}
use Rattle.definitions.specs.Node.{Node, node, at, same_children, add_kind, mul_kind, both_flags}
use Rattle.definitions.specs.Intern.{Lent, Built, built, stopped, intern}
use Rattle.definitions.specs.Patterns.{try_apply}
use Rattle.definitions.specs.Strict.{strict_apply}

-- ---- what a finished frame gives

-- "The Rust gives 0" to an Add or Mul of one, three or four children, and 3 to one of two
abbrev pub rebuilt_flags : ℕ → ℕ → ℕ
rebuilt_flags k n = cond ((eqb k add_kind || eqb k mul_kind) && eqb n 2) both_flags 0

-- the node of id i over new children: the pattern's result, i itself where the children are the old ones, or a node anew
abbrev pub rebuilt : Lent → List Node → ℕ → List ℕ → Option Built → Built
rebuilt l ns i c (some m) = m
rebuilt l ns i c none =
    let n = at ns i in
    cond (same_children n.children c) (built ns i) (intern l ns (node n.kind n.payload (rebuilt_flags n.kind (length c)) c))

unfoldable pub rebuild_or_match : Lent → List Node → ℕ → List ℕ → Built
unfolding try_apply intern
rebuild_or_match l ns i c = rebuilt l ns i c (try_apply l ns (at ns i).kind c)

-- with the strict patterns
unfoldable pub rebuild_strictly : Lent → List Node → ℕ → List ℕ → Built
unfolding strict_apply intern
rebuild_strictly l ns i c = rebuilt l ns i c (strict_apply l ns (at ns i).kind c)

-- ---- how a walk goes: which mark it heeds and sets, and how it rebuilds; "A strict walk sets and heeds no marks"
pub data Mode : Type 0 where
  standard : Mode
  strict : Mode

abbrev pub heeds : Mode → Node → Bool
heeds standard n = n.canonical
heeds strict n = false

abbrev pub canonical_after : Mode → Bool → Bool
canonical_after standard b = true
canonical_after strict b = b

abbrev pub marked : Mode → Node → Node
marked m n = record { kind = n.kind; payload = n.payload; flags = n.flags; canonical = canonical_after m n.canonical; children = n.children }

abbrev pub rebuild_as : Mode → Lent → List Node → ℕ → List ℕ → Built
rebuild_as standard l ns i c = rebuild_or_match l ns i c
rebuild_as strict l ns i c = rebuild_strictly l ns i c

-- ---- a turn

-- a node under way: how deep it lies under the root, and how many of its children have been taken
pub record Frame : Type 0 where
  pub id : ℕ
  pub depth : ℕ
  pub cursor : ℕ

abbrev pub frame : ℕ → ℕ → ℕ → Frame
frame i d c = record { id = i; depth = d; cursor = c }

-- what a turn leaves: nodes, frames (the top first) and values (the last first), or a refusal
pub data Turn : Type 0 where
  go : List Node → List Frame → List ℕ → Turn
  stop : List Node → ℕ → Turn

-- "A child that is a leaf or marked is taken unwalked"; a leaf has no children
abbrev pub taken_unwalked : Mode → Node → Bool
taken_unwalked m n = eqb (length n.children) 0 || heeds m n

-- the next child: its id as a value, or a frame for it
unfoldable pub descend : Mode → List Node → Frame → List Frame → List ℕ → Turn
descend m ns f fs vs =
    let c = get_or (at ns f.id).children f.cursor 0 in
    let up = frame f.id f.depth (suc f.cursor) ∷ fs in
    cond (taken_unwalked m (at ns c)) (go ns up (c ∷ vs)) (go ns (frame c (suc f.depth) 0 ∷ up) vs)

abbrev pub reverse_onto : List ℕ → List ℕ → List ℕ
reverse_onto [] acc = acc
reverse_onto (x ∷ xs) acc = reverse_onto xs (x ∷ acc)

-- the result is marked, but by a strict walk, and is the frame's value
abbrev pub finish : Mode → List Frame → List ℕ → Built → Turn
finish m fs vs (built ns i) = go (set ns i (marked m (at ns i))) fs (i ∷ vs)
finish m fs vs (stopped ns r) = stop ns r

-- "A finished frame is rebuilt and its result marked": over the last values, one a child
unfoldable pub ascend : Mode → Lent → List Node → Frame → List Frame → List ℕ → Turn
unfolding rebuild_or_match rebuild_strictly
ascend m l ns f fs vs =
    let n = length (at ns f.id).children in
    finish m fs (drop n vs) (rebuild_as m l ns f.id (reverse_onto (take n vs) []))

-- "A frame at the limit is its own value, unmarked"
unfoldable pub turn : Mode → Lent → ℕ → List Node → Frame → List Frame → List ℕ → Turn
unfolding descend ascend
turn m l limit ns f fs vs =
    cond (leb limit f.depth) (go ns fs (f.id ∷ drop f.cursor vs))
    (cond (ltb f.cursor (length (at ns f.id).children)) (descend m ns f fs vs) (ascend m l ns f fs vs))

-- ---- the whole walk

-- the nodes with the result and the steps; the nodes and the steps of a walk whose budget is used up; or the nodes and a refusal
pub data Walked : Type 0 where
  finished : List Node → ℕ → ℕ → Walked
  spent : List Node → ℕ → Walked
  halted : List Node → ℕ → Walked

-- from a budget and the steps so far: spent "exactly if the budget is used up with frames left"
unfoldable pub walk : Mode → Lent → ℕ → ℕ → ℕ → List Node → List Frame → List ℕ → Walked
unfolding turn
walk m l limit zero k ns [] vs = finished ns (get_or vs 0 0) k
walk m l limit zero k ns (f ∷ fs) vs = spent ns k
walk m l limit (suc b) k ns [] vs = finished ns (get_or vs 0 0) k
walk m l limit (suc b) k ns (f ∷ fs) vs =
    elim (turn m l limit ns f fs vs) [ go ms gs ws ↦ walk m l limit b (suc k) ms gs ws | stop ms r ↦ halted ms r ]

-- "the root is always walked": it has the first frame
unfoldable pub walk_root : Mode → Lent → ℕ → ℕ → List Node → ℕ → Walked
unfolding walk
walk_root m l limit budget ns root = walk m l limit budget 0 ns (frame root 0 0 ∷ []) []
