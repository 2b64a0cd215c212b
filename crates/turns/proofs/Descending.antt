-- The next child of the top frame.
use Prim.Native.Nat.{ℕ, suc, ◌+◌, ◌-◌, ◌≤◌, ◌<◌}
use mathlib.Core.Path.{◌≡◌, sym, ap, ap₂, ◌∙◌, subst}
use mathlib.Core.Bool.{Bool, true, false, cond, ◌||◌}
use mathlib.Core.List.{List, ◌∷◌}
use lib.ListN.{length, get_or, set, length-set}
use native.Mathlib.Omega.{arith}
use native.Mathlib.Numerals.{add-one}
use borrow.Author.Tests.{eq-eqb, ne_eqb}
use Rattle.definitions.specs.Limits.{most_children, most_nodes}
use Rattle.definitions.specs.Node.{Node, at}
use Rattle.definitions.specs.Walk as W
use Rattle.definitions.specs.Walk.{Mode, standard, strict, heeds, Frame, frame, Turn, go, taken_unwalked}
use Rattle.store.specs.View.{nodes_in}
use Rattle.store.specs.Lookup.{Lookup}
use Rattle.arena.specs.Nodes.{Nodes}
use Rattle.store.proofs.Reading as R
use Rattle.store.proofs.Viewing.{plain_length}
use Rattle.turns.specs.Stack.{Stack, framed, frames_of, values_of, frames_in, values_in, top_id, top_taken, top_frame, frames_under, counted, pushed, given, Valid}
use Rattle.turns.specs.Turns.{Descendable, Descends}
use Rattle.turns.proofs.Stacks as S

-- ---- the test

module _ (mode : Mode) (n : Node) where
  pub leaf : length n.children ≡ 0 → true ≡ taken_unwalked mode n
  leaf e = sym (ap (λ (b : Bool). b || heeds mode n) (eq-eqb (length n.children) 0 e))

  module _ (h : length n.children ≡ 0 → ⊥) where
    heeded : (b : Bool) → b ≡ heeds mode n → b ≡ taken_unwalked mode n
    heeded b e = e ∙ sym (ap (λ (x : Bool). x || heeds mode n) (ne_eqb (length n.children) 0 h))

    pub mark_heeded : mode ≡ standard → (b : Bool) → b ≡ n.canonical → b ≡ taken_unwalked mode n
    mark_heeded q b e = heeded b (e ∙ ap (λ (m : Mode). heeds m n) (sym q))

    pub mark_unheeded : mode ≡ strict → false ≡ taken_unwalked mode n
    mark_unheeded q = heeded false (ap (λ (m : Mode). heeds m n) (sym q))

-- ---- the frames of a stack

pub frames_are : (k : Stack) → 1 ≤ k.depth → frames_in k ≡ top_frame k ∷ frames_under k
frames_are k some = ap (frames_of k.frames) (let e : k.depth ≡ suc (k.depth - 1) = omega arith in e)

module _ (w : List ℕ) (count : ℕ) (k : Stack) (sound : Nodes w count) (d : Descendable w count k) where
  abbrev ns : List Node
  ns = nodes_in w count

  abbrev top : ℕ
  top = k.depth - 1

  abbrev cursor : ℕ
  cursor = top_taken k

  valid : Valid ns (top_frame k ∷ frames_under k) (values_in k)
  valid = subst (λ (fs : List Frame). Valid ns fs (values_in k)) (frames_are k d.some) d.valid

  pub below : top_id k < count
  below = omega (arith, valid.0, plain_length w count)

  may_read : Lookup w count (top_id k)
  may_read = record { below = below; nodes = sound }

  pub little : top_taken k < most_children
  little = omega (arith, d.more, R.few w count (top_id k) may_read)

  module _ (child : ℕ) (e : child ≡ get_or (at (nodes_in w count) (top_id k)).children (top_taken k) 0) where
    pub child_below : child < count
    child_below = omega (arith, e, below, R.child_low w count (top_id k) may_read cursor d.more)

    -- a value holds it
    pub child_small : child < most_nodes
    child_small = omega (arith, child_below, sound.formed.many)

    abbrev up : List Frame
    up = frame (top_id k) top (suc cursor) ∷ frames_under k

    descend_is : (mode : Mode) → W.descend mode ns (top_frame k) (frames_under k) (values_in k)
        ≡ cond (taken_unwalked mode (at ns child)) (go ns up (child ∷ values_in k)) (go ns (frame child (suc top) 0 ∷ up) (values_in k))
    unfolding W.descend
    descend_is mode = ap (λ (x : ℕ). cond (taken_unwalked mode (at ns x)) (go ns up (x ∷ values_in k)) (go ns (frame x (suc top) 0 ∷ up) (values_in k))) (sym e)

    frames_up : frames_in (counted k) ≡ up
    frames_up =
        ap (frames_of (counted k).frames) (let f : k.depth ≡ suc top = omega (arith, d.some) in f)
        ∙ S.set_top k.frames top (framed (top_id k) (cursor + 1)) (omega (arith, d.whole.frames, d.room))
        ∙ ap (λ (x : ℕ). frame (top_id k) top x ∷ frames_under k) (add-one cursor)

    module _ (mode : Mode) where
      pub taken : taken_unwalked mode (at (nodes_in w count) child) ≡ true → Descends mode (nodes_in w count) k (given (counted k) child)
      taken t = record {
        plainly = (λ i. go ns (frames_up i) (values i))
            ∙ sym (descend_is mode ∙ ap (λ (b : Bool). cond b (go ns up (child ∷ values_in k)) (go ns (frame child (suc top) 0 ∷ up) (values_in k))) t);
        near = omega arith;
        whole = record { frames = length-set k.frames _ _ ∙ d.whole.frames; values = length-set k.values _ _ ∙ d.whole.values };
        valid = subst (λ (fs : List Frame). Valid ns fs (values_of (set k.values k.filled child) (k.filled + 1))) (sym frames_up) (subst (Valid ns up) (sym values)
            (valid.0, d.more, valid.2, omega (arith, valid.3), (omega (arith, child_below, plain_length w count), valid.4)));
      }
        where
          values : values_of (set k.values k.filled child) (k.filled + 1) ≡ child ∷ values_in k
          values = S.push_value k.values k.filled child (omega (arith, d.free, d.whole.values))

      pub walked : taken_unwalked mode (at (nodes_in w count) child) ≡ false → Descends mode (nodes_in w count) k (pushed (counted k) child)
      walked t = record {
        plainly = ap (λ (fs : List Frame). go ns fs (values_in k)) frames_down
            ∙ sym (descend_is mode ∙ ap (λ (b : Bool). cond b (go ns up (child ∷ values_in k)) (go ns (frame child (suc top) 0 ∷ up) (values_in k))) t);
        near = omega arith;
        whole = record { frames = length-set (counted k).frames _ _ ∙ length-set k.frames _ _ ∙ d.whole.frames; values = d.whole.values };
        valid = subst (λ (fs : List Frame). Valid ns fs (values_in k)) (sym frames_down)
            (omega (arith, child_below, plain_length w count), omega arith, (valid.0, omega arith, d.more, valid.2), omega (arith, valid.3), valid.4);
      }
        where
          frames_down : frames_in (pushed (counted k) child) ≡ frame child (suc top) 0 ∷ up
          frames_down =
              ap (frames_of (pushed (counted k) child).frames) (add-one k.depth)
              ∙ S.set_top (counted k).frames k.depth (framed child 0) (omega (arith, length-set k.frames top (framed (top_id k) (cursor + 1)), d.whole.frames, d.room))
              ∙ ap₂ (λ (x : ℕ) (fs : List Frame). frame child x 0 ∷ fs) (let f : k.depth ≡ suc top = omega (arith, d.some) in f) frames_up
