-- A strict walk sets no marks: it leaves each node as it was, and those that it adds are unmarked.
use Prim.Native.Nat.{ℕ, zero, suc}
use mathlib.Core.Path.{◌≡◌, refl, sym, ap, ◌∙◌, subst}
use mathlib.Core.Bool.{Bool, true, false, cond}
use mathlib.Core.List.{List, [], ◌∷◌, ◌++◌, append_assoc, append-nil}
use mathlib.Core.Option.{Option, none, some}
use lib.ListN.{length, set, take, drop}
use lib.Dec.{leb, ltb, eqb}
use Rattle.definitions.specs.Node.{Node, node, at, same_children}
use Rattle.definitions.specs.Intern.{Lent, Built, built, stopped, find, no_place, add_new, found_or_new, intern}
use Rattle.definitions.specs.Patterns.{constant_value, intern_constant, or_else, when, only_child, neg_double, fold, folded, fold_both, constant_fold}
use Rattle.definitions.specs.Strict.{is_constant_of, minus_zero_bits, plus_zero_bits, one_bits, strict_sum, strict_difference, strict_product, strict_quotient, strict_identities, strict_apply}
use Rattle.definitions.specs.Walk.{strict, marked, rebuilt_flags, rebuilt, rebuild_strictly, Frame, frame, Turn, go, stop, finish, reverse_onto, taken_unwalked, descend, ascend, turn, Walked, finished, spent, halted, walk, walk_root}
use Rattle.definitions.specs.Machine.{refused, outcome, walked_as, simplify_call}
use Rattle.definitions.specs.Promise.{All, AddsUnmarked}

-- ---- adding unmarked nodes

adds_none : (ns : List Node) → AddsUnmarked ns ns
adds_none ns = record { new = []; is = sym (append-nil ns); unmarked = tt }

all_append : (P : Node → Type 0) (xs ys : List Node) → All P xs → All P ys → All P (xs ++ ys)
all_append P [] ys a b = b
all_append P (x ∷ xs) ys a b = (a.0, all_append P xs ys a.1 b)

adds_more : {ns ms os : List Node} → AddsUnmarked ns ms → AddsUnmarked ms os → AddsUnmarked ns os
adds_more {ns} {ms} {os} p q = record {
  new = p.new ++ q.new;
  is = q.is ∙ ap (λ (x : List Node). x ++ q.new) p.is ∙ append_assoc ns p.new q.new;
  unmarked = all_append (λ (n : Node). n.canonical ≡ false) p.new q.new p.unmarked q.unmarked;
}

abbrev BuiltAdds : List Node → Built → Type 0
BuiltAdds ns (built ms i) = AddsUnmarked ns ms
BuiltAdds ns (stopped ms r) = AddsUnmarked ns ms

abbrev OptionAdds : List Node → Option Built → Type 0
OptionAdds ns none = Unit {0}
OptionAdds ns (some m) = BuiltAdds ns m

interned_adds : (l : Lent) (ns : List Node) (n : Node) → n.canonical ≡ false → BuiltAdds ns (intern l ns n)
unfolding intern
interned_adds l ns n u = found (find n ns 0)
  where
    new : (o : Option ℕ) → BuiltAdds ns (add_new ns n o)
    new none = record { new = n ∷ []; is = refl; unmarked = (u, tt) }
    new (some r) = adds_none ns

    found : (o : Option ℕ) → BuiltAdds ns (found_or_new l ns n o)
    found none = new (no_place l (length ns))
    found (some i) = adds_none ns

constant_adds : (l : Lent) (ns : List Node) (z : lib.Ieee.Float) → BuiltAdds ns (intern_constant l ns z)
unfolding intern_constant
constant_adds l ns z = interned_adds l ns _ refl

-- ---- the strict patterns

when_adds : (ns : List Node) (b : Bool) (i : ℕ) → OptionAdds ns (when b (built ns i))
when_adds ns true i = adds_none ns
when_adds ns false i = tt

or_adds : (ns : List Node) (x y : Option Built) → OptionAdds ns x → OptionAdds ns y → OptionAdds ns (or_else x y)
or_adds ns none y a b = b
or_adds ns (some m) y a b = a

cond_adds : (ns : List Node) (b : Bool) (x y : Option Built) → OptionAdds ns x → OptionAdds ns y → OptionAdds ns (cond b x y)
cond_adds ns true x y a b = a
cond_adds ns false x y a b = b

module _ (l : Lent) (ns : List Node) where
  sum_adds : (a b : ℕ) → OptionAdds ns (strict_sum ns a b)
  unfolding strict_sum
  sum_adds a b =
      or_adds ns (when (is_constant_of minus_zero_bits (at ns b)) (built ns a)) (when (is_constant_of minus_zero_bits (at ns a)) (built ns b))
      (when_adds ns (is_constant_of minus_zero_bits (at ns b)) a) (when_adds ns (is_constant_of minus_zero_bits (at ns a)) b)

  difference_adds : (a b : ℕ) → OptionAdds ns (strict_difference ns a b)
  unfolding strict_difference
  difference_adds a b = when_adds ns (is_constant_of plus_zero_bits (at ns b)) a

  product_adds : (a b : ℕ) → OptionAdds ns (strict_product ns a b)
  unfolding strict_product
  product_adds a b =
      or_adds ns (when (is_constant_of one_bits (at ns a)) (built ns b)) (when (is_constant_of one_bits (at ns b)) (built ns a))
      (when_adds ns (is_constant_of one_bits (at ns a)) b) (when_adds ns (is_constant_of one_bits (at ns b)) a)

  quotient_adds : (a b : ℕ) → OptionAdds ns (strict_quotient ns a b)
  unfolding strict_quotient
  quotient_adds a b = when_adds ns (is_constant_of one_bits (at ns b)) a

  identities_add : (k a b : ℕ) → OptionAdds ns (strict_identities ns k a b)
  unfolding strict_identities
  identities_add k a b =
      cond_adds ns (eqb k 2) (strict_sum ns a b) (cond (eqb k 3) (strict_difference ns a b) (cond (eqb k 4) (strict_product ns a b) (cond (eqb k 5) (strict_quotient ns a b) none))) (sum_adds a b)
      (cond_adds ns (eqb k 3) (strict_difference ns a b) (cond (eqb k 4) (strict_product ns a b) (cond (eqb k 5) (strict_quotient ns a b) none)) (difference_adds a b)
      (cond_adds ns (eqb k 4) (strict_product ns a b) (cond (eqb k 5) (strict_quotient ns a b) none) (product_adds a b)
      (cond_adds ns (eqb k 5) (strict_quotient ns a b) none (quotient_adds a b) tt)))

  folded_adds : (o : Option lib.Ieee.Float) → OptionAdds ns (folded l ns o)
  folded_adds none = tt
  folded_adds (some z) = constant_adds l ns z

  both_add : (k : ℕ) (x y : Option lib.Ieee.Float) → OptionAdds ns (fold_both l ns k x y)
  both_add k none y = tt
  both_add k (some x) none = tt
  both_add k (some x) (some y) = folded_adds (fold k x y)

  fold_adds : (k a b : ℕ) → OptionAdds ns (constant_fold l ns k a b)
  unfolding constant_fold
  fold_adds k a b = both_add k (constant_value (at ns a)) (constant_value (at ns b))

  only_adds : (ks : List ℕ) → OptionAdds ns (only_child ns ks)
  only_adds [] = tt
  only_adds (c ∷ []) = adds_none ns
  only_adds (c ∷ d ∷ r) = tt

  apply_adds : (k : ℕ) (vs : List ℕ) → OptionAdds ns (strict_apply l ns k vs)
  unfolding strict_apply
  apply_adds k [] = tt
  apply_adds k (a ∷ []) = cond_adds ns (eqb k 8) _ none (cond_adds ns (eqb (at ns a).kind 8) _ none (only_adds (at ns a).children) tt) tt
  apply_adds k (a ∷ b ∷ []) = or_adds ns (strict_identities ns k a b) (constant_fold l ns k a b) (identities_add k a b) (fold_adds k a b)
  apply_adds k (a ∷ b ∷ c ∷ r) = tt

  rebuild_adds : (i : ℕ) (vs : List ℕ) → BuiltAdds ns (rebuild_strictly l ns i vs)
  unfolding rebuild_strictly
  rebuild_adds i vs = by (strict_apply l ns (at ns i).kind vs) (apply_adds (at ns i).kind vs)
    where
      n : Node
      n = at ns i

      pick : (b : Bool) → BuiltAdds ns (cond b (built ns i) (intern l ns (node n.kind n.payload (rebuilt_flags n.kind (length vs)) vs)))
      pick true = adds_none ns
      pick false = interned_adds l ns (node n.kind n.payload (rebuilt_flags n.kind (length vs)) vs) refl

      by : (o : Option Built) → OptionAdds ns o → BuiltAdds ns (rebuilt l ns i vs o)
      by none x = pick (same_children n.children vs)
      by (some m) x = x

-- ---- the walk

-- a strict walk's mark is none
pub unmarked_set : (ns : List Node) (i : ℕ) → set ns i (marked strict (at ns i)) ≡ ns
unmarked_set [] i = refl
unmarked_set (n ∷ ns) zero = refl
unmarked_set (n ∷ ns) (suc i) = ap (λ (x : List Node). n ∷ x) (unmarked_set ns i)

abbrev TurnAdds : List Node → Turn → Type 0
TurnAdds ns (go ms fs vs) = AddsUnmarked ns ms
TurnAdds ns (stop ms r) = AddsUnmarked ns ms

finish_adds : (ns : List Node) (fs : List Frame) (vs : List ℕ) (m : Built) → BuiltAdds ns m → TurnAdds ns (finish strict fs vs m)
finish_adds ns fs vs (built ms i) x = subst (AddsUnmarked ns) (sym (unmarked_set ms i)) x
finish_adds ns fs vs (stopped ms r) x = x

module _ (l : Lent) where
  turn_adds : (limit : ℕ) (ns : List Node) (f : Frame) (fs : List Frame) (vs : List ℕ) → TurnAdds ns (turn strict l limit ns f fs vs)
  unfolding turn descend ascend
  turn_adds limit ns f fs vs = by (leb limit f.depth) (ltb f.cursor arity) (taken_unwalked strict (at ns child))
    where
      arity : ℕ
      arity = length (at ns f.id).children

      child : ℕ
      child = lib.ListN.get_or (at ns f.id).children f.cursor 0

      up : List Frame
      up = frame f.id f.depth (suc f.cursor) ∷ fs

      by : (a b c : Bool)
          → TurnAdds ns (cond a (go ns fs (f.id ∷ drop f.cursor vs)) (cond b (cond c (go ns up (child ∷ vs)) (go ns (frame child (suc f.depth) 0 ∷ up) vs))
          (finish strict fs (drop arity vs) (rebuild_strictly l ns f.id (reverse_onto (take arity vs) [])))))
      by true b c = adds_none ns
      by false true true = adds_none ns
      by false true false = adds_none ns
      by false false c = finish_adds ns fs (drop arity vs) (rebuild_strictly l ns f.id (reverse_onto (take arity vs) [])) (rebuild_adds l ns f.id (reverse_onto (take arity vs) []))

  abbrev WalkAdds : List Node → Walked → Type 0
  WalkAdds ns (finished ms v k) = AddsUnmarked ns ms
  WalkAdds ns (spent ms k) = AddsUnmarked ns ms
  WalkAdds ns (halted ms r) = AddsUnmarked ns ms

  further : {ns ms : List Node} → AddsUnmarked ns ms → (w : Walked) → WalkAdds ms w → WalkAdds ns w
  further p (finished os v k) x = adds_more p x
  further p (spent os k) x = adds_more p x
  further p (halted os r) x = adds_more p x

  walk_adds : (limit b k : ℕ) (ns : List Node) (fs : List Frame) (vs : List ℕ) → WalkAdds ns (walk strict l limit b k ns fs vs)
  unfolding walk
  walk_adds limit zero k ns [] vs = adds_none ns
  walk_adds limit zero k ns (f ∷ fs) vs = adds_none ns
  walk_adds limit (suc b) k ns [] vs = adds_none ns
  walk_adds limit (suc b) k ns (f ∷ fs) vs = by (turn strict l limit ns f fs vs) (turn_adds limit ns f fs vs) (λ ms gs ws. walk_adds limit b (suc k) ms gs ws)
    where
      by : (t : Turn) → TurnAdds ns t → ((ms : List Node) (gs : List Frame) (ws : List ℕ) → WalkAdds ms (walk strict l limit b (suc k) ms gs ws))
          → WalkAdds ns (elim t [ go ms gs ws ↦ walk strict l limit b (suc k) ms gs ws | stop ms r ↦ halted ms r ])
      by (go ms gs ws) x rec = further x (walk strict l limit b (suc k) ms gs ws) (rec ms gs ws)
      by (stop ms r) x rec = x

  -- a strict walk with any arguments, whatever it answers
  pub strict_adds : (ns : List Node) (i d b : ℕ) → AddsUnmarked ns (simplify_call strict l ns i d b).nodes
  unfolding simplify_call walk_root
  strict_adds ns i d b = by (leb d 255) (ltb i (length ns)) (walk_root strict l d b ns i) (walk_adds d b 0 ns (frame i 0 0 ∷ []) [])
    where
      walked : (w : Walked) → WalkAdds ns w → AddsUnmarked ns (walked_as i w).nodes
      walked (finished ms j k) x = x
      walked (spent ms k) x = x
      walked (halted ms r) x = x

      by : (x y : Bool) (w : Walked) → WalkAdds ns w → AddsUnmarked ns (cond x (cond y (walked_as i w) (outcome (refused 4) ns)) (outcome (refused 5) ns)).nodes
      by true true w h = walked w h
      by true false w h = adds_none ns
      by false y w h = adds_none ns
