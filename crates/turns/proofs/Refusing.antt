-- A turn is stopped by 21 or 22 alone.
use Prim.Native.Nat.{ℕ, suc}
use mathlib.Core.Bool.{Bool, true, false, not, ◌&&◌, ◌||◌, cond}
use mathlib.Core.List.{List, [], ◌∷◌}
use mathlib.Core.Option.{Option, none, some}
use lib.ListN.{length, get_or, take, drop}
use lib.Dec.{eqb, leb, ltb}
use lib.Ieee.{Float, binary64, to_bits}
use Rattle.definitions.specs.Node.{Node, node, at, same_children, constant_kind, add_kind, mul_kind}
use Rattle.definitions.specs.Intern.{Lent, Built, built, stopped, intern}
use Rattle.definitions.specs.Patterns as P
use Rattle.definitions.specs.Patterns.{or_else, when, try_apply, constant_value, is_zero, is_one, is_finite, is_positive, zero64, one64, fold, intern_constant, intern_add, intern_mul}
use Rattle.definitions.specs.Strict as S
use Rattle.definitions.specs.Strict.{strict_apply, is_constant_of}
use Rattle.definitions.specs.Walk.{Mode, standard, strict, Frame, frame, Turn, go, stop, turn, descend, ascend, finish, taken_unwalked, rebuilt_flags, rebuilt, rebuild_as, rebuild_or_match, rebuild_strictly, reverse_onto}
use Rattle.definitions.proofs.Stopping.{NoPlace, StopsForPlace, intern_stops, then_stops}

abbrev Fires : Option Built → Type 0
Fires none = Unit {0}
Fires (some m) = StopsForPlace m

-- ---- choices

or_fires : (x y : Option Built) → Fires x → Fires y → Fires (or_else x y)
or_fires none y a b = b
or_fires (some m) y a b = a

when_fires : (b : Bool) (m : Built) → StopsForPlace m → Fires (when b m)
when_fires true m s = s
when_fires false m s = tt

first_fires : (b : Bool) (m : Built) (o : Option Built) → StopsForPlace m → Fires o → Fires (or_else (when b m) o)
first_fires b m o s f = or_fires (when b m) o (when_fires b m s) f

cond_fires : (b : Bool) (x y : Option Built) → Fires x → Fires y → Fires (cond b x y)
cond_fires true x y f g = f
cond_fires false x y f g = g

module _ (l : Lent) where
  -- ---- interning

  interns : (ns : List Node) (n : Node) → StopsForPlace (intern l ns n)
  interns = intern_stops l

  constants : (ns : List Node) (x : Float) → StopsForPlace (intern_constant l ns x)
  unfolding intern_constant
  constants ns x = interns ns (node constant_kind (to_bits binary64 x) 0 [])

  adds : (ns : List Node) (a b : ℕ) → StopsForPlace (intern_add l ns a b)
  unfolding intern_add
  adds ns a b = interns ns (node add_kind 0 3 (a ∷ b ∷ []))

  muls : (ns : List Node) (a b : ℕ) → StopsForPlace (intern_mul l ns a b)
  unfolding intern_mul
  muls ns a b = interns ns (node mul_kind 0 3 (a ∷ b ∷ []))

  -- ---- patterns

  module _ (ns : List Node) (k a b : ℕ) where
    abbrev x : Option Float
    x = constant_value (at ns a)

    abbrev y : Option Float
    y = constant_value (at ns b)

    abbrev zero_node : Built
    zero_node = intern_constant l ns zero64

    abbrev one_node : Built
    one_node = intern_constant l ns one64

    zero_stops : StopsForPlace zero_node
    zero_stops = constants ns zero64

    one_stops : StopsForPlace one_node
    one_stops = constants ns one64

    add_zero : Fires (P.add_zero l ns a b)
    unfolding P.add_zero
    add_zero = first_fires (is_zero x) (built ns b) (when (is_zero y) (built ns a)) tt (when_fires (is_zero y) (built ns a) tt)

    sub_identity_lem : Fires (P.sub_identity l ns a b)
    unfolding P.sub_identity
    sub_identity_lem = first_fires (is_zero y) (built ns a) (when (eqb a b) zero_node) tt (when_fires (eqb a b) zero_node zero_stops)

    mul_identity_lem : Fires (P.mul_identity l ns a b)
    unfolding P.mul_identity
    mul_identity_lem =
        first_fires (is_zero x && is_finite y || is_zero y && is_finite x) zero_node (or_else (when (is_one x) (built ns b)) (when (is_one y) (built ns a))) zero_stops
        (first_fires (is_one x) (built ns b) (when (is_one y) (built ns a)) tt (when_fires (is_one y) (built ns a) tt))

    abbrev same_constant : Bool
    same_constant = eqb a b && (eqb (at ns a).kind 1 && not (is_zero x))

    div_identity_lem : Fires (P.div_identity l ns a b)
    unfolding P.div_identity
    div_identity_lem =
        first_fires (is_one y) (built ns a) (or_else (when (is_zero x) zero_node) (when same_constant one_node)) tt
        (first_fires (is_zero x) zero_node (when same_constant one_node) zero_stops (when_fires same_constant one_node one_stops))

    abbrev zero_power : Option Built
    zero_power = when (is_zero x && is_positive y) zero_node

    pow_identity_lem : Fires (P.pow_identity l ns a b)
    unfolding P.pow_identity
    pow_identity_lem =
        first_fires (is_zero y) one_node (or_else (when (is_one y) (built ns a)) (or_else (when (is_one x) one_node) zero_power)) one_stops
        (first_fires (is_one y) (built ns a) (or_else (when (is_one x) one_node) zero_power) tt
        (first_fires (is_one x) one_node zero_power one_stops (when_fires (is_zero x && is_positive y) zero_node zero_stops)))

    identities : Fires (P.identities l ns k a b)
    unfolding P.identities
    identities = by (eqb k 2) (eqb k 3) (eqb k 4) (eqb k 5) (eqb k 6)
      where
        by : (p q r s t : Bool) → Fires (cond p (P.add_zero l ns a b) (cond q (P.sub_identity l ns a b) (cond r (P.mul_identity l ns a b) (cond s (P.div_identity l ns a b) (cond t (P.pow_identity l ns a b) none)))))
        by true q r s t = add_zero
        by false true r s t = sub_identity_lem
        by false false true s t = mul_identity_lem
        by false false false true t = div_identity_lem
        by false false false false true = pow_identity_lem
        by false false false false false = tt

    folds : (x y : Option Float) → Fires (P.fold_both l ns k x y)
    folds none y = tt
    folds (some x) none = tt
    folds (some x) (some y) = by (fold k x y)
      where
        by : (z : Option Float) → Fires (P.folded l ns z)
        by none = tt
        by (some z) = constants ns z

    constant_fold : Fires (P.constant_fold l ns k a b)
    unfolding P.constant_fold
    constant_fold = folds (constant_value (at ns a)) (constant_value (at ns b))

  mul_left : (ns : List Node) (q : ℕ) (z : Option Float) → Fires (P.mul_left l ns q z)
  mul_left ns q none = tt
  mul_left ns q (some z) = then_stops (intern_constant l ns z) (λ ms i. intern_mul l ms i q) (constants ns z) (λ ms i. muls ms i q)

  mul_right : (ns : List Node) (p : ℕ) (z : Option Float) → Fires (P.mul_right l ns p z)
  mul_right ns p none = tt
  mul_right ns p (some z) = then_stops (intern_constant l ns z) (λ ms i. intern_mul l ms p i) (constants ns z) (λ ms i. muls ms p i)

  add_right : (ns : List Node) (p : ℕ) (z : Option Float) → Fires (P.add_right l ns p z)
  add_right ns p none = tt
  add_right ns p (some z) = then_stops (intern_constant l ns z) (λ ms i. intern_add l ms p i) (constants ns z) (λ ms i. adds ms p i)

  mul_merged_lem : (ns : List Node) (c : Float) (p q : ℕ) (x y : Option Float) → Fires (P.mul_merged l ns c p q x y)
  mul_merged_lem ns c p q (some d) y = mul_left ns q (fold mul_kind d c)
  mul_merged_lem ns c p q none (some d) = mul_right ns p (fold mul_kind d c)
  mul_merged_lem ns c p q none none = tt

  add_merged_lem : (ns : List Node) (c : Float) (p q : ℕ) (x y : Option Float) → Fires (P.add_merged l ns c p q x y)
  add_merged_lem ns c p q (some d) y = add_right ns q (fold add_kind d c)
  add_merged_lem ns c p q none (some d) = add_right ns p (fold add_kind d c)
  add_merged_lem ns c p q none none = tt

  mul_merge : (ns : List Node) (x : Option Float) (pq : Option (ℕ × ℕ)) → Fires (P.mul_merge l ns x pq)
  mul_merge ns none pq = tt
  mul_merge ns (some c) none = tt
  mul_merge ns (some c) (some pq) = mul_merged_lem ns c pq.0 pq.1 (constant_value (at ns pq.0)) (constant_value (at ns pq.1))

  add_merge : (ns : List Node) (x : Option Float) (pq : Option (ℕ × ℕ)) → Fires (P.add_merge l ns x pq)
  add_merge ns none pq = tt
  add_merge ns (some c) none = tt
  add_merge ns (some c) (some pq) = add_merged_lem ns c pq.0 pq.1 (constant_value (at ns pq.0)) (constant_value (at ns pq.1))

  mul_coef_merge : (ns : List Node) (a b : ℕ) → Fires (P.mul_coef_merge l ns a b)
  unfolding P.mul_coef_merge
  mul_coef_merge ns a b =
      or_fires (P.mul_merge l ns (constant_value (at ns b)) (P.pair_of mul_kind (at ns a))) (P.mul_merge l ns (constant_value (at ns a)) (P.pair_of mul_kind (at ns b)))
      (mul_merge ns (constant_value (at ns b)) (P.pair_of mul_kind (at ns a))) (mul_merge ns (constant_value (at ns a)) (P.pair_of mul_kind (at ns b)))

  add_coef_merge : (ns : List Node) (a b : ℕ) → Fires (P.add_coef_merge l ns a b)
  unfolding P.add_coef_merge
  add_coef_merge ns a b = add_merge ns (constant_value (at ns b)) (P.pair_of add_kind (at ns a))

  merges : (ns : List Node) (k a b : ℕ) → Fires (P.merges l ns k a b)
  unfolding P.merges
  merges ns k a b = by (eqb k 4) (eqb k 2)
    where
      by : (p q : Bool) → Fires (cond p (P.mul_coef_merge l ns a b) (cond q (P.add_coef_merge l ns a b) none))
      by true q = mul_coef_merge ns a b
      by false true = add_coef_merge ns a b
      by false false = tt

  only_child : (ns : List Node) (c : List ℕ) → Fires (P.only_child ns c)
  only_child ns [] = tt
  only_child ns (a ∷ []) = tt
  only_child ns (a ∷ b ∷ r) = tt

  tries : (ns : List Node) (k : ℕ) (c : List ℕ) → Fires (try_apply l ns k c)
  unfolding try_apply
  tries ns k [] = tt
  tries ns k (a ∷ []) =
      cond_fires (eqb k 8) (P.neg_double ns a) none
      (cond_fires (eqb (at ns a).kind 8) (P.only_child ns (at ns a).children) none (only_child ns (at ns a).children) tt) tt
  tries ns k (a ∷ b ∷ []) =
      or_fires (P.identities l ns k a b) (or_else (P.constant_fold l ns k a b) (P.merges l ns k a b)) (identities ns k a b)
      (or_fires (P.constant_fold l ns k a b) (P.merges l ns k a b) (constant_fold ns k a b) (merges ns k a b))
  tries ns k (a ∷ b ∷ c ∷ r) = tt

  -- ---- the strict patterns

  strict_sum : (ns : List Node) (a b : ℕ) → Fires (S.strict_sum ns a b)
  unfolding S.strict_sum
  strict_sum ns a b =
      first_fires (is_constant_of S.minus_zero_bits (at ns b)) (built ns a) (when (is_constant_of S.minus_zero_bits (at ns a)) (built ns b)) tt
      (when_fires (is_constant_of S.minus_zero_bits (at ns a)) (built ns b) tt)

  strict_difference : (ns : List Node) (a b : ℕ) → Fires (S.strict_difference ns a b)
  unfolding S.strict_difference
  strict_difference ns a b = when_fires (is_constant_of S.plus_zero_bits (at ns b)) (built ns a) tt

  strict_product : (ns : List Node) (a b : ℕ) → Fires (S.strict_product ns a b)
  unfolding S.strict_product
  strict_product ns a b =
      first_fires (is_constant_of S.one_bits (at ns a)) (built ns b) (when (is_constant_of S.one_bits (at ns b)) (built ns a)) tt
      (when_fires (is_constant_of S.one_bits (at ns b)) (built ns a) tt)

  strict_quotient : (ns : List Node) (a b : ℕ) → Fires (S.strict_quotient ns a b)
  unfolding S.strict_quotient
  strict_quotient ns a b = when_fires (is_constant_of S.one_bits (at ns b)) (built ns a) tt

  strict_identities : (ns : List Node) (k a b : ℕ) → Fires (S.strict_identities ns k a b)
  unfolding S.strict_identities
  strict_identities ns k a b = by (eqb k 2) (eqb k 3) (eqb k 4) (eqb k 5)
    where
      by : (p q r s : Bool) → Fires (cond p (S.strict_sum ns a b) (cond q (S.strict_difference ns a b) (cond r (S.strict_product ns a b) (cond s (S.strict_quotient ns a b) none))))
      by true q r s = strict_sum ns a b
      by false true r s = strict_difference ns a b
      by false false true s = strict_product ns a b
      by false false false true = strict_quotient ns a b
      by false false false false = tt

  strict_tries : (ns : List Node) (k : ℕ) (c : List ℕ) → Fires (strict_apply l ns k c)
  unfolding strict_apply
  strict_tries ns k [] = tt
  strict_tries ns k (a ∷ []) =
      cond_fires (eqb k 8) (P.neg_double ns a) none
      (cond_fires (eqb (at ns a).kind 8) (P.only_child ns (at ns a).children) none (only_child ns (at ns a).children) tt) tt
  strict_tries ns k (a ∷ b ∷ []) =
      or_fires (S.strict_identities ns k a b) (P.constant_fold l ns k a b) (strict_identities ns k a b) (constant_fold ns k a b)
  strict_tries ns k (a ∷ b ∷ c ∷ r) = tt

  -- ---- the walk

  rebuilt_stops : (ns : List Node) (i : ℕ) (c : List ℕ) (o : Option Built) → Fires o → StopsForPlace (rebuilt l ns i c o)
  rebuilt_stops ns i c none f = plain (same_children (at ns i).children c) (node (at ns i).kind (at ns i).payload (rebuilt_flags (at ns i).kind (length c)) c)
    where
      plain : (b : Bool) (n : Node) → StopsForPlace (cond b (built ns i) (intern l ns n))
      plain true n = tt
      plain false n = interns ns n
  rebuilt_stops ns i c (some m) f = f

  rebuilds : (mode : Mode) (ns : List Node) (i : ℕ) (c : List ℕ) → StopsForPlace (rebuild_as mode l ns i c)
  unfolding rebuild_or_match rebuild_strictly
  rebuilds standard ns i c = rebuilt_stops ns i c (try_apply l ns (at ns i).kind c) (tries ns (at ns i).kind c)
  rebuilds strict ns i c = rebuilt_stops ns i c (strict_apply l ns (at ns i).kind c) (strict_tries ns (at ns i).kind c)

  abbrev pub TurnStops : Turn → Type 0
  TurnStops (go ns fs vs) = Unit {0}
  TurnStops (stop ns number) = NoPlace number

  finishes : (mode : Mode) (fs : List Frame) (vs : List ℕ) (m : Built) → StopsForPlace m → TurnStops (finish mode fs vs m)
  finishes mode fs vs (built ns i) s = tt
  finishes mode fs vs (stopped ns number) s = s

  pub turns : (mode : Mode) (limit : ℕ) (ns : List Node) (f : Frame) (fs : List Frame) (vs : List ℕ) → TurnStops (turn mode l limit ns f fs vs)
  unfolding turn descend ascend
  turns mode limit ns f fs vs = by (leb limit f.depth) (ltb f.cursor arity) (taken_unwalked mode (at ns child))
    where
      arity : ℕ
      arity = length (at ns f.id).children

      child : ℕ
      child = get_or (at ns f.id).children f.cursor 0

      up : List Frame
      up = frame f.id f.depth (suc f.cursor) ∷ fs

      by : (a b d : Bool)
          → TurnStops (cond a (go ns fs (f.id ∷ drop f.cursor vs)) (cond b
          (cond d (go ns up (child ∷ vs)) (go ns (frame child (suc f.depth) 0 ∷ up) vs))
          (finish mode fs (drop arity vs) (rebuild_as mode l ns f.id (reverse_onto (take arity vs) [])))))
      by true b d = tt
      by false true true = tt
      by false true false = tt
      by false false d = finishes mode fs (drop arity vs) (rebuild_as mode l ns f.id (reverse_onto (take arity vs) [])) (rebuilds mode ns f.id (reverse_onto (take arity vs) []))
