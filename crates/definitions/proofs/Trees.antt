-- Each pattern, on trees: what it gives may stand for what it takes.
use Prim.Native.Nat.{ℕ, zero, suc, ◌+◌, ◌*◌, ◌^◌, ◌<◌, ◌≤◌}
use mathlib.Core.Path.{◌≡◌, refl, sym, ap, ◌∙◌, subst, subst₂}
use mathlib.Core.Bool.{Bool, true, false, cond, ◌||◌, not}
use mathlib.Core.List.{List, [], ◌∷◌}
use native.Mathlib.Omega.{arith}
use lib.Dec.{T, eqb, eqb→eq}
use lib.Ieee.{Float, nan, inf, fin, binary64, of_bits, to_bits, add, sub, mul, eq, fits}
use lib.Ieee.Bits.{of_bits-to_bits, of_bits-fits}
use lib.Ieee.Fits.{add-fits, sub-fits, mul-fits}
use Rattle.definitions.specs.Patterns.{finite, zero64, one64}
use Rattle.definitions.specs.Formula.{Tree, tree, Forest, nil, cons}
use Rattle.definitions.specs.Dyadic.{Dyadic, plus, times, opposite, zero_value, one_value}
use Rattle.definitions.specs.Value.{Reading, apply, number, value_of, values_of}
use Rattle.definitions.specs.Exact.{node_bound, Bound, bound_by, unit_bound, constant_bound, add_bound, mul_bound, bound, bounds, Within, exact_kind, Exact, ExactAll}
use Rattle.definitions.proofs.Bounds.{Le, le_self, le_then, le_left, le_right, small_le, Heavy, unit_le, heavy_add, heavy_mul, add_b_mono, mul_b_mono, add_b_zero, add_b_comm, add_b_assoc, mul_b_unit, mul_b_comm, mul_b_assoc, le_mul_right, node_bound_mono}
use Rattle.definitions.proofs.Numbers.{plus_comm, plus_assoc, plus_zero_lem, zero_plus, times_comm, times_one, one_times, times_zero, zero_times, opp_opp, plus_opp, merge_times_left, merge_times_right, merge_plus_left, merge_plus_right}
use Rattle.definitions.proofs.Refine.{Refines, Replaces, replaces_refl, replaces_trans}

-- ---- constants

pub record IsConstant (t : Tree) (x : Float) : Type 0 where
  pub value : (r : Reading) → value_of r t ≡ number x
  pub bnds : bound t ≡ constant_bound x
  pub holds : T (fits binary64 x)
  pub isfin : Exact t → T (finite x)

pub constant_tree_is : (p f : ℕ) (c : Forest) → IsConstant (tree 1 p f c) (of_bits binary64 p)
unfolding value_of bound Exact
constant_tree_is p f c = record { value = λ r. refl; bnds = refl; holds = of_bits-fits binary64 p; isfin = λ x. x.1 }

abbrev pub constant_tree : Float → Tree
constant_tree z = tree 1 (to_bits binary64 z) 0 nil

pub constant_tree_lem : (z : Float) → T (fits binary64 z) → IsConstant (constant_tree z) z
constant_tree_lem z h = subst (IsConstant (constant_tree z)) (of_bits-to_bits binary64 z h) (constant_tree_is (to_bits binary64 z) 0 nil)

pub exact_small : (t : Tree) → Exact t → Within (bound t)
unfolding Exact bound
exact_small (tree k p f c) x = x.0

pub record Folds (z : Float) (t : Tree) : Type 0 where
  pub isfin : T (finite z)
  pub smaller : Le (constant_bound z) (bound t)
  pub equal : (r : Reading) → number z ≡ value_of r t

lit_exact : (z : Float) → T (fits binary64 z) → T (finite z) → Within (constant_bound z) → Exact (constant_tree z)
unfolding Exact bound
lit_exact z h f s =
    let e = of_bits-to_bits binary64 z h in
    (subst (λ x. Within (constant_bound x)) (sym e) s, subst (λ x. T (finite x)) (sym e) f, tt)

pub constant_replaces : (t : Tree) (z : Float) → T (fits binary64 z) → (Exact t → Folds z t) → Replaces (constant_tree z) t
constant_replaces t z h g x =
    let q = g x in
    let c = constant_tree_lem z h in
    record {
      exact = lit_exact z h q.isfin (small_le q.smaller (exact_small t x));
      smaller = subst (λ b. Le b (bound t)) (sym c.bnds) q.smaller;
      equal = λ r. c.value r ∙ q.equal r;
    }

-- ---- what binary64 does with small numbers
pub record FloatLaws : Type 0 where
  pub zero_is : (x : Float) → eq x zero64 ≡ true → number x ≡ zero_value
  pub one_is : (x : Float) → eq x one64 ≡ true → number x ≡ one_value
  pub add_le : (x y : Float) → T (fits binary64 x) → T (fits binary64 y) → T (finite x) → T (finite y) → Within (add_bound (constant_bound x) (constant_bound y))
      → T (finite (add binary64 x y)) × Le (constant_bound (add binary64 x y)) (add_bound (constant_bound x) (constant_bound y))
  pub add_is : (x y : Float) → T (fits binary64 x) → T (fits binary64 y) → T (finite x) → T (finite y) → Within (add_bound (constant_bound x) (constant_bound y))
      → number (add binary64 x y) ≡ plus (number x) (number y)
  pub sub_le : (x y : Float) → T (fits binary64 x) → T (fits binary64 y) → T (finite x) → T (finite y) → Within (add_bound (constant_bound x) (constant_bound y))
      → T (finite (sub binary64 x y)) × Le (constant_bound (sub binary64 x y)) (add_bound (constant_bound x) (constant_bound y))
  pub sub_is : (x y : Float) → T (fits binary64 x) → T (fits binary64 y) → T (finite x) → T (finite y) → Within (add_bound (constant_bound x) (constant_bound y))
      → number (sub binary64 x y) ≡ plus (number x) (opposite (number y))
  pub mul_le : (x y : Float) → T (fits binary64 x) → T (fits binary64 y) → T (finite x) → T (finite y) → Within (mul_bound (constant_bound x) (constant_bound y))
      → T (finite (mul binary64 x y)) × Le (constant_bound (mul binary64 x y)) (mul_bound (constant_bound x) (constant_bound y))
  pub mul_is : (x y : Float) → T (fits binary64 x) → T (fits binary64 y) → T (finite x) → T (finite y) → Within (mul_bound (constant_bound x) (constant_bound y))
      → number (mul binary64 x y) ≡ times (number x) (number y)

abbrev pub binary : ℕ → ℕ → ℕ → Tree → Tree → Tree
binary k p f a b = tree k p f (cons a (cons b nil))

-- ---- identities
module _ (p f : ℕ) (a b : Tree) where
  pub add_zero_left : ((r : Reading) → value_of r a ≡ zero_value) → Replaces b (binary 2 p f a b)
  unfolding value_of bound Exact
  add_zero_left z x = record {
    exact = x.2.1.0;
    smaller = le_then (le_left (bound b) (bound_by 0 0 0)) (le_right (bound a) (add_bound (bound b) (bound_by 0 0 0)));
    equal = λ r. sym (ap (λ v. plus v (plus (value_of r b) zero_value)) (z r) ∙ zero_plus (plus (value_of r b) zero_value) ∙ plus_zero_lem (value_of r b));
  }

  pub add_zero_right : ((r : Reading) → value_of r b ≡ zero_value) → Replaces a (binary 2 p f a b)
  unfolding value_of bound Exact
  add_zero_right z x = record {
    exact = x.2.0;
    smaller = le_left (bound a) (add_bound (bound b) (bound_by 0 0 0));
    equal = λ r. sym (ap (λ v. plus (value_of r a) (plus v zero_value)) (z r) ∙ ap (plus (value_of r a)) (plus_zero_lem zero_value) ∙ plus_zero_lem (value_of r a));
  }

  pub sub_zero : ((r : Reading) → value_of r b ≡ zero_value) → Replaces a (binary 3 p f a b)
  unfolding value_of bound Exact opposite
  sub_zero z x = record {
    exact = x.2.0;
    smaller = le_left (bound a) (add_bound (bound b) (bound_by 0 0 0));
    equal = λ r. sym (ap (λ v. plus (value_of r a) (opposite v)) (z r) ∙ plus_zero_lem (value_of r a));
  }

  pub mul_one_left : Heavy (bound a) → ((r : Reading) → value_of r a ≡ one_value) → Replaces b (binary 4 p f a b)
  unfolding value_of bound Exact
  mul_one_left h z x = record {
    exact = x.2.1.0;
    smaller = subst (λ c. Le (bound b) (mul_bound (bound a) c)) (sym (mul_b_unit (bound b))) (le_mul_right (bound a) (bound b) h);
    equal = λ r. sym (ap (λ v. times v (times (value_of r b) one_value)) (z r) ∙ one_times (times (value_of r b) one_value) ∙ times_one (value_of r b));
  }

  pub mul_one_right : Heavy (bound b) → ((r : Reading) → value_of r b ≡ one_value) → Replaces a (binary 4 p f a b)
  unfolding value_of bound Exact
  mul_one_right h z x = record {
    exact = x.2.0;
    smaller = subst (Le (bound a)) (mul_b_comm (bound b) (bound a) ∙ ap (mul_bound (bound a)) (sym (mul_b_unit (bound b)))) (le_mul_right (bound b) (bound a) h);
    equal = λ r. sym (ap (λ v. times (value_of r a) (times v one_value)) (z r) ∙ ap (times (value_of r a)) (times_one one_value) ∙ times_one (value_of r a));
  }

  -- both factors constants, one of them 0
  pub mul_zero_left : Heavy (bound a) → Heavy (bound b) → ((r : Reading) → value_of r a ≡ zero_value) → Replaces (constant_tree zero64) (binary 4 p f a b)
  unfolding value_of bound Exact fits number
  mul_zero_left ha hb z = constant_replaces (binary 4 p f a b) zero64 tt (λ x. record {
    isfin = tt;
    smaller = unit_le (bound (binary 4 p f a b)) (heavy_mul (bound a) (mul_bound (bound b) unit_bound) ha (heavy_mul (bound b) unit_bound hb (omega arith)));
    equal = λ r. sym (ap (λ v. times v (times (value_of r b) one_value)) (z r) ∙ zero_times (times (value_of r b) one_value));
  })

  pub mul_zero_right : Heavy (bound a) → Heavy (bound b) → ((r : Reading) → value_of r b ≡ zero_value) → Replaces (constant_tree zero64) (binary 4 p f a b)
  unfolding value_of bound Exact fits number
  mul_zero_right ha hb z = constant_replaces (binary 4 p f a b) zero64 tt (λ x. record {
    isfin = tt;
    smaller = unit_le (bound (binary 4 p f a b)) (heavy_mul (bound a) (mul_bound (bound b) unit_bound) ha (heavy_mul (bound b) unit_bound hb (omega arith)));
    equal = λ r. sym (ap (λ v. times (value_of r a) (times v one_value)) (z r) ∙ ap (times (value_of r a)) (zero_times one_value) ∙ times_zero (value_of r a));
  })

pub sub_self : (p f : ℕ) (a : Tree) → Heavy (bound a) → Replaces (constant_tree zero64) (binary 3 p f a a)
unfolding value_of bound Exact number fits
sub_self p f a h = constant_replaces (binary 3 p f a a) zero64 tt (λ x. record {
  isfin = tt;
  smaller = unit_le (bound (binary 3 p f a a)) (heavy_add (bound a) (add_bound (bound a) (bound_by 0 0 0)) h);
  equal = λ r. sym (plus_opp (value_of r a));
})

pub neg_neg : (p f p' f' : ℕ) (a : Tree) → Replaces a (tree 8 p f (cons (tree 8 p' f' (cons a nil)) nil))
unfolding value_of bound Exact
neg_neg p f p' f' a x = record { exact = x.2.0.2.0; smaller = le_self (bound a); equal = λ r. sym (opp_opp (value_of r a)) }

-- ---- folding and merging
module _ (L : FloatLaws) (p f : ℕ) where
  module _ (a b : Tree) (x y : Float) (ca : IsConstant a x) (cb : IsConstant b y) where
    add_b_is : add_bound (bound a) (add_bound (bound b) (bound_by 0 0 0)) ≡ add_bound (constant_bound x) (constant_bound y)
    add_b_is = ap (add_bound (bound a)) (add_b_zero (bound b)) ∙ ap (λ c. add_bound c (bound b)) ca.bnds ∙ ap (add_bound (constant_bound x)) cb.bnds

    mul_b_is : mul_bound (bound a) (mul_bound (bound b) unit_bound) ≡ mul_bound (constant_bound x) (constant_bound y)
    mul_b_is = ap (mul_bound (bound a)) (mul_b_unit (bound b)) ∙ ap (λ c. mul_bound c (bound b)) ca.bnds ∙ ap (mul_bound (constant_bound x)) cb.bnds

    pub fold_add : Replaces (constant_tree (add binary64 x y)) (binary 2 p f a b)
    unfolding value_of bound Exact
    fold_add = constant_replaces (binary 2 p f a b) (add binary64 x y) (add-fits binary64 x y) (λ e.
        let s = subst Within add_b_is e.0 in
        let fx = ca.isfin e.2.0 in
        let fy = cb.isfin e.2.1.0 in
        let q = L.add_le x y ca.holds cb.holds fx fy s in
        record {
          isfin = q.0;
          smaller = subst (Le (constant_bound (add binary64 x y))) (sym add_b_is) q.1;
          equal = λ r. L.add_is x y ca.holds cb.holds fx fy s ∙ sym (ap (plus (value_of r a)) (plus_zero_lem (value_of r b)) ∙ ap (λ v. plus v (value_of r b)) (ca.value r) ∙ ap (plus (number x)) (cb.value r));
        })

    pub fold_sub : Replaces (constant_tree (sub binary64 x y)) (binary 3 p f a b)
    unfolding value_of bound Exact
    fold_sub = constant_replaces (binary 3 p f a b) (sub binary64 x y) (sub-fits binary64 x y) (λ e.
        let s = subst Within add_b_is e.0 in
        let fx = ca.isfin e.2.0 in
        let fy = cb.isfin e.2.1.0 in
        let q = L.sub_le x y ca.holds cb.holds fx fy s in
        record {
          isfin = q.0;
          smaller = subst (Le (constant_bound (sub binary64 x y))) (sym add_b_is) q.1;
          equal = λ r. L.sub_is x y ca.holds cb.holds fx fy s ∙ sym (ap (λ v. plus v (opposite (value_of r b))) (ca.value r) ∙ ap (λ v. plus (number x) (opposite v)) (cb.value r));
        })

    pub fold_mul : Replaces (constant_tree (mul binary64 x y)) (binary 4 p f a b)
    unfolding value_of bound Exact
    fold_mul = constant_replaces (binary 4 p f a b) (mul binary64 x y) (mul-fits binary64 x y) (λ e.
        let s = subst Within mul_b_is e.0 in
        let fx = ca.isfin e.2.0 in
        let fy = cb.isfin e.2.1.0 in
        let q = L.mul_le x y ca.holds cb.holds fx fy s in
        record {
          isfin = q.0;
          smaller = subst (Le (constant_bound (mul binary64 x y))) (sym mul_b_is) q.1;
          equal = λ r. L.mul_is x y ca.holds cb.holds fx fy s ∙ sym (ap (times (value_of r a)) (times_one (value_of r b)) ∙ ap (λ v. times v (value_of r b)) (ca.value r) ∙ ap (times (number x)) (cb.value r));
        })

  -- (c + q) + d to q + (c + d), and (q + c) + d to the same
  module _ (p' f' : ℕ) (c q d : Tree) (x y : Float) (cc' : IsConstant c x) (cd : IsConstant d y) where
    plus_bounds : add_bound (add_bound (bound c) (add_bound (bound q) (bound_by 0 0 0))) (add_bound (bound d) (bound_by 0 0 0)) ≡ add_bound (bound q) (add_bound (add_bound (constant_bound x) (constant_bound y)) (bound_by 0 0 0))
    plus_bounds =
        ap (λ b. add_bound (add_bound (bound c) b) (add_bound (bound d) (bound_by 0 0 0))) (add_b_zero (bound q))
        ∙ ap (add_bound (add_bound (bound c) (bound q))) (add_b_zero (bound d))
        ∙ ap (λ b. add_bound b (bound d)) (add_b_comm (bound c) (bound q))
        ∙ add_b_assoc (bound q) (bound c) (bound d)
        ∙ ap (λ b. add_bound (bound q) (add_bound b (bound d))) cc'.bnds ∙ ap (λ b. add_bound (bound q) (add_bound (constant_bound x) b)) cd.bnds
        ∙ ap (add_bound (bound q)) (sym (add_b_zero (add_bound (constant_bound x) (constant_bound y))))

    pub merge_add_left : Replaces (binary 2 0 3 q (constant_tree (add binary64 x y))) (binary 2 p f (binary 2 p' f' c q) d)
    unfolding value_of bound Exact
    merge_add_left e =
        let z = add binary64 x y in
        let cz = constant_tree_lem z (add-fits binary64 x y) in
        let s : Within (add_bound (constant_bound x) (constant_bound y)) = small_le (le_then (le_left (add_bound (constant_bound x) (constant_bound y)) (bound_by 0 0 0)) (le_right (bound q) (add_bound (add_bound (constant_bound x) (constant_bound y)) (bound_by 0 0 0)))) (subst Within plus_bounds e.0) in
        let fx = cc'.isfin e.2.0.2.0 in
        let fy = cd.isfin e.2.1.0 in
        let k = L.add_le x y cc'.holds cd.holds fx fy s in
        let le : Le (add_bound (bound q) (add_bound (bound (constant_tree z)) (bound_by 0 0 0))) (add_bound (add_bound (bound c) (add_bound (bound q) (bound_by 0 0 0))) (add_bound (bound d) (bound_by 0 0 0))) =
        subst (Le (add_bound (bound q) (add_bound (bound (constant_tree z)) (bound_by 0 0 0)))) (sym plus_bounds)
        (add_b_mono (le_self (bound q)) (add_b_mono (subst (λ b. Le b (add_bound (constant_bound x) (constant_bound y))) (sym cz.bnds) k.1) (le_self (bound_by 0 0 0)))) in
        record {
          exact = (small_le le e.0, tt, (e.2.0.2.1.0, (lit_exact z (add-fits binary64 x y) k.0 (small_le k.1 s), tt)));
          smaller = le;
          equal = λ r.
              ap (λ v. plus (value_of r q) (plus v zero_value)) (cz.value r ∙ L.add_is x y cc'.holds cd.holds fx fy s)
              ∙ merge_plus_left (number x) (number y) (value_of r q)
              ∙ sym (ap (λ v. plus (plus v (plus (value_of r q) zero_value)) (plus (value_of r d) zero_value)) (cc'.value r) ∙ ap (λ v. plus (plus (number x) (plus (value_of r q) zero_value)) (plus v zero_value)) (cd.value r));
        }

    times_bounds : mul_bound (mul_bound (bound c) (mul_bound (bound q) unit_bound)) (mul_bound (bound d) unit_bound) ≡ mul_bound (mul_bound (constant_bound x) (constant_bound y)) (mul_bound (bound q) unit_bound)
    times_bounds =
        ap (mul_bound (mul_bound (bound c) (mul_bound (bound q) unit_bound))) (mul_b_unit (bound d))
        ∙ mul_b_assoc (bound c) (mul_bound (bound q) unit_bound) (bound d)
        ∙ ap (mul_bound (bound c)) (mul_b_comm (mul_bound (bound q) unit_bound) (bound d))
        ∙ sym (mul_b_assoc (bound c) (bound d) (mul_bound (bound q) unit_bound))
        ∙ ap (λ b. mul_bound (mul_bound b (bound d)) (mul_bound (bound q) unit_bound)) cc'.bnds ∙ ap (λ b. mul_bound (mul_bound (constant_bound x) b) (mul_bound (bound q) unit_bound)) cd.bnds

    -- (c * q) * d to (c * d) * q
    pub merge_mul_left : Heavy (bound q) → Replaces (binary 4 0 3 (constant_tree (mul binary64 x y)) q) (binary 4 p f (binary 4 p' f' c q) d)
    unfolding value_of bound Exact
    merge_mul_left hq e =
        let z = mul binary64 x y in
        let cz = constant_tree_lem z (mul-fits binary64 x y) in
        let m = mul_bound (constant_bound x) (constant_bound y) in
        let lq : Le m (mul_bound m (mul_bound (bound q) unit_bound)) =
        subst (Le m) (mul_b_comm (bound q) m ∙ ap (mul_bound m) (sym (mul_b_unit (bound q)))) (le_mul_right (bound q) m hq) in
        let s : Within m = small_le lq (subst Within times_bounds e.0) in
        let fx = cc'.isfin e.2.0.2.0 in
        let fy = cd.isfin e.2.1.0 in
        let k = L.mul_le x y cc'.holds cd.holds fx fy s in
        let le : Le (mul_bound (bound (constant_tree z)) (mul_bound (bound q) unit_bound)) (mul_bound (mul_bound (bound c) (mul_bound (bound q) unit_bound)) (mul_bound (bound d) unit_bound)) =
        subst (Le (mul_bound (bound (constant_tree z)) (mul_bound (bound q) unit_bound))) (sym times_bounds)
        (mul_b_mono (subst (λ b. Le b m) (sym cz.bnds) k.1) (le_self (mul_bound (bound q) unit_bound))) in
        record {
          exact = (small_le le e.0, tt, (lit_exact z (mul-fits binary64 x y) k.0 (small_le k.1 s), (e.2.0.2.1.0, tt)));
          smaller = le;
          equal = λ r.
              ap (λ v. times v (times (value_of r q) one_value)) (cz.value r ∙ L.mul_is x y cc'.holds cd.holds fx fy s)
              ∙ merge_times_left (number x) (number y) (value_of r q)
              ∙ sym (ap (λ v. times (times v (times (value_of r q) one_value)) (times (value_of r d) one_value)) (cc'.value r) ∙ ap (λ v. times (times (number x) (times (value_of r q) one_value)) (times v one_value)) (cd.value r));
        }

-- ---- the other orders
pub binary_cong : (k p f f' : ℕ) {a a' b b' : Tree} → Replaces a' a → Replaces b' b → Replaces (binary k p f' a' b') (binary k p f a b)
unfolding value_of bound Exact
binary_cong k p f f' {a} {a'} {b} {b'} ra rb x =
    let ga = ra x.2.0 in
    let gb = rb x.2.1.0 in
    let le = node_bound_mono k p (bound a' ∷ bound b' ∷ []) (bound a ∷ bound b ∷ []) (ga.smaller, (gb.smaller, tt)) in
    record {
      exact = (small_le le x.0, x.1, (ga.exact, (gb.exact, tt)));
      smaller = le;
      equal = λ r. ap (λ v. apply r k p (v ∷ value_of r b' ∷ [])) (ga.equal r) ∙ ap (λ v. apply r k p (value_of r a ∷ v ∷ [])) (gb.equal r);
    }

pub add_swap : (p p' f f' : ℕ) (a b : Tree) → Replaces (binary 2 p' f' b a) (binary 2 p f a b)
unfolding value_of bound Exact
add_swap p p' f f' a b x =
    let e : add_bound (bound a) (add_bound (bound b) (bound_by 0 0 0)) ≡ add_bound (bound b) (add_bound (bound a) (bound_by 0 0 0)) =
    ap (add_bound (bound a)) (add_b_zero (bound b)) ∙ add_b_comm (bound a) (bound b) ∙ ap (add_bound (bound b)) (sym (add_b_zero (bound a))) in
    record {
      exact = (subst Within e x.0, tt, (x.2.1.0, (x.2.0, tt)));
      smaller = subst (Le (add_bound (bound b) (add_bound (bound a) (bound_by 0 0 0)))) (sym e) (le_self (add_bound (bound b) (add_bound (bound a) (bound_by 0 0 0))));
      equal = λ r. ap (plus (value_of r b)) (plus_zero_lem (value_of r a)) ∙ plus_comm (value_of r b) (value_of r a) ∙ ap (plus (value_of r a)) (sym (plus_zero_lem (value_of r b)));
    }

pub mul_swap : (p p' f f' : ℕ) (a b : Tree) → Replaces (binary 4 p' f' b a) (binary 4 p f a b)
unfolding value_of bound Exact
mul_swap p p' f f' a b x =
    let e : mul_bound (bound a) (mul_bound (bound b) unit_bound) ≡ mul_bound (bound b) (mul_bound (bound a) unit_bound) =
    ap (mul_bound (bound a)) (mul_b_unit (bound b)) ∙ mul_b_comm (bound a) (bound b) ∙ ap (mul_bound (bound b)) (sym (mul_b_unit (bound a))) in
    record {
      exact = (subst Within e x.0, tt, (x.2.1.0, (x.2.0, tt)));
      smaller = subst (Le (mul_bound (bound b) (mul_bound (bound a) unit_bound))) (sym e) (le_self (mul_bound (bound b) (mul_bound (bound a) unit_bound)));
      equal = λ r. ap (times (value_of r b)) (times_one (value_of r a)) ∙ times_comm (value_of r b) (value_of r a) ∙ ap (times (value_of r a)) (sym (times_one (value_of r b)));
    }
