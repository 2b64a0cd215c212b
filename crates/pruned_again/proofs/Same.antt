-- A second prune at the same threshold: the kept terms are kept again, and their sum is there.
use Prim.Native.Nat.{ℕ, ◌-◌, ◌<◌, ◌≤◌}
use mathlib.Core.Path.{◌≡◌, refl, sym, ap, ◌∙◌, subst}
use mathlib.Core.Bool.{Bool, true, false, cond}
use mathlib.Core.List.{List}
use lib.ListN.{length}
use native.Mathlib.Omega.{arith}
use borrow.Author.Tests.{leb-true, leb-false, ltb-true}
use lib.Dec.{leb, ltb}
use lib.Ieee.{binary64, of_bits}
use Rattle.definitions.specs.Limits.{most_terms, most_halvings}
use Rattle.definitions.specs.Refusals.{bad_operand}
use Rattle.definitions.specs.Node.{Node}
use Rattle.definitions.specs.Intern.{built, Lent}
use Rattle.definitions.specs.Prune.{chain, keeps, filter, balanced_add}
use Rattle.definitions.specs.Threshold.{bits, untouched, refusing}
use Rattle.definitions.specs.Machine.{pruned, refused, outcome, pruned_as, prune_at, prune_call}
use Rattle.definitions.proofs.Intern.{Sound, Inj, T_true}
use Rattle.definitions.proofs.PruneCalls.{untouched_is}
use Rattle.pruned_again.specs.Plain.{SamePlainly}
use Rattle.pruned_again.proofs.Regrown.{ext_refl}
use Rattle.pruned_again.proofs.Fitting.{fitting, apart}
use Rattle.pruned_again.proofs.Chains.{filter_ext, filter_filter, kept_ids}
use Rattle.pruned_again.proofs.Answered.{Way, sum, lone, answered, does_lone, does_sum, refused_not}
use Rattle.pruned_again.proofs.Left.{LeftBy, left, flat_kept, kept_few, answer_chain}

module _ (l : Lent) (ns : List Node) (i t j : ℕ) (ms : List Node) (s : Sound ns) (u : Inj ns) (h : i < length ns)
    (few : length (chain ns i) ≤ most_terms) (b : balanced_add most_halvings l ns (kept_ids ns i t) ≡ built ms j) where
  L : LeftBy l ns (kept_ids ns i t) ms j
  L = left l ns i t j ms s u h few b

  kept_again : filter (keeps ms (of_bits binary64 t)) (kept_ids ns i t) ≡ kept_ids ns i t
  kept_again =
      filter_ext ns ms L.grown (of_bits binary64 t) (kept_ids ns i t) (flat_kept l ns i t j ms s u h few b)
      ∙ filter_filter (keeps ns (of_bits binary64 t)) (keeps ns (of_bits binary64 t)) (λ x q. T_true (keeps ns (of_bits binary64 t) x) q) (chain ns i)

  same_sum : (k : ℕ) × (prune_call l ms j (bits t) ≡ outcome (pruned j k 0) ms)
  same_sum = go (leb 2 (length (kept_ids ns i t))) refl
    where
      n : ℕ
      n = length (kept_ids ns i t)

      go : (c : Bool) → leb 2 (length (kept_ids ns i t)) ≡ c → (k : ℕ) × (prune_call l ms j (bits t) ≡ outcome (pruned j k 0) ms)
      go true e =
          let two = leb-true 2 n e in
          let none : n - n ≡ 0 = omega arith in (
            n,
            does_sum l ms j t L.inside (L.two two) (kept_ids ns i t) (answer_chain l ns i t j ms s u h few b two) (kept_few l ns i t j ms s u h few b)
                ∙ ap (λ q. pruned_as (length q) (n - length q) (balanced_add most_halvings l ms q)) kept_again
                ∙ ap (pruned_as n (n - n)) (L.again ms (ext_refl ms))
                ∙ ap (λ d. outcome (pruned j n d) ms) none,
          )
      go false e = (1, does_lone l ms j t L.inside (L.few (omega (arith, leb-false 2 n e))))

same_way : (l : Lent) (ns : List Node) (i t j k : ℕ) (ms : List Node) → Sound ns → Inj ns → i < length ns → Way l ns i t j k ms
    → (k' : ℕ) × (prune_call l ms j (bits t) ≡ outcome (pruned j k' 0) ms)
same_way l ns i t j k ms s u h (sum ek few b kept) = same_sum l ns i t j ms s u h few b
same_way l ns i t j k ms s u h (lone ek ej em kept) =
    (1, (λ x. prune_call l (em x) (ej x) (bits t)) ∙ does_lone l ns i t h ek ∙ (λ x. outcome (pruned (sym ej x) 1 0) (sym em x)))

-- without a threshold the root is answered itself, and so it is again
same_untouched : (l : Lent) (ns : List Node) (i id kept dropped : ℕ) → (prune_call l ns i untouched).answer ≡ pruned id kept dropped
    → let ms = (prune_call l ns i untouched).nodes in
    (kept' : ℕ) × (prune_call l ms id untouched ≡ outcome (pruned id kept' 0) ms)
unfolding prune_call prune_at
same_untouched l ns i id kept dropped e = go (ltb i (length ns)) refl e
  where
    go : (b : Bool) → ltb i (length ns) ≡ b → (cond b (outcome (pruned i 1 0) ns) (outcome (refused bad_operand) ns)).answer ≡ pruned id kept dropped
        → let ms = (cond b (outcome (pruned i 1 0) ns) (outcome (refused bad_operand) ns)).nodes in
        (kept' : ℕ) × (prune_call l ms id untouched ≡ outcome (pruned id kept' 0) ms)
    go true q e = let same : i ≡ id = cc in (1, subst (λ (x : ℕ). prune_call l ns x untouched ≡ outcome (pruned x 1 0) ns) same (untouched_is l ns i (ltb-true i (length ns) q)))
    go false q e = let z : ◌≡◌ {A = ℕ} 0 1 = cc in absurd (omega arith)

pub same_plainly : SamePlainly
same_plainly l ns i id kept dropped (bits t) p e =
    let a = answered l ns i t id kept dropped e in
    same_way l ns i t id kept (prune_call l ns i (bits t)).nodes (fitting ns p) (apart ns p) a.inside a.way
same_plainly l ns i id kept dropped untouched p e = same_untouched l ns i id kept dropped e
same_plainly l ns i id kept dropped (refusing r) p e = absurd (refused_not l ns i r id kept dropped e)
