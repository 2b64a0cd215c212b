-- Prunes by setting among those at a threshold's bits.
use Prim.Native.Nat.{ℕ, zero, suc, ◌-◌, ◌≤◌}
use mathlib.Core.Path.{◌≡◌, refl, sym, ◌∙◌, subst, subst₂}
use mathlib.Core.Bool.{Bool, true, false, ◌&&◌}
use mathlib.Core.List.{List, [], ◌∷◌}
use lib.ListN.{length, get_or, drop}
use native.Mathlib.Omega.{arith}
use borrow.Author.Tests.{leb-true, leb-false}
use lib.Dec.{T, leb, leb→le}
use lib.Ieee.{binary64, of_bits, le}
use lib.Ieee.Fits.{and_l, and_r}
use Rattle.definitions.specs.Limits.{infinity_bits}
use Rattle.definitions.specs.Threshold.{bits}
use Rattle.definitions.specs.Settings.{first_pruning_setting, last_setting, thresholds, threshold, setting}
use Rattle.definitions.specs.Machine.{prune_by_setting}
use Rattle.definitions.proofs.SettingAnswers as Settings
use Rattle.definitions.proofs.Prune.{clear_bits}
use Rattle.definitions.proofs.PruneCalls.{Taken, setting_taken}
use Rattle.pruned_again.specs.Plain.{NotBelow}
use Rattle.pruned_again.specs.Stored.{Asks, by_setting, SettingAsks, SettingsRise}
use Rattle.pruned_again.proofs.Order.{le_up, le_refl, le_not_lt, no_nan}
use Rattle.pruned_again.proofs.Answered.{given_is}

-- a setting with a threshold is listed, and its threshold is the table's
pub record Listed (n t : ℕ) : Type 0 where
  pub first : first_pruning_setting ≤ n
  pub last : n ≤ last_setting
  pub is : threshold n ≡ t

pub listed : (n t : ℕ) → setting n ≡ bits t → Listed n t
listed n t e = by_tests (leb first_pruning_setting n) (leb n last_setting) refl refl
  where
    by_tests : (low high : Bool) → leb first_pruning_setting n ≡ low → leb n last_setting ≡ high → Listed n t
    by_tests true true low high =
        let first = leb-true first_pruning_setting n low in
        let last = leb-true n last_setting high in
        let same = sym (Settings.listed n first last) ∙ e in
        record { first = first; last = last; is = cc }
    by_tests true false low high =
        let no_threshold = sym (Settings.above_last n (omega (arith, leb-false n last_setting high))) ∙ e in
        let z : ◌≡◌ {A = ℕ} 0 1 = cc in
        absurd (omega arith)
    by_tests false high low h =
        let no_threshold = sym (Settings.below_first n (omega (arith, leb-false first_pruning_setting n low))) ∙ e in
        let z : ◌≡◌ {A = ℕ} 0 1 = cc in
        absurd (omega arith)

finite_at : (n t : ℕ) → setting n ≡ bits t → t ≤ infinity_bits
finite_at n t e = subst Taken e (setting_taken n)

pub setting_asks : SettingAsks
setting_asks i n t e = subst (Asks (prune_by_setting i n) i) (e ∙ sym (given_is t (finite_at n t e))) by_setting

-- ---- the thresholds rise

-- whether each is a threshold and not above the next
rises : ℕ → List ℕ → Bool
rises a [] = leb a infinity_bits
rises a (b ∷ bs) = leb a infinity_bits && (le (of_bits binary64 a) (of_bits binary64 b) && rises b bs)

first_finite : (a : ℕ) (bs : List ℕ) → T (rises a bs) → a ≤ infinity_bits
unfolding rises
first_finite a [] h = leb→le a infinity_bits h
first_finite a (b ∷ bs) h = leb→le a infinity_bits (and_l (leb a infinity_bits) (le (of_bits binary64 a) (of_bits binary64 b) && rises b bs) h)

-- a threshold, and not below a
abbrev From : ℕ → ℕ → Type 0
From a b = (b ≤ infinity_bits) × T (le (of_bits binary64 a) (of_bits binary64 b))

from_first : (a : ℕ) (bs : List ℕ) → T (rises a bs) → (j : ℕ) → j ≤ length bs → From a (get_or (a ∷ bs) j 0)
unfolding rises
from_first a bs h zero l = let fa = first_finite a bs h in (fa, le_refl (of_bits binary64 a) (clear_bits a fa) (no_nan a fa))
from_first a [] h (suc j) l = absurd (omega arith)
from_first a (b ∷ bs) h (suc j) l =
    let next = le (of_bits binary64 a) (of_bits binary64 b) in
    let after = and_r (leb a infinity_bits) (next && rises b bs) h in
    let rest = and_r next (rises b bs) after in
    let c = get_or (b ∷ bs) j 0 in
    let later : From b c = from_first b bs rest j (omega arith) in (
      later.0,
      le_up (of_bits binary64 a) (of_bits binary64 b) (of_bits binary64 c) (clear_bits a (first_finite a (b ∷ bs) h)) (clear_bits b (first_finite b bs rest)) (clear_bits c later.0)
          (and_l next (rises b bs) after) later.1,
    )

from_each : (a : ℕ) (bs : List ℕ) → T (rises a bs) → (i j : ℕ) → i ≤ j → j ≤ length bs → From (get_or (a ∷ bs) i 0) (get_or (a ∷ bs) j 0)
unfolding rises
from_each a bs h zero j r l = from_first a bs h j l
from_each a bs h (suc i) zero r l = absurd (omega arith)
from_each a [] h (suc i) (suc j) r l = absurd (omega arith)
from_each a (b ∷ bs) h (suc i) (suc j) r l =
    let next = le (of_bits binary64 a) (of_bits binary64 b) in
    from_each b bs (and_r next (rises b bs) (and_r (leb a infinity_bits) (next && rises b bs) h)) i j (omega arith) (omega arith)

table_rises : (n k : ℕ) → first_pruning_setting ≤ n → n ≤ k → k ≤ last_setting → From (threshold n) (threshold k)
unfolding threshold thresholds rises le of_bits
table_rises n k low up high = from_each (get_or thresholds 0 0) (drop 1 thresholds) tt (n - first_pruning_setting) (k - first_pruning_setting) (omega arith) (omega arith)

pub settings_rise : SettingsRise
settings_rise n k t u up e f =
    let first = listed n t e in
    let second = listed k u f in
    let there = table_rises n k first.first up second.last in
    let risen : NotBelow (threshold n) (threshold k) = le_not_lt (of_bits binary64 (threshold n)) (of_bits binary64 (threshold k))
    (clear_bits (threshold n) (subst (λ (b : ℕ). b ≤ infinity_bits) (sym first.is) (finite_at n t e))) (clear_bits (threshold k) there.0) there.1 in
    subst₂ NotBelow first.is second.is risen
