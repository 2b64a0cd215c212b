-- Child places, part by part.
use Prim.Native.Nat.{ℕ, ◌+◌, ◌-◌, ◌≤◌, ◌<◌}
use mathlib.Core.Path.{◌≡◌, sym, ap, ◌∙◌, subst}
use mathlib.Core.List.{List}
use lib.ListN.{length, get_or, take, drop, length-take, length-drop, get_or-eq_default}
use lib.Seq.{get_or-take, get_or-drop, length-take-le, take_all}
use lib.Bits.{bit_or, or_add_and, and_le_l, and_le_r}
use native.Mathlib.Omega.{arith}
use native.Mathlib.Decide.{dec_lt}
use Rattle.child_places.specs.Places.{AllBelow, AllZero, LowerChildren}

-- ---- words that are 0
pub or_zero : (a b : ℕ) → bit_or a b ≡ 0 → (a ≡ 0) × (b ≡ 0)
or_zero a b e = (omega (arith, or_add_and a b, and_le_r a b), omega (arith, or_add_and a b, and_le_l a b))

pub zero_or : (a b : ℕ) → a ≡ 0 → b ≡ 0 → bit_or a b ≡ 0
zero_or a b x y = omega (arith, or_add_and a b)

pub zeros_passed : (words : List ℕ) → ((j : ℕ) → j < length words → get_or words j 0 ≡ 0) → AllZero words
zeros_passed words h j = by (dec_lt j (length words))
  where
    by : Dec (j < length words) → get_or words j 0 ≡ 0
    by (yes l) = h j l
    by (no l) = get_or-eq_default words 0 (omega arith)

-- the words from a place on, up to the last
pub zeros_tail : (words : List ℕ) (from : ℕ) → AllZero (take (length words - from) (drop from words)) → AllZero (drop from words)
zeros_tail words from = subst AllZero (take_all (length words - from) (drop from words) (omega (arith, length-drop from words)))

pub tail_zeros : (words : List ℕ) (from : ℕ) → AllZero (drop from words) → AllZero (take (length words - from) (drop from words))
tail_zeros words from = subst AllZero (sym (take_all (length words - from) (drop from words) (omega (arith, length-drop from words))))

-- the words from a place on are 0 if those up to a later one are and those from there on
module _ (words : List ℕ) (from to : ℕ) (order : from ≤ to) where
  pub zeros_joined : AllZero (take (to - from) (drop from words)) → AllZero (drop to words) → AllZero (drop from words)
  zeros_joined first rest j = by (dec_lt j (to - from))
    where
      by : Dec (j < to - from) → get_or (drop from words) j 0 ≡ 0
      by (yes l) = sym (get_or-take (to - from) (drop from words) j 0 l) ∙ first j
      by (no l) = get_or-drop from words j 0 ∙ ap (λ (k : ℕ). get_or words k 0) (let e : from + j ≡ to + (from + j - to) = omega arith in e) ∙ sym (get_or-drop to words (from + j - to) 0) ∙ rest (from + j - to)

  pub zeros_rest : AllZero (drop from words) → AllZero (drop to words)
  zeros_rest all j = get_or-drop to words j 0 ∙ ap (λ (k : ℕ). get_or words k 0) (let e : to + j ≡ from + (to - from + j) = omega arith in e) ∙ sym (get_or-drop from words (to - from + j) 0) ∙ all (to - from + j)

  pub zeros_first : AllZero (drop from words) → AllZero (take (to - from) (drop from words))
  zeros_first all = zeros_passed (take (to - from) (drop from words)) (λ j l. get_or-take (to - from) (drop from words) j 0 (omega (arith, length-take (to - from) (drop from words))) ∙ all j)

-- ---- child places: those in use are below the id, and the others 0
module _ (id arity : ℕ) (places : List ℕ) (few : arity ≤ length places) where
  pub places_lower : AllZero (drop arity places) → AllBelow id (take arity places) → LowerChildren id arity places
  places_lower zeros below = record {
    lower = λ j l. subst (λ (x : ℕ). x < id) (get_or-take arity places j 0 l) (below j (omega (arith, length-take-le arity places few)));
    unused = λ j l. ap (λ (k : ℕ). get_or places k 0) (let e : j ≡ arity + (j - arity) = omega arith in e) ∙ sym (get_or-drop arity places (j - arity) 0) ∙ zeros (j - arity);
  }

  pub lower_unused : LowerChildren id arity places → AllZero (drop arity places)
  lower_unused f j = get_or-drop arity places j 0 ∙ f.unused (arity + j) (omega arith)

  pub lower_used : LowerChildren id arity places → AllBelow id (take arity places)
  lower_used f j l =
      let m : j < arity = omega (arith, length-take-le arity places few) in
      subst (λ (x : ℕ). x < id) (sym (get_or-take arity places j 0 m)) (f.lower j m)
