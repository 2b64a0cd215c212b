-- `close_up`: the last places move down to stand after the first ones.
use Prim.Native.Nat.{ℕ, ◌+◌, ◌-◌, ◌≤◌}
use mathlib.Core.Path.{◌≡◌, refl, sym, ap, ◌∙◌}
use mathlib.Core.Bool.{Bool}
use mathlib.Core.List.{List, ◌++◌}
use lib.ListN.{length, take, drop, length-append, length-drop}
use lib.Seq.{take_all, length-take-le, paste}
use Rattle.std.proofs.lemmas.List.Edits.{length-paste, take-paste}
use Rattle.std.specs.Prelude.{Ok}
use native.Mathlib.Omega.{arith}
use Rattle.definitions.specs.Limits.{most_terms}
use Rattle.definitions.specs.Prune.{filter}
use Rattle.chains.specs.Terms.{Closes, Flattens}
use Rattle.chains.specs.declared.chain.Terms.{Terms}

module _ (found front back : ℕ) (before : List ℕ) (fits : front + back ≤ most_terms) (long : length before ≡ most_terms) where
  abbrev from : ℕ
  from = most_terms - back

  -- the last places, and no more
  lasts : take back (drop from before) ≡ drop from before
  lasts = take_all back (drop from before) (omega (arith, length-drop from before, long))

  pub stays : front ≡ 0 → Closes found front back before (record { from = most_terms - back; found = found; kept = back }) before
  stays e = record {
    number = refl;
    kept = omega arith;
    inside = omega arith;
    beside = lasts ∙ ap (λ (k : ℕ). take k before ++ drop from before) (sym e);
    long = long;
  }

  pub closed : (array : List ℕ) (n : ℕ) → n ≡ back → array ≡ paste before front (drop (most_terms - back) before) n
      → Closes found front back before (record { from = 0; found = found; kept = front + back }) array
  closed array n e p = record {
    number = refl;
    kept = refl;
    inside = omega arith;
    beside = ap (λ (l : List ℕ). take (front + back) l) moved ∙ take-paste before front lent back (omega arith) (omega (arith, many)) ∙ ap (λ (l : List ℕ). take front before ++ l) lasts;
    long = ap length moved ∙ length-paste before front lent back (omega arith) (omega (arith, many)) ∙ long;
  }
    where
      lent : List ℕ
      lent = drop (most_terms - back) before

      many : length lent ≡ back
      many = omega (arith, length-drop from before, long)

      moved : array ≡ paste before front lent back
      moved = p ∙ ap (λ (k : ℕ). paste before front lent k) e

-- kept terms that stand side by side are those of the chain
pub flattens : (found front back : ℕ) (before : List ℕ) (answer : Terms) (array : List ℕ) → Closes found front back before answer array → (terms : List ℕ) (keep : ℕ → Bool)
    → front + back ≤ found → found ≤ most_terms → length before ≡ most_terms → found ≡ length terms → take front before ++ drop (most_terms - back) before ≡ filter keep terms
    → Flattens terms keep (Ok answer) array
flattens found front back before answer array c terms keep few most long number all =
    let many : answer.kept ≡ length (filter keep terms) =
    omega (arith, c.kept, ap length all, length-append (take front before) (drop (most_terms - back) before), length-take-le front before (omega arith), length-drop (most_terms - back) before) in
    record { holds = (c.number ∙ number, omega (arith, c.number), many, c.inside, c.beside ∙ all); long = c.long }
