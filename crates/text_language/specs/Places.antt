-- Where the parts of a text stand in its bytes.
use Rattle.std.specs.Prelude.{ℕ, zero, suc, ◌+◌, ◌-◌, ◌*◌, ◌≤◌, ◌<◌, ◌≡◌, Bool, true, false, List, [], ◌∷◌, length, drop, get_or}
use Rattle.std.proofs.Math.Option.{Option, none, some}
use Rattle.text_language.specs.Grammar.{Expr, Level, chain, sums, products, power, factor}
use Rattle.text_language.specs.Reader.{lead, skip, past, word, beyond, Got, got, bad, level, read}

-- the first byte that is no blank, and where
pub record AtSpot (s : List ℕ) (i at byte : ℕ) : Type 0 where
  pub leads : lead (drop i s) ≡ byte
  pub skips : skip (drop i s) ≡ drop at s
  pub pasts : (byte ≡ 0 → ⊥) → past (drop i s) ≡ drop (suc at) s
  pub low : i ≤ at
  pub high : at ≤ length s
  pub inside : (byte ≡ 0 → ⊥) → at < length s

-- as many bytes as pass p, at most n, stand from i to j
pub record ScanRan (s : List ℕ) (i : ℕ) (p : ℕ → Bool) (n j : ℕ) : Type 0 where
  pub rests : beyond p n (drop i s) ≡ drop j s
  pub counts : i + length (word p n (drop i s)) ≡ j
  pub high : j ≤ length s
  pub low : i ≤ j

-- the reading that stands behind a place
pub record Behind (s : List ℕ) (left : ℕ) (g : Got) (i : ℕ) : Type 0 where
  pub expr : Expr
  pub depth : ℕ
  pub is : g ≡ got expr depth (drop i s)
  pub shallow : depth ≤ left
  pub high : i ≤ length s

-- no reading, or one that is too deep
abbrev pub TooDeep : ℕ → Got → Type 0
TooDeep left bad = Unit {0}
TooDeep left (got e d r) = left < d
