-- Child places filled with the ids of operands, one after another.
use Prim.Native.Nat.{ℕ, zero, suc, ◌+◌, ◌*◌, ◌≤◌, ◌<◌}
use mathlib.Core.Path.{◌≡◌, refl, sym, ap, ap₂, ◌∙◌}
use mathlib.Core.List.{List, [], ◌∷◌, ◌++◌, map}
use lib.ListN.{length, take, set, length-set}
use lib.Seq.{take-suc-set}
use native.Mathlib.Omega.{arith}
use native.Mathlib.Numerals.{add-one}
use Rattle.records.specs.Reading.{operand_from, operands_from}
use Rattle.sheet.specs.Running.{operands_read}

map_snoc : (f : ℕ → ℕ) (l : List ℕ) (x : ℕ) → map f (l ++ x ∷ []) ≡ map f l ++ f x ∷ []
map_snoc f [] x = refl
map_snoc f (y ∷ l) x = ap (λ (t : List ℕ). f y ∷ t) (map_snoc f l x)

operands_snoc : (s : List ℕ) (first n : ℕ) → operands_from s first (suc n) ≡ operands_from s first n ++ operand_from s (first + n * 2) ∷ []
unfolding operands_from
operands_snoc s first zero = let e : first ≡ first + 0 * 2 = omega arith in ap (λ (i : ℕ). operand_from s i ∷ []) e
operands_snoc s first (suc n) =
    let e : first + 2 + n * 2 ≡ first + suc n * 2 = omega arith in
    ap (λ (t : List ℕ). operand_from s first ∷ t) (operands_snoc s (first + 2) n ∙ ap (λ (i : ℕ). operands_from s (first + 2) n ++ operand_from s i ∷ []) e)

-- so many places hold the ids of as many operands
pub record IdsPlaced (f : ℕ → ℕ) (s : List ℕ) (first operands : ℕ) (children : List ℕ) (k : ℕ) : Type 0 where
  pub within : k ≤ operands
  pub long : length children ≡ operands_read
  pub is : take k children ≡ map f (operands_from s first k)

pub placed_none : (f : ℕ → ℕ) (s : List ℕ) (first operands : ℕ) (children : List ℕ) → length children ≡ operands_read → IdsPlaced f s first operands children 0
unfolding operands_from
placed_none f s first operands children l = record { within = omega arith; long = l; is = refl }

pub placed_more : (f : ℕ → ℕ) (s : List ℕ) (first operands : ℕ) (children : List ℕ) (k : ℕ) → IdsPlaced f s first operands children k → k < operands → operands ≤ operands_read → (o v : ℕ) → o ≡ operand_from s (first + k * 2) → v ≡ f o → IdsPlaced f s first operands (set children k v) (k + 1)
placed_more f s first operands children k d h few o v e g =
    let long : length children ≡ operands_read = d.long in
    record {
      within = omega arith;
      long = length-set children k v ∙ long;
      is =
          ap (λ (i : ℕ). take i (set children k v)) (add-one k)
          ∙ take-suc-set children k v (omega arith)
          ∙ ap₂ (λ (t : List ℕ) (x : ℕ). t ++ x ∷ []) d.is (g ∙ ap f e)
          ∙ sym (ap (λ (i : ℕ). map f (operands_from s first i)) (add-one k) ∙ ap (map f) (operands_snoc s first k) ∙ map_snoc f (operands_from s first k) (operand_from s (first + k * 2)));
    }
