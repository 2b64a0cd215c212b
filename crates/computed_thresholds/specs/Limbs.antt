-- Whole numbers in limbs of ten bits, the lowest first. Definitions only.
use Rattle.std.specs.Prelude.{◌≡◌, List, ℕ, zero, suc, ◌+◌, ◌*◌, ◌^◌, ◌≤◌, ◌<◌, get_or, length}

-- the limbs of an array
abbrev pub most_limbs : ℕ
most_limbs = 1332

-- the largest factor: the product of a limb and it, and what is left over from the limb below, fit 64 bits
abbrev pub most_factor : ℕ
most_factor = 0x3f_ffff_ffff_ffff

-- the bit patterns of 2 ^ -13 and of 2 ^ -3
abbrev pub lowest : ℕ
lowest = 0x3f20_0000_0000_0000

abbrev pub highest : ℕ
highest = 0x3fc0_0000_0000_0000

-- the number in the first `used` limbs
unfoldable pub number : List ℕ → ℕ → ℕ
number xs zero = 0
number xs (suc used) = number xs used + get_or xs used 0 * 1024 ^ used

-- the numbers below this one fit an array
unfoldable pub fitting : ℕ
fitting = 1024 ^ most_limbs

abbrev pub AllSmall : List ℕ → ℕ → Type 0
AllSmall xs used = (length xs ≡ most_limbs) × (used ≤ most_limbs) × ((k : ℕ) → k < used → get_or xs k 0 < 1024)

-- A number in as many limbs as it needs: the highest is not 0.
pub record Limbs (xs : List ℕ) (used : ℕ) : Type 0 where
  pub small : AllSmall xs used
  pub long : 1024 ^ used ≤ 1024 * number xs used

pub record Scaled (xs : List ℕ) (used factor over : ℕ) (xs' : List ℕ) : Type 0 where
  pub small : AllSmall xs' used
  pub value : number xs' used + over * 1024 ^ used ≡ number xs used * factor

abbrev pub appended : List ℕ → ℕ → ℕ → ℕ
appended xs used over = number xs used + over * 1024 ^ used

pub record Appends (xs : List ℕ) (used over : ℕ) : Type 0 where
  pub small : AllSmall xs used
  pub long : 1024 ^ used ≤ 1024 * appended xs used over
  pub fits : appended xs used over < fitting

pub record Appended (xs : List ℕ) (used over used' : ℕ) (xs' : List ℕ) : Type 0 where
  pub limbs : Limbs xs' used'
  pub value : number xs' used' ≡ appended xs used over

pub record Multiplied (xs : List ℕ) (used factor used' : ℕ) (xs' : List ℕ) : Type 0 where
  pub limbs : Limbs xs' used'
  pub value : number xs' used' ≡ number xs used * factor
