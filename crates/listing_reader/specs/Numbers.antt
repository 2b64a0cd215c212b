-- What reading a number at a place of the bytes finds.
use Rattle.std.specs.Prelude.{ℕ, ◌^◌, ◌≤◌, ◌<◌, ◌≡◌, Bool, false, ◌&&◌, List, ◌∷◌, get_or, drop, leb, Option, Some, None}
use Rattle.definitions.specs.Listing.{hex_digit, space}
use Rattle.listing_reader.specs.declared.number.NumberRead.{NumberRead}

-- a word of 64 bits is below this
abbrev pub word_end : ℕ
word_end = 2 ^ 64

-- the bytes of the digits 0 and 9
abbrev pub zero_digit : ℕ
zero_digit = 48

abbrev pub nine_digit : ℕ
nine_digit = 57

abbrev pub is_digit : ℕ → Bool
is_digit byte = leb zero_digit byte && leb byte nine_digit

-- bytes that do not go on with a digit: a number in fewest digits ends before them
pub record EndsDigits (rest : List ℕ) : Type 0 where
  pub ends : is_digit (get_or rest 0 0) ≡ false

-- bytes after a text that says itself where it ends
pub record Anything (rest : List ℕ) : Type 0 where

-- the value of a capital hex digit; 16 for any other byte
pub record HexValue (byte value : ℕ) : Type 0 where
  pub digit : value < 16 → byte ≡ hex_digit value
  pub most : value ≤ 16
  pub only : (d : ℕ) → d < 16 → byte ≡ hex_digit d → value ≡ d

-- a number's text stands at a place and ends at the next one
pub record Spelled (spell : ℕ → List ℕ → List ℕ) (Follows : List ℕ → Type 0) (bytes : List ℕ) (at n next : ℕ) : Type 0 where
  pub text : drop at bytes ≡ spell n (drop next bytes)
  pub follows : Follows (drop next bytes)
  pub small : n < word_end

-- a number, and the place after it
abbrev pub number_read : ℕ → ℕ → NumberRead
number_read n next = record { value = n; next = next }

-- A number is found where its text stands; where nothing is found, no number's text stands there.
pub record ReadsNumber (spell : ℕ → List ℕ → List ℕ) (Follows : List ℕ → Type 0) (bytes : List ℕ) (at : ℕ) (r : Option NumberRead) : Type 0 where
  pub found : (n next : ℕ) → r ≡ Some (number_read n next) → Spelled spell Follows bytes at n next
  pub nothing : r ≡ None → (n : ℕ) (rest : List ℕ) → n < word_end → Follows rest → drop at bytes ≡ spell n rest → ⊥

-- a space stands at a place, and ends at the next one; or there is none
pub record AfterSpace (bytes : List ℕ) (at : ℕ) (r : Option ℕ) : Type 0 where
  pub found : (next : ℕ) → r ≡ Some next → drop at bytes ≡ space ∷ drop next bytes
  pub nothing : r ≡ None → (rest : List ℕ) → drop at bytes ≡ space ∷ rest → ⊥
