-- The last of a list that grew at its end.
use mathlib.Core.Path.{◌≡◌, refl}
use mathlib.Core.List.{List, [], ◌∷◌, ◌++◌}
use Rattle.definitions.specs.Listing.{last_of}

pub last_more : {A : Type 0} (x : A) (xs : List A) (y : A) → last_of x (xs ++ y ∷ []) ≡ y
last_more x [] y = refl
last_more x (z ∷ xs) y = last_more z xs y
