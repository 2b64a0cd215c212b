-- An answer that is no `Numbered` has no number.
use Rattle.std.proofs.Common.{ℕ, ◌≡◌, refl}
use Rattle.names.specs.declared.NameReply.{NameReply}
use Rattle.names.specs.declared.NameReply.TheVariants.{Numbered, Unknown, Named, Refused}
use Rattle.text.proofs.Performing.{NotNumbered}

pub not_numbered : (r : NameReply) → ((n : ℕ) → r ≡ Numbered n → ⊥) → NotNumbered r
not_numbered (Numbered n) h = h n refl
not_numbered Unknown h = tt
not_numbered (Named n) h = tt
not_numbered (Refused r) h = tt
