-- What is found at a place is the only thing that stands there.
use Prim.Native.Nat.{ℕ, ◌<◌}
use mathlib.Core.Path.{◌≡◌, sym, ap, ◌∙◌, subst}
use mathlib.Core.List.{List, ◌∷◌}
use lib.ListN.{drop}
use native.Mathlib.Omega.{arith}
use Rattle.std.specs.Prelude.{Some, None}
use Rattle.listing_reader.specs.declared.number.NumberRead.{NumberRead}
use Rattle.listing_reader.specs.Numbers.{word_end, number_read, Spelled, ReadsNumber}

-- a text tells its number, and where it ends
pub record Unique (spell : ℕ → List ℕ → List ℕ) (Follows : List ℕ → Type 0) : Type 0 where
  pub same : (n m : ℕ) (r s : List ℕ) → n < word_end → m < word_end → Follows r → Follows s → spell n r ≡ spell m s → (n ≡ m) × (r ≡ s)

module _ {spell : ℕ → List ℕ → List ℕ} {Follows : List ℕ → Type 0} {bytes : List ℕ} {at : ℕ} where
  pub reads_found : (n next : ℕ) → Spelled spell Follows bytes at n next → ReadsNumber spell Follows bytes at (Some (number_read n next))
  reads_found n next s = record {
    found = λ m to e. let p : number_read n next ≡ number_read m to = cc in subst (λ (x : NumberRead). Spelled spell Follows bytes at x.value x.next) p s;
    nothing = λ e. absurd (let z : ◌≡◌ {A = ℕ} 0 1 = cc in omega arith);
  }

  pub reads_nothing : ((n : ℕ) (rest : List ℕ) → n < word_end → Follows rest → drop at bytes ≡ spell n rest → ⊥) → ReadsNumber spell Follows bytes at None
  reads_nothing h = record {
    found = λ m to e. absurd (let z : ◌≡◌ {A = ℕ} 0 1 = cc in omega arith);
    nothing = λ e. h;
  }

  -- the text that stands there is the one that was found
  pub only : Unique spell Follows → {n next : ℕ} → Spelled spell Follows bytes at n next → (m : ℕ) (rest : List ℕ) → m < word_end → Follows rest → drop at bytes ≡ spell m rest → (n ≡ m) × (drop next bytes ≡ rest)
  only u {n} {next} s m rest l f e = u.same n m (drop next bytes) rest s.small l s.follows f (sym s.text ∙ e)

-- a text after a byte
pub behind : {spell : ℕ → List ℕ → List ℕ} {Follows : List ℕ → Type 0} (b : ℕ) → Unique spell Follows → Unique (λ n r. b ∷ spell n r) Follows
behind b u = record { same = λ n m r s a c d f e. u.same n m r s a c d f (ap (drop 1) e) }
