-- A node's line up to its flags.
use Prim.Native.Nat.{ℕ}
use mathlib.Core.Path.{◌≡◌, refl, ap, ◌∙◌, subst}
use mathlib.Core.List.{List, ◌∷◌, ◌++◌}
use lib.ListN.{drop}
use native.Mathlib.Omega.{arith}
use Rattle.definitions.specs.Listing.{space, decimal, hex}
use Rattle.std.specs.Prelude.{Option, Some, None}
use Rattle.listing_reader.specs.declared.number.NumberRead.{NumberRead}
use Rattle.listing_reader.specs.declared.node.Heading.{Heading}
use Rattle.listing_reader.specs.Numbers.{number_read, EndsDigits, Anything, Spelled, ReadsNumber}
use Rattle.listing_reader.specs.Line.{heading, headed, SmallHeading, HeadingAt, ReadsHeading}
use Rattle.listing_reader.proofs.Found.{Unique, only, behind}
use Rattle.listing_reader.proofs.Decimal.{decimal_unique}
use Rattle.listing_reader.proofs.Hex.{hex_unique}
use Rattle.listing_reader.proofs.FirstLines.{spaced_unique}

hex_spaced_unique : Unique (λ n r. space ∷ (hex n ++ r)) Anything
hex_spaced_unique = behind space hex_unique

-- a space ends digits
space_ends : (rest : List ℕ) → EndsDigits (space ∷ rest)
space_ends rest = record { ends = refl }

-- what follows the id, the kind and the payload
abbrev after_payload : ℕ → List ℕ → List ℕ
after_payload flags rest = space ∷ (decimal flags ++ rest)

abbrev after_kind : ℕ → ℕ → List ℕ → List ℕ
after_kind payload flags rest = space ∷ (hex payload ++ after_payload flags rest)

abbrev after_id : ℕ → ℕ → ℕ → List ℕ → List ℕ
after_id kind payload flags rest = space ∷ (decimal kind ++ after_kind payload flags rest)

-- ---- the text tells its numbers

pub record SameHeading (id kind payload flags id' kind' payload' flags' : ℕ) (rest rest' : List ℕ) : Type 0 where
  pub ids : id ≡ id'
  pub kinds : kind ≡ kind'
  pub payloads : payload ≡ payload'
  pub flag : flags ≡ flags'
  pub rests : rest ≡ rest'

pub headed_unique : {id kind payload flags id' kind' payload' flags' : ℕ} {rest rest' : List ℕ} → SmallHeading id kind payload flags → SmallHeading id' kind' payload' flags' → EndsDigits rest → EndsDigits rest' → headed id kind payload flags rest ≡ headed id' kind' payload' flags' rest' → SameHeading id kind payload flags id' kind' payload' flags' rest rest'
headed_unique {id} {kind} {payload} {flags} {id'} {kind'} {payload'} {flags'} {rest} {rest'} s t f g e =
    let a = decimal_unique.same id id' (after_id kind payload flags rest) (after_id kind' payload' flags' rest') s.id_small t.id_small (space_ends _) (space_ends _) e in
    let b = spaced_unique.same kind kind' (after_kind payload flags rest) (after_kind payload' flags' rest') s.kind_small t.kind_small (space_ends _) (space_ends _) a.1 in
    let c = hex_spaced_unique.same payload payload' (after_payload flags rest) (after_payload flags' rest') s.payload_small t.payload_small (record {}) (record {}) b.1 in
    let d = spaced_unique.same flags flags' rest rest' s.flags_small t.flags_small f g c.1 in
    record { ids = a.0; kinds = b.0; payloads = c.0; flag = d.0; rests = d.1 }

-- ---- read number by number

no_heading : {bytes : List ℕ} {at : ℕ} → ((id kind payload flags : ℕ) (rest : List ℕ) → SmallHeading id kind payload flags → EndsDigits rest → drop at bytes ≡ headed id kind payload flags rest → ⊥) → ReadsHeading bytes at None
no_heading h = record { found = λ i k p f n e. absurd (let z : ◌≡◌ {A = ℕ} 0 1 = cc in omega arith); nothing = λ e. h }

module _ {bytes : List ℕ} {at : ℕ} {r1 : Option NumberRead} (d1 : ReadsNumber (λ n rest. decimal n ++ rest) EndsDigits bytes at r1) where
  pub no_id : r1 ≡ None → ReadsHeading bytes at None
  no_id e = no_heading (λ i k p f rest s g t. d1.nothing e i (after_id k p f rest) s.id_small (space_ends _) t)

  module _ {v1 n1 : ℕ} (e1 : r1 ≡ Some (number_read v1 n1)) {r2 : Option NumberRead} (d2 : ReadsNumber (λ n rest. space ∷ (decimal n ++ rest)) EndsDigits bytes n1 r2) where
    after_id_lem : (i k p f : ℕ) (rest : List ℕ) → SmallHeading i k p f → drop at bytes ≡ headed i k p f rest → drop n1 bytes ≡ after_id k p f rest
    after_id_lem i k p f rest s t = (only decimal_unique (d1.found v1 n1 e1) i (after_id k p f rest) s.id_small (space_ends _) t).1

    pub no_kind : r2 ≡ None → ReadsHeading bytes at None
    no_kind e = no_heading (λ i k p f rest s g t. d2.nothing e k (after_kind p f rest) s.kind_small (space_ends _) (after_id_lem i k p f rest s t))

    module _ {v2 n2 : ℕ} (e2 : r2 ≡ Some (number_read v2 n2)) {r3 : Option NumberRead} (d3 : ReadsNumber (λ n rest. space ∷ (hex n ++ rest)) Anything bytes n2 r3) where
      after_kind_lem : (i k p f : ℕ) (rest : List ℕ) → SmallHeading i k p f → drop at bytes ≡ headed i k p f rest → drop n2 bytes ≡ after_kind p f rest
      after_kind_lem i k p f rest s t = (only spaced_unique (d2.found v2 n2 e2) k (after_kind p f rest) s.kind_small (space_ends _) (after_id_lem i k p f rest s t)).1

      pub no_payload : r3 ≡ None → ReadsHeading bytes at None
      no_payload e = no_heading (λ i k p f rest s g t. d3.nothing e p (after_payload f rest) s.payload_small (record {}) (after_kind_lem i k p f rest s t))

      module _ {v3 n3 : ℕ} (e3 : r3 ≡ Some (number_read v3 n3)) {r4 : Option NumberRead} (d4 : ReadsNumber (λ n rest. space ∷ (decimal n ++ rest)) EndsDigits bytes n3 r4) where
        after_payload_lem : (i k p f : ℕ) (rest : List ℕ) → SmallHeading i k p f → drop at bytes ≡ headed i k p f rest → drop n3 bytes ≡ after_payload f rest
        after_payload_lem i k p f rest s t = (only hex_spaced_unique (d3.found v3 n3 e3) p (after_payload f rest) s.payload_small (record {}) (after_kind_lem i k p f rest s t)).1

        pub no_flags : r4 ≡ None → ReadsHeading bytes at None
        no_flags e = no_heading (λ i k p f rest s g t. d4.nothing e f rest s.flags_small g (after_payload_lem i k p f rest s t))

        pub heading_found : {v4 n4 : ℕ} → r4 ≡ Some (number_read v4 n4) → ReadsHeading bytes at (Some (heading v1 v2 v3 v4 n4))
        heading_found {v4} {n4} e4 = record {
          found = λ i k p f n e. let h : heading v1 v2 v3 v4 n4 ≡ heading i k p f n = cc in subst (λ (x : Heading). HeadingAt bytes at x.id x.kind x.payload x.flags x.next) h whole;
          nothing = λ e. absurd (let z : ◌≡◌ {A = ℕ} 0 1 = cc in omega arith);
        }
          where
            s1 : Spelled (λ n rest. decimal n ++ rest) EndsDigits bytes at v1 n1
            s1 = d1.found v1 n1 e1

            s2 : Spelled (λ n rest. space ∷ (decimal n ++ rest)) EndsDigits bytes n1 v2 n2
            s2 = d2.found v2 n2 e2

            s3 : Spelled (λ n rest. space ∷ (hex n ++ rest)) Anything bytes n2 v3 n3
            s3 = d3.found v3 n3 e3

            s4 : Spelled (λ n rest. space ∷ (decimal n ++ rest)) EndsDigits bytes n3 v4 n4
            s4 = d4.found v4 n4 e4

            whole : HeadingAt bytes at v1 v2 v3 v4 n4
            whole = record {
              text =
                  s1.text
                  ∙ ap (λ (x : List ℕ). decimal v1 ++ x) s2.text
                  ∙ ap (λ (x : List ℕ). decimal v1 ++ (space ∷ (decimal v2 ++ x))) s3.text
                  ∙ ap (λ (x : List ℕ). decimal v1 ++ (space ∷ (decimal v2 ++ (space ∷ (hex v3 ++ x))))) s4.text;
              follows = s4.follows;
              small = record { id_small = s1.small; kind_small = s2.small; payload_small = s3.small; flags_small = s4.small };
            }
