-- Words, and numbers behind them.
use Prim.Native.Nat.{ℕ, ◌+◌, ◌-◌, ◌<◌, min}
use mathlib.Core.Path.{◌≡◌, refl, sym, ap, ap₂, ◌∙◌}
use mathlib.Core.Bool.{Bool, true, false, false≢true}
use mathlib.Core.List.{List, ◌∷◌, ◌++◌}
use lib.ListN.{length, get_or, take, drop, length-append, length-drop, length-take, take-append-drop}
use lib.Seq.{drop-append_seam, drop-drop, take_at}
use native.Mathlib.Omega.{arith}
use Rattle.std.specs.Prelude.{nat_eq}
use Rattle.std.specs.Cmp.Lexicographic.{same_text, other_text, pointwise}
use Rattle.definitions.specs.Listing.{line_feed}
use Rattle.listing_reader.specs.declared.number.NumberRead.{NumberRead}
use Rattle.std.specs.Prelude.{Option, Some, None}
use Rattle.listing_reader.specs.Numbers.{number_read, EndsDigits, Anything, ReadsNumber}
use Rattle.listing_reader.specs.Words.{StartsWith}
use Rattle.listing_reader.proofs.Bytes.{byte_then, first_byte}
use Rattle.listing_reader.proofs.Found.{Unique, reads_found, reads_nothing, only}

-- ---- a word at a place

pub starts_not : {bytes : List ℕ} {at : ℕ} {word : List ℕ} → ((rest : List ℕ) → drop at bytes ≡ word ++ rest → ⊥) → StartsWith bytes at word false
starts_not h = record { text = λ e. absurd (false≢true e); within = λ e. absurd (false≢true e); nothing = λ e. h }

module _ (bytes : List ℕ) (at : ℕ) (word : List ℕ) where
  pub starts_short : length bytes - at < length word → StartsWith bytes at word false
  starts_short l = starts_not (λ rest p.
      let e : length bytes - at ≡ length word + length rest = sym (length-drop at bytes) ∙ ap length p ∙ length-append word rest in
      omega arith)

  tested : (r : Bool) → 0 < length word → r ≡ pointwise nat_eq word (take (length word) (drop at bytes)) → StartsWith bytes at word r
  tested true z e =
      let same : word ≡ take (length word) (drop at bytes) = same_text word (take (length word) (drop at bytes)) e in
      let long : length word ≡ min (length word) (length bytes - at) = ap length same ∙ length-take (length word) (drop at bytes) ∙ ap (min (length word)) (length-drop at bytes) in
      record {
        text = λ _. sym (take-append-drop (length word) (drop at bytes)) ∙ ap₂ (λ (x y : List ℕ). x ++ y) (sym same) (drop-drop (length word) at bytes);
        within = λ _. omega arith;
        nothing = λ f. absurd (false≢true (sym f));
      }
  tested false z e = starts_not (λ rest p. other_text word (take (length word) (drop at bytes)) e (sym (ap (take (length word)) p ∙ take_at word rest (length word) refl)))

  -- the library's test of the part from the place on
  pub starts_tested : (r : Bool) (part : List ℕ) → part ≡ drop at bytes → 0 < length word → r ≡ pointwise nat_eq word (take (length word) part) → StartsWith bytes at word r
  starts_tested r part p z e = tested r z (e ∙ ap (λ (x : List ℕ). pointwise nat_eq word (take (length word) x)) p)

-- ---- a number behind a word

pub behind_word : {spell : ℕ → List ℕ → List ℕ} {Follows : List ℕ → Type 0} (word : List ℕ) → Unique spell Follows → Unique (λ n r. word ++ spell n r) Follows
behind_word {spell} word u = record { same = λ n m r s a c d f e. u.same n m r s a c d f (cancel e) }
  where
    cancel : {x y : List ℕ} → word ++ x ≡ word ++ y → x ≡ y
    cancel {x} {y} e = sym (drop-append_seam word x) ∙ ap (drop (length word)) e ∙ drop-append_seam word y

module _ (spell : ℕ → List ℕ → List ℕ) (Follows : List ℕ → Type 0) (bytes : List ℕ) (at : ℕ) (word : List ℕ) {t : Bool} (s : StartsWith bytes at word t) where
  pub no_word : t ≡ false → ReadsNumber (λ n rest. word ++ spell n rest) Follows bytes at None
  no_word e = reads_nothing (λ n rest l f p. s.nothing e (spell n rest) p)

  pub after_word : (r : Option NumberRead) → t ≡ true → ReadsNumber spell Follows bytes (at + length word) r → ReadsNumber (λ n rest. word ++ spell n rest) Follows bytes at r
  after_word r e d = record {
    found = λ n next q. let h = d.found n next q in record { text = s.text e ∙ ap (λ (x : List ℕ). word ++ x) h.text; follows = h.follows; small = h.small };
    nothing = λ q n rest l f p. d.nothing q n rest l f (sym (drop-append_seam word (drop (at + length word) bytes)) ∙ ap (drop (length word)) (sym (s.text e) ∙ p) ∙ drop-append_seam word (spell n rest));
  }

-- ---- and a line feed behind the number

pub feed_ends : (rest : List ℕ) → EndsDigits (line_feed ∷ rest)
feed_ends rest = record { ends = refl }

module _ (spell : ℕ → List ℕ → List ℕ) (u : Unique spell EndsDigits) (bytes : List ℕ) (at : ℕ) where
  pub no_number : {r : Option NumberRead} → ReadsNumber spell EndsDigits bytes at r → r ≡ None → ReadsNumber (λ n rest. spell n (line_feed ∷ rest)) Anything bytes at None
  no_number d e = reads_nothing (λ n rest l f p. d.nothing e n (line_feed ∷ rest) l (feed_ends rest) p)

  module _ {r : Option NumberRead} {v next : ℕ} (d : ReadsNumber spell EndsDigits bytes at r) (e : r ≡ Some (number_read v next)) {b : ℕ} (h : b ≡ get_or bytes next 0) where
    pub no_feed : (b ≡ line_feed → ⊥) → ReadsNumber (λ n rest. spell n (line_feed ∷ rest)) Anything bytes at None
    no_feed k = reads_nothing (λ n rest l f p.
        let o = only u (d.found v next e) n (line_feed ∷ rest) l (feed_ends rest) p in
        k (h ∙ first_byte bytes next line_feed rest o.1))

    pub line_found : b ≡ line_feed → ReadsNumber (λ n rest. spell n (line_feed ∷ rest)) Anything bytes at (Some (number_read v (next + 1)))
    line_found k =
        let s = d.found v next e in
        reads_found v (next + 1) (record {
          text = s.text ∙ ap (spell v) (byte_then bytes next line_feed (omega arith) (sym h ∙ k));
          follows = record {};
          small = s.small;
        })
