-- The first line: one word, one or two numbers.
use Prim.Native.Nat.{ℕ}
use mathlib.Core.Path.{◌≡◌, refl, sym, ap, ◌∙◌, subst}
use mathlib.Core.Bool.{Bool, true, false}
use mathlib.Core.List.{List, [], ◌∷◌, ◌++◌, append_assoc}
use lib.ListN.{drop}
use native.Mathlib.Omega.{arith}
use Rattle.definitions.specs.Listing.{space, line_feed, decimal, ok_word, spent_word, refused_word, at_word, dash, first_line, answered}
use Rattle.listing_lines.specs.declared.SheetOutcome.{SheetOutcome}
use Rattle.listing_lines.specs.declared.SheetOutcome.TheVariants.{Ok, Empty, Spent, Refused}
use Rattle.listing_lines.specs.Outcome.{first_line_of}
use Rattle.std.specs.Prelude.{Option, Some, None}
use Rattle.listing_reader.specs.declared.number.NumberRead.{NumberRead}
use Rattle.listing_reader.specs.declared.first.FirstLine.{FirstLine}
use Rattle.listing_reader.specs.Numbers.{number_read, EndsDigits, Anything, ReadsNumber}
use Rattle.listing_reader.specs.Words.{StartsWith}
use Rattle.listing_reader.specs.First.{first_read, SmallOutcome, FirstAt, NoFirst, ReadsFirst, ReadsRefused}
use Rattle.listing_reader.proofs.Found.{Unique, only, behind}
use Rattle.listing_reader.proofs.Decimal.{decimal_unique}
use Rattle.listing_reader.proofs.Words.{behind_word}

-- ---- a number behind a space, and behind a word

pub spaced_unique : Unique (λ n r. space ∷ (decimal n ++ r)) EndsDigits
spaced_unique = behind space decimal_unique

pub word_unique : (word : List ℕ) → Unique (λ n r. word ++ (space ∷ (decimal n ++ r))) EndsDigits
word_unique word = behind_word word spaced_unique

-- ---- the texts

abbrev pub line_behind : List ℕ → ℕ → List ℕ → List ℕ
line_behind word n rest = word ++ (space ∷ (decimal n ++ (line_feed ∷ rest)))

abbrev pub refused_text : ℕ → ℕ → List ℕ → List ℕ
refused_text number at rest = refused_word ++ (space ∷ (decimal number ++ line_behind (space ∷ at_word) at rest))

pub ok_text : (i : ℕ) (rest : List ℕ) → first_line_of (Ok i) ++ line_feed ∷ rest ≡ line_behind ok_word i rest
unfolding first_line_of first_line answered
ok_text i rest = refl

pub spent_text : (i : ℕ) (rest : List ℕ) → first_line_of (Spent i) ++ line_feed ∷ rest ≡ line_behind spent_word i rest
unfolding first_line_of first_line answered
spent_text i rest = refl

pub empty_text : (rest : List ℕ) → first_line_of Empty ++ line_feed ∷ rest ≡ (ok_word ++ space ∷ dash ++ line_feed ∷ []) ++ rest
unfolding first_line_of first_line
empty_text rest = refl

pub refused_text_lem : (number at : ℕ) (rest : List ℕ) → first_line_of (Refused number at) ++ line_feed ∷ rest ≡ refused_text number at rest
unfolding first_line_of first_line
refused_text_lem number at rest = ap (λ (x : List ℕ). refused_word ++ (space ∷ x))
    (append_assoc (decimal number ++ (space ∷ at_word)) (space ∷ decimal at) (line_feed ∷ rest)
    ∙ append_assoc (decimal number) (space ∷ at_word) (space ∷ (decimal at ++ (line_feed ∷ rest))))

-- ---- found, or not

pub first_found : {bytes : List ℕ} (o : SheetOutcome) (next : ℕ) → FirstAt bytes o next → ReadsFirst bytes (Some (first_read o next))
first_found {bytes} o next f = record {
  found = λ p to e. let a : first_read o next ≡ first_read p to = cc in subst (λ (x : FirstLine). FirstAt bytes x.outcome x.next) a f;
  nothing = λ e. absurd (let z : ◌≡◌ {A = ℕ} 0 1 = cc in omega arith);
}

pub empty_first : {bytes : List ℕ} {t : Bool} → StartsWith bytes 0 (ok_word ++ space ∷ dash ++ line_feed ∷ []) t → t ≡ true → ReadsFirst bytes (Some (first_read Empty 5))
empty_first {bytes} s e = first_found Empty 5 (record { text = s.text e ∙ sym (empty_text (drop 5 bytes)); small = tt })

module _ {bytes : List ℕ} {r : Option NumberRead} {v next : ℕ} (e : r ≡ Some (number_read v next)) where
  pub ok_first : ReadsNumber (line_behind ok_word) Anything bytes 0 r → ReadsFirst bytes (Some (first_read (Ok v) next))
  ok_first d = let s = d.found v next e in first_found (Ok v) next (record { text = s.text ∙ sym (ok_text v (drop next bytes)); small = s.small })

  pub spent_first : ReadsNumber (line_behind spent_word) Anything bytes 0 r → ReadsFirst bytes (Some (first_read (Spent v) next))
  spent_first d = let s = d.found v next e in first_found (Spent v) next (record { text = s.text ∙ sym (spent_text v (drop next bytes)); small = s.small })

-- none of the other first lines: it is a refusal's, or none
pub last_first : {bytes : List ℕ} {t : Bool} {a b : Option NumberRead} {r : Option FirstLine} → StartsWith bytes 0 (ok_word ++ space ∷ dash ++ line_feed ∷ []) t → t ≡ false → ReadsNumber (line_behind ok_word) Anything bytes 0 a → a ≡ None → ReadsNumber (line_behind spent_word) Anything bytes 0 b → b ≡ None → ReadsRefused bytes r → ReadsFirst bytes r
last_first {bytes} {r = r} s e da ea db eb d = record { found = d.found; nothing = none }
  where
    none : r ≡ None → NoFirst bytes
    none n (Ok i) rest l p = da.nothing ea i rest l (record {}) (p ∙ ok_text i rest)
    none n Empty rest l p = s.nothing e rest (p ∙ empty_text rest)
    none n (Spent i) rest l p = db.nothing eb i rest l (record {}) (p ∙ spent_text i rest)
    none n (Refused number at) rest l p = d.nothing n number at rest l p

-- ---- a refusal's line

module _ {bytes : List ℕ} {a : Option NumberRead} (da : ReadsNumber (λ n rest. refused_word ++ (space ∷ (decimal n ++ rest))) EndsDigits bytes 0 a) where
  none_refused : ((number at : ℕ) (rest : List ℕ) → SmallOutcome (Refused number at) → bytes ≡ first_line_of (Refused number at) ++ line_feed ∷ rest → ⊥) → ReadsRefused bytes None
  none_refused h = record { found = λ o next e. absurd (let z : ◌≡◌ {A = ℕ} 0 1 = cc in omega arith); nothing = λ e. h }

  pub no_refusal : a ≡ None → ReadsRefused bytes None
  no_refusal e = none_refused (λ number at rest l p. da.nothing e number (line_behind (space ∷ at_word) at rest) l.0 (record { ends = refl }) (p ∙ refused_text_lem number at rest))

  module _ {v next : ℕ} (ea : a ≡ Some (number_read v next)) {b : Option NumberRead} (db : ReadsNumber (line_behind (space ∷ at_word)) Anything bytes next b) where
    pub no_record : b ≡ None → ReadsRefused bytes None
    no_record e = none_refused (λ number at rest l p.
        let o = only (word_unique refused_word) (da.found v next ea) number (line_behind (space ∷ at_word) at rest) l.0 (record { ends = refl }) (p ∙ refused_text_lem number at rest) in
        db.nothing e at rest l.1 (record {}) o.1)

    pub refusal_found : {w to : ℕ} → b ≡ Some (number_read w to) → ReadsRefused bytes (Some (first_read (Refused v w) to))
    refusal_found {w} {to} e =
        let s = da.found v next ea in
        let t = db.found w to e in
        let f = first_found (Refused v w) to (record {
          text = s.text ∙ ap (λ (x : List ℕ). refused_word ++ (space ∷ (decimal v ++ x))) t.text ∙ sym (refused_text_lem v w (drop to bytes));
          small = (s.small, t.small);
        }) in
        record { found = f.found; nothing = λ q number at rest l p. f.nothing q (Refused number at) rest l p }
