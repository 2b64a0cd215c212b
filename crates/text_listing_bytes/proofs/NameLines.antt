-- The line of a name, and the lines of all.
use Prim.Native.Nat.{ℕ, suc, ◌+◌, ◌*◌, ◌≤◌, ◌<◌, min}
use mathlib.Core.Path.{◌≡◌, refl, sym, ap, ◌∙◌, subst}
use mathlib.Core.Bool.{Bool, true, false, cond, false≢true}
use mathlib.Core.List.{List, [], ◌∷◌, ◌++◌, append_assoc, append-nil}
use lib.ListN.{length, take, drop, get_or, length-append, length-take}
use native.Mathlib.Omega.{arith}
use native.Mathlib.Nat.{min-le_left}
use borrow.Author.Tests.{lt-ltb}
use Rattle.definitions.specs.Listing.{space, line_feed, decimal}
use Rattle.definitions.specs.Names.{NameAnswer, numbered, unknown, named, refused, name_call, answers}
use Rattle.names.specs.declared.NameReply.{NameReply}
use Rattle.names.specs.declared.NameReply.TheVariants.{Numbered, Unknown, Named, Refused}
use Rattle.names.specs.declared.NameBytes.{NameBytes}
use Rattle.names.specs.Calls.{answer_of, NameCalled, NameClauses, LengthFits}
use Rattle.names.specs.Memory.{NamesLeft}
use Rattle.names.proofs.Clauses.{name_equation_gives_clauses}
use Rattle.name_entries.specs.Sound.{SoundNames, names_of}
use Rattle.names.proofs.Listing.{names_length}
use Rattle.listing_lines.specs.declared.line.Line.{Line}
use Rattle.listing_lines.specs.Line.{line_bytes, number_bytes, text, EmptyLine, ExtendsLine, Holds}
use Rattle.listing_lines.specs.Outcome.{joined}
use Rattle.listing_lines.specs.Filling.{PutsLine}
use Rattle.listing_lines.proofs.Lines.{later_rest, extends_trans, extends_as, from_empty}
use Rattle.listing_lines.proofs.Gathering.{joined_more, text_within}
use Rattle.text_listing_bytes.specs.Names.{name_word, name_line, name_lines, name_length}

-- ---- the bytes of a name

abbrev is_named : NameAnswer → Bool
is_named (numbered n) = false
is_named unknown = false
is_named (named w) = true
is_named (refused r) = false

abbrev bytes_in : NameAnswer → List ℕ
bytes_in (numbered n) = []
bytes_in unknown = []
bytes_in (named w) = w
bytes_in (refused r) = []

bytes_are : (a : NameReply) (out w : List ℕ) → answer_of a out ≡ named w → take (name_length a) out ≡ w
bytes_are (Numbered n) out w e = absurd (false≢true (ap is_named e))
bytes_are Unknown out w e = absurd (false≢true (ap is_named e))
bytes_are (Named n) out w e = ap bytes_in e
bytes_are (Refused r) out w e = absurd (false≢true (ap is_named e))

few_bytes : (a : NameReply) → LengthFits a → name_length a ≤ 32
few_bytes (Numbered n) f = omega arith
few_bytes Unknown f = omega arith
few_bytes (Named n) f = f
few_bytes (Refused r) f = omega arith

module _ (bytes : List ℕ) (count number : ℕ) (found : NameBytes) (h : NameCalled bytes count number found) (r : ℕ) (q : r ≡ name_length found.answer) where
  clauses : NameClauses bytes count number found
  clauses = name_equation_gives_clauses bytes count number found h

  pub name_short : r ≤ 32
  name_short = subst (λ (k : ℕ). k ≤ 32) (sym q) (few_bytes found.answer clauses.fits)

  pub name_is : SoundNames bytes count → number < count → take r found.bytes ≡ get_or (names_of bytes count) number []
  unfolding name_call
  name_is s l =
      let e = names_length bytes count in
      let t = lt-ltb number (length (names_of bytes count)) (omega (arith, e, l)) in
      ap (λ (k : ℕ). take k found.bytes) q
      ∙ bytes_are found.answer found.bytes (get_or (names_of bytes count) number [])
      (ap (λ (x : NamesLeft). x.answer) (clauses.called.equation (yes s)) ∙ ap (λ (b : Bool). (cond b (answers (named (get_or (names_of bytes count) number [])) (names_of bytes count)) (answers unknown (names_of bytes count))).answer) t)

-- ---- the line

pub name_line_is : {a b c d f g : Line} (names : List (List ℕ)) (i m : ℕ) (x : List ℕ) → EmptyLine a → ExtendsLine a name_word 4 b → ExtendsLine b (space ∷ decimal i) number_bytes c
    → ExtendsLine c (space ∷ []) 1 d → ExtendsLine d x m f → m ≤ 32 → ExtendsLine f (line_feed ∷ []) 1 g → x ≡ get_or names i [] → Holds (name_line names i) g
name_line_is names i m x e p q r s l t w =
    from_empty e
    (extends_as _ _
    (ap (λ (y : List ℕ). y ++ (line_feed ∷ []))
    (append_assoc (name_word ++ (space ∷ decimal i)) (space ∷ []) x ∙ ap (λ (y : List ℕ). (name_word ++ (space ∷ decimal i)) ++ (space ∷ y)) w))
    (extends_trans (extends_trans (extends_trans (extends_trans p q) r) s) t))
    (omega arith)

-- so many bytes at most
pub take_few : (j : ℕ) (l : List ℕ) → j ≤ 32 → length (take j l) ≤ 32
take_few j l h = let m : min j (length l) ≤ j = min-le_left j (length l) in omega (arith, length-take j l, m)

-- room in a line
pub room_for_name : (a b c d n : ℕ) → a ≡ 0 → b ≤ a + 4 → c ≤ b + 21 → d ≤ c + 1 → n ≤ 32 → d + n ≤ line_bytes
room_for_name a b c d n p q r s t = omega arith

pub room_for_feed : (a b c d f n : ℕ) → a ≡ 0 → b ≤ a + 4 → c ≤ b + 21 → d ≤ c + 1 → f ≤ d + n → n ≤ 32 → f + 1 ≤ line_bytes
room_for_feed a b c d f n p q r s t u = omega arith

-- ---- all lines

pub record Written (line : ℕ → List ℕ) (count : ℕ) (out₀ : List ℕ) (at : ℕ) (out : List ℕ) (place i : ℕ) : Type 0 where
  pub is : take place out ≡ take at out₀ ++ joined line i 0
  pub place_is : place ≡ at + length (joined line i 0)
  pub low : place ≤ at + i * line_bytes
  pub some : i ≤ count
  pub rest : drop place out ≡ drop place out₀

pub written_none : (line : ℕ → List ℕ) (count : ℕ) (out : List ℕ) (at : ℕ) → Written line count out at out at 0
unfolding joined
written_none line count out at = record { is = sym (append-nil (take at out)); place_is = omega arith; low = omega arith; some = omega arith; rest = refl }

module _ (line : ℕ → List ℕ) (count : ℕ) (out₀ : List ℕ) (at : ℕ) (out : List ℕ) (place i : ℕ) (w : Written line count out₀ at out place i) where
  one_more : joined line (i + 1) 0 ≡ joined line i 0 ++ line i
  one_more =
      ap (λ (k : ℕ). joined line k 0) (let e : i + 1 ≡ suc i = omega arith in e) ∙ joined_more line i 0
      ∙ ap (λ (k : ℕ). joined line i 0 ++ line k) (let e : 0 + i ≡ i = omega arith in e)

  pub written_more : i < count → (l : Line) → Holds (line i) l → (r : ℕ) (out' : List ℕ) → PutsLine (text l) place out r out' → Written line count out₀ at out' r (i + 1)
  written_more m l h r out' p =
      let a = w.place_is in
      let b = w.low in
      let c = p.place in
      let d = text_within l h.within in
      let longer : length (joined line (i + 1) 0) ≡ length (joined line i 0) + length (text l)
      = ap length one_more ∙ length-append (joined line i 0) (line i) ∙ ap (λ (x : List ℕ). length (joined line i 0) + length x) (sym h.is) in
      record {
        is =
            p.is ∙ ap (λ (x : List ℕ). x ++ text l) w.is ∙ ap (λ (x : List ℕ). (take at out₀ ++ joined line i 0) ++ x) h.is
            ∙ append_assoc (take at out₀) (joined line i 0) (line i) ∙ ap (λ (x : List ℕ). take at out₀ ++ x) (sym one_more);
        place_is = omega (arith, longer);
        low = omega arith;
        some = omega arith;
        rest = p.rest ∙ later_rest place r out out₀ (omega arith) w.rest;
      }

pub written_all : (names : List (List ℕ)) (count : ℕ) (out₀ : List ℕ) (at : ℕ) (out : List ℕ) (place i : ℕ) → length names ≡ count
    → Written (name_line names) count out₀ at out place i → count ≤ i → PutsLine (name_lines names) at out₀ place out
written_all names count out₀ at out place i n w l =
    let s = w.some in
    let e : i ≡ length names = omega arith in
    record {
      is = w.is ∙ ap (λ (k : ℕ). take at out₀ ++ joined (name_line names) k 0) e;
      place = w.place_is ∙ ap (λ (k : ℕ). at + length (joined (name_line names) k 0)) e;
      rest = w.rest;
    }
