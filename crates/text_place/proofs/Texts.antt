-- No text of the language begins with bytes that stop: every text is read to its end.
use Prim.Native.Nat.{ℕ, suc, ◌+◌, ◌≤◌}
use mathlib.Core.Path.{◌≡◌, refl, sym, ap, ◌∙◌, subst}
use mathlib.Core.Bool.{Bool, true, false, cond, ◌&&◌, false≢true}
use mathlib.Core.List.{List, [], ◌∷◌, ◌++◌, append_assoc}
use lib.ListN.{length}
use lib.Dec.{ltb}
use native.Mathlib.Omega.{arith}
use borrow.Author.Tests.{lt-ltb, lt-leb}
use Rattle.text_language.specs.Grammar.{Chain, sums, products, Expr, is_digit, is_letter, is_word, is_hex, Run, stop, more, Atom, Sign, sign, Level, Reads, one, next, base, raise, atom, minus, bracket, Blanks, Text}
use Rattle.text_place.specs.declared.ScanProgress.{ScanProgress}
use Rattle.text_place.specs.declared.ScanProgress.TheVariants.{Wanted, Digits, Name, Bits, Ended}
use Rattle.std.specs.Prelude.{Option, Some}
use Rattle.text_place.specs.Progress.{most_digits, longest_name, operand_byte, byte_after, advance, reach}
use Rattle.text_place.specs.Stopping.{NoTextBegins}
use Rattle.text_language.proofs.Tokens.{letter_no_digit}
use Rattle.text_place.proofs.Bytes.{wanted_digit, wanted_letter}
use Rattle.text_place.proofs.Reaching.{reach_append, stays_stopped, on_not_stop}

-- from one progress to another: s is some bytes and then r
pub record Passes (p : ScanProgress) (s : List ℕ) (q : ScanProgress) (r : List ℕ) : Type 0 where
  pub bytes : List ℕ
  pub split : s ≡ bytes ++ r
  pub goes : reach (Some p) bytes ≡ Some q

none : (p : ScanProgress) (s : List ℕ) → Passes p s p s
unfolding reach
none p s = record { bytes = []; split = refl; goes = refl }

first : (p m q : ScanProgress) (c : ℕ) (s r : List ℕ) → advance p c ≡ Some m → Passes m s q r → Passes p (c ∷ s) q r
unfolding reach
first p m q c s r e h = record { bytes = c ∷ h.bytes; split = ap (λ (x : List ℕ). c ∷ x) h.split; goes = ap (λ (x : Option ScanProgress). reach x h.bytes) e ∙ h.goes }

both : (p m q : ScanProgress) (s t r : List ℕ) → Passes p s m t → Passes m t q r → Passes p s q r
both p m q s t r g h = record {
  bytes = g.bytes ++ h.bytes;
  split = g.split ∙ ap (λ (x : List ℕ). g.bytes ++ x) h.split ∙ sym (append_assoc g.bytes h.bytes r);
  goes = reach_append (Some p) g.bytes h.bytes ∙ ap (λ (x : Option ScanProgress). reach x h.bytes) g.goes ∙ h.goes;
}

-- an operand is whole, with so many brackets open
pub data Whole (b : ℕ) : ScanProgress → Type 0 where
  digits : {l : ℕ} → Whole b (Digits l b)
  name : {l : ℕ} → Whole b (Name l b)
  bits : Whole b (Bits 16 b)
  ended : Whole b (Ended b)

-- from a wanted operand to a whole one
pub record Operand (b : ℕ) (s r : List ℕ) : Type 0 where
  pub at : ScanProgress
  pub whole : Whole b at
  pub passes : Passes (Wanted b) s at r

-- ---- the bytes after an operand: a blank, a sign, a bracket

-- no such byte goes on with a number or a name
pub data After : ℕ → Type 0 where
  blank : After 32
  plus : After 43
  dash : After 45
  star : After 42
  slash : After 47
  caret : After 94
  shut : After 41

no_digit : {c : ℕ} → After c → is_digit c ≡ false
no_digit blank = refl
no_digit plus = refl
no_digit dash = refl
no_digit star = refl
no_digit slash = refl
no_digit caret = refl
no_digit shut = refl

no_word : {c : ℕ} → After c → is_word c ≡ false
no_word blank = refl
no_word plus = refl
no_word dash = refl
no_word star = refl
no_word slash = refl
no_word caret = refl
no_word shut = refl

after_whole : (b c : ℕ) (p : ScanProgress) → After c → Whole b p → advance p c ≡ byte_after b c
unfolding advance
after_whole b c p a (digits {l}) = ap (λ (x : Bool). cond (x && ltb l most_digits) (Some (Digits (suc l) b)) (byte_after b c)) (no_digit a)
after_whole b c p a (name {l}) = ap (λ (x : Bool). cond (x && ltb l longest_name) (Some (Name (suc l) b)) (byte_after b c)) (no_word a)
after_whole b c p a bits = refl
after_whole b c p a ended = refl

-- a sign that joins, blanks before it
module _ (k : ℕ) (a : After k) (b : ℕ) (m : ScanProgress) (e : byte_after b k ≡ Some m) where
  pub to_sign : {s r : List ℕ} → (p : ScanProgress) → Whole b p → Sign k s r → Passes p s m r
  unfolding byte_after
  to_sign p w (Sign.blank {c} {s} {r} z h) =
      first p (Ended b) m c s r (subst (λ (x : ℕ). advance p x ≡ Some (Ended b)) (sym z) (after_whole b 32 p blank w)) (to_sign (Ended b) ended h)
  to_sign p w (Sign.here {c} {s} z) = first p m m c s s (subst (λ (x : ℕ). advance p x ≡ Some m) (sym z) (after_whole b k p a w ∙ e)) (none m s)

-- a sign where an operand is wanted
module _ (k : ℕ) (b : ℕ) (m : ScanProgress) (e : operand_byte b k ≡ Some m) where
  pub to_operand : {s r : List ℕ} → Sign k s r → Passes (Wanted b) s m r
  unfolding advance
  to_operand (Sign.blank {c} {s} {r} z h) = first (Wanted b) (Wanted b) m c s r (ap (λ (x : ℕ). operand_byte b x) z) (to_operand h)
  to_operand (Sign.here {c} {s} z) = first (Wanted b) m m c s s (ap (λ (x : ℕ). operand_byte b x) z ∙ e) (none m s)

-- ---- numbers and names

all_digits : (b l : ℕ) {s w r : List ℕ} → Run is_digit s w r → l + length w ≤ most_digits → Passes (Digits l b) s (Digits (l + length w) b) r
unfolding advance
all_digits b l (stop {s}) h = subst (λ (k : ℕ). Passes (Digits l b) s (Digits k b) s) (let e : l ≡ l + 0 = omega arith in e) (none (Digits l b) s)
all_digits b l (more {c} {s} {w} {r} p g) h =
    first (Digits l b) (Digits (suc l) b) _ c s r (rw (p, lt-ltb l 9 (omega arith)) refl)
    (subst (λ (k : ℕ). Passes (Digits (suc l) b) s (Digits k b) r) (let e : suc l + length w ≡ l + suc (length w) = omega arith in e) (all_digits b (suc l) g (omega arith)))

all_letters : (b l : ℕ) {s w r : List ℕ} → Run is_word s w r → l + length w ≤ longest_name → Passes (Name l b) s (Name (l + length w) b) r
unfolding advance
all_letters b l (stop {s}) h = subst (λ (k : ℕ). Passes (Name l b) s (Name k b) s) (let e : l ≡ l + 0 = omega arith in e) (none (Name l b) s)
all_letters b l (more {c} {s} {w} {r} p g) h =
    first (Name l b) (Name (suc l) b) _ c s r (rw (p, lt-ltb l 32 (omega arith)) refl)
    (subst (λ (k : ℕ). Passes (Name (suc l) b) s (Name k b) r) (let e : suc l + length w ≡ l + suc (length w) = omega arith in e) (all_letters b (suc l) g (omega arith)))

all_hex : (b l : ℕ) {s w r : List ℕ} → Run is_hex s w r → l + length w ≤ 16 → Passes (Bits l b) s (Bits (l + length w) b) r
unfolding advance
all_hex b l (stop {s}) h = subst (λ (k : ℕ). Passes (Bits l b) s (Bits k b) s) (let e : l ≡ l + 0 = omega arith in e) (none (Bits l b) s)
all_hex b l (more {c} {s} {w} {r} p g) h =
    first (Bits l b) (Bits (suc l) b) _ c s r (rw (lt-leb 16 l (omega arith), p) refl)
    (subst (λ (k : ℕ). Passes (Bits (suc l) b) s (Bits k b) r) (let e : suc l + length w ≡ l + suc (length w) = omega arith in e) (all_hex b (suc l) g (omega arith)))

-- the first byte of a number or a name
not_byte : (p : ℕ → Bool) (c k : ℕ) → p c ≡ true → p k ≡ false → c ≡ k → ⊥
not_byte p c k h f z = false≢true (sym f ∙ sym (ap p z) ∙ h)

digit_first : (b c : ℕ) → is_digit c ≡ true → operand_byte b c ≡ Some (Digits 1 b)
digit_first b c h = sym (wanted_digit b c (not_byte is_digit c 32 h refl) (not_byte is_digit c 45 h refl) (not_byte is_digit c 40 h refl) h)

letter_first : (b c : ℕ) → is_letter c ≡ true → operand_byte b c ≡ Some (Name 1 b)
letter_first b c h =
    sym (wanted_letter b c (not_byte is_letter c 32 h refl) (not_byte is_letter c 45 h refl) (not_byte is_letter c 40 h refl) (letter_no_digit c h) h)

-- ---- operands

module _ (b : ℕ) where
  pub atom_passes : {s r : List ℕ} {e : Expr} → Atom s e r → Operand b s r
  unfolding advance operand_byte
  atom_passes (Atom.blank {c} {s} {r} z a) =
      let o = atom_passes a in
      record { at = o.at; whole = o.whole; passes = first (Wanted b) (Wanted b) o.at c s r (ap (λ (x : ℕ). operand_byte b x) z) o.passes }
  atom_passes (Atom.whole {c} {s} {w} {r} h g l) =
      record { at = Digits (1 + length w) b; whole = digits; passes = first (Wanted b) (Digits 1 b) _ c s r (digit_first b c h) (all_digits b 1 g (omega arith)) }
  atom_passes (Atom.bits {c} {s} {w} {r} z g l) =
      record { at = Bits 16 b; whole = bits; passes = first (Wanted b) (Bits 0 b) _ c s r (ap (λ (x : ℕ). operand_byte b x) z) (subst (λ (k : ℕ). Passes (Bits 0 b) s (Bits k b) r) (let e : 0 + length w ≡ 16 = omega (arith, l) in e) (all_hex b 0 g (omega (arith, l)))) }
  atom_passes (Atom.name {c} {s} {w} {r} h g l) =
      record { at = Name (1 + length w) b; whole = name; passes = first (Wanted b) (Name 1 b) _ c s r (letter_first b c h) (all_letters b 1 g (omega arith)) }

-- the signs of a chain
join_after : (k : Chain) (x : Bool) → After (sign k x)
join_after sums false = plus
join_after sums true = dash
join_after products false = star
join_after products true = slash

join_wants : (b : ℕ) (k : Chain) (x : Bool) → byte_after b (sign k x) ≡ Some (Wanted b)
unfolding byte_after
join_wants b sums false = refl
join_wants b sums true = refl
join_wants b products false = refl
join_wants b products true = refl

caret_wants : (b : ℕ) → byte_after b 94 ≡ Some (Wanted b)
unfolding byte_after
caret_wants b = refl

bracket_ends : (b : ℕ) → byte_after (suc b) 41 ≡ Some (Ended b)
unfolding byte_after
bracket_ends b = refl

minus_wants : (b : ℕ) → operand_byte b 45 ≡ Some (Wanted b)
unfolding operand_byte
minus_wants b = refl

bracket_wants : (b : ℕ) → operand_byte b 40 ≡ Some (Wanted (suc b))
unfolding operand_byte
bracket_wants b = refl

-- a left operand, a sign, and a right one
joined : (b k : ℕ) → After k → byte_after b k ≡ Some (Wanted b) → (s r t u : List ℕ) → Operand b s r → Sign k r t → Operand b t u → Operand b s u
joined b k a e s r t u left h right = record {
  at = right.at;
  whole = right.whole;
  passes = both (Wanted b) left.at right.at s r u left.passes (both left.at (Wanted b) right.at r t u (to_sign k a b (Wanted b) e left.at left.whole h) right.passes);
}

pub reads_pass : (b : ℕ) {l : Level} {s r : List ℕ} {e : Expr} {d : ℕ} → Reads l s e d r → Operand b s r
reads_pass b (one h) = reads_pass b h
reads_pass b (next {k} {s} {r} {t} {u} x h p q) = joined b (sign k x) (join_after k x) (join_wants b k x) s r t u (reads_pass b h) p (reads_pass b q)
reads_pass b (base h) = reads_pass b h
reads_pass b (raise {s} {r} {t} {u} h p q) = joined b 94 caret (caret_wants b) s r t u (reads_pass b h) p (reads_pass b q)
reads_pass b (atom a) = atom_passes b a
reads_pass b (minus {s} {t} {r} p h) =
    let o = reads_pass b h in
    record { at = o.at; whole = o.whole; passes = both (Wanted b) (Wanted b) o.at s t r (to_operand 45 b (Wanted b) (minus_wants b) p) o.passes }
reads_pass b (bracket {s} {t} {r} {u} p h q) =
    let o = reads_pass (suc b) h in
    record {
      at = Ended b;
      whole = ended;
      passes = both (Wanted b) (Wanted (suc b)) (Ended b) s t u (to_operand 40 b (Wanted (suc b)) (bracket_wants b) p)
          (both (Wanted (suc b)) o.at (Ended b) t r u o.passes (to_sign 41 shut (suc b) (Ended b) (bracket_ends b) o.at o.whole q));
    }

-- blanks at the end
pub record Goes (p : ScanProgress) (s : List ℕ) : Type 0 where
  pub at : ScanProgress
  pub is : reach (Some p) s ≡ Some at

blanks_pass : (b : ℕ) (p : ScanProgress) → Whole b p → {s : List ℕ} → Blanks s → Goes p s
unfolding reach byte_after
blanks_pass b p w Blanks.none = record { at = p; is = refl }
blanks_pass b p w (Blanks.more {c} {s} z h) =
    let g = blanks_pass b (Ended b) ended h in
    record { at = g.at; is = ap (λ (x : Option ScanProgress). reach x s) (subst (λ (x : ℕ). advance p x ≡ Some (Ended b)) (sym z) (after_whole b 32 p blank w)) ∙ g.is }

pub text_goes : {s : List ℕ} {e : Expr} {d : ℕ} → Text s e d → Goes (Wanted 0) s
text_goes {s} t =
    let o = reads_pass 0 t.reads in
    let g = blanks_pass 0 o.at o.whole t.blanks in
    let p = o.passes in
    record {
      at = g.at;
      is = ap (λ (x : List ℕ). reach (Some (Wanted 0)) x) p.split ∙ reach_append (Some (Wanted 0)) p.bytes t.left ∙ ap (λ (x : Option ScanProgress). reach x t.left) p.goes ∙ g.is;
    }

pub no_text_begins : NoTextBegins
no_text_begins u v e d h t =
    let g = text_goes t in
    on_not_stop g.at (sym g.is ∙ reach_append (Some (Wanted 0)) u v ∙ ap (λ (x : Option ScanProgress). reach x v) h ∙ stays_stopped v)
