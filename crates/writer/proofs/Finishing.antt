-- The text copied to the lent buffer, and the refusals.
use Rattle.std.proofs.Common.{◌≡◌, ℕ, zero, suc, ◌+◌, ◌-◌, ◌<◌, ◌≤◌, Bool, true, false, ◌⊎◌, List, [], ◌++◌, length, get_or, take, drop, replicate, sym, refl, ap, ◌∙◌, ap₂, inl, inr, arith, length-drop, take_all}
use mathlib.Core.Bool.{false≢true}
use mathlib.Core.Option.{Option, none, some}
use lib.ListN.{length-replicate}
use lib.Seq.{drop-length}
use Rattle.text_language.specs.Grammar.{Expr}
use Rattle.expression_text.specs.Written.{text_of, depth_of}
use Rattle.writer.specs.Expression.{is_some, or_any}
use Rattle.text_language.specs.Reading.{most_bytes, most_nested}
use Rattle.writer.specs.Placing.{spare, space, placed, PlacedText, Open}
use Rattle.writer.specs.Sweeping.{Texted, WritesExpression, Unreached}
use Rattle.definitions.specs.Limits.{most_nodes}
use Rattle.definitions.specs.Refusals.{no_text, text_too_long}
use Rattle.writer.specs.Answers.{Length, Refused}
use Rattle.writer.proofs.Pieces.{placed_bare, deep_bare, rank_high}

-- ---- copying

pub copied : (out : List ℕ) (place : ℕ) (buffer part : List ℕ) → length out ≡ space → part ≡ take (space - place) (drop place out)
    → part ++ drop (space - place) buffer ≡ drop place out ++ drop (length (drop place out)) buffer
copied out place buffer part l e =
    let n : length (drop place out) ≡ space - place = length-drop place out ∙ ap (λ (k : ℕ). k - place) l in
    ap₂ (λ (x : List ℕ) (k : ℕ). x ++ drop k buffer) (e ∙ take_all (space - place) (drop place out) (omega arith)) (sym n)

-- ---- the answers

pub write_none : (t : Option Expr) (buffer : List ℕ) {b : Bool} → b ≡ is_some t → b ≡ false → WritesExpression t buffer (Refused no_text) buffer
unfolding WritesExpression
write_none none buffer e f = (refl, refl)
write_none (some x) buffer e f = absurd (false≢true (sym f ∙ e))

pub has_some : (t : Option Expr) {b : Bool} → b ≡ is_some t → b ≡ true → is_some t ≡ true
has_some t e f = sym e ∙ f

whole_text : (e : Expr) → placed 4 e [] ≡ text_of e
unfolding text_of
whole_text e = placed_bare 4 e (rank_high e) []

module _ (out₀ : List ℕ) (l : length out₀ ≡ space) where
  nothing_after : drop space out₀ ≡ []
  nothing_after = ap (λ (n : ℕ). drop n out₀) (sym l) ∙ drop-length out₀

  module _ (e : Expr) (out : List ℕ) (place : ℕ) (w : PlacedText e 4 64 (drop space out₀) out place) where
    full_text : placed 4 e (drop space out₀) ≡ text_of e
    full_text = ap (placed 4 e) nothing_after ∙ whole_text e

    stopped_too : place < spare → (most_bytes < length (text_of e)) ⊎ (most_nested < depth_of e)
    stopped_too h = elim (w.stopped h) [ inl y ↦ inl (let z = ap length full_text in omega arith) | inr y ↦ inr (let z = deep_bare 4 e (rank_high e) in omega arith) ]

    is_text_lem : spare ≤ place → drop place out ≡ text_of e
    is_text_lem h = (w.done h).0 ∙ full_text

    text_length : spare ≤ place → length (text_of e) + place ≡ space
    text_length h = let z = ap length (is_text_lem h) in let y = w.within in let x = w.long in omega (arith, length-drop place out)

    shallow : spare ≤ place → depth_of e ≤ most_nested
    shallow h = let z = (w.done h).1 in let y = deep_bare 4 e (rank_high e) in omega arith

    texted_stop : (buffer : List ℕ) → place < spare → Texted e buffer (Refused text_too_long) buffer
    texted_stop buffer h = record {
      refused = λ x. (refl, refl);
      written = λ a b d. absurd (elim (stopped_too h) [ inl y ↦ omega arith | inr y ↦ omega arith ]);
    }

    texted_short : (buffer : List ℕ) → spare ≤ place → length buffer < space - place → Texted e buffer (Refused text_too_long) buffer
    texted_short buffer h s = record { refused = λ x. (refl, refl); written = λ a b d. absurd (let z = text_length h in omega arith) }

    texted_done : (buffer buffer' : List ℕ) → spare ≤ place → space - place ≤ length buffer → buffer' ≡ drop place out ++ drop (length (drop place out)) buffer
        → Texted e buffer (Length (space - place)) buffer'
    texted_done buffer buffer' h s q =
        let n = text_length h in
        let z : space - place ≡ length (text_of e) = omega arith in
        record {
          refused = λ x. absurd (elim x [ inl y ↦ omega arith | inr y ↦ elim y [ inl a ↦ omega arith | inr a ↦ (let b = shallow h in omega arith) ] ]);
          written = λ a b d. (ap Length z, q ∙ ap (λ (x : List ℕ). x ++ drop (length x) buffer) (is_text_lem h));
        }

  module _ (t : Option Expr) {b : Bool} (eb : b ≡ is_some t) (f : b ≡ true) {out : List ℕ} {place : ℕ} (w : PlacedText (or_any t) 4 64 (drop space out₀) out place) (buffer : List ℕ) where
    pub write_stop : place < spare → WritesExpression t buffer (Refused text_too_long) buffer
    unfolding WritesExpression
    write_stop h = go t (sym eb ∙ f) w
      where
        go : (t : Option Expr) → is_some t ≡ true → PlacedText (or_any t) 4 64 (drop space out₀) out place → WritesExpression t buffer (Refused text_too_long) buffer
        go none z w = absurd (false≢true z)
        go (some e) z w = texted_stop e out place w buffer h

    pub write_short : spare ≤ place → length buffer < space - place → WritesExpression t buffer (Refused text_too_long) buffer
    unfolding WritesExpression
    write_short h s = go t (sym eb ∙ f) w
      where
        go : (t : Option Expr) → is_some t ≡ true → PlacedText (or_any t) 4 64 (drop space out₀) out place → WritesExpression t buffer (Refused text_too_long) buffer
        go none z w = absurd (false≢true z)
        go (some e) z w = texted_short e out place w buffer h s

    pub write_done : spare ≤ place → space - place ≤ length buffer → {buffer' : List ℕ} → buffer' ≡ drop place out ++ drop (length (drop place out)) buffer → WritesExpression t buffer (Length (space - place)) buffer'
    unfolding WritesExpression
    write_done h s {buffer'} q = go t (sym eb ∙ f) w
      where
        go : (t : Option Expr) → is_some t ≡ true → PlacedText (or_any t) 4 64 (drop space out₀) out place → WritesExpression t buffer (Length (space - place)) buffer'
        go none z w = absurd (false≢true z)
        go (some e) z w = texted_done e out place w buffer buffer' h s q

-- ---- arrays that are filled with 0

zeros : (n i : ℕ) → get_or (replicate {A = ℕ} n 0) i 0 ≡ 0
zeros zero i = refl
zeros (suc n) zero = refl
zeros (suc n) (suc i) = zeros n i

pub unreached_of : (n : ℕ) → n ≡ most_nodes → Unreached (replicate n 0)
unreached_of n e = record { long = length-replicate {A = ℕ} n 0 ∙ e; zeros = zeros n }

pub blank_of : (n : ℕ) → n ≡ space → length (replicate {A = ℕ} n 0) ≡ space
blank_of n e = length-replicate {A = ℕ} n 0 ∙ e

pub open_of : (n : ℕ) → n ≡ space → Open (replicate n 0) space
open_of n e = record { long = blank_of n e; low = omega arith; high = omega arith }
