-- A leaf's text is its constant's or its name's.
use Rattle.std.proofs.Common.{◌≡◌, ℕ, zero, suc, ◌*◌, ◌<◌, ◌≤◌, true, List, [], ◌∷◌, ◌++◌, length, get_or, drop, sym, refl, ap, ◌∙◌, subst, arith, get_or-drop, get_or-take}
use mathlib.Core.Bool.{false≢true}
use native.Mathlib.Decide.{dec_lt}
use Rattle.definitions.specs.Node.{at}
use Rattle.store.specs.View.{nodes_in}
use Rattle.name_entries.specs.Sound as Names
use Rattle.name_entries.specs.Entry.{entry_at}
use Rattle.names.proofs.Listing.{names_length, names_at}
use Rattle.text_language.specs.Grammar.{Expr, constant, variable}
use Rattle.expression_text.specs.Numeral.{numeral}
use Rattle.expression_text.specs.Written.{bare}
use Rattle.expression_text.specs.Proper.{is_name}
use Rattle.writer.specs.Expression.{symbol_name}
use Rattle.writer.specs.Placing.{spare, NamedSymbol, PutsBytes, Writable, meant}
use Rattle.writer.proofs.Walking.{at_name, at_number}

past : (l : List (List ℕ)) (i : ℕ) → length l ≤ i → get_or l i [] ≡ []
past [] i h = refl
past (x ∷ l) zero h = absurd (omega arith)
past (x ∷ l) (suc i) h = past l i (omega arith)

module _ (es : List ℕ) (named : ℕ) (s : Names.SoundNames es named) where
  -- a sound list's names can be read
  pub named_at : (i : ℕ) → i < named → NamedSymbol es i
  named_at i h =
      let l = s.lent in
      let e = (s.entries i h).longest in
      let g : get_or (entry_at es i) 0 0 ≡ get_or es (i * 33) 0 = get_or-take 33 (drop (i * 33) es) 0 0 (omega arith) ∙ get_or-drop (i * 33) es 0 0 ∙ ap (λ (k : ℕ). get_or es k 0) (omega arith) in
      record { fits = omega arith; short = omega arith }

  pub name_known : (i : ℕ) → is_name (symbol_name (Names.names_of es named) i) ≡ true → i < named
  unfolding is_name
  name_known i h = go (dec_lt i named)
    where
      go : Dec (i < named) → i < named
      go (yes l) = l
      go (no l) = absurd (false≢true (ap is_name (sym (past (Names.names_of es named) i (omega (arith, names_length es named)))) ∙ h))

module _ {w : List ℕ} {count : ℕ} {es : List ℕ} {named i : ℕ} (v : Writable w count es named i) {kind p : ℕ}
    (ek : kind ≡ (at (nodes_in w count) i).kind) (ep : p ≡ (at (nodes_in w count) i).payload) where
  pub leaf_number : kind ≡ 1 → {place q : ℕ} (r : List ℕ) {out : List ℕ} → PutsBytes (numeral p ++ r) spare place q out → PutsBytes (bare (meant w count es named i) r) spare place q out
  unfolding bare
  leaf_number h {place} {q} r {out} t =
      subst (λ (x : Expr). PutsBytes (bare x r) spare place q out) (ap constant ep ∙ sym (at_number w count es named i v (sym ek ∙ h))) t

  module _ (h : (at (nodes_in w count) i).kind ≤ 1) (n : kind ≡ 1 → ⊥) where
    zero_kind : (at (nodes_in w count) i).kind ≡ 0
    zero_kind = go (at (nodes_in w count) i).kind refl
      where
        go : (k : ℕ) → (at (nodes_in w count) i).kind ≡ k → (at (nodes_in w count) i).kind ≡ 0
        go zero e = e
        go (suc zero) e = absurd (n (ek ∙ e))
        go (suc (suc k)) e = absurd (omega arith)

    known : p < named
    known = let z = name_known es named v.known.names (at (nodes_in w count) i).payload (at_name w count es named i v zero_kind).1 in omega arith

    pub leaf_named : NamedSymbol es p
    leaf_named = named_at es named v.known.names p known

    pub leaf_name : {place q : ℕ} (r : List ℕ) {out : List ℕ} → PutsBytes (Names.name_at es p ++ r) spare place q out → PutsBytes (bare (meant w count es named i) r) spare place q out
    unfolding bare
    leaf_name {place} {q} r {out} t =
        subst (λ (x : Expr). PutsBytes (bare x r) spare place q out)
        (ap variable (sym (names_at es named p known) ∙ ap (λ (x : ℕ). symbol_name (Names.names_of es named) x) ep) ∙ sym (at_name w count es named i v zero_kind).0) t
