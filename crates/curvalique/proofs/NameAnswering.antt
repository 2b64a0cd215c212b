-- From a name call's record to what it says in numbers.
use Prim.Native.Nat.{ℕ, zero, suc, min}
use mathlib.Core.Path.{◌≡◌, refl, sym, ap, ◌∙◌, subst}
use mathlib.Core.Bool.{Bool, true, false, cond, false≢true}
use mathlib.Core.List.{List, [], ◌∷◌}
use mathlib.Core.Option.{Option, none, some}
use native.Mathlib.Omega.{arith}
use lib.ListN.{length, get_or, drop}
use lib.Dec.{ltb}
use Rattle.definitions.specs.Names.{NameCall, intern_name, lookup_name, name_of, NameAnswer, numbered, unknown, named, refused, NameResult, answers, name_call, number_from, length_allowed, intern_at, lookup_at, most_names}
use Rattle.definitions.specs.Refusals.{bad_name_length, no_name_place}
use Rattle.names.specs.declared.NameReply.{NameReply}
use Rattle.names.specs.declared.NameReply.TheVariants.{Numbered, Unknown, Named, Refused}
use Rattle.names.specs.declared.NameBytes.{NameBytes}
use Rattle.names.specs.Calls.{answer_of, NameListCalled, NameCalled, NameClauses, plainly, bytes_beside, LengthFits}
use Rattle.names.specs.Memory.{NamesLeft}
use Rattle.names.proofs.Clauses.{name_equation_gives_clauses}
use Rattle.name_entries.specs.Sound.{SoundNames, lent_entries, names_of}
use Rattle.outputs.specs.Calls.{OutputsStay}
use Rattle.outputs.specs.NameCalls.{name_unless_refused, number_if_known, name_if_known, Known, Padded, name_outputs}

-- what each call may answer; no refusal has the number 0
abbrev pub intern_answer : NameAnswer → Bool
intern_answer (numbered n) = true
intern_answer unknown = false
intern_answer (named name) = false
intern_answer (refused zero) = false
intern_answer (refused (suc number)) = true

abbrev lookup_answer : NameAnswer → Bool
lookup_answer (numbered n) = true
lookup_answer unknown = true
lookup_answer (named name) = false
lookup_answer (refused zero) = false
lookup_answer (refused (suc number)) = true

abbrev name_answer : NameAnswer → Bool
name_answer (numbered n) = false
name_answer unknown = true
name_answer (named name) = true
name_answer (refused zero) = false
name_answer (refused (suc number)) = true

-- ---- the plain registry's answers

plain_intern : (lent : ℕ) (names : List (List ℕ)) (name : List ℕ) → intern_answer (name_call lent names (intern_name name)).answer ≡ true
unfolding name_call
plain_intern lent names name = by (length_allowed name) (number_from names 0 name)
  where
    new : (b : Bool) (r : NameResult) → intern_answer r.answer ≡ true → intern_answer (cond b r (answers (refused no_name_place) names)).answer ≡ true
    new true r h = h
    new false r h = refl

    by : (b : Bool) (o : Option ℕ) → intern_answer (cond b (intern_at lent names name o) (answers (refused bad_name_length) names)).answer ≡ true
    by true (some n) = refl
    by true none = new (ltb (length names) (min lent most_names)) _ refl
    by false o = refl

plain_lookup : (lent : ℕ) (names : List (List ℕ)) (name : List ℕ) → lookup_answer (name_call lent names (lookup_name name)).answer ≡ true
unfolding name_call
plain_lookup lent names name = by (length_allowed name) (number_from names 0 name)
  where
    by : (b : Bool) (o : Option ℕ) → lookup_answer (cond b (answers (lookup_at o) names) (answers (refused bad_name_length) names)).answer ≡ true
    by true (some n) = refl
    by true none = refl
    by false o = refl

plain_name : (lent : ℕ) (names : List (List ℕ)) (n : ℕ) → name_answer (name_call lent names (name_of n)).answer ≡ true
unfolding name_call
plain_name lent names n = by (ltb n (length names))
  where
    by : (b : Bool) → name_answer (cond b (answers (named (get_or names n [])) names) (answers unknown names)).answer ≡ true
    by true = refl
    by false = refl

-- ---- what is known

is_known : (before after : List ℕ) → Known 0 1 before after
is_known before after = λ _. (omega arith, λ z. absurd (omega arith))

not_known : (out : List ℕ) → Known 0 0 out out
not_known out = λ _. (omega arith, λ _. refl)

-- ---- a call's answer on any list: where it is not sound, the answer is the refusal 20

module _ (bytes : List ℕ) (count : ℕ) where
  fits : (may : NameAnswer → Bool) (call : NameCall) (answer : NameAnswer) (bytes' : List ℕ) (count' : ℕ)
      → may (refused 20) ≡ true → may (plainly bytes count call).answer ≡ true → NameListCalled bytes count call answer bytes' count' → may answer ≡ false → ⊥
  fits may call answer bytes' count' u p h f =
      let not_sound : SoundNames bytes count → ⊥ = λ s. false≢true (sym f ∙ ap (λ (x : NamesLeft). may x.answer) (h.equation (yes s)) ∙ p) in
      false≢true (sym f ∙ ap (λ (x : NamesLeft). may x.answer) (h.equation (no not_sound)) ∙ u)

  pub intern_fits : (name : List ℕ) (answer : NameAnswer) (bytes' : List ℕ) (count' : ℕ) → NameListCalled bytes count (intern_name name) answer bytes' count' → intern_answer answer ≡ false → ⊥
  intern_fits name answer bytes' count' = fits intern_answer (intern_name name) answer bytes' count' refl (plain_intern (lent_entries bytes) (names_of bytes count) name)

  lookup_fits : (name : List ℕ) (answer : NameAnswer) (bytes' : List ℕ) (count' : ℕ) → NameListCalled bytes count (lookup_name name) answer bytes' count' → lookup_answer answer ≡ false → ⊥
  lookup_fits name answer bytes' count' = fits lookup_answer (lookup_name name) answer bytes' count' refl (plain_lookup (lent_entries bytes) (names_of bytes count) name)

  name_fits : (n : ℕ) (answer : NameAnswer) (bytes' : List ℕ) (count' : ℕ) → NameListCalled bytes count (name_of n) answer bytes' count' → name_answer answer ≡ false → ⊥
  name_fits n answer bytes' count' = fits name_answer (name_of n) answer bytes' count' refl (plain_name (lent_entries bytes) (names_of bytes count) n)

  -- ---- a call in numbers

  pub name_answered : (call : NameCall) (answer left : NameAnswer) (bytes' : List ℕ) (count' : ℕ) (before after : List ℕ)
      → NameListCalled bytes count call answer bytes' count' → answer ≡ left → NameListCalled bytes count call (name_unless_refused 0 left) bytes' count' × OutputsStay 0 before after
  name_answered call answer left bytes' count' before after h e = (subst (λ (a : NameAnswer). NameListCalled bytes count call a bytes' count') e h, λ p. absurd (omega arith))

  pub name_refused : (call : NameCall) (answer left : NameAnswer) (bytes' : List ℕ) (count' number : ℕ) (out : List ℕ)
      → NameListCalled bytes count call answer bytes' count' → answer ≡ refused number → (number ≡ 0 → ⊥) → NameListCalled bytes count call (name_unless_refused number left) bytes' count' × OutputsStay number out out
  name_refused call answer left bytes' count' zero out h e n = absurd (n refl)
  name_refused call answer left bytes' count' (suc number) out h e n = (subst (λ (a : NameAnswer). NameListCalled bytes count call a bytes' count') e h, λ _. refl)

  -- ---- a number looked up

  module _ (name : List ℕ) (answer : NameAnswer) (h : NameListCalled bytes count (lookup_name name) answer bytes count) where
    given_lookup : (left : NameAnswer) → answer ≡ left → NameListCalled bytes count (lookup_name name) left bytes count
    given_lookup left e = subst (λ (a : NameAnswer). NameListCalled bytes count (lookup_name name) a bytes count) e h

    pub never_named : (found : List ℕ) → answer ≡ named found → ⊥
    never_named found e = lookup_fits name (named found) bytes count (given_lookup (named found) e) refl

    pub lookup_known : (number : ℕ) (before after before' after' : List ℕ) → answer ≡ numbered number
        → NameListCalled bytes count (lookup_name name) (name_unless_refused 0 (number_if_known 1 number)) bytes count × (Known 0 1 before after × OutputsStay 0 before' after')
    lookup_known number before after before' after' e = (given_lookup (numbered number) e, (is_known before after, λ p. absurd (omega arith)))

    pub lookup_unknown : (number : ℕ) (out before' after' : List ℕ) → answer ≡ unknown
        → NameListCalled bytes count (lookup_name name) (name_unless_refused 0 (number_if_known 0 number)) bytes count × (Known 0 0 out out × OutputsStay 0 before' after')
    lookup_unknown number out before' after' e = (given_lookup unknown e, (not_known out, λ p. absurd (omega arith)))

    pub lookup_refused : (refusal known number : ℕ) (before after out : List ℕ) → answer ≡ refused refusal
        → NameListCalled bytes count (lookup_name name) (name_unless_refused refusal (number_if_known known number)) bytes count × (Known refusal known before after × OutputsStay refusal out out)
    lookup_refused zero known number before after out e = absurd (lookup_fits name (refused 0) bytes count (given_lookup (refused 0) e) refl)
    lookup_refused (suc refusal) known number before after out e = (given_lookup (refused (suc refusal)) e, (λ z. absurd (omega arith), λ _. refl))

  -- ---- a name, with its bytes

  module _ (n : ℕ) (found : NameBytes) (h : NameCalled bytes count n found) where
    clauses : NameClauses bytes count n found
    clauses = name_equation_gives_clauses bytes count n found h

    given : (answer : NameReply) → found.answer ≡ answer → NameListCalled bytes count (name_of n) (answer_of answer found.bytes) bytes count
    given answer e = subst (λ (a : NameReply). NameListCalled bytes count (name_of n) (answer_of a found.bytes) bytes count) e clauses.called

    never_numbered : (number : ℕ) → found.answer ≡ Numbered number → ⊥
    never_numbered number e = name_fits n (numbered number) bytes count (given (Numbered number) e) refl

    name_unknown : (size : ℕ) (out kept before after : List ℕ) → found.answer ≡ Unknown
        → NameListCalled bytes count (name_of n) (name_unless_refused 0 (name_if_known 0 size out)) bytes count × (Known 0 0 kept kept × (Padded 0 0 size out × OutputsStay 0 before after))
    name_unknown size out kept before after e = (given Unknown e, (not_known kept, (λ _ p. absurd (omega arith), λ p. absurd (omega arith))))

    padded : (size : ℕ) → found.answer ≡ Named size → Padded 0 1 size found.bytes
    padded size e = λ _ _. (subst LengthFits e clauses.fits, clauses.beside ∙ ap (λ (a : NameReply). bytes_beside (answer_of a found.bytes)) e)

    name_known : (size : ℕ) (before after before' after' : List ℕ) → found.answer ≡ Named size
        → NameListCalled bytes count (name_of n) (name_unless_refused 0 (name_if_known 1 size found.bytes)) bytes count × (Known 0 1 before after × (Padded 0 1 size found.bytes × OutputsStay 0 before' after'))
    name_known size before after before' after' e = (given (Named size) e, (is_known before after, (padded size e, λ p. absurd (omega arith))))

    name_not_given : (number known size : ℕ) (out before after kept : List ℕ) → found.answer ≡ Refused number
        → NameListCalled bytes count (name_of n) (name_unless_refused number (name_if_known known size out)) bytes count × (Known number known before after × (Padded number known size out × OutputsStay number kept kept))
    name_not_given zero known size out before after kept e = absurd (name_fits n (refused 0) bytes count (given (Refused 0) e) refl)
    name_not_given (suc number) known size out before after kept e = (given (Refused (suc number)) e, (λ z. absurd (omega arith), (λ z _. absurd (omega arith), λ _. refl)))

    -- what a list of outputs says of the name
    abbrev InNumbers : ℕ → ℕ → List ℕ → List ℕ → Type 0
    InNumbers known size out outputs =
        NameListCalled bytes count (name_of n) (name_unless_refused (get_or outputs 0 0) (name_if_known (get_or outputs 1 0) (get_or outputs 2 0) (drop 3 outputs))) bytes count
        × (Known (get_or outputs 0 0) (get_or outputs 1 0) (size ∷ out) (drop 2 outputs)
        × (Padded (get_or outputs 0 0) (get_or outputs 1 0) (get_or outputs 2 0) (drop 3 outputs) × OutputsStay (get_or outputs 0 0) (known ∷ size ∷ out) (drop 1 outputs)))

    by_answer : (a : NameReply) (known size : ℕ) (out : List ℕ) → found.answer ≡ a → InNumbers known size out (name_outputs a found.bytes known size out)
    by_answer (Numbered number) known size out e = absurd (never_numbered number e)
    by_answer Unknown known size out e = name_unknown size out (size ∷ out) (known ∷ size ∷ out) (0 ∷ size ∷ out) e
    by_answer (Named found_size) known size out e = name_known found_size (size ∷ out) (found_size ∷ found.bytes) (known ∷ size ∷ out) (1 ∷ found_size ∷ found.bytes) e
    by_answer (Refused number) known size out e = name_not_given number known size out (size ∷ out) (size ∷ out) (known ∷ size ∷ out) e

    -- a name in numbers
    pub name_in_numbers : (r known' size' : ℕ) (out' : List ℕ) (known size : ℕ) (out : List ℕ)
        → r ∷ known' ∷ size' ∷ out' ≡ name_outputs found.answer found.bytes known size out → InNumbers known size out (r ∷ known' ∷ size' ∷ out')
    name_in_numbers r known' size' out' known size out e = subst (InNumbers known size out) (sym e) (by_answer found.answer known size out refl)
