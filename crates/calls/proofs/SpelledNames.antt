-- A name spelled by operands, and the call that its first 33 bytes stand for.
use Prim.Native.Nat.{ℕ, ◌+◌, ◌≤◌, ◌<◌, min}
use mathlib.Core.Path.{◌≡◌, refl, sym, ap, ◌∙◌, subst}
use mathlib.Core.Bool.{Bool, true, false, cond}
use mathlib.Core.Option.{Option, none, some}
use mathlib.Core.List.{List, [], ◌∷◌, ◌++◌}
use lib.ListN.{length, take, replicate}
use lib.Seq.{take_all, length-take-le}
use lib.Dec.{ltb}
use native.Mathlib.Omega.{arith}
use native.Mathlib.Decide.{dec_le}
use borrow.Author.Tests.{le-leb, lt-leb}
use Rattle.definitions.specs.Refusals.{bad_name_length, not_sound, no_name_place}
use Rattle.definitions.specs.Names.{NameCall, intern_name, lookup_name, NameAnswer, numbered, named, refused, NameResult, answers, name_call, intern_at, lookup_at, number_from, length_allowed, shortest_name, longest_name, most_names}
use Rattle.names.specs.declared.NameReply.{NameReply}
use Rattle.names.specs.declared.NameReply.TheVariants.{Numbered, Unknown, Named, Refused}
use Rattle.name_entries.specs.Sound.{SoundNames, names_of, lent_entries}
use Rattle.names.specs.Memory.{name_memory, names_after, NamesLeft, names_left}
use Rattle.names.specs.Calls.{answer_of, NameListCalled, plainly, names_left_by}
use Rattle.calls.specs.declared.handing.Reply.TheVariants as Reply
use Rattle.std.specs.Prelude.{Some}
use Rattle.encoding.specs.Encoding.{bytes_of}
use Rattle.encoding.specs.Spelling.{most_name_bytes}
use Rattle.calls.specs.Calling.{NameBeside}

-- ---- a name that is longer than 32 bytes is refused by its first 33

too_long : (name : List ℕ) → longest_name < length name → length_allowed name ≡ false
too_long name l = rw (le-leb shortest_name (length name) (omega arith), lt-leb (length name) longest_name l) refl

module _ (lent : ℕ) (names : List (List ℕ)) (name : List ℕ) where
  refused_long : longest_name < length name → name_call lent names (intern_name name) ≡ answers (refused bad_name_length) names
  unfolding name_call
  refused_long l = rw (too_long name l) refl

  refused_long_lookup : longest_name < length name → name_call lent names (lookup_name name) ≡ answers (refused bad_name_length) names
  unfolding name_call
  refused_long_lookup l = rw (too_long name l) refl

first_long : (name : List ℕ) → (length name ≤ most_name_bytes → ⊥) → longest_name < length (take most_name_bytes name)
first_long name l = let e : length (take most_name_bytes name) ≡ most_name_bytes = length-take-le most_name_bytes name (omega arith) in omega arith

pub intern_first : (lent : ℕ) (names : List (List ℕ)) (name : List ℕ) → name_call lent names (intern_name (take most_name_bytes name)) ≡ name_call lent names (intern_name name)
intern_first lent names name = go (dec_le (length name) most_name_bytes)
  where
    go : Dec (length name ≤ most_name_bytes) → name_call lent names (intern_name (take most_name_bytes name)) ≡ name_call lent names (intern_name name)
    go (yes p) = ap (λ (x : List ℕ). name_call lent names (intern_name x)) (take_all most_name_bytes name p)
    go (no p) = refused_long lent names (take most_name_bytes name) (first_long name p) ∙ sym (refused_long lent names name (omega arith))

pub lookup_first : (lent : ℕ) (names : List (List ℕ)) (name : List ℕ) → name_call lent names (lookup_name (take most_name_bytes name)) ≡ name_call lent names (lookup_name name)
lookup_first lent names name = go (dec_le (length name) most_name_bytes)
  where
    go : Dec (length name ≤ most_name_bytes) → name_call lent names (lookup_name (take most_name_bytes name)) ≡ name_call lent names (lookup_name name)
    go (yes p) = ap (λ (x : List ℕ). name_call lent names (lookup_name x)) (take_all most_name_bytes name p)
    go (no p) = refused_long_lookup lent names (take most_name_bytes name) (first_long name p) ∙ sym (refused_long_lookup lent names name (omega arith))

-- ---- interning and looking up answer no name's bytes

clash : (A : Type 0) (name : List ℕ) (number : ℕ) → named name ≡ refused number → A
clash A name number e = let z : ◌≡◌ {A = ℕ} 0 1 = cc in absurd (omega arith)

intern_unnamed : (lent : ℕ) (names : List (List ℕ)) (name b : List ℕ) → (name_call lent names (intern_name name)).answer ≡ named b → ⊥
unfolding name_call
intern_unnamed lent names name b = by (length_allowed name) (number_from names 0 name)
  where
    new : (t : Bool) → (cond t (answers (numbered (length names)) (names ++ name ∷ [])) (answers (refused no_name_place) names)).answer ≡ named b → ⊥
    new true e = let z : ◌≡◌ {A = ℕ} 0 1 = cc in absurd (omega arith)
    new false e = clash _ b no_name_place (sym e)

    by : (t : Bool) (o : Option ℕ) → (cond t (intern_at lent names name o) (answers (refused bad_name_length) names)).answer ≡ named b → ⊥
    by true (some n) e = let z : ◌≡◌ {A = ℕ} 0 1 = cc in absurd (omega arith)
    by true none e = new (ltb (length names) (min lent most_names)) e
    by false o e = clash _ b bad_name_length (sym e)

lookup_unnamed : (lent : ℕ) (names : List (List ℕ)) (name b : List ℕ) → (name_call lent names (lookup_name name)).answer ≡ named b → ⊥
unfolding name_call
lookup_unnamed lent names name b = by (length_allowed name) (number_from names 0 name)
  where
    by : (t : Bool) (o : Option ℕ) → (cond t (answers (lookup_at o) names) (answers (refused bad_name_length) names)).answer ≡ named b → ⊥
    by true (some n) e = let z : ◌≡◌ {A = ℕ} 0 1 = cc in absurd (omega arith)
    by true none e = let z : ◌≡◌ {A = ℕ} 0 1 = cc in absurd (omega arith)
    by false o e = clash _ b bad_name_length (sym e)

module _ (bytes : List ℕ) (count : ℕ) (c d : NameCall) (a : NameReply) (out bytes' : List ℕ) (count' : ℕ) where
  no_name : ((b : List ℕ) → (plainly bytes count c).answer ≡ named b → ⊥) → NameListCalled bytes count c (answer_of a []) bytes' count' → (n : ℕ) → a ≡ Named n → ⊥
  no_name never h n q =
      let e : answer_of a [] ≡ named (take n []) = ap (λ (x : NameReply). answer_of x []) q in
      let is_unsound : SoundNames bytes count → ⊥ = λ s. never (take n []) (sym (ap (λ (x : NamesLeft). x.answer) (h.equation (yes s))) ∙ e) in
      clash _ (take n []) not_sound (sym e ∙ ap (λ (x : NamesLeft). x.answer) (h.equation (no is_unsound)))

  beside : (x : NameReply) → ((n : ℕ) → x ≡ Named n → ⊥) → answer_of x [] ≡ answer_of x out
  beside (Numbered n) k = refl
  beside Unknown k = refl
  beside (Named n) k = absurd (k n refl)
  beside (Refused r) k = refl

  -- 0s stand beside an answer that is no name's length
  zeros_beside : (x : NameReply) → ((n : ℕ) → x ≡ Named n → ⊥) → NameBeside (Some (Reply.Names x)) (replicate longest_name 0)
  zeros_beside (Numbered n) k = (refl, tt)
  zeros_beside Unknown k = (refl, tt)
  zeros_beside (Named n) k = absurd (k n refl)
  zeros_beside (Refused r) k = (refl, tt)

  -- a call that the plain registry takes for another, whatever bytes stand beside its answer
  as_another : ((b : List ℕ) → (plainly bytes count c).answer ≡ named b → ⊥) → plainly bytes count c ≡ plainly bytes count d
      → NameListCalled bytes count c (answer_of a []) bytes' count' → NameListCalled bytes count d (answer_of a out) bytes' count'
  as_another never same h =
      subst (λ (x : NameAnswer). NameListCalled bytes count d x bytes' count') (beside a (no_name never h)) (record { equation = by })
    where
      by : (x : Dec (SoundNames bytes count)) → names_left (answer_of a []) (name_memory bytes' count') ≡ names_left_by d (name_memory bytes count) x
      by (yes s) = h.equation (yes s) ∙ ap (λ (r : NameResult). names_left r.answer (names_after (name_memory bytes count) r.names)) same
      by (no n) = h.equation (no n)

module _ (bytes : List ℕ) (count : ℕ) (operands name : List ℕ) (a : NameReply) (out bytes' : List ℕ) (count' : ℕ) (is : name ≡ take most_name_bytes (bytes_of operands)) where
  pub interns_spelled : NameListCalled bytes count (intern_name name) (answer_of a []) bytes' count' → NameListCalled bytes count (intern_name (bytes_of operands)) (answer_of a out) bytes' count'
  interns_spelled =
      as_another bytes count (intern_name name) (intern_name (bytes_of operands)) a out bytes' count'
      (intern_unnamed (lent_entries bytes) (names_of bytes count) name)
      (ap (λ (x : List ℕ). plainly bytes count (intern_name x)) is ∙ intern_first (lent_entries bytes) (names_of bytes count) (bytes_of operands))

  pub looks_up_spelled : NameListCalled bytes count (lookup_name name) (answer_of a []) bytes' count' → NameListCalled bytes count (lookup_name (bytes_of operands)) (answer_of a out) bytes' count'
  looks_up_spelled =
      as_another bytes count (lookup_name name) (lookup_name (bytes_of operands)) a out bytes' count'
      (lookup_unnamed (lent_entries bytes) (names_of bytes count) name)
      (ap (λ (x : List ℕ). plainly bytes count (lookup_name x)) is ∙ lookup_first (lent_entries bytes) (names_of bytes count) (bytes_of operands))

-- 0s stand beside the answers of interning and looking up
module _ (bytes : List ℕ) (count : ℕ) (name : List ℕ) (a : NameReply) (bytes' : List ℕ) (count' : ℕ) where
  pub interned_beside : NameListCalled bytes count (intern_name name) (answer_of a []) bytes' count' → NameBeside (Some (Reply.Names a)) (replicate longest_name 0)
  interned_beside h =
      zeros_beside bytes count (intern_name name) (intern_name name) a [] bytes' count' a
      (no_name bytes count (intern_name name) (intern_name name) a [] bytes' count' (intern_unnamed (lent_entries bytes) (names_of bytes count) name) h)

  pub looked_up_beside : NameListCalled bytes count (lookup_name name) (answer_of a []) bytes' count' → NameBeside (Some (Reply.Names a)) (replicate longest_name 0)
  looked_up_beside h =
      zeros_beside bytes count (lookup_name name) (lookup_name name) a [] bytes' count' a
      (no_name bytes count (lookup_name name) (lookup_name name) a [] bytes' count' (lookup_unnamed (lent_entries bytes) (names_of bytes count) name) h)
