-- What each way through a name call answers and leaves.
use Prim.Native.Nat.{ℕ, ◌+◌, ◌/◌, ◌≤◌, ◌<◌, min}
use mathlib.Core.Path.{◌≡◌, refl, sym, ap, ◌∙◌, subst}
use mathlib.Core.Bool.{true, false}
use mathlib.Core.Option.{none, some}
use mathlib.Core.List.{List, [], ◌∷◌, ◌++◌}
use lib.ListN.{length, get_or, drop, replicate}
use native.Mathlib.Nat.{zero-add}
use native.Mathlib.Omega.{arith}
use native.Mathlib.Decide.{dec_le}
use borrow.Author.Tests.{lt-ltb, le-ltb, le-leb, lt-leb}
use Rattle.definitions.specs.Refusals.{bad_name_length, not_sound, no_name_place}
use Rattle.definitions.specs.Names.{NameCall, intern_name, lookup_name, name_of, NameAnswer, numbered, unknown, named, refused, NameResult, answers, name_call, number_from, length_allowed, most_names, shortest_name, longest_name, entry_bytes}
use Rattle.names.specs.declared.NameReply.TheVariants.{Unknown, Named, Refused}
use Rattle.names.specs.declared.NameBytes.{NameBytes}
use Rattle.name_entries.specs.Entry.{name_in, entry_of, put_entry, SoundEntry, IsEntry, IsEntryOf, IsByte}
use Rattle.name_entries.specs.Sound.{SoundNames, names_of, name_at, lent_entries}
use Rattle.names.specs.Calls.{Allowed, FoundAt, plainly, names_left_by, bytes_beside, name_bytes_of, NameCalled, CallClauses}
use Rattle.names.specs.Memory.{name_memory}
use Rattle.name_entries.proofs.Entries.{entry_of_length, sound_entry, name_length}
use Rattle.names.proofs.Finding.{NotBelow}
use Rattle.names.proofs.Listing.{number_found, number_none, names_length, names_at}
use Rattle.names.proofs.Storing.{holds, held, names_more, sound_more, put_length, put_past}

-- a list that is not sound
pub called_unsound : (bytes : List ℕ) (count : ℕ) (call : NameCall) → (SoundNames bytes count → ⊥) → CallClauses bytes count call (refused not_sound) bytes count
called_unsound bytes count call n = record {
  unsound = λ _. refl;
  answered = λ s. absurd (n s);
  names = λ s. absurd (n s);
  sound = λ s. absurd (n s);
  same_lent = refl;
  past = refl;
  refusal = λ r e. (refl, refl);
}

module _ (bytes : List ℕ) (count : ℕ) (sound : SoundNames bytes count) where
  -- a call that leaves the names as they are
  pub called_same : (call : NameCall) (answer : NameAnswer) → plainly bytes count call ≡ answers answer (names_of bytes count) → CallClauses bytes count call answer bytes count
  called_same call answer e = record {
    unsound = λ n. absurd (n sound);
    answered = λ _. sym (ap (λ (r : NameResult). r.answer) e);
    names = λ _. sym (ap (λ (r : NameResult). r.names) e);
    sound = λ s. s;
    same_lent = refl;
    past = refl;
    refusal = λ r q. (refl, refl);
  }

  module _ (name : List ℕ) (allowed : Allowed (length name)) where
    -- the tests of the plain registry, from what the search found
    known_number : (i : ℕ) → FoundAt bytes count (entry_of name) i → number_from (names_of bytes count) 0 name ≡ some i
    known_number i f =
        rw (← zero-add i)
        (number_found (names_of bytes count) 0 i name (rw (names_length bytes count) f.below)
        (names_at bytes count i f.below ∙ held bytes count name sound allowed i f.same)
        (λ j l e. let b = f.below in f.first j l (holds bytes count name sound allowed j (omega arith) (sym (names_at bytes count j (omega arith)) ∙ e))))

    unknown_number : NotBelow bytes (entry_of name) count → number_from (names_of bytes count) 0 name ≡ none
    unknown_number n =
        number_none (names_of bytes count) 0 name
        (λ j l e. let m : j < count = subst (λ (k : ℕ). j < k) (names_length bytes count) l in n j m (holds bytes count name sound allowed j m (sym (names_at bytes count j m) ∙ e)))

    length_yes : length_allowed name ≡ true
    length_yes = rw (le-leb shortest_name (length name) allowed.shortest, le-leb (length name) longest_name allowed.longest) refl

    pub intern_known : (i : ℕ) → FoundAt bytes count (entry_of name) i → CallClauses bytes count (intern_name name) (numbered i) bytes count
    unfolding name_call
    intern_known i f = called_same (intern_name name) (numbered i) (rw (length_yes, known_number i f) refl)

    pub lookup_known : (i : ℕ) → FoundAt bytes count (entry_of name) i → CallClauses bytes count (lookup_name name) (numbered i) bytes count
    unfolding name_call
    lookup_known i f = called_same (lookup_name name) (numbered i) (rw (length_yes, known_number i f) refl)

    module _ (n : NotBelow bytes (entry_of name) count) where
      pub lookup_unknown : CallClauses bytes count (lookup_name name) unknown bytes count
      unfolding name_call
      lookup_unknown = called_same (lookup_name name) unknown (rw (length_yes, unknown_number n) refl)

      pub intern_full : min (lent_entries bytes) most_names ≤ count → CallClauses bytes count (intern_name name) (refused no_name_place) bytes count
      unfolding name_call
      intern_full l = called_same (intern_name name) (refused no_name_place) (rw (length_yes, unknown_number n, names_length bytes count, le-ltb count (min (lent_entries bytes) most_names) l) refl)

      pub intern_new : count < most_names → count < lent_entries bytes → CallClauses bytes count (intern_name name) (numbered count) (put_entry bytes count (entry_of name)) (count + 1)
      unfolding name_call
      intern_new many lent = record {
        unsound = λ x. absurd (x sound);
        answered = λ _. sym (ap (λ (r : NameResult). r.answer) plain);
        names = λ _. names_more bytes count name sound allowed many lent n ∙ sym (ap (λ (r : NameResult). r.names) plain);
        sound = λ _. sound_more bytes count name sound allowed many lent n;
        same_lent = ap (λ (k : ℕ). k / entry_bytes) (put_length bytes count (entry_of name) (omega arith) (entry_of_length name allowed.longest));
        past = put_past bytes count (entry_of name) (omega arith) (entry_of_length name allowed.longest);
        refusal = λ r e. let z : ◌≡◌ {A = ℕ} 0 1 = cc in absurd (omega arith);
      }
        where
          plain : plainly bytes count (intern_name name) ≡ answers (numbered count) (names_of bytes count ++ name ∷ [])
          plain = rw (length_yes, unknown_number n, names_length bytes count, lt-ltb count (min (lent_entries bytes) most_names) (omega arith)) refl

  -- a length that is not allowed
  module _ (name : List ℕ) (other : Allowed (length name) → ⊥) where
    length_no : length_allowed name ≡ false
    length_no = go (dec_le shortest_name (length name)) (dec_le (length name) longest_name)
      where
        go : Dec (shortest_name ≤ length name) → Dec (length name ≤ longest_name) → length_allowed name ≡ false
        go (yes p) (yes q) = absurd (other (record { shortest = p; longest = q }))
        go (yes p) (no q) = rw (le-leb shortest_name (length name) p, lt-leb (length name) longest_name (omega arith)) refl
        go (no p) q = rw (lt-leb shortest_name (length name) (omega arith)) refl

    pub intern_length : CallClauses bytes count (intern_name name) (refused bad_name_length) bytes count
    unfolding name_call
    intern_length = called_same (intern_name name) (refused bad_name_length) (rw length_no refl)

    pub lookup_length : CallClauses bytes count (lookup_name name) (refused bad_name_length) bytes count
    unfolding name_call
    lookup_length = called_same (lookup_name name) (refused bad_name_length) (rw length_no refl)

  pub name_unknown : (n : ℕ) → count ≤ n → CallClauses bytes count (name_of n) unknown bytes count
  unfolding name_call
  name_unknown n l = called_same (name_of n) unknown (rw (names_length bytes count, le-ltb n count l) refl)

  pub name_known : (n : ℕ) → n < count → CallClauses bytes count (name_of n) (named (name_at bytes n)) bytes count
  unfolding name_call
  name_known n l = called_same (name_of n) (named (name_at bytes n)) (rw (names_length bytes count, lt-ltb n count l, names_at bytes count n l) refl)

-- what a search for a name's entry found, by its answer
module _ (bytes : List ℕ) (count : ℕ) (name key : List ℕ) (of : IsEntryOf name key) where
  pub is_found : (i : ℕ) → FoundAt bytes count key i → FoundAt bytes count (entry_of name) i
  is_found i = subst (λ (k : List ℕ). FoundAt bytes count k i) of.is

  pub is_nothing : NotBelow bytes key count → NotBelow bytes (entry_of name) count
  is_nothing = subst (λ (k : List ℕ). NotBelow bytes k count) of.is

-- a new name's entry was written
pub intern_put : (bytes : List ℕ) (count : ℕ) → SoundNames bytes count → (name key after : List ℕ) → Allowed (length name) → IsEntryOf name key → NotBelow bytes (entry_of name) count → count < most_names → count < lent_entries bytes → after ≡ put_entry bytes count key → CallClauses bytes count (intern_name name) (numbered count) after (count + 1)
intern_put bytes count sound name key after allowed of n many lent e =
    subst (λ (l : List ℕ). CallClauses bytes count (intern_name name) (numbered count) l (count + 1))
    (sym (e ∙ ap (put_entry bytes count) of.is))
    (intern_new bytes count sound name allowed n many lent)

-- the answers to a call for a name
pub name_called_unsound : (bytes : List ℕ) (count number : ℕ) → (SoundNames bytes count → ⊥) → NameCalled bytes count number (record { answer = Refused not_sound; bytes = replicate longest_name 0 })
name_called_unsound bytes count number n = record { equation = by }
  where
    by : (d : Dec (SoundNames bytes count)) → record { answer = Refused not_sound; bytes = replicate longest_name 0 } ≡ name_bytes_of (names_left_by (name_of number) (name_memory bytes count) d).answer
    by (yes s) = absurd (n s)
    by (no _) = refl

-- an answer of the plain registry, with its bytes
name_called_as : (bytes : List ℕ) (count number : ℕ) (r : NameBytes) (a : NameAnswer) → SoundNames bytes count → CallClauses bytes count (name_of number) a bytes count → r ≡ name_bytes_of a
    → NameCalled bytes count number r
name_called_as bytes count number r a s c e = record { equation = by }
  where
    by : (d : Dec (SoundNames bytes count)) → r ≡ name_bytes_of (names_left_by (name_of number) (name_memory bytes count) d).answer
    by (yes _) = e ∙ ap name_bytes_of (c.answered s)
    by (no n) = absurd (n s)

pub name_called_unknown : (bytes : List ℕ) (count number : ℕ) → SoundNames bytes count → count ≤ number → NameCalled bytes count number (record { answer = Unknown; bytes = replicate longest_name 0 })
name_called_unknown bytes count number s l = name_called_as bytes count number _ unknown s (name_unknown bytes count s number l) refl

pub name_called_known : (bytes : List ℕ) (count number : ℕ) → SoundNames bytes count → number < count → (e held : List ℕ) (n : ℕ) → IsEntry bytes number e → IsByte (get_or e 0 0) n → held ≡ drop 1 e → NameCalled bytes count number (record { answer = Named n; bytes = held })
name_called_known bytes count number s l e held n at size out =
    let sound : SoundEntry e = subst SoundEntry (sym at.is) (s.entries number l) in
    let long : n ≡ length (name_at bytes number) = size.is ∙ sym (name_length e at.size sound.longest) ∙ ap (λ (x : List ℕ). length (name_in x)) at.is in
    let beside : held ≡ bytes_beside (named (name_at bytes number)) = out ∙ sym (ap (drop 1) (sound_entry e at.size sound)) ∙ ap (λ (x : List ℕ). bytes_beside (named (name_in x))) at.is in
    name_called_as bytes count number _ (named (name_at bytes number)) s (name_known bytes count s number l) (λ i. record { answer = Named (long i); bytes = beside i })
