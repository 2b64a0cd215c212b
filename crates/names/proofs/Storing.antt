-- A list with one entry more.
use Prim.Native.Nat.{ℕ, ◌+◌, ◌*◌, ◌≤◌, ◌<◌}
use mathlib.Core.Path.{◌≡◌, refl, sym, ap, ◌∙◌}
use mathlib.Core.List.{List, [], ◌∷◌, ◌++◌, append_assoc}
use lib.ListN.{length, take, drop, length-append, length-drop, take-append-drop}
use lib.Seq.{length-take-le, take-append-le, drop-append-le, take_at, drop_at}
use native.Mathlib.Numerals.{add-one}
use native.Mathlib.Omega.{arith}
use native.Mathlib.Decide.{dec_lt}
use borrow.Author.Count.{below_more}
use Rattle.definitions.specs.Names.{entry_bytes, most_names}
use Rattle.name_entries.specs.Entry.{entry_at, name_in, entry_of, put_entry, SoundEntry}
use Rattle.name_entries.specs.Sound.{SoundNames, names_of, name_at, lent_entries}
use Rattle.names.specs.Calls.{Allowed}
use Rattle.name_entries.proofs.Entries.{entry_length, sound_entry, name_of_entry, entry_of_sound, entry_of_length}
use Rattle.names.proofs.Finding.{NotBelow}
use Rattle.names.proofs.Listing.{names_agree}

entry_front : (a b : List ℕ) (i : ℕ) → i * entry_bytes + entry_bytes ≤ length a → entry_at (a ++ b) i ≡ entry_at a i
entry_front a b i h =
    ap (take entry_bytes) (drop-append-le (i * entry_bytes) a b (omega arith))
    ∙ take-append-le entry_bytes (drop (i * entry_bytes) a) b (rw length-drop (omega arith))

module _ (bytes : List ℕ) (count : ℕ) (key : List ℕ) (fits : count * entry_bytes + entry_bytes ≤ length bytes) (size : length key ≡ entry_bytes) where
  front : List ℕ
  front = take (count * entry_bytes) bytes

  front_length : length front ≡ count * entry_bytes
  unfolding front
  front_length = length-take-le (count * entry_bytes) bytes (omega arith)

  pub put_length : length (put_entry bytes count key) ≡ length bytes
  put_length = simp (length-append, length-drop) (omega (arith, length-take-le (count * entry_bytes) bytes (omega arith)))

  pub put_old : (i : ℕ) → i < count → entry_at (put_entry bytes count key) i ≡ entry_at bytes i
  unfolding front
  put_old i l =
      ap (λ (x : List ℕ). entry_at x i) (append_assoc front key (drop (count * entry_bytes + entry_bytes) bytes))
      ∙ entry_front front _ i (omega (arith, front_length))
      ∙ sym (entry_front front (drop (count * entry_bytes) bytes) i (omega (arith, front_length)))
      ∙ ap (λ (x : List ℕ). entry_at x i) (take-append-drop (count * entry_bytes) bytes)

  pub put_new : entry_at (put_entry bytes count key) count ≡ key
  unfolding front
  put_new =
      ap (λ (x : List ℕ). entry_at x count) (append_assoc front key (drop (count * entry_bytes + entry_bytes) bytes))
      ∙ ap (take entry_bytes) (drop_at front (key ++ drop (count * entry_bytes + entry_bytes) bytes) (count * entry_bytes) front_length)
      ∙ take_at key (drop (count * entry_bytes + entry_bytes) bytes) entry_bytes size

  pub put_past : drop ((count + 1) * entry_bytes) (put_entry bytes count key) ≡ drop ((count + 1) * entry_bytes) bytes
  unfolding front
  put_past =
      drop_at (front ++ key) (drop (count * entry_bytes + entry_bytes) bytes) ((count + 1) * entry_bytes) (rw length-append (omega (arith, front_length)))
      ∙ ap (λ (n : ℕ). drop n bytes) (let e : count * entry_bytes + entry_bytes ≡ (count + 1) * entry_bytes = omega arith in e)

module _ (bytes : List ℕ) (count : ℕ) (name : List ℕ) (sound : SoundNames bytes count) (allowed : Allowed (length name)) where
  -- an entry is that of a name exactly if it holds the name
  pub holds : (i : ℕ) → i < count → name_at bytes i ≡ name → entry_at bytes i ≡ entry_of name
  holds i l e =
      let m = sound.lent in
      sym (sound_entry (entry_at bytes i) (entry_length bytes i (omega arith)) (sound.entries i l)) ∙ ap entry_of e

  pub held : (i : ℕ) → entry_at bytes i ≡ entry_of name → name_at bytes i ≡ name
  held i e = ap name_in e ∙ name_of_entry name

  module _ (many : count < most_names) (lent : count < lent_entries bytes) (none : NotBelow bytes (entry_of name) count) where
    after : List ℕ
    after = put_entry bytes count (entry_of name)

    size : length (entry_of name) ≡ entry_bytes
    size = entry_of_length name allowed.longest

    old : (i : ℕ) → i < count → name_at after i ≡ name_at bytes i
    unfolding after
    old i l = ap name_in (put_old bytes count (entry_of name) (omega arith) size i l)

    new : name_at after count ≡ name
    unfolding after
    new = ap name_in (put_new bytes count (entry_of name) (omega arith) size) ∙ name_of_entry name

    pub names_more : names_of (put_entry bytes count (entry_of name)) (count + 1) ≡ names_of bytes count ++ name ∷ []
    unfolding after names_of
    names_more = rw (add-one count, names_agree after bytes count old, new) refl

    pub sound_more : SoundNames (put_entry bytes count (entry_of name)) (count + 1)
    unfolding after
    sound_more = record {
      many = omega arith;
      lent = let e : length after ≡ length bytes = put_length bytes count (entry_of name) (omega arith) size in omega arith;
      entries = below_more (λ (i : ℕ). SoundEntry (entry_at after i)) count
          (λ i l. rw (put_old bytes count (entry_of name) (omega arith) size i l) (sound.entries i l))
          (rw (put_new bytes count (entry_of name) (omega arith) size) (entry_of_sound name allowed.shortest allowed.longest));
      once = λ i j l m e. go i j l m e (dec_lt i count) (dec_lt j count);
    }
      where
        at_end : (i j : ℕ) → i < count + 1 → (i < count → ⊥) → j < count → name_at after i ≡ name_at after j → ⊥
        at_end i j l n m e =
            let h : i ≡ count = omega arith in
            none j m (holds j m (sym (old j m) ∙ sym e ∙ ap (name_at after) h ∙ new))

        go : (i j : ℕ) → i < count + 1 → j < count + 1 → name_at after i ≡ name_at after j → Dec (i < count) → Dec (j < count) → i ≡ j
        go i j l m e (yes p) (yes q) = sound.once i j p q (sym (old i p) ∙ e ∙ old j q)
        go i j l m e (yes p) (no q) = absurd (at_end j i m q p (sym e))
        go i j l m e (no p) (yes q) = absurd (at_end i j l p q e)
        go i j l m e (no p) (no q) = omega arith
