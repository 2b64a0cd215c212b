-- Entries of a name list: their places, and the names that they hold.
use Prim.Native.Nat.{ℕ, zero, suc, ◌+◌, ◌-◌, ◌*◌, ◌≤◌, ◌<◌}
use mathlib.Core.Path.{◌≡◌, refl, sym, ap, ◌∙◌, subst}
use mathlib.Core.List.{List, ◌++◌}
use lib.ListN.{length, get_or, take, drop, replicate, length-drop, length-append, length-replicate, get_or-replicate, get_or-append}
use lib.Seq.{length-take-le, get_or-take, get_or-drop, ext_get_or, take_at, get_or-append-add}
use native.Mathlib.Numerals.{one-add}
use native.Mathlib.Omega.{arith}
use native.Mathlib.Decide.{dec_lt}
use Rattle.std.proofs.lemmas.List.Edits.{length-between, get_or-between}
use Rattle.std.specs.List.{between}
use Rattle.std.specs.Prelude.{Bool, IsTrue, EachIndex, ◌↔◌}
use Rattle.std.proofs.lemmas.Bool.{false≢true}
use Rattle.definitions.specs.Says.{Says}
use Rattle.definitions.specs.Names.{entry_bytes, longest_name, shortest_name}
use Rattle.name_entries.specs.Entry.{entry_at, name_in, entry_of, SoundEntry, IsEntry}

pub entry_length : (bytes : List ℕ) (number : ℕ) → number * entry_bytes + entry_bytes ≤ length bytes → length (entry_at bytes number) ≡ entry_bytes
entry_length bytes number h = length-take-le entry_bytes (drop (number * entry_bytes) bytes) (rw length-drop (omega arith))

pub entry_part : (bytes : List ℕ) (number : ℕ) → number * entry_bytes + entry_bytes ≤ length bytes → IsEntry bytes number (take (number * entry_bytes + entry_bytes - number * entry_bytes) (drop (number * entry_bytes) bytes))
entry_part bytes number h =
    let e : number * entry_bytes + entry_bytes - number * entry_bytes ≡ entry_bytes = omega arith in
    rw e (record { is = refl; size = entry_length bytes number h })

-- the name of an entry has the length that the length byte says
pub name_length : (e : List ℕ) → length e ≡ entry_bytes → get_or e 0 0 ≤ longest_name → length (name_in e) ≡ get_or e 0 0
name_length e l h = length-take-le (get_or e 0 0) (drop 1 e) (rw length-drop (omega arith))

-- what stands past a name in its entry
entry_tail : (name : List ℕ) (i : ℕ) → length name ≤ i → i < longest_name → get_or (name ++ replicate (longest_name - length name) 0) i 0 ≡ 0
entry_tail name i l h =
    let at : length name + (i - length name) ≡ i = omega arith in
    subst (λ (x : ℕ). get_or (name ++ replicate (longest_name - length name) 0) x 0 ≡ 0) at
    (get_or-append-add name (replicate (longest_name - length name) 0) (i - length name) 0 ∙ get_or-replicate (longest_name - length name) (i - length name) 0 0 (omega arith))

pub entry_of_length : (name : List ℕ) → length name ≤ longest_name → length (entry_of name) ≡ entry_bytes
entry_of_length name h = simp (length-append, length-replicate) (omega arith)

-- a sound entry is the entry of its name
pub sound_entry : (e : List ℕ) → length e ≡ entry_bytes → SoundEntry e → entry_of (name_in e) ≡ e
sound_entry e l s = ext_get_or 0 (entry_of (name_in e)) e (entry_of_length (name_in e) (omega (arith, n)) ∙ sym l) each
  where
    n : length (name_in e) ≡ get_or e 0 0
    n = name_length e l s.longest

    inside : (i : ℕ) → i < longest_name → Dec (i < length (name_in e)) → get_or (name_in e ++ replicate (longest_name - length (name_in e)) 0) i 0 ≡ get_or e (suc i) 0
    inside i h (yes m) = get_or-append (name_in e) _ 0 i m ∙ get_or-take (get_or e 0 0) (drop 1 e) i 0 (omega (arith, n)) ∙ get_or-drop 1 e i 0 ∙ ap (λ (x : ℕ). get_or e x 0) (one-add i)
    inside i h (no m) = entry_tail (name_in e) i (omega (arith, n)) h ∙ sym (s.unused (suc i) (omega (arith, n)) (omega arith))

    each : (i : ℕ) → i < length (entry_of (name_in e)) → get_or (entry_of (name_in e)) i 0 ≡ get_or e i 0
    each zero h = n
    each (suc i) h = inside i (omega (arith, entry_of_length (name_in e) (omega (arith, n)))) (dec_lt i (length (name_in e)))

-- the entry of a name holds it, and is sound
pub name_of_entry : (name : List ℕ) → name_in (entry_of name) ≡ name
name_of_entry name = take_at name _ (length name) refl

pub entry_of_sound : (name : List ℕ) → shortest_name ≤ length name → length name ≤ longest_name → SoundEntry (entry_of name)
entry_of_sound name short long = record { shortest = short; longest = long; unused = past }
  where
    past : (j : ℕ) → length name < j → j < entry_bytes → get_or (entry_of name) j 0 ≡ 0
    past zero l m = absurd (omega arith)
    past (suc j) l m = entry_tail name j (omega arith) (omega arith)

-- the bytes past a name's are 0 exactly if the entry is sound, where its length is
pub unused_zero : (e : List ℕ) (n : ℕ) (r : Bool) → length e ≡ entry_bytes → n ≡ get_or e 0 0 → shortest_name ≤ n → n ≤ longest_name → IsTrue r ↔ EachIndex (between (n + 1) entry_bytes e) (λ i. get_or (between (n + 1) entry_bytes e) i 0 ≡ 0) → Says r (SoundEntry e)
unused_zero e n r l h short long t = record {
  yes = λ y. record {
    shortest = omega arith;
    longest = omega arith;
    unused = λ j p q. (
        let at : n + 1 + (j - (n + 1)) ≡ j = omega arith in
        subst (λ (x : ℕ). get_or e x 0 ≡ 0) at (sym (get_or-between e (n + 1) entry_bytes (j - (n + 1)) 0 (omega arith)) ∙ t.0 y (j - (n + 1)) (omega (arith, part)))
        );
  };
  no = λ y s. false≢true (sym y ∙ t.1 (λ i m. get_or-between e (n + 1) entry_bytes i 0 (omega (arith, part)) ∙ s.unused (n + 1 + i) (omega arith) (omega (arith, part))));
}
  where
    part : length (between (n + 1) entry_bytes e) ≡ entry_bytes - (n + 1)
    part = length-between e (n + 1) entry_bytes (omega arith)
