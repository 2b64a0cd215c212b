-- The equation of a name call gives its clauses: the plain registry's names make a sound list again.
use Prim.Native.Nat.{ℕ, zero, suc, ◌+◌, ◌*◌, ◌≤◌, ◌<◌}
use mathlib.Core.Path.{◌≡◌, refl, sym, ap, ◌∙◌, subst}
use mathlib.Core.List.{List, List-discrete}
use lib.ListN.{length, length-drop}
use lib.Seq.{take_at}
use native.Mathlib.Omega.{arith}
use native.Mathlib.Decide.{ℕ_discrete, dec_lt, dec_le}
use borrow.Author.Count.{below_more}
use Rattle.definitions.specs.Refusals.{not_sound}
use Rattle.definitions.specs.Names.{NameCall, intern_name, lookup_name, name_of, NameAnswer, numbered, unknown, named, refused, longest_name, shortest_name, entry_bytes, most_names}
use Rattle.names.specs.declared.NameReply.{NameReply}
use Rattle.names.specs.declared.NameReply.TheVariants.{Numbered, Unknown, Named, Refused}
use Rattle.names.specs.declared.NameBytes.{NameBytes}
use Rattle.name_entries.specs.Entry.{entry_at, entry_of}
use Rattle.name_entries.specs.Sound.{SoundNames, lent_entries}
use Rattle.names.specs.Memory.{name_memory, NamesLeft, names_left}
use Rattle.names.specs.Calls.{answer_of, Allowed, FoundAt, plainly, names_left_by, NameListCalled, bytes_beside, LengthFits, given_as, name_bytes_of, NameCalled, CallClauses, EquationGivesClauses, NameEquationGivesClauses}
use Rattle.name_entries.proofs.Entries.{entry_length, name_length}
use Rattle.names.proofs.Finding.{NotBelow}
use Rattle.names.proofs.Calling.{called_unsound, intern_known, intern_new, intern_full, intern_length, lookup_known, lookup_unknown, lookup_length, name_known, name_unknown}
use Rattle.names.proofs.Determined.{clauses_give_equation, either}

-- ---- on a sound list each call has its clauses

-- the first entry that is a key, or none
search : {A : Type 0} (bytes key : List ℕ) (n : ℕ) → ((i : ℕ) → FoundAt bytes n key i → A) → (NotBelow bytes key n → A) → A
search bytes key zero found none = none (λ j l. absurd (omega arith))
search {A} bytes key (suc n) found none =
    search bytes key n (λ i f. found i (record { below = let l = f.below in omega arith; same = f.same; first = f.first })) (λ before. at before (List-discrete ℕ_discrete (entry_at bytes n) key))
  where
    at : NotBelow bytes key n → Dec (entry_at bytes n ≡ key) → A
    at before (yes e) = found n (record { below = omega arith; same = e; first = before })
    at before (no other) = none (subst (NotBelow bytes key) (let e : n + 1 ≡ suc n = omega arith in e) (below_more (λ (j : ℕ). entry_at bytes j ≡ key → ⊥) n before other))

-- an answer and a list with the clauses of a call
record Done (bytes : List ℕ) (count : ℕ) (c : NameCall) : Type 0 where
  answer : NameAnswer
  after : List ℕ
  many : ℕ
  clauses : CallClauses bytes count c answer after many

done : {bytes : List ℕ} {count : ℕ} {c : NameCall} {answer : NameAnswer} {after : List ℕ} {many : ℕ} → CallClauses bytes count c answer after many → Done bytes count c
done {answer = answer} {after = after} {many = many} k = record { answer = answer; after = after; many = many; clauses = k }

allowed : (size : ℕ) → Dec (Allowed size)
allowed size = by (dec_le shortest_name size) (dec_le size longest_name)
  where
    by : Dec (shortest_name ≤ size) → Dec (size ≤ longest_name) → Dec (Allowed size)
    by (yes p) (yes q) = yes (record { shortest = p; longest = q })
    by (yes p) (no q) = no (λ a. q a.longest)
    by (no p) q = no (λ a. p a.shortest)

module _ (bytes : List ℕ) (count : ℕ) (s : SoundNames bytes count) where
  intern_by : (name : List ℕ) → Dec (Allowed (length name)) → Done bytes count (intern_name name)
  intern_by name (no other) = done (intern_length bytes count s name other)
  intern_by name (yes a) = search bytes (entry_of name) count (λ i f. done (intern_known bytes count s name a i f)) (λ none. room none (dec_lt count most_names) (dec_lt count (lent_entries bytes)))
    where
      room : NotBelow bytes (entry_of name) count → Dec (count < most_names) → Dec (count < lent_entries bytes) → Done bytes count (intern_name name)
      room none (yes p) (yes q) = done (intern_new bytes count s name a none p q)
      room none (yes p) (no q) = done (intern_full bytes count s name a none (omega arith))
      room none (no p) q = done (intern_full bytes count s name a none (omega arith))

  lookup_by : (name : List ℕ) → Dec (Allowed (length name)) → Done bytes count (lookup_name name)
  lookup_by name (no other) = done (lookup_length bytes count s name other)
  lookup_by name (yes a) = search bytes (entry_of name) count (λ i f. done (lookup_known bytes count s name a i f)) (λ none. done (lookup_unknown bytes count s name a none))

  name_by : (number : ℕ) → Dec (number < count) → Done bytes count (name_of number)
  name_by number (yes p) = done (name_known bytes count s number p)
  name_by number (no p) = done (name_unknown bytes count s number (omega arith))

  call_by : (c : NameCall) → Done bytes count c
  call_by (intern_name name) = intern_by name (allowed (length name))
  call_by (lookup_name name) = lookup_by name (allowed (length name))
  call_by (name_of number) = name_by number (dec_lt number count)

  -- so what the equation gives has them
  plain_clauses : (c : NameCall) → let x = names_left_by c (name_memory bytes count) (yes s) in CallClauses bytes count c x.answer x.memory.bytes x.memory.count
  plain_clauses c =
      let one = call_by c in
      subst (λ (x : NamesLeft). CallClauses bytes count c x.answer x.memory.bytes x.memory.count)
      ((clauses_give_equation bytes count c one.answer one.after one.many one.clauses).equation (yes s)) one.clauses

-- ---- the equation gives the clauses

module _ (bytes : List ℕ) (count : ℕ) (c : NameCall) (a : NameAnswer) (bytes' : List ℕ) (count' : ℕ) (k : NameListCalled bytes count c a bytes' count') where
  clauses_as : (x : NamesLeft) → names_left a (name_memory bytes' count') ≡ x → CallClauses bytes count c x.answer x.memory.bytes x.memory.count → CallClauses bytes count c a bytes' count'
  clauses_as x e = subst (λ (y : NamesLeft). CallClauses bytes count c y.answer y.memory.bytes y.memory.count) (sym e)

  of_sound : SoundNames bytes count → CallClauses bytes count c a bytes' count'
  of_sound s = clauses_as _ (k.equation (yes s)) (plain_clauses bytes count s c)

  of_other : (SoundNames bytes count → ⊥) → CallClauses bytes count c a bytes' count'
  of_other n = clauses_as _ (k.equation (no n)) (called_unsound bytes count c n)

pub equation_gives_clauses : EquationGivesClauses
equation_gives_clauses bytes count c a bytes' count' k =
    let sound = of_sound bytes count c a bytes' count' k in
    let other = of_other bytes count c a bytes' count' k in
    record {
      unsound = λ n. (other n).unsound n;
      answered = λ s. (sound s).answered s;
      names = λ s. (sound s).names s;
      sound = λ s. (sound s).sound s;
      same_lent = either _ _ (ℕ_discrete _ _) (λ s. (sound s).same_lent) (λ n. (other n).same_lent);
      past = either _ _ (List-discrete ℕ_discrete _ _) (λ s. (sound s).past) (λ n. (other n).past);
      refusal = λ r e. (
        either bytes' bytes (List-discrete ℕ_discrete _ _) (λ s. ((sound s).refusal r e).0) (λ n. ((other n).refusal r e).0),
        either count' count (ℕ_discrete _ _) (λ s. ((sound s).refusal r e).1) (λ n. ((other n).refusal r e).1),
      );
    }

-- as many bytes are lent after a call
pub clauses_long : (bytes : List ℕ) (count : ℕ) (c : NameCall) (a : NameAnswer) (bytes' : List ℕ) (count' : ℕ) → SoundNames bytes count → CallClauses bytes count c a bytes' count' → length bytes' ≡ length bytes
clauses_long bytes count c a bytes' count' s k =
    let lent = (k.sound s).lent in
    let same = k.same_lent in
    let past = ap length k.past in
    omega (arith, length-drop (count' * entry_bytes) bytes, length-drop (count' * entry_bytes) bytes')

-- ---- a call for a name

given_back : (x : NameAnswer) → answer_of (given_as x) (bytes_beside x) ≡ x
given_back (numbered n) = refl
given_back unknown = refl
given_back (named name) = ap named (take_at name _ (length name) refl)
given_back (refused r) = refl

fits_stable : (x : NameReply) → ((LengthFits x → ⊥) → ⊥) → LengthFits x
fits_stable (Numbered n) h = tt
fits_stable Unknown h = tt
fits_stable (Named n) h = by (dec_le n longest_name)
  where
    by : Dec (n ≤ longest_name) → n ≤ longest_name
    by (yes l) = l
    by (no l) = absurd (h l)
fits_stable (Refused r) h = tt

module _ (bytes : List ℕ) (count number : ℕ) where
  -- on a sound list the names stay, and the name of a number has at most 32 bytes
  module _ (s : SoundNames bytes count) where
    stay : name_memory bytes count ≡ (names_left_by (name_of number) (name_memory bytes count) (yes s)).memory
    stay = by (dec_lt number count)
      where
        by : Dec (number < count) → name_memory bytes count ≡ (names_left_by (name_of number) (name_memory bytes count) (yes s)).memory
        by (yes l) = ap (λ (x : NamesLeft). x.memory) ((clauses_give_equation bytes count (name_of number) _ bytes count (name_known bytes count s number l)).equation (yes s))
        by (no l) = ap (λ (x : NamesLeft). x.memory) ((clauses_give_equation bytes count (name_of number) _ bytes count (name_unknown bytes count s number (omega arith))).equation (yes s))

    short : LengthFits (given_as (plainly bytes count (name_of number)).answer)
    short = by (dec_lt number count)
      where
        by : Dec (number < count) → LengthFits (given_as (plainly bytes count (name_of number)).answer)
        by (yes l) =
            let m = s.lent in
            let e = (s.entries number l).longest in
            subst (λ (x : NameAnswer). LengthFits (given_as x)) ((name_known bytes count s number l).answered s)
            (omega (arith, name_length (entry_at bytes number) (entry_length bytes number (omega arith)) e))
        by (no l) = subst (λ (x : NameAnswer). LengthFits (given_as x)) ((name_unknown bytes count s number (omega arith)).answered s) tt

  module _ (r : NameBytes) (k : NameCalled bytes count number r) where
    called_by : (d : Dec (SoundNames bytes count)) → names_left (answer_of r.answer r.bytes) (name_memory bytes count) ≡ names_left_by (name_of number) (name_memory bytes count) d
    called_by (yes s) =
        ap (λ (x : NameBytes). names_left (answer_of x.answer x.bytes) (name_memory bytes count)) (k.equation (yes s))
        ∙ ap (λ (x : NameAnswer). names_left x (name_memory bytes count)) (given_back (plainly bytes count (name_of number)).answer)
        ∙ ap (names_left (plainly bytes count (name_of number)).answer) (stay s)
    called_by (no n) = ap (λ (x : NameBytes). names_left (answer_of x.answer x.bytes) (name_memory bytes count)) (k.equation (no n))

    beside_as : (x : NameAnswer) → r ≡ name_bytes_of x → r.bytes ≡ bytes_beside (answer_of r.answer r.bytes)
    beside_as x e = subst (λ (y : NameBytes). y.bytes ≡ bytes_beside (answer_of y.answer y.bytes)) (sym e) (ap bytes_beside (sym (given_back x)))

    fits_by : LengthFits r.answer
    fits_by = fits_stable r.answer (λ none. unfit none (λ s. none (subst (λ (y : NameBytes). LengthFits y.answer) (sym (k.equation (yes s))) (short s))))
      where
        unfit : (LengthFits r.answer → ⊥) → (SoundNames bytes count → ⊥) → ⊥
        unfit none n = none (subst (λ (y : NameBytes). LengthFits y.answer) (sym (k.equation (no n))) tt)

pub name_equation_gives_clauses : NameEquationGivesClauses
name_equation_gives_clauses bytes count number r k = record {
  called = record { equation = called_by bytes count number r k };
  beside = either _ _ (List-discrete ℕ_discrete _ _) (λ s. beside_as bytes count number r k (plainly bytes count (name_of number)).answer (k.equation (yes s))) (λ n. beside_as bytes count number r k (refused not_sound) (k.equation (no n)));
  fits = fits_by bytes count number r k;
}
