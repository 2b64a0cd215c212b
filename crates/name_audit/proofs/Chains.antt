-- The audit's buckets: each name is compared with those before it in its bucket, and so with every name that could be the same.
use Prim.Native.Nat.{ℕ, ◌+◌, ◌-◌, ◌*◌, ◌≤◌, ◌<◌}
use mathlib.Core.Path.{◌≡◌, sym, ap, ◌∙◌, subst}
use mathlib.Core.Bool.{Bool, true, false}
use mathlib.Core.List.{List}
use lib.ListN.{length, get_or, set, replicate, get_or-replicate}
use lib.Seq.{get_or-set_same, get_or-set_other}
use native.Mathlib.Omega.{arith}
use native.Mathlib.Decide.{dec_lt, ℕ_discrete}
use Rattle.definitions.specs.Names.{entry_bytes, most_names}
use Rattle.name_entries.specs.Entry.{entry_at, name_in, entry_of, IsEntry}
use Rattle.definitions.specs.Says.{Says}
use Rattle.definitions.proofs.Deciding.{says_yes}
use Rattle.name_entries.specs.Sound.{EntriesSound, NoNameTwice}
use Rattle.name_entries.proofs.Entries.{entry_length, sound_entry}
use Rattle.name_entries.specs.Buckets.{buckets, bucket_of, IsBucket}
use Rattle.name_audit.specs.Chained.{bucket_at, Latest, Links, Chained, StandsBefore}

-- every name from a place on differs from the name of a number, and the place before it is of the same bucket
pub record Walked (bytes : List ℕ) (number place : ℕ) : Type 0 where
  pub low : place ≤ number
  pub own : 0 < place → bucket_at bytes (place - 1) ≡ bucket_at bytes number
  pub differ : (j : ℕ) → place ≤ j → j < number → entry_at bytes j ≡ entry_at bytes number → ⊥

module _ (bytes : List ℕ) (number : ℕ) where
  pub walk_starts : (before : List ℕ) (latest : ℕ) → Chained bytes number before latest → Walked bytes number latest
  walk_starts before latest h = record {
    low = h.first.low;
    own = h.first.own;
    differ = λ j l m e. h.first.none j l m (ap bucket_of e);
  }

  pub walk_goes_on : (before : List ℕ) (latest place : ℕ) → Chained bytes number before latest → Walked bytes number place → 0 < place → (entry_at bytes (place - 1) ≡ entry_at bytes number → ⊥) → Walked bytes number (get_or before (place - 1) 0)
  walk_goes_on before latest place h w p n = record {
    low = let l = link.low in let m = w.low in omega arith;
    own = λ q. link.own q ∙ w.own p;
    differ = λ j l m e. go j l m e (dec_lt j (place - 1)) (ℕ_discrete j (place - 1));
  }
    where
      link : Latest (bucket_at bytes) (bucket_at bytes (place - 1)) (place - 1) (get_or before (place - 1) 0)
      link = h.links (place - 1) (let m = w.low in omega arith)

      go : (j : ℕ) → get_or before (place - 1) 0 ≤ j → j < number → entry_at bytes j ≡ entry_at bytes number → Dec (j < place - 1) → Dec (j ≡ place - 1) → ⊥
      go j l m e (yes a) d = link.none j l a (ap bucket_of e ∙ sym (w.own p))
      go j l m e (no a) (yes b) = n (subst (λ (x : ℕ). entry_at bytes x ≡ entry_at bytes number) b e)
      go j l m e (no a) (no b) = w.differ j (omega arith) m e

  pub walk_ends : (place : ℕ) → Walked bytes number place → place ≤ 0 → StandsBefore bytes number → ⊥
  walk_ends place w z s = w.differ s.place (omega arith) s.earlier s.same

module _ (bytes : List ℕ) (number place : ℕ) (e f : List ℕ) (r : Bool) (he : IsEntry bytes (place - 1) e) (hf : IsEntry bytes number f) (s : Says r (e ≡ f)) where
  pub stands_here : r ≡ true → 0 < place → Walked bytes number place → Says true (StandsBefore bytes number)
  stands_here t p w = says_yes (record { place = place - 1; earlier = let l = w.low in omega arith; same = sym he.is ∙ s.yes t ∙ hf.is })

  pub stands_not : r ≡ false → entry_at bytes (place - 1) ≡ entry_at bytes number → ⊥
  stands_not t q = s.no t (he.is ∙ q ∙ sym hf.is)

pub link_falls : (bytes : List ℕ) (number : ℕ) (before : List ℕ) (latest place : ℕ) → Chained bytes number before latest → Walked bytes number place → 0 < place → get_or before (place - 1) 0 < place
link_falls bytes number before latest place h w p =
    let m = w.low in
    let l = (h.links (place - 1) (omega arith)).low in
    omega arith

-- the names below a number are sorted into buckets, and no two of them are the same
pub record Sorted (bytes : List ℕ) (number : ℕ) (latest before : List ℕ) : Type 0 where
  pub heads : (b : ℕ) → b < buckets → Latest (bucket_at bytes) b number (get_or latest b 0)
  pub links : Links bytes number before
  pub apart : (k : ℕ) → k < number → StandsBefore bytes k → ⊥

pub sorted_none : (bytes before : List ℕ) → Sorted bytes 0 (replicate buckets 0) before
sorted_none bytes before = record {
  heads = λ b h. rw (get_or-replicate {A = ℕ} buckets b 0 0 h) (record { low = omega arith; own = λ l. absurd (omega arith); none = λ j l m. absurd (omega arith) });
  links = λ k h. absurd (omega arith);
  apart = λ k h. absurd (omega arith);
}

module _ (bytes : List ℕ) (number b place : ℕ) (latest before e : List ℕ) (at : IsEntry bytes number e) (own : IsBucket e b) (placed : place ≡ get_or latest b 0) (s : Sorted bytes number latest before) where
  pub own_bucket : b ≡ bucket_at bytes number
  own_bucket = own.is ∙ ap bucket_of at.is

  pub chained : number < most_names → number * entry_bytes + entry_bytes ≤ length bytes → length before ≡ most_names → Chained bytes number before place
  chained many fits size = record {
    many = many;
    fits = fits;
    size = size;
    links = s.links;
    first = rw placed (subst (λ (x : ℕ). Latest (bucket_at bytes) x number (get_or latest b 0)) own_bucket (s.heads b own.below));
  }

  pub sorted_more : length latest ≡ buckets → length before ≡ most_names → number < most_names → (StandsBefore bytes number → ⊥) → Sorted bytes (number + 1) (set latest b (number + 1)) (set before number place)
  sorted_more ll lb many n = record {
    heads = λ x h. head x h (ℕ_discrete x b);
    links = λ k h. link k h (ℕ_discrete k number);
    apart = λ k h. alone k h (ℕ_discrete k number);
  }
    where
      small : b < buckets
      small = own.below

      is : b ≡ bucket_at bytes number
      is = own_bucket

      newest : Latest (bucket_at bytes) b (number + 1) (number + 1)
      newest = record {
        low = omega arith;
        own = λ _. let e : number + 1 - 1 ≡ number = omega arith in ap (bucket_at bytes) e ∙ sym is;
        none = λ j l m e. absurd (omega arith);
      }

      later : (x : ℕ) → (x ≡ b → ⊥) → Latest (bucket_at bytes) x number (get_or latest x 0) → Latest (bucket_at bytes) x (number + 1) (get_or latest x 0)
      later x other t = record {
        low = let l = t.low in omega arith;
        own = t.own;
        none = λ j l m e. go j l m e (ℕ_discrete j number);
      }
        where
          go : (j : ℕ) → get_or latest x 0 ≤ j → j < number + 1 → bucket_at bytes j ≡ x → Dec (j ≡ number) → ⊥
          go j l m e (yes q) = other (sym e ∙ ap (bucket_at bytes) q ∙ sym is)
          go j l m e (no q) = t.none j l (omega arith) e

      head : (x : ℕ) → x < buckets → Dec (x ≡ b) → Latest (bucket_at bytes) x (number + 1) (get_or (set latest b (number + 1)) x 0)
      head x h (yes e) =
          subst (λ (y : ℕ). Latest (bucket_at bytes) y (number + 1) (get_or (set latest b (number + 1)) y 0)) (sym e)
          (rw (get_or-set_same latest b (number + 1) 0 (omega (arith, own.below))) newest)
      head x h (no e) = rw (get_or-set_other latest b x (number + 1) 0 e) (later x e (s.heads x h))

      link : (k : ℕ) → k < number + 1 → Dec (k ≡ number) → Latest (bucket_at bytes) (bucket_at bytes k) k (get_or (set before number place) k 0)
      link k h (yes e) =
          subst (λ (y : ℕ). Latest (bucket_at bytes) (bucket_at bytes y) y (get_or (set before number place) y 0)) (sym e)
          (rw (get_or-set_same before number place 0 (omega arith), placed) (subst (λ (y : ℕ). Latest (bucket_at bytes) y number (get_or latest b 0)) is (s.heads b small)))
      link k h (no e) = rw (get_or-set_other before number k place 0 e) (s.links k (omega arith))

      alone : (k : ℕ) → k < number + 1 → Dec (k ≡ number) → StandsBefore bytes k → ⊥
      alone k h (yes e) t = n (subst (StandsBefore bytes) e t)
      alone k h (no e) t = s.apart k (omega arith) t

module _ (bytes : List ℕ) (count : ℕ) (fits : count * entry_bytes ≤ length bytes) (sound : EntriesSound bytes count) where
  pub same_name : (i j : ℕ) → i < count → j < count → name_in (entry_at bytes i) ≡ name_in (entry_at bytes j) → entry_at bytes i ≡ entry_at bytes j
  same_name i j h k e = sym (own i h) ∙ ap entry_of e ∙ own j k
    where
      own : (x : ℕ) → x < count → entry_of (name_in (entry_at bytes x)) ≡ entry_at bytes x
      own x l = sound_entry (entry_at bytes x) (entry_length bytes x (omega arith)) (sound x l)

  pub once_all : ((k : ℕ) → k < count → StandsBefore bytes k → ⊥) → NoNameTwice bytes count
  once_all n i j h k e = go (dec_lt i j) (dec_lt j i)
    where
      go : Dec (i < j) → Dec (j < i) → i ≡ j
      go (yes l) d = absurd (n j k (record { place = i; earlier = l; same = same_name i j h k e }))
      go (no l) (yes m) = absurd (n i h (record { place = j; earlier = m; same = sym (same_name i j h k e) }))
      go (no l) (no m) = omega arith

pub twice_no : (bytes : List ℕ) (count i : ℕ) → i < count → StandsBefore bytes i → NoNameTwice bytes count → ⊥
twice_no bytes count i h s once =
    let l = s.earlier in
    let e : s.place ≡ i = once s.place i (omega arith) h (ap name_in s.same) in
    omega arith
