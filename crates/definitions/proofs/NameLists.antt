-- What a call does to the plain registry's names: each keeps its number, none stands twice, and a known one is answered with its number.
use Prim.Native.Nat.{ℕ, zero, suc, ◌+◌, ◌≤◌, ◌<◌, min}
use mathlib.Core.Path.{◌≡◌, refl, sym, ap, ◌∙◌, subst}
use mathlib.Core.Bool.{Bool, true, false, cond, false≢true}
use mathlib.Core.Logic.{◌⊎◌, ⊎_elim, inl, inr}
use mathlib.Core.Option.{Option, none, some}
use mathlib.Core.List.{List, [], ◌∷◌, ◌++◌}
use native.Mathlib.Omega.{arith}
use lib.ListN.{length, get_or, length-append}
use lib.Dec.{eqb, ltb}
use borrow.Author.Tests.{eq-eqb, eqb-true, lt-ltb}
use Rattle.definitions.specs.Refusals.{bad_name_length, no_name_place}
use Rattle.definitions.specs.Names.{NameCall, intern_name, lookup_name, name_of, NameAnswer, numbered, unknown, named, refused, NameResult, answers, same_name, number_from, length_allowed, intern_at, lookup_at, name_call, most_names}
use Rattle.definitions.specs.Promise.{nth, spelled}
use Rattle.definitions.proofs.Deciding.{both}

-- ---- places of a list

pub none_some : {A : Type 0} (x : A) (B : Type 0) → none ≡ some x → B
none_some x B e = let z : ◌≡◌ {A = ℕ} 0 1 = cc in absurd (omega arith)

module _ {A : Type 0} where
  pub nth_front : (xs ys : List A) (i : ℕ) (x : A) → nth xs i ≡ some x → nth (xs ++ ys) i ≡ some x
  nth_front [] ys i x e = none_some x _ e
  nth_front (z ∷ xs) ys zero x e = e
  nth_front (z ∷ xs) ys (suc i) x e = nth_front xs ys i x e

  pub nth_end : (xs : List A) (y : A) → nth (xs ++ y ∷ []) (length xs) ≡ some y
  nth_end [] y = refl
  nth_end (z ∷ xs) y = nth_end xs y

  pub nth_more : (xs : List A) (y : A) (i : ℕ) (x : A) → nth (xs ++ y ∷ []) i ≡ some x → (nth xs i ≡ some x) ⊎ ((i ≡ length xs) × (y ≡ x))
  nth_more [] y zero x e = inr (refl, cc)
  nth_more [] y (suc i) x e = none_some x _ e
  nth_more (z ∷ xs) y zero x e = inl e
  nth_more (z ∷ xs) y (suc i) x e = ⊎_elim (λ h. inl h) (λ h. inr (ap suc h.0, h.1)) (nth_more xs y i x e)

-- ---- the number of a name

pub same_self : (a : List ℕ) → same_name a a ≡ true
unfolding same_name
same_self [] = refl
same_self (x ∷ a) = rw (eq-eqb x x refl, same_self a) refl

pub same_one : (a b : List ℕ) → same_name a b ≡ true → a ≡ b
unfolding same_name
same_one [] [] e = refl
same_one [] (y ∷ b) e = absurd (false≢true e)
same_one (x ∷ a) [] e = absurd (false≢true e)
same_one (x ∷ a) (y ∷ b) e =
    let h = both (eqb x y) (same_name a b) e in
    rw (eqb-true x y h.0, same_one a b h.1) refl

-- a number that is found is where the name stands
number_stands : (names : List (List ℕ)) (n k : ℕ) (name : List ℕ) → number_from names n name ≡ some k → (i : ℕ) × (k ≡ n + i) × (nth names i ≡ some name)
unfolding number_from
number_stands [] n k name e = none_some k _ e
number_stands (m ∷ ms) n k name e = go (same_name m name) refl e (number_stands ms (suc n) k name)
  where
    go : (b : Bool) → same_name m name ≡ b → (elim b [ true ↦ some n | false ↦ number_from ms (suc n) name ]) ≡ some k
        → (number_from ms (suc n) name ≡ some k → (i : ℕ) × (k ≡ suc n + i) × (nth ms i ≡ some name))
        → (i : ℕ) × (k ≡ n + i) × (nth (m ∷ ms) i ≡ some name)
    go true q e f = let h : n ≡ k = cc in (0, omega arith, ap some (same_one m name q))
    go false q e f = let (i, h, g) = f e in (suc i, omega arith, g)

-- and a name that stands somewhere has a number
number_missing : (names : List (List ℕ)) (n : ℕ) (name : List ℕ) → number_from names n name ≡ none → (i : ℕ) → nth names i ≡ some name → ⊥
unfolding number_from
number_missing [] n name e i h = none_some name _ h
number_missing (m ∷ ms) n name e i h = go (same_name m name) refl e (number_missing ms (suc n) name) i h
  where
    go : (b : Bool) → same_name m name ≡ b → ◌≡◌ {A = Option ℕ} (elim b [ true ↦ some n | false ↦ number_from ms (suc n) name ]) none
        → (number_from ms (suc n) name ≡ none → (i : ℕ) → nth ms i ≡ some name → ⊥) → (i : ℕ) → nth (m ∷ ms) i ≡ some name → ⊥
    go true q e f i h = none_some n _ (sym e)
    go false q e f zero h = let g : m ≡ name = cc in false≢true (sym q ∙ ap (λ (x : List ℕ). same_name m x) (sym g) ∙ same_self m)
    go false q e f (suc i) h = f e i h

-- ---- calls

-- no name stands twice, and each has a length that is allowed
pub record Listed (names : List (List ℕ)) : Type 0 where
  pub once : (i j : ℕ) (name : List ℕ) → nth names i ≡ some name → nth names j ≡ some name → i ≡ j
  pub lengths : (i : ℕ) (name : List ℕ) → nth names i ≡ some name → length_allowed name ≡ true

pub none_listed : Listed []
none_listed = record { once = λ i j name e f. none_some name _ e; lengths = λ i name e. none_some name _ e }

-- what a call keeps and says of the names
pub record NameSays (names : List (List ℕ)) (c : NameCall) (r : NameResult) : Type 0 where
  pub kept : (i : ℕ) (name : List ℕ) → nth names i ≡ some name → nth r.names i ≡ some name
  pub listed : Listed r.names
  pub numbers : (k : ℕ) (name : List ℕ) → spelled c ≡ some name → r.answer ≡ numbered k → nth r.names k ≡ some name
  pub known : (k : ℕ) (name : List ℕ) → spelled c ≡ some name → nth names k ≡ some name → r.answer ≡ numbered k

module _ (lent : ℕ) (names : List (List ℕ)) (listed : Listed names) where
  -- a call over a name that keeps the names and answers no number
  other : (c : NameCall) (b : List ℕ) (a : NameAnswer) → spelled c ≡ some b → ((k : ℕ) → a ≡ numbered k → ⊥) → ((k : ℕ) → nth names k ≡ some b → ⊥) → NameSays names c (answers a names)
  other c b a s unnumbered absent = record {
    kept = λ i name h. h;
    listed = listed;
    numbers = λ k name e h. absurd (unnumbered k h);
    known = λ k name e h. let q : b ≡ name = cc in absurd (absent k (h ∙ ap some (sym q)));
  }

  too_long : (b : List ℕ) → length_allowed b ≡ false → (k : ℕ) → nth names k ≡ some b → ⊥
  too_long b e k h = false≢true (sym e ∙ listed.lengths k b h)

  -- a name that is found
  found : (c : NameCall) (b : List ℕ) (k : ℕ) → spelled c ≡ some b → number_from names 0 b ≡ some k → NameSays names c (answers (numbered k) names)
  found c b k s e = record {
    kept = λ i name h. h;
    listed = listed;
    numbers = λ j name f h. let q : b ≡ name = cc in let g : k ≡ j = cc in subst (λ (x : ℕ). nth names x ≡ some name) g (stands ∙ ap some q);
    known = λ j name f h. let q : b ≡ name = cc in ap numbered (listed.once k j name (stands ∙ ap some q) h);
  }
    where
      stands : nth names k ≡ some b
      stands = let (i, h, g) = number_stands names 0 k b e in let q : i ≡ k = omega arith in subst (λ (x : ℕ). nth names x ≡ some b) q g

  -- a new name
  module _ (b : List ℕ) (long : length_allowed b ≡ true) (absent : number_from names 0 b ≡ none) where
    new_once : (i j : ℕ) (name : List ℕ) → nth (names ++ b ∷ []) i ≡ some name → nth (names ++ b ∷ []) j ≡ some name → i ≡ j
    new_once i j name e f = go (nth_more names b i name e) (nth_more names b j name f)
      where
        go : ((nth names i ≡ some name) ⊎ ((i ≡ length names) × (b ≡ name))) → ((nth names j ≡ some name) ⊎ ((j ≡ length names) × (b ≡ name))) → i ≡ j
        go (inl p) (inl q) = listed.once i j name p q
        go (inl p) (inr q) = absurd (number_missing names 0 b absent i (p ∙ ap some (sym q.1)))
        go (inr p) (inl q) = absurd (number_missing names 0 b absent j (q ∙ ap some (sym p.1)))
        go (inr p) (inr q) = p.0 ∙ sym q.0

    new_lengths : (i : ℕ) (name : List ℕ) → nth (names ++ b ∷ []) i ≡ some name → length_allowed name ≡ true
    new_lengths i name e = ⊎_elim (λ h. listed.lengths i name h) (λ h. ap length_allowed (sym h.1) ∙ long) (nth_more names b i name e)

    room : (r : Bool) → NameSays names (intern_name b) (cond r (answers (numbered (length names)) (names ++ b ∷ [])) (answers (refused no_name_place) names))
    room true = record {
      kept = λ i name h. nth_front names (b ∷ []) i name h;
      listed = record { once = new_once; lengths = new_lengths };
      numbers = λ k name e h. let q : b ≡ name = cc in let g : length names ≡ k = cc in subst (λ (x : ℕ). nth (names ++ b ∷ []) x ≡ some name) g (nth_end names b ∙ ap some q);
      known = λ k name e h. let q : b ≡ name = cc in absurd (number_missing names 0 b absent k (h ∙ ap some (sym q)));
    }
    room false = other (intern_name b) b (refused no_name_place) refl (λ k e. let z : ◌≡◌ {A = ℕ} 0 1 = cc in absurd (omega arith)) (number_missing names 0 b absent)

  interned : (b : List ℕ) → length_allowed b ≡ true → (o : Option ℕ) → number_from names 0 b ≡ o → NameSays names (intern_name b) (intern_at lent names b o)
  interned b long (some k) e = found (intern_name b) b k refl e
  interned b long none e = room b long e (ltb (length names) (min lent most_names))

  looked_up : (b : List ℕ) → (o : Option ℕ) → number_from names 0 b ≡ o → NameSays names (lookup_name b) (answers (lookup_at o) names)
  looked_up b (some k) e = found (lookup_name b) b k refl e
  looked_up b none e = other (lookup_name b) b unknown refl (λ k e. let z : ◌≡◌ {A = ℕ} 0 1 = cc in absurd (omega arith)) (number_missing names 0 b e)

  wrong_length : (c : NameCall) (b : List ℕ) → spelled c ≡ some b → length_allowed b ≡ false → NameSays names c (answers (refused bad_name_length) names)
  wrong_length c b s e = other c b (refused bad_name_length) s (λ k e. let z : ◌≡◌ {A = ℕ} 0 1 = cc in absurd (omega arith)) (too_long b e)

  pub name_says : (c : NameCall) → NameSays names c (name_call lent names c)
  unfolding name_call
  name_says (intern_name b) = go (length_allowed b) refl
    where
      go : (r : Bool) → length_allowed b ≡ r → NameSays names (intern_name b) (cond r (intern_at lent names b (number_from names 0 b)) (answers (refused bad_name_length) names))
      go true e = interned b e (number_from names 0 b) refl
      go false e = wrong_length (intern_name b) b refl e
  name_says (lookup_name b) = go (length_allowed b) refl
    where
      go : (r : Bool) → length_allowed b ≡ r → NameSays names (lookup_name b) (cond r (answers (lookup_at (number_from names 0 b)) names) (answers (refused bad_name_length) names))
      go true e = looked_up b (number_from names 0 b) refl
      go false e = wrong_length (lookup_name b) b refl e
  name_says (name_of n) = go (ltb n (length names))
    where
      go : (r : Bool) → NameSays names (name_of n) (cond r (answers (named (get_or names n [])) names) (answers unknown names))
      go true = record { kept = λ i name h. h; listed = listed; numbers = λ k name e h. none_some name _ e; known = λ k name e h. none_some name _ e }
      go false = record { kept = λ i name h. h; listed = listed; numbers = λ k name e h. none_some name _ e; known = λ k name e h. none_some name _ e }

-- the name of a number
nth_below : (names : List (List ℕ)) (n : ℕ) (name : List ℕ) → nth names n ≡ some name → (n < length names) × (get_or names n [] ≡ name)
nth_below [] n name e = none_some name _ e
nth_below (m ∷ ms) zero name e = (omega arith, cc)
nth_below (m ∷ ms) (suc n) name e = let h = nth_below ms n name e in let l = h.0 in (omega arith, h.1)

pub tells : (lent : ℕ) (names : List (List ℕ)) (n : ℕ) (name : List ℕ) → nth names n ≡ some name → (name_call lent names (name_of n)).answer ≡ named name
unfolding name_call
tells lent names n name e = let h = nth_below names n name e in rw (lt-ltb n (length names) h.0) (ap named h.1)

-- a lookup, and a call for a name, leave the names as they are
either_names : (r : Bool) (a b : NameAnswer) (names : List (List ℕ)) → (cond r (answers a names) (answers b names)).names ≡ names
either_names true a b names = refl
either_names false a b names = refl

pub lookup_keeps : (lent : ℕ) (names : List (List ℕ)) (b : List ℕ) → (name_call lent names (lookup_name b)).names ≡ names
unfolding name_call
lookup_keeps lent names b = either_names (length_allowed b) (lookup_at (number_from names 0 b)) (refused bad_name_length) names

pub name_of_keeps : (lent : ℕ) (names : List (List ℕ)) (n : ℕ) → (name_call lent names (name_of n)).names ≡ names
unfolding name_call
name_of_keeps lent names n = either_names (ltb n (length names)) (named (get_or names n [])) unknown names

-- and no call takes a name away
pub names_longer : (lent : ℕ) (names : List (List ℕ)) (c : NameCall) → length names ≤ length (name_call lent names c).names
unfolding name_call
names_longer lent names (intern_name b) = by (length_allowed b) (number_from names 0 b)
  where
    room : (t : Bool) → length names ≤ length (cond t (answers (numbered (length names)) (names ++ b ∷ [])) (answers (refused no_name_place) names)).names
    room true = omega (arith, length-append names (b ∷ []))
    room false = omega arith

    by : (t : Bool) (o : Option ℕ) → length names ≤ length (cond t (intern_at lent names b o) (answers (refused bad_name_length) names)).names
    by true (some n) = omega arith
    by true none = room (ltb (length names) (min lent most_names))
    by false o = omega arith
names_longer lent names (lookup_name b) = let e = ap length (lookup_keeps lent names b) in omega arith
names_longer lent names (name_of n) = let e = ap length (name_of_keeps lent names n) in omega arith
