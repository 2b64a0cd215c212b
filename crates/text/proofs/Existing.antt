-- On sound lists the reading of an expression has an answer, and sound lists after it.
use Prim.Native.Nat.{ℕ, suc, ◌+◌, ◌<◌, min}
use mathlib.Core.Path.{◌≡◌, refl, sym, ap, ◌∙◌, subst}
use mathlib.Core.Bool.{Bool, true, false, cond}
use mathlib.Core.Option.{Option, none, some}
use mathlib.Core.List.{List, [], ◌∷◌, ◌++◌}
use lib.ListN.{length, length-append}
use lib.Dec.{ltb}
use native.Mathlib.Omega.{arith}
use Rattle.definitions.specs.Refusals.{bad_name_length, no_name_place}
use Rattle.definitions.specs.Node as N
use Rattle.definitions.specs.Names as Registry
use Rattle.definitions.specs.Names.{intern_name, NameAnswer, name_call, number_from, same_name, intern_at, answers, length_allowed}
use Rattle.definitions.specs.Machine as M
use Rattle.definitions.specs.Making as Plain
use Rattle.definitions.specs.Making.{Controller, LentLists, bind, storing, perform, joined, make}
use Rattle.store.specs.declared.NodeAnswer.{NodeAnswer}
use Rattle.store.specs.declared.NodeAnswer.TheVariants.{Id, Refused}
use Rattle.store.specs.Memory.{memory, answer_of}
use Rattle.building.specs.Requests.{BuildsSound, Asked}
use Rattle.building.proofs.Codes.{asked_variable, asked_constant, asked_operator}
use Rattle.names.specs.declared.NameReply as Named
use Rattle.names.specs.declared.NameReply.TheVariants as named
use Rattle.name_entries.specs.Sound as Names
use Rattle.names.specs.Calls as Calls
use Rattle.names.specs.Calls.{NameListCalled, CallClauses, names_left_by}
use Rattle.names.specs.Memory.{name_memory, names_after, names_left}
use Rattle.names.proofs.Clauses.{equation_gives_clauses, clauses_long}
use Rattle.text_language.specs.Grammar.{Expr, constant, variable, negated, linked, raised}
use Rattle.text_language.specs.Program.{Join, plus, minus, times, over, raise, join_of, name}
use Rattle.text.specs.Memory.{ControllerMemory, controller_memory, BothSound, controller_of, lent_of}
use Rattle.text.specs.Making.{outcome, Makes}
use Rattle.text.proofs.StoreCalls.{request_answered}
use Rattle.text.proofs.Performing.{extends_trans, sound_after, same_lent_of, makes_store, makes_named, makes_unnamed}

-- an answer and lists that are what the plain machine says
pub record MadeOn (plain : Plain.Made) (d : ControllerMemory) : Type 0 where
  pub answer : NodeAnswer
  pub after : ControllerMemory
  pub makes : Makes plain d answer after

made_as : (plain plain' : Plain.Made) (d : ControllerMemory) → plain ≡ plain' → MadeOn plain d → MadeOn plain' d
made_as plain plain' d e m = subst (λ (x : Plain.Made). MadeOn x d) e m

-- ---- a store call

module _ (kind payload flags : ℕ) (operands : List ℕ) (c : M.Store) (e : M.requested c ≡ M.request true (N.node kind payload flags operands)) (asked : Asked true kind payload flags) where
  store_made : (d : ControllerMemory) → BothSound d → MadeOn (storing (lent_of d) c (controller_of d)) d
  store_made d h =
      let x = request_answered kind payload flags operands d.store asked h.store in
      let after = memory x.words x.slots x.arena in
      record {
        answer = x.answer;
        after = controller_memory x.words x.slots x.arena d.names.bytes d.names.count;
        makes = makes_store c d h x.words x.slots x.answer x.arena
            (subst (λ (q : M.Request). BuildsSound q d.store (answer_of x.answer) after) (sym e) x.builds);
      }

joined_made : (o : Join) (i j : ℕ) (d : ControllerMemory) → BothSound d → MadeOn (storing (lent_of d) (joined o i j) (controller_of d)) d
joined_made plus i j = store_made N.add_kind 0 N.both_flags (i ∷ j ∷ []) (M.add i j) refl (asked_operator N.add_kind N.both_flags (omega arith) (omega arith) (omega arith))
joined_made minus i j = store_made N.sub_kind 0 0 (i ∷ j ∷ []) (M.sub i j) refl (asked_operator N.sub_kind 0 (omega arith) (omega arith) (omega arith))
joined_made times i j = store_made N.mul_kind 0 N.both_flags (i ∷ j ∷ []) (M.mul i j) refl (asked_operator N.mul_kind N.both_flags (omega arith) (omega arith) (omega arith))
joined_made over i j = store_made N.div_kind 0 0 (i ∷ j ∷ []) (M.div i j) refl (asked_operator N.div_kind 0 (omega arith) (omega arith) (omega arith))
joined_made raise i j = store_made N.pow_kind 0 0 (i ∷ j ∷ []) (M.pow i j) refl (asked_operator N.pow_kind 0 (omega arith) (omega arith) (omega arith))

-- ---- one after another

module _ (plain : Plain.Made) (d : ControllerMemory) (f : ℕ → Controller → Plain.Made) (one : MadeOn plain d) where
  bind_made : ((i : ℕ) → MadeOn (f i (controller_of one.after)) one.after) → MadeOn (bind plain f) d
  unfolding bind
  bind_made next = by one.answer refl
    where
      bound : (a : NodeAnswer) → one.answer ≡ a → bind (outcome a (controller_of one.after)) f ≡ bind plain f
      bound a e = ap (λ (x : NodeAnswer). bind (outcome x (controller_of one.after)) f) (sym e) ∙ ap (λ (x : Plain.Made). bind x f) one.makes.is

      by : (a : NodeAnswer) → one.answer ≡ a → MadeOn (bind plain f) d
      by (Id i) e =
          let two = next i in
          record {
            answer = two.answer;
            after = two.after;
            makes = record {
              is = two.makes.is ∙ bound (Id i) e;
              extends = extends_trans d one.after two.after one.makes.extends two.makes.extends;
              fits = two.makes.fits;
            };
          }
      by (Refused k) e = record { answer = Refused k; after = one.after; makes = record { is = bound (Refused k) e; extends = one.makes.extends; fits = tt } }

-- ---- a name, and its node

-- interning answers a number of the names after it, or a refusal
abbrev Given : List (List ℕ) → NameAnswer → Type 0
Given names (Registry.numbered n) = n < length names
Given names Registry.unknown = ⊥
Given names (Registry.named w) = ⊥
Given names (Registry.refused r) = Unit {0}

number_below : (names : List (List ℕ)) (k n : ℕ) (w : List ℕ) → number_from names k w ≡ some n → n < k + length names
unfolding number_from
number_below [] k n w e = absurd (let z : ◌≡◌ {A = ℕ} 0 1 = cc in omega arith)
number_below (m ∷ ms) k n w e = go (same_name m w) e (number_below ms (suc k) n w)
  where
    go : (b : Bool) → (elim b as (λ _. Option ℕ) [ true ↦ some k | false ↦ number_from ms (suc k) w ]) ≡ some n → (number_from ms (suc k) w ≡ some n → n < suc k + length ms) → n < k + suc (length ms)
    go true e h = let z : ◌≡◌ {A = ℕ} k n = cc in omega arith
    go false e h = let z = h e in omega arith

intern_given : (lent : ℕ) (names : List (List ℕ)) (w : List ℕ) → Given (name_call lent names (intern_name w)).names (name_call lent names (intern_name w)).answer
unfolding name_call
intern_given lent names w = by (length_allowed w) (number_from names 0 w) refl
  where
    new : (b : Bool) → let r = cond b (answers (Registry.numbered (length names)) (names ++ w ∷ [])) (answers (Registry.refused no_name_place) names) in Given r.names r.answer
    new true = omega (arith, length-append names (w ∷ []))
    new false = tt

    by : (b : Bool) (o : Option ℕ) → number_from names 0 w ≡ o → let r = cond b (intern_at lent names w o) (answers (Registry.refused bad_name_length) names) in Given r.names r.answer
    by true (some n) e = let z = number_below names 0 n w e in omega arith
    by true none e = new (ltb (length names) (min lent Registry.most_names))
    by false o e = tt

module _ (w : List ℕ) (d : ControllerMemory) (h : BothSound d) where
  abbrev bytes : List ℕ
  bytes = d.names.bytes

  abbrev count : ℕ
  count = d.names.count

  abbrev plain : Registry.NameResult
  plain = Calls.plainly bytes count (intern_name w)

  abbrev after : List ℕ
  after = (names_after d.names plain.names).bytes

  abbrev many : ℕ
  many = length plain.names

  called : NameListCalled bytes count (intern_name w) plain.answer after many
  called = record { equation = by }
    where
      by : (x : Dec (Names.SoundNames bytes count)) → names_left plain.answer (name_memory after many) ≡ names_left_by (intern_name w) (name_memory bytes count) x
      by (yes _) = refl
      by (no n) = absurd (n h.names)

  called_as : (a : Named.NameReply) → plain.answer ≡ Calls.answer_of a [] → NameListCalled bytes count (intern_name w) (Calls.answer_of a []) after many
  called_as a e = subst (λ (x : NameAnswer). NameListCalled bytes count (intern_name w) x after many) e called

  clauses : CallClauses bytes count (intern_name w) plain.answer after many
  clauses = equation_gives_clauses bytes count (intern_name w) plain.answer after many called

  long : length after ≡ length bytes
  long = clauses_long bytes count (intern_name w) plain.answer after many h.names clauses

  unnamed : (r : ℕ) → plain.answer ≡ Registry.refused r → MadeOn (perform (lent_of d) (name w) 0 0 (controller_of d)) d
  unnamed r e = record {
    answer = Refused r;
    after = _;
    makes = makes_unnamed d h w after many (named.Refused r) long (called_as (named.Refused r) e) 0 0 r tt refl;
  }

  numbered : (n : ℕ) → plain.answer ≡ Registry.numbered n → n < many → MadeOn (perform (lent_of d) (name w) 0 0 (controller_of d)) d
  numbered n e l =
      let few = (clauses.sound h.names).many in
      let x = request_answered N.variable_kind n 0 [] d.store (asked_variable n (omega arith)) h.store in
      record {
        answer = x.answer;
        after = _;
        makes = makes_named d h w after many (named.Numbered n) long (called_as (named.Numbered n) e) 0 0 n refl x.words x.slots x.answer x.arena x.builds;
      }

  name_made : MadeOn (perform (lent_of d) (name w) 0 0 (controller_of d)) d
  name_made = by plain.answer refl (intern_given (Names.lent_entries bytes) (Names.names_of bytes count) w)
    where
      by : (a : NameAnswer) → plain.answer ≡ a → Given plain.names a → MadeOn (perform (lent_of d) (name w) 0 0 (controller_of d)) d
      by (Registry.numbered n) e g = numbered n e g
      by Registry.unknown e g = absurd g
      by (Registry.named x) e g = absurd g
      by (Registry.refused r) e g = unnamed r e

-- ---- an expression

-- what is made on lists that extend others, by how much is lent for those
module _ (d d' : ControllerMemory) (same : lent_of d' ≡ lent_of d) where
  lent_as : (f : LentLists → Plain.Made) → MadeOn (f (lent_of d')) d' → MadeOn (f (lent_of d)) d'
  lent_as f m = made_as (f (lent_of d')) (f (lent_of d)) d' (ap f same) m

-- two operands, then their node
pair_made : (a b : Expr) (o : Join) (d : ControllerMemory) → (one : MadeOn (make (lent_of d) a (controller_of d)) d) → ((x : ControllerMemory) → BothSound x → MadeOn (make (lent_of x) b (controller_of x)) x)
    → MadeOn (bind (make (lent_of d) a (controller_of d)) (λ i t. bind (make (lent_of d) b t) (λ j u. storing (lent_of d) (joined o i j) u))) d
pair_made a b o d one second =
    let d₁ = one.after in
    let same₁ = same_lent_of d d₁ one.makes.extends in
    let two = lent_as d d₁ same₁ (λ (l : LentLists). make l b (controller_of d₁)) (second d₁ (sound_after d d₁ one.makes.extends)) in
    let d₂ = two.after in
    let same₂ = same_lent_of d₁ d₂ two.makes.extends ∙ same₁ in
    bind_made (make (lent_of d) a (controller_of d)) d _ one (λ i. bind_made (make (lent_of d) b (controller_of d₁)) d₁ _ two (λ j.
    lent_as d d₂ same₂ (λ (l : LentLists). storing l (joined o i j) (controller_of d₂)) (joined_made o i j d₂ (sound_after d₁ d₂ two.makes.extends))))

pub expression_made : (e : Expr) (d : ControllerMemory) → BothSound d → MadeOn (make (lent_of d) e (controller_of d)) d
unfolding make perform
expression_made (constant b) d h = store_made N.constant_kind b 0 [] (M.constant b) refl (asked_constant b) d h
expression_made (variable w) d h = name_made w d h
expression_made (negated a) d h =
    let one = expression_made a d h in
    let d₁ = one.after in
    bind_made (make (lent_of d) a (controller_of d)) d _ one (λ i.
    lent_as d d₁ (same_lent_of d d₁ one.makes.extends) (λ (l : LentLists). storing l (M.neg i) (controller_of d₁))
    (store_made N.neg_kind 0 0 (i ∷ []) (M.neg i) refl (asked_operator N.neg_kind 0 (omega arith) (omega arith) (omega arith)) d₁ (sound_after d d₁ one.makes.extends)))
expression_made (linked k x a b) d h = pair_made a b (join_of k x) d (expression_made a d h) (λ y g. expression_made b y g)
expression_made (raised a b) d h = pair_made a b raise d (expression_made a d h) (λ y g. expression_made b y g)
