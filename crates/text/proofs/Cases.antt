-- The equation of a reading gives its case, and leaves one way.
use Prim.Native.Nat.{ℕ}
use mathlib.Core.Path.{◌≡◌, sym, ap, ◌∙◌, subst}
use mathlib.Core.List.{List, List-discrete}
use native.Mathlib.Omega.{arith}
use native.Mathlib.Decide.{ℕ_discrete}
use Rattle.arena.specs.Layout.{arena_of}
use Rattle.definitions.specs.Refusals.{not_sound}
use Rattle.definitions.specs.Beside.{beside}
use Rattle.store.specs.declared.NodeAnswer.{NodeAnswer}
use Rattle.store.specs.declared.NodeAnswer.TheVariants.{Id, Refused}
use Rattle.store.specs.Memory.{memory, model}
use Rattle.names.specs.Memory.{name_memory, name_model}
use Rattle.names.proofs.Determined.{either}
use Rattle.text_language.specs.Reading.{Verdict, refuses, denotes, verdict, Judged}
use Rattle.text_language.proofs.Reading.{judged}
use Rattle.text.specs.Memory.{ControllerMemory, BothSound}
use Rattle.text.specs.Reading.{answered, ReadingLeft, reading_left, ReadsText, ReadingCases, unsound, refused, read, EquationGivesCase, ReadsOneWay}
use Rattle.text.proofs.Determined.{case_gives_equation}
use Rattle.text.proofs.Existing.{expression_made}

same_answer : (a b : NodeAnswer) → answered a ≡ answered b → a ≡ b
same_answer (Id i) (Id j) e = let q : i ≡ j = cc in ap Id q
same_answer (Id i) (Refused r) e = let z : ◌≡◌ {A = ℕ} 0 1 = cc in absurd (omega arith)
same_answer (Refused r) (Id i) e = let z : ◌≡◌ {A = ℕ} 0 1 = cc in absurd (omega arith)
same_answer (Refused r) (Refused k) e = let q : r ≡ k = cc in ap Refused q

module _ (s : List ℕ) (m m' : ControllerMemory) (a : NodeAnswer) (k : ReadsText s m a m') where
  -- a case with the same answer and memory
  as_case : (d : Dec (BothSound m)) (b : NodeAnswer) (m'' : ControllerMemory) → ReadingCases s m b m'' → ReadingCases s m a m'
  as_case d b m'' c =
      let e : reading_left (answered b) m'' ≡ reading_left (answered a) m' = (case_gives_equation s m m'' b c).equation d ∙ sym (k.equation d) in
      subst (λ (x : ControllerMemory). ReadingCases s m a x) (ap (λ (x : ReadingLeft). x.memory) e)
      (subst (λ (x : NodeAnswer). ReadingCases s m x m'') (same_answer b a (ap (λ (x : ReadingLeft). x.answer) e)) c)

  of_text : BothSound m → (v : Verdict) → Judged s v → ReadingCases s m a m'
  of_text h (refuses number) j = as_case (yes h) (Refused number) m (refused h j)
  of_text h (denotes e) j = let x = expression_made e m h in as_case (yes h) x.answer x.after (read h j x.makes)

  case_of : Dec (BothSound m) → ReadingCases s m a m'
  case_of (yes h) = of_text h (verdict s) (judged s)
  case_of (no n) = as_case (no n) (Refused not_sound) m (unsound n)

pub equation_gives_case : EquationGivesCase
equation_gives_case s m m' a k d = case_of s m m' a k d

-- ---- one way, sound or not

answer_discrete : (a b : NodeAnswer) → Dec (a ≡ b)
answer_discrete (Id i) (Id j) = by (ℕ_discrete i j)
  where
    by : Dec (i ≡ j) → Dec (Id i ≡ Id j)
    by (yes e) = yes (ap Id e)
    by (no n) = no (λ e. n (let q : i ≡ j = cc in q))
answer_discrete (Id i) (Refused r) = no (λ e. let z : ◌≡◌ {A = ℕ} 0 1 = cc in absurd (omega arith))
answer_discrete (Refused r) (Id i) = no (λ e. let z : ◌≡◌ {A = ℕ} 0 1 = cc in absurd (omega arith))
answer_discrete (Refused r) (Refused k) = by (ℕ_discrete r k)
  where
    by : Dec (r ≡ k) → Dec (Refused r ≡ Refused k)
    by (yes e) = yes (ap Refused e)
    by (no n) = no (λ e. n (let q : r ≡ k = cc in q))

module _ (s : List ℕ) (m m' m'' : ControllerMemory) (a b : NodeAnswer) (k : ReadsText s m a m') (l : ReadsText s m b m'') where
  same : (d : Dec (BothSound m)) → reading_left (answered a) m' ≡ reading_left (answered b) m''
  same d = k.equation d ∙ sym (l.equation d)

  -- what is read off both memories, and can be compared
  both : {A : Type 0} (part : ControllerMemory → A) → Dec (part m' ≡ part m'') → part m' ≡ part m''
  both part d = either (part m') (part m'') d (λ h. ap (λ (x : ReadingLeft). part x.memory) (same (yes h))) (λ n. ap (λ (x : ReadingLeft). part x.memory) (same (no n)))

  one_way : (a ≡ b) × (m' ≡ m'')
  one_way =
      let answers : a ≡ b = either a b (answer_discrete a b) (λ h. same_answer a b (ap (λ (x : ReadingLeft). x.answer) (same (yes h)))) (λ n. same_answer a b (ap (λ (x : ReadingLeft). x.answer) (same (no n)))) in
      let words = both (λ x. x.store.words) (List-discrete ℕ_discrete _ _) in
      let slots = both (λ x. x.store.slots) (List-discrete ℕ_discrete _ _) in
      let nodes = both (λ x. x.store.arena.count) (ℕ_discrete _ _) in
      let size = both (λ x. x.store.arena.size) (ℕ_discrete _ _) in
      let bytes = both (λ x. x.names.bytes) (List-discrete ℕ_discrete _ _) in
      let names = both (λ x. x.names.count) (ℕ_discrete _ _) in
      (answers, λ i. beside model name_model (memory (words i) (slots i) (arena_of (nodes i) (size i))) (name_memory (bytes i) (names i)))

pub reads_one_way : ReadsOneWay
reads_one_way s m m' m'' a b k l = one_way s m m' m'' a b k l
