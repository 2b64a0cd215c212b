-- What extends sound lists is the memory that its nodes and names give: each case of a reading has the equation.
use Prim.Native.Nat.{ℕ}
use mathlib.Core.Path.{◌≡◌, refl, sym, ap, ◌∙◌}
use mathlib.Core.List.{List}
use Rattle.definitions.specs.Refusals.{not_sound}
use Rattle.definitions.specs.Beside.{beside}
use Rattle.definitions.specs.Making.{Controller, LentLists, Made, make}
use Rattle.definitions.specs.Controller.{controller_call, reading, on_text, from_made}
use Rattle.store.specs.declared.NodeAnswer.{NodeAnswer}
use Rattle.store.specs.declared.NodeAnswer.TheVariants.{Id, Refused}
use Rattle.store.specs.Memory.{model}
use Rattle.store.proofs.Staying.{stays_is}
use Rattle.names.specs.Memory.{name_model}
use Rattle.names.proofs.Determined.{names_are}
use Rattle.text_language.specs.Grammar.{Expr}
use Rattle.text_language.specs.Reading.{Refuses, Denotes, refuses, denotes}
use Rattle.text_language.proofs.Reading.{verdict_refuses, verdict_denotes}
use Rattle.text.specs.Memory.{ControllerMemory, controller_of, lent_of, controller_after, BothSound, Extends}
use Rattle.text.specs.Making.{outcome, Makes}
use Rattle.text.specs.Reading.{answered, reading_left, reading_left_of, reading_left_by, unsound, refused, read, CaseGivesEquation}
use Rattle.text.proofs.Performing.{extends_refl}

pub extends_is : (m m' : ControllerMemory) → BothSound m → Extends m m' → m' ≡ controller_after m (controller_of m')
extends_is m m' h f =
    let store = stays_is m.store m'.store h.store f.store in
    let names = names_are m.names m'.names f.names f.past in
    λ i. beside model name_model (store i) (names i)

-- ---- the plain machine's reading, by what the text meets

pub plain_refused : (l : LentLists) (s : Controller) {text : List ℕ} {k : ℕ} → Refuses text k → controller_call l s (reading text) ≡ on_text l s (refuses k)
unfolding controller_call
plain_refused l s h = ap (on_text l s) (verdict_refuses h)

pub plain_read : (l : LentLists) (s : Controller) {text : List ℕ} {e : Expr} → Denotes text e → controller_call l s (reading text) ≡ on_text l s (denotes e)
unfolding controller_call
plain_read l s h = ap (on_text l s) (verdict_denotes h)

-- ---- the equation of each case

equation_unsound : (s : List ℕ) (m : ControllerMemory) → (BothSound m → ⊥) → (d : Dec (BothSound m)) → reading_left (answered (Refused not_sound)) m ≡ reading_left_by s m d
equation_unsound s m n (yes h) = absurd (n h)
equation_unsound s m n (no _) = refl

equation_refused : (s : List ℕ) (m : ControllerMemory) (k : ℕ) → BothSound m → Refuses s k → (d : Dec (BothSound m)) → reading_left (answered (Refused k)) m ≡ reading_left_by s m d
equation_refused s m k h r (yes _) = ap (reading_left (answered (Refused k))) (extends_is m m h (extends_refl m h)) ∙ ap (reading_left_of m) (sym (plain_refused (lent_of m) (controller_of m) r))
equation_refused s m k h r (no n) = absurd (n h)

left_as : (m : ControllerMemory) (a : NodeAnswer) (c : Controller) → reading_left (answered a) (controller_after m c) ≡ reading_left_of m (from_made (outcome a c))
left_as m (Id i) c = refl
left_as m (Refused r) c = refl

equation_read : (s : List ℕ) (m m' : ControllerMemory) (a : NodeAnswer) (e : Expr) → BothSound m → Denotes s e → Makes (make (lent_of m) e (controller_of m)) m a m'
    → (d : Dec (BothSound m)) → reading_left (answered a) m' ≡ reading_left_by s m d
equation_read s m m' a e h t x (yes _) =
    ap (reading_left (answered a)) (extends_is m m' h x.extends)
    ∙ left_as m a (controller_of m')
    ∙ ap (λ (y : Made). reading_left_of m (from_made y)) x.is
    ∙ ap (reading_left_of m) (sym (plain_read (lent_of m) (controller_of m) t))
equation_read s m m' a e h t x (no n) = absurd (n h)

pub case_gives_equation : CaseGivesEquation
case_gives_equation s m m' a (unsound n) = record { equation = equation_unsound s m n }
case_gives_equation s m m' a (refused {k = k} h r) = record { equation = equation_refused s m k h r }
case_gives_equation s m m' a (read {e = e} h t x) = record { equation = equation_read s m m' a e h t x }
