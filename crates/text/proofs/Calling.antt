-- What the contract of `read` says is what demand 3 takes of a reading.
use Prim.Native.Nat.{ℕ}
use mathlib.Core.Path.{◌≡◌, refl, sym, ap, ◌∙◌}
use mathlib.Core.List.{List, [], ◌∷◌}
use native.Mathlib.Decide.{ℕ_discrete}
use Rattle.definitions.specs.Making.{Controller, LentLists, Made}
use Rattle.definitions.specs.Controller.{AfterCall, reading, from_made, Part, store_part, names_part}
use Rattle.definitions.specs.Promise.{ControllerCalled, All}
use Rattle.definitions.specs.Beside.{SoundPart}
use Rattle.store.specs.declared.NodeAnswer.{NodeAnswer}
use Rattle.store.specs.declared.NodeAnswer.TheVariants.{Id, Refused}
use Rattle.store.specs.Memory.{model}
use Rattle.names.specs.Memory.{name_model}
use Rattle.names.proofs.Determined.{either}
use Rattle.text.specs.Memory.{ControllerMemory, lent_controller, BothSound, controller_of, lent_of}
use Rattle.text.specs.Making.{outcome}
use Rattle.text.specs.Reading.{answered, ReadingCases, unsound, refused, read}
use Rattle.text.specs.Calling.{ReadsAsCalled}
use Rattle.text.proofs.Performing.{same_lent_of}
use Rattle.text.proofs.Determined.{plain_refused, plain_read}
use Rattle.text.proofs.Cases.{equation_gives_case}

answer_of : (a : NodeAnswer) (s : Controller) → answered a ≡ (from_made (outcome a s)).answer
answer_of (Id i) s = refl
answer_of (Refused r) s = refl

left_of : (a : NodeAnswer) (s : Controller) → s ≡ (from_made (outcome a s)).left
left_of (Id i) s = refl
left_of (Refused r) s = refl

module _ (d : ControllerMemory) where
  held_of : All (SoundPart model name_model d) (store_part ∷ names_part ∷ []) → BothSound d
  held_of t = record { store = t.0; names = t.1.0 }

  taken : BothSound d → All (SoundPart model name_model d) (store_part ∷ names_part ∷ [])
  taken h = (h.store, (h.names, tt))

case_called : (s : List ℕ) (d d' : ControllerMemory) (a : NodeAnswer) → ReadingCases s d a d' → ControllerCalled lent_controller (reading s) d (answered a) d'
case_called s d d' a (unsound n) = record {
  unsound = λ u. (refl, refl);
  answer = λ t. absurd (n (held_of d t));
  left = λ t. absurd (n (held_of d t));
  sound = λ t. absurd (n (held_of d t));
  untouched = tt;
  same_lent = refl;
}
case_called s d d' a (refused h r) = record {
  unsound = λ u. absurd (u (taken d h));
  answer = λ t. sym (ap (λ (x : AfterCall). x.answer) (plain_refused (lent_of d) (controller_of d) r));
  left = λ t. sym (ap (λ (x : AfterCall). x.left) (plain_refused (lent_of d) (controller_of d) r));
  sound = λ t p g. g;
  untouched = tt;
  same_lent = refl;
}
case_called s d d' a (read h e m) = record {
  unsound = λ u. absurd (u (taken d h));
  answer = λ t. answer_of a (controller_of d') ∙ ap (λ (x : Made). (from_made x).answer) m.is ∙ sym (ap (λ (x : AfterCall). x.answer) (plain_read (lent_of d) (controller_of d) e));
  left = λ t. left_of a (controller_of d') ∙ ap (λ (x : Made). (from_made x).left) m.is ∙ sym (ap (λ (x : AfterCall). x.left) (plain_read (lent_of d) (controller_of d) e));
  sound = λ t. sounds;
  untouched = tt;
  same_lent = same_lent_of d d' m.extends;
}
  where
    sounds : (p : Part) → SoundPart model name_model d p → SoundPart model name_model d' p
    sounds store_part g = m.extends.store.sound
    sounds names_part g = m.extends.names

pub read_called : ReadsAsCalled
read_called s d d' a r =
    let sound : BothSound d → ControllerCalled lent_controller (reading s) d (answered a) d' = λ h. case_called s d d' a (equation_gives_case s d d' a r (yes h)) in
    let other : (BothSound d → ⊥) → ControllerCalled lent_controller (reading s) d (answered a) d' = λ n. case_called s d d' a (equation_gives_case s d d' a r (no n)) in
    let same : (part : LentLists → ℕ) → part (lent_of d') ≡ part (lent_of d) = λ part. either _ _ (ℕ_discrete _ _) (λ h. ap part (sound h).same_lent) (λ n. ap part (other n).same_lent) in
    let nodes = same (λ l. l.store.nodes) in
    let slots = same (λ l. l.store.slots) in
    let names = same (λ l. l.names) in
    record {
      unsound = λ u. (other (λ h. u (taken d h))).unsound u;
      answer = λ t. (sound (held_of d t)).answer t;
      left = λ t. (sound (held_of d t)).left t;
      sound = λ t. (sound (held_of d t)).sound t;
      untouched = tt;
      same_lent = λ i. record { store = record { nodes = nodes i; slots = slots i }; names = names i };
    }
