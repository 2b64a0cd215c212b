-- A list of store calls alone: the controller's answers are the store's, the names stay, and the promise holds.
use mathlib.Core.Path.{◌≡◌, refl, sym, ap, ◌∙◌, subst}
use mathlib.Core.List.{List, [], ◌∷◌, map}
use Rattle.definitions.specs.Machine.{Call, State, empty, call, answers, states}
use Prim.Native.Nat.{ℕ}
use Rattle.definitions.specs.Controller.{LentLists, Controller, AfterCall, from_store, controller_call, controller_answers, controllers, asked, with_names}
use Rattle.definitions.specs.Promise.{Promise}
use Rattle.definitions.proofs.Histories.{plain_promise}
use Rattle.definitions.proofs.Lifting.{call_store}

module _ (l : LentLists) (names : List (List ℕ)) where
  left_store : (s : State) (c : Call) → (controller_call l (with_names names s) (asked c)).left ≡ with_names names (call l.store s c).left
  left_store s c = ap (λ (r : AfterCall). r.left) (call_store l (with_names names s) c)

  pub store_answers : (s : State) (cs : List Call) → controller_answers l (with_names names s) (map asked cs) ≡ map from_store (answers l.store s cs)
  unfolding controller_answers answers
  store_answers s [] = refl
  store_answers s (c ∷ cs) =
      let e : (controller_call l (with_names names s) (asked c)).answer ≡ from_store (call l.store s c).answer = ap (λ (r : AfterCall). r.answer) (call_store l (with_names names s) c) in
      let f = ap (λ (x : Controller). controller_answers l x (map asked cs)) (left_store s c) ∙ store_answers (call l.store s c).left cs in
      λ i. e i ∷ f i

  pub store_states : (s : State) (cs : List Call) → controllers l (with_names names s) (map asked cs) ≡ map (with_names names) (states l.store s cs)
  unfolding controllers states
  store_states s [] = refl
  store_states s (c ∷ cs) =
      let e = left_store s c in
      let f = ap (λ (x : Controller). controllers l x (map asked cs)) (left_store s c) ∙ store_states (call l.store s c).left cs in
      λ i. e i ∷ f i

pub store_promise : (l : LentLists) (cs : List Call) → Promise l (map asked cs) (map from_store (answers l.store empty cs)) (map (with_names []) (states l.store empty cs))
store_promise l cs =
    subst (λ al. Promise l (map asked cs) al (map (with_names []) (states l.store empty cs))) (store_answers l [] empty cs)
    (subst (λ ss. Promise l (map asked cs) (controller_answers l (with_names [] empty) (map asked cs)) ss) (store_states l [] empty cs) (plain_promise l (map asked cs)))
