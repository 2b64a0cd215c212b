-- What a call says of its own part is what its contract says of a controller: the other parts stay as they are.
use Prim.Native.Nat.{ℕ}
use mathlib.Core.Path.{◌≡◌, refl, sym, ap, ◌∙◌, subst}
use mathlib.Core.List.{[], ◌∷◌}
use Rattle.definitions.specs.Machine.{Call, store, simplify, prune, prune_by_setting, Answer, State}
use Rattle.definitions.specs.Names.{NameCall, NameAnswer}
use Rattle.definitions.specs.Controller.{LentLists, Controller, naming, from_store, from_names, AfterCall, on_store, controller_call, asked, Part, store_part, names_part, takes, untaken}
use Rattle.definitions.specs.Promise.{Model, Called, Fresh, ControllerCalled, FreshController, All}
use Rattle.definitions.specs.Beside.{NameModel, NamesCalled, FreshNames, beside, SoundPart, SamePartOf, controller_model}

-- ---- a call of the store, as the controller's

takes_store : (c : Call) → takes (asked c) ≡ store_part ∷ []
takes_store (store c) = refl
takes_store (simplify m i depth budget) = refl
takes_store (prune i t) = refl
takes_store (prune_by_setting i n) = refl

untaken_store : (c : Call) → untaken (asked c) ≡ names_part ∷ []
untaken_store (store c) = refl
untaken_store (simplify m i depth budget) = refl
untaken_store (prune i t) = refl
untaken_store (prune_by_setting i n) = refl

pub call_store : (l : LentLists) (s : Controller) (c : Call) → controller_call l s (asked c) ≡ on_store l s c
unfolding controller_call
call_store l s (store c) = refl
call_store l s (simplify m i depth budget) = refl
call_store l s (prune i t) = refl
call_store l s (prune_by_setting i n) = refl

module _ (M : Model) (N : NameModel) where
  -- a store call that meets its contract, beside any name list
  pub lift_store : (c : Call) (m m' : M.Memory) (a : Answer) (n : N.Memory) → Called M c m a m'
      → ControllerCalled (controller_model M N) (asked c) (beside M N m n) (from_store a) (beside M N m' n)
  lift_store c m m' a n h = record {
    unsound = λ u.
        let x = h.unsound (λ s. u (subst (All before) (sym (takes_store c)) (s, tt))) in
        (ap from_store x.0, ap (λ z. beside M N z n) x.1);
    answer = λ t. ap from_store (h.answer (taken t)) ∙ sym (ap (λ (r : AfterCall). r.answer) (call_store l s c));
    left = λ t. ap (λ (x : State). record { nodes = x.nodes; names = N.view n }) (h.left (taken t)) ∙ sym (ap (λ (r : AfterCall). r.left) (call_store l s c));
    sound = λ t. sounds (taken t);
    untouched = subst (All (SamePartOf M N (beside M N m n) (beside M N m' n))) (sym (untaken_store c)) (refl, tt);
    same_lent = ap (λ x. record { store = x; names = N.lent n }) h.same_lent;
  }
    where
      l : LentLists
      l = (controller_model M N).lent (beside M N m n)

      s : Controller
      s = (controller_model M N).view (beside M N m n)

      before : Part → Type 0
      before p = SoundPart M N (beside M N m n) p

      taken : All before (takes (asked c)) → M.Sound m
      taken t = (subst (All before) (takes_store c) t).0

      sounds : M.Sound m → (p : Part) → before p → SoundPart M N (beside M N m' n) p
      sounds k store_part g = h.sound k
      sounds k names_part g = g

  -- a name call that meets its contract, beside any store
  pub lift_names : (c : NameCall) (m : M.Memory) (n n' : N.Memory) (a : NameAnswer) → NamesCalled N c n a n'
      → ControllerCalled (controller_model M N) (naming c) (beside M N m n) (from_names a) (beside M N m n')
  unfolding controller_call
  lift_names c m n n' a h = record {
    unsound = λ u. let x = h.unsound (λ s. u (s, tt)) in (ap from_names x.0, ap (beside M N m) x.1);
    answer = λ t. ap from_names (h.answer t.0);
    left = λ t. ap (λ x. record { nodes = (M.view m).nodes; names = x }) (h.left t.0);
    sound = λ t. sounds t.0;
    untouched = (refl, tt);
    same_lent = ap (λ (x : ℕ). record { store = M.lent m; names = x }) h.same_lent;
  }
    where
      sounds : N.Sound n → (p : Part) → SoundPart M N (beside M N m n) p → SoundPart M N (beside M N m n') p
      sounds k store_part g = g
      sounds k names_part g = h.sound k

  -- a fresh store beside an empty name list
  pub fresh_beside : (m : M.Memory) (n : N.Memory) → Fresh M m → FreshNames N n → FreshController (controller_model M N) (beside M N m n)
  fresh_beside m n f g = record { sound = sounds; view = λ i. record { nodes = (f.view i).nodes; names = g.view i } }
    where
      sounds : (p : Part) → SoundPart M N (beside M N m n) p
      sounds store_part = f.sound
      sounds names_part = g.sound
