-- What a call leaves, two plain calls that are one leave.
use mathlib.Core.Path.{◌≡◌, refl, ap, ◌∙◌}
use Rattle.definitions.specs.Machine as M
use Rattle.store.specs.Memory.{Memory, memory_after, model, changes_nothing, left, left_by, Leaves}
use Rattle.store_calls.specs.Calls.{SameOn, SameCall}

pub leaves_as : (m : Memory) (c c' : M.Call) → SameOn m c c' → (a : M.Answer) (m' : Memory) → Leaves c m a m' → Leaves c' m a m'
leaves_as m c c' s a m' k = record {
  equation = by;
  called = record {
    unsound = k.called.unsound;
    answer = λ h. k.called.answer h ∙ ap (λ (x : M.After). x.answer) s.outcome;
    left = λ h. k.called.left h ∙ ap (λ (x : M.After). x.left) s.outcome;
    sound = k.called.sound;
    same_lent = k.called.same_lent;
  };
  count = k.count;
  unchanged = λ number e t. k.unchanged number e (s.changes number ∙ t);
}
  where
    by : (d : Dec (model.Sound m)) → left a m' ≡ left_by c' m d
    by (yes h) = k.equation (yes h) ∙ ap (λ (x : M.After). left x.answer (memory_after m x.left.nodes)) s.outcome
    by (no n) = k.equation (no n)

pub same_equal : (c c' : M.Call) → c ≡ c' → SameCall c c'
same_equal c c' e m = record {
  outcome = ap (M.call (model.lent m) (model.view m)) e;
  changes = λ number. ap (λ (x : M.Call). changes_nothing x number) e;
}

pub same_trans : (m : Memory) (c c' c'' : M.Call) → SameOn m c c' → SameOn m c' c'' → SameOn m c c''
same_trans m c c' c'' s t = record { outcome = s.outcome ∙ t.outcome; changes = λ number. s.changes number ∙ t.changes number }

-- two store calls that want the same node
pub same_request : (c c' : M.Store) → M.requested c ≡ M.requested c' → SameCall (M.store c) (M.store c')
unfolding M.call
same_request c c' e m = record {
  outcome = ap (λ (q : M.Request). M.on_nodes (model.view m) (M.store_call (model.lent m) (model.view m).nodes q)) e;
  changes = λ _. refl;
}
