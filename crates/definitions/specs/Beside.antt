-- A controller's memory as code has it: a store's, and beside it a name list's. What a call says of its own part, said of the whole, is
-- what the promise takes (proofs Lifting).
use Rattle.std.specs.Prelude.{ℕ, ◌≡◌, List, []}
use Rattle.definitions.specs.Refusals.{not_sound}
use Rattle.definitions.specs.Names.{NameCall, NameAnswer, refused, name_call}
use Rattle.definitions.specs.Controller.{Part, store_part, names_part}
use Rattle.definitions.specs.Promise.{Model, ControllerModel}

-- A name list as code has it: what its memory is, when it is sound, the names in it, and how many entries are lent.
pub record NameModel : Type 1 where
  pub Memory : Type 0
  pub Sound : Memory → Type 0
  pub view : Memory → List (List ℕ)
  pub lent : Memory → ℕ

-- What the contract of each name call says, as `Called` does of a store call.
pub record NamesCalled (N : NameModel) (c : NameCall) (m : N.Memory) (a : NameAnswer) (m' : N.Memory) : Type 0 where
  pub unsound : (N.Sound m → ⊥) → (a ≡ refused not_sound) × (m' ≡ m)
  pub answer : N.Sound m → a ≡ (name_call (N.lent m) (N.view m) c).answer
  pub left : N.Sound m → N.view m' ≡ (name_call (N.lent m) (N.view m) c).names
  pub sound : N.Sound m → N.Sound m'
  pub same_lent : N.lent m' ≡ N.lent m

-- "empty at first": sound, and without names
pub record FreshNames (N : NameModel) (m : N.Memory) : Type 0 where
  pub sound : N.Sound m
  pub view : N.view m ≡ []

-- the memory of a store and that of a name list
pub record Beside (M : Model) (N : NameModel) : Type 0 where
  pub store : M.Memory
  pub names : N.Memory

abbrev pub beside : (M : Model) (N : NameModel) → M.Memory → N.Memory → Beside M N
beside M N m n = record { store = m; names = n }

abbrev pub SoundPart : (M : Model) (N : NameModel) → Beside M N → Part → Type 0
SoundPart M N m store_part = M.Sound m.store
SoundPart M N m names_part = N.Sound m.names

abbrev pub SamePartOf : (M : Model) (N : NameModel) → Beside M N → Beside M N → Part → Type 0
SamePartOf M N m m' store_part = m'.store ≡ m.store
SamePartOf M N m m' names_part = m'.names ≡ m.names

abbrev pub controller_model : Model → NameModel → ControllerModel
controller_model M N = record {
  Memory = Beside M N;
  Sound = SoundPart M N;
  Same = SamePartOf M N;
  view = λ m. record { nodes = (M.view m.store).nodes; names = N.view m.names };
  lent = λ m. record { store = M.lent m.store; names = N.lent m.names };
}
