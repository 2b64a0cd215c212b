-- What a call leaves, in the three cases that every public call has: not sound, refused at once, and done.
use Prim.Native.Nat.{ℕ}
use mathlib.Core.Path.{◌≡◌, refl, sym, ap, ◌∙◌}
use mathlib.Core.Bool.{true}
use native.Mathlib.Omega.{arith}
use Rattle.definitions.specs.Limits.{most_doublings}
use Rattle.definitions.specs.Refusals.{not_sound}
use Rattle.definitions.specs.Intern.{table_size_from}
use Rattle.definitions.specs.Machine.{Call, Answer, refused, After, call}
use Rattle.store.specs.View.{Kept}
use Rattle.store.specs.Memory.{Memory, model, memory_after, changes_nothing, left, left_by, Leaves}
use Rattle.store.proofs.Sizes.{grown_is}
use Rattle.store.proofs.Keeping.{kept_refl}
use Rattle.store.proofs.Stored.{memory_is}

abbrev pub SoundMemory : Memory → Type 0
SoundMemory m = model.Sound m

abbrev pub KeptMemory : Memory → Memory → Type 0
KeptMemory m m' = Kept m.words m.slots m.arena m'.words m'.slots m'.arena

-- an answer, and the plain machine's state in a memory
abbrev pub after : Answer → Memory → After
after a m = record { answer = a; left = model.view m }

module _ (c : Call) (m : Memory) where
  -- "20 store .. not sound"
  pub leaves_unsound : (SoundMemory m → ⊥) → Leaves c m (refused not_sound) m
  leaves_unsound n = record {
    equation = refused_by;
    called = record { unsound = λ _. (refl, refl); answer = λ h. absurd (n h); left = λ h. absurd (n h); sound = λ h. h; same_lent = refl };
    count = omega arith;
    unchanged = λ number e u. refl;
  }
    where
      refused_by : (d : Dec (SoundMemory m)) → left (refused not_sound) m ≡ left_by c m d
      refused_by (yes h) = absurd (n h)
      refused_by (no _) = refl

  -- the plain machine's answer, over a memory with its nodes
  pub leaves_kept : (a : Answer) (m' : Memory) → SoundMemory m → KeptMemory m m' → call (model.lent m) (model.view m) c ≡ after a m' → ((number : ℕ) → a ≡ refused number → changes_nothing c number ≡ true → m' ≡ m) → Leaves c m a m'
  leaves_kept a m' h k e u = record {
    equation = answered_by;
    called = record {
      unsound = λ n. absurd (n h);
      answer = λ _. sym (ap (λ (x : After). x.answer) e);
      left = λ _. sym (ap (λ (x : After). x.left) e);
      sound = λ _. k.whole;
      same_lent = rw (k.long, k.wide) refl;
    };
    count = k.count;
    unchanged = u;
  }
    where
      size : m'.arena.size ≡ table_size_from most_doublings m.arena.size m'.arena.count
      size = grown_is m.arena.size m'.arena.count m'.arena.size h.table.doubled k.whole.nodes.formed.many k.whole.table.load k.grown

      answered_by : (d : Dec (SoundMemory m)) → left a m' ≡ left_by c m d
      answered_by (no n) = absurd (n h)
      answered_by (yes _) = ap (left a) (memory_is m m' k.whole size k.words_past k.slots_past) ∙ ap (λ (x : After). left x.answer (memory_after m x.left.nodes)) (sym e)

  -- a refusal that leaves all as it is
  pub leaves_refused : (number : ℕ) → SoundMemory m → call (model.lent m) (model.view m) c ≡ after (refused number) m → Leaves c m (refused number) m
  leaves_refused number h e = leaves_kept (refused number) m h (kept_refl m.words m.slots m.arena h) e (λ _ _ _. refl)
