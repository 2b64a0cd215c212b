-- What calls keep, one after another.
use Prim.Native.Nat.{ℕ, ◌+◌, ◌*◌, ◌-◌, ◌≤◌}
use mathlib.Core.Path.{◌≡◌, refl, sym, ap, ◌∙◌, subst}
use mathlib.Core.List.{List}
use lib.ListN.{drop}
use lib.Seq.{drop-drop}
use native.Mathlib.Omega.{arith}
use Rattle.arena.specs.declared.DagArena.{DagArena}
use Rattle.arena.specs.Layout.{node_words}
use Rattle.store.specs.Sound.{Sound}
use Rattle.store.specs.View.{Kept}
use Rattle.store.proofs.Sizes.{grown_refl, grown_trans}

pub kept_refl : (w slots : List ℕ) (s : DagArena) → Sound w slots s → Kept w slots s w slots s
kept_refl w slots s h = record {
  whole = h;
  count = omega arith;
  size = omega arith;
  grown = grown_refl s.size s.count;
  long = refl;
  wide = refl;
  words_past = refl;
  slots_past = refl;
  children = λ i l. refl;
}

-- past a later end
pub later : (a b : List ℕ) (m n : ℕ) → m ≤ n → drop m a ≡ drop m b → drop n a ≡ drop n b
later a b m n l e =
    let k : m + (n - m) ≡ n = omega arith in
    subst (λ (x : ℕ). drop x a ≡ drop x b) k (sym (drop-drop (n - m) m a) ∙ ap (drop (n - m)) e ∙ drop-drop (n - m) m b)

pub kept_trans : (w slots : List ℕ) (s : DagArena) (w' slots' : List ℕ) (t : DagArena) (w'' slots'' : List ℕ) (u : DagArena) → Kept w slots s w' slots' t → Kept w' slots' t w'' slots'' u → Kept w slots s w'' slots'' u
kept_trans w slots s w' slots' t w'' slots'' u a b = record {
  whole = b.whole;
  count = omega (arith, a.count, b.count);
  size = omega (arith, a.size, b.size);
  grown = grown_trans s.size t.count t.size u.count u.size b.count a.grown b.grown;
  long = b.long ∙ a.long;
  wide = b.wide ∙ a.wide;
  words_past = b.words_past ∙ later w' w (t.count * node_words) (u.count * node_words) (omega (arith, b.count)) a.words_past;
  slots_past = b.slots_past ∙ later slots' slots t.size u.size b.size a.slots_past;
  children = λ i l. b.children i (omega (arith, a.count)) ∙ a.children i l;
}
