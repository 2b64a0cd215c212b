-- The contracts of the calls answer a result or a listed refusal.
use Prim.Native.Nat.{ℕ, ◌≤◌, ◌<◌}
use mathlib.Core.Path.{◌≡◌, refl, sym, ap, subst, ◌∙◌}
use mathlib.Core.Bool.{Bool, true, false}
use mathlib.Core.List.{List, [], ◌∷◌}
use lib.Dec.{T}
use native.Mathlib.Omega.{arith}
use native.Mathlib.Decide.{dec_lt}
use Rattle.arena.specs.declared.DagArena.{DagArena}
use Rattle.arena.specs.Node.{node_at}
use Rattle.definitions.specs.Refusals.{not_sound, bad_operand, no_text, text_too_long, no_slot_place}
use Rattle.definitions.specs.Machine.{fresh_refused}
use Rattle.store.specs.Sound.{Sound}
use Rattle.store.specs.View.{lent}
use Rattle.std.proofs.Common.{Ok, Err}
use Rattle.builder.specs.Reads.{NodeRead, ReadsNode}
use Rattle.builder.specs.Opens.{Opens, fresh_answer}
use Rattle.text.specs.Memory.{lent_controller}
use Rattle.history.proofs.Keeping.{called}
use Rattle.writer.specs.Answers.{Refused}
use Rattle.writer.specs.Writing as Writing
use Rattle.refusals_listed.specs.Listed.{among}
use Rattle.refusals_listed.proofs.Called.{calls_answer_listed, among_more, not_not}
use Rattle.public_calls.specs.Refusals.{PublicCallsAnswerListed, OpenedOr, OpensListed, NodeOr, ReadsNodeListed, NodesReadListed, WritesAnswerListed}

pub public_calls_answer_listed : PublicCallsAnswerListed
public_calls_answer_listed c m m' a h = calls_answer_listed lent_controller c m m' a (called h)

pub opens_listed : OpensListed
opens_listed words slots slots' r h = subst (OpenedOr (no_slot_place ∷ [])) (sym h.answer) (by (fresh_refused (lent words slots)))
  where
    by : (b : Bool) → OpenedOr (no_slot_place ∷ []) (fresh_answer b)
    by true = tt
    by false = tt

-- ---- a node read back

module _ (words slots : List ℕ) (arena : DagArena) (id : ℕ) (r : NodeRead) (h : ReadsNode words slots arena id r) where
  abbrev ks : List ℕ
  ks = not_sound ∷ bad_operand ∷ []

  -- on a sound store
  sound_read : Sound words slots arena → NodeOr (bad_operand ∷ []) r
  sound_read s = by (dec_lt id arena.count)
    where
      by : Dec (id < arena.count) → NodeOr (bad_operand ∷ []) r
      by (yes l) = subst (NodeOr (bad_operand ∷ [])) (sym (h.found s l)) tt
      by (no n) = subst (NodeOr (bad_operand ∷ [])) (sym (h.unknown s (omega arith))) tt

  never_20 : (a : NodeRead) → NodeOr (bad_operand ∷ []) a → a ≡ Err not_sound → ⊥
  never_20 (Ok node) k e = let z : ◌≡◌ {A = ℕ} 0 1 = cc in omega arith
  never_20 (Err number) k e = let q : number ≡ not_sound = cc in subst (λ (n : ℕ). T (among n (bad_operand ∷ []))) q k

  read_listed : (a : NodeRead) → r ≡ a → NodeOr ks a
  read_listed (Ok node) e = tt
  read_listed (Err number) e = not_not (among number ks) (λ out.
      let unsound : Sound words slots arena → ⊥ = λ s. out (among_more number not_sound (bad_operand ∷ []) (subst (NodeOr (bad_operand ∷ [])) e (sound_read s))) in
      let q : r ≡ Err not_sound = h.unsound unsound in
      let p : number ≡ not_sound = cc in
      out (subst (λ (n : ℕ). T (among n ks)) (sym p) tt))

  pub node_read_listed : ReadsNodeListed words slots arena r
  node_read_listed = record {
    listed = read_listed r refl;
    unsound = h.unsound;
    sound = λ s. never_20 r (sound_read s);
  }

pub nodes_read_listed : NodesReadListed
nodes_read_listed words slots arena id r h = node_read_listed words slots arena id r h

-- ---- a node's text

pub writes_answer_listed : WritesAnswerListed
writes_answer_listed m id buffer buffer' r (Writing.unsound u) = record { listed = tt; unsound = λ v. refl; sound = λ s e. u s }
writes_answer_listed m id buffer buffer' r (Writing.unknown s l) = record { listed = tt; unsound = λ v. absurd (v s); sound = λ t e. let z : bad_operand ≡ not_sound = cc in omega arith }
writes_answer_listed m id buffer buffer' r (Writing.textless s l n) = record { listed = tt; unsound = λ v. absurd (v s); sound = λ t e. let z : no_text ≡ not_sound = cc in omega arith }
writes_answer_listed m id buffer buffer' r (Writing.too_long s l w t) = record { listed = tt; unsound = λ v. absurd (v s); sound = λ t e. let z : text_too_long ≡ not_sound = cc in omega arith }
writes_answer_listed m id buffer buffer' r (Writing.written s l w n b) = record { listed = tt; unsound = λ v. absurd (v s); sound = λ t e. let z : ◌≡◌ {A = ℕ} 0 1 = cc in omega arith }
