-- The calls that were run so far, and the promise of their list once all were.
use Prim.Native.Nat.{ℕ, ◌+◌, ◌-◌, ◌≤◌}
use Rattle.std.specs.Prelude.{None, Ok, Err}
use mathlib.Core.Path.{◌≡◌, refl, sym, ap, ◌∙◌, subst}
use mathlib.Core.Bool.{Bool, true, false}
use mathlib.Core.Option.{none, some}
use mathlib.Core.List.{List, [], ◌∷◌, ◌++◌, append_assoc, append-nil, map}
use lib.ListN.{length, drop, length-append, length-drop, replicate}
use lib.Seq.{drop-drop}
use native.Mathlib.Omega.{arith}
use Rattle.arena.specs.declared.DagArena.{DagArena}
use Rattle.definitions.specs.Machine as M
use Rattle.definitions.specs.Limits.{first_table_size}
use Rattle.definitions.specs.Names.{longest_name}
use Rattle.definitions.specs.Refusals.{no_slot_place}
use Rattle.definitions.specs.Listing.{last_of}
use Rattle.definitions.specs.Lists.{Controller}
use Rattle.definitions.specs.Controller.{ControllerCall, empty_controller, controllers}
use Rattle.definitions.specs.Promise.{Fresh, Promise}
use Rattle.definitions.proofs.Histories.{demand3}
use Rattle.definitions.proofs.Lifting.{fresh_beside}
use Rattle.definitions.proofs.Listing.{last_more}
use Rattle.store.specs.View.{lent}
use Rattle.store.specs.Memory.{memory, model}
use Rattle.std.proofs.Common.{Ok, Err}
use Rattle.builder.specs.Opens.{FreshStore, fresh_answer, fresh_slots, fresh_memory, Opens}
use Rattle.name_entries.specs.Sound.{lent_entries}
use Rattle.names.specs.Memory.{name_memory, name_model}
use Rattle.names.proofs.Modelled.{no_names}
use Rattle.calls.specs.declared.handing.CallResult.{CallResult}
use Rattle.text.specs.Memory.{ControllerMemory, controller_memory, lent_controller, controller_after, BothSound, Extends}
use Rattle.text.proofs.Determined.{extends_is}
use Rattle.definitions.specs.Beside.{beside}
use Rattle.calls.specs.Memory.{fresh_controller_memory, CallLeaves, done}
use Rattle.history.specs.declared.Run.{Run}
use Rattle.refusal.specs.declared.Refusal.TheVariants.{NoSlotPlace}
use Rattle.encoding.specs.declared.finding.NextCall.{NextCall}
use Rattle.encoding.specs.Encoding.{header_words, first_call, decode, unread, read_words}
use Rattle.encoding.specs.Headers.{header_call}
use Rattle.calls.specs.Calling.{last_reply_of, RunsCall}
use Rattle.encoding.specs.Finding.{WholeCall}
use Rattle.history.specs.Replaying.{after, Continues, RunsAll, lent_in, Promised, Replays}
use Rattle.history.proofs.Keeping.{history_of}
use Rattle.calls.proofs.CodeCalls.{nothing_beside}
use Rattle.history.proofs.Turns.{turns_more, extends_in_turn, last_is}
use Rattle.encoding.proofs.Decoding.{decode_none, decode_some, unread_none, unread_some}

-- the calls before the rest were run, so many of them, and with those of the rest they are all
pub record RunTo (m : ControllerMemory) (calls rest : List ℕ) (r : CallResult) (many : ℕ) (m' : ControllerMemory) : Type 0 where
  pub before : List ControllerCall
  pub split : decode calls ≡ before ++ decode rest
  pub left : unread calls ≡ unread rest
  pub run : Continues m before r m'
  pub counted : length before ≡ many
  pub few : many + length rest ≤ length calls
  pub behind : drop (length calls - length rest) calls ≡ rest

module _ (m : ControllerMemory) (calls : List ℕ) where
  pub none_run : (r : CallResult) → r.reply ≡ None → r.name ≡ replicate longest_name 0 → RunTo m calls calls r 0 m
  none_run r e zeros = record {
    before = [];
    split = refl;
    left = refl;
    run = record {
      answers = [];
      memories = [];
      left = done;
      last_memory = refl;
      last_answer = sym (ap (λ x. last_reply_of x r.name) e);
      last_name = nothing_beside r.reply r.name e zeros;
    };
    counted = refl;
    few = omega arith;
    behind = ap (λ n. drop n calls) (let z : length calls - length calls ≡ 0 = omega arith in z);
  }

  -- one call more
  pub one_more : (rest : List ℕ) (found : NextCall) (many : ℕ) (r r' : CallResult) (m' m'' : ControllerMemory) → WholeCall rest found → RunTo m calls rest r many m'
      → RunsCall (header_call found.header found.operands.now) m' r' m'' → RunTo m calls found.rest.now r' (many + 1) m''
  one_more rest found many r r' m' m'' w h f =
      let c = f.ran in
      let is = f.is in
      let known = w.is in
      let same : w.call ≡ c = cc in
      let first : first_call rest ≡ some (c, found.rest.now) = w.first ∙ ap (λ (x : ControllerCall). some (x, found.rest.now)) same in
      let so_far = h.run in
      let whole = w.whole in
      let long : length found.rest.now ≡ length rest - (header_words + length found.operands.now) = ap length w.behind ∙ length-drop (header_words + length found.operands.now) rest in
      let counted = h.counted in
      let few = h.few in
      let at : length calls - length rest + (header_words + length found.operands.now) ≡ length calls - length found.rest.now = omega arith in
      record {
        before = h.before ++ c ∷ [];
        split = h.split ∙ ap (λ l. h.before ++ l) (decode_some rest c found.rest.now first) ∙ sym (append_assoc h.before (c ∷ []) (decode found.rest.now));
        left = h.left ∙ unread_some rest c found.rest.now first;
        run = record {
          answers = so_far.answers ++ f.answer ∷ [];
          memories = so_far.memories ++ m'' ∷ [];
          left = turns_more so_far.left (subst (λ x. CallLeaves c x f.answer m'') (sym so_far.last_memory) f.left);
          last_memory = last_more m so_far.memories m'';
          last_answer = last_is so_far.answers f.answer ∙ sym f.reply;
          last_name = f.name;
        };
        counted = omega (arith, length-append h.before (c ∷ []));
        few = omega arith;
        behind = ap (λ n. drop n calls) (sym at) ∙ sym (drop-drop (header_words + length found.operands.now) (length calls - length rest) calls)
            ∙ ap (drop (header_words + length found.operands.now)) h.behind ∙ sym w.behind;
      }

  -- no call is left
  pub all_run : (r : Run) (rest : List ℕ) (m' : ControllerMemory) → r.words ≡ length calls - length rest → first_call rest ≡ none → RunTo m calls rest r.last r.calls m' → RunsAll m calls r m'
  unfolding read_words
  all_run r rest m' k e h =
      let all : decode calls ≡ h.before = h.split ∙ ap (λ l. h.before ++ l) (decode_none rest e) ∙ append-nil h.before in
      let unread_is : length (unread calls) ≡ length rest = ap length (h.left ∙ unread_none rest e) in
      record {
        continues = subst (λ l. Continues m l r.last m') (sym all) h.run;
        counts = record {
          calls_run = sym (ap length all ∙ h.counted);
          words_read = omega arith;
          no_more = ap first_call (ap (λ n. drop n calls) k ∙ h.behind) ∙ e;
        };
      }

-- what the first call gets is the lent memory without names
pub from_first : (words slots bytes calls : List ℕ) (h : CallResult) (arena : DagArena) (r : Run) (m' : ControllerMemory) → h.arena ≡ arena → h.names ≡ 0
    → RunsAll (after words slots bytes h) calls r m' → RunsAll (controller_memory words slots arena bytes 0) calls r m'
from_first words slots bytes calls h arena r m' f g k = subst (λ m. RunsAll m calls r m') (λ i. controller_memory words slots (f i) bytes (g i)) k

-- what stands in the last memory is the last of what stands in each
view_last : (m : ControllerMemory) (ms : List ControllerMemory) → lent_controller.view (last_of m ms) ≡ last_of (lent_controller.view m) (map lent_controller.view ms)
view_last m [] = refl
view_last m (m' ∷ ms) = view_last m' ms

-- the promise
pub promised : (words slots bytes : List ℕ) (cs : List ControllerCall) (r : CallResult) (words' slots' bytes' : List ℕ) → Fresh model (fresh_memory words slots)
    → model.lent (fresh_memory words slots) ≡ lent words slots → Continues (fresh_controller_memory words slots bytes) cs r (after words' slots' bytes' r) → Promised words slots bytes cs r words' slots' bytes'
promised words slots bytes cs r words' slots' bytes' f e h =
    let fresh = fresh_beside model name_model (fresh_memory words slots) (name_memory bytes 0) f (no_names bytes) in
    let p = demand3 lent_controller (fresh_controller_memory words slots bytes) cs h.answers h.memories fresh (history_of h.left) in
    let at_first = fresh_controller_memory words slots bytes in
    let both : BothSound at_first = record { store = f.sound; names = (no_names bytes).sound } in
    let extends : Extends at_first (after words' slots' bytes' r) = subst (Extends at_first) h.last_memory (extends_in_turn h.left both) in
    let plain : Promise (lent_in words slots bytes) cs h.answers (map lent_controller.view h.memories)
    = subst (λ l. Promise (record { store = l; names = lent_entries bytes }) cs h.answers (map lent_controller.view h.memories)) e p.0 in
    let left : lent_controller.view (after words' slots' bytes' r) ≡ last_of empty_controller (controllers (lent_in words slots bytes) empty_controller cs)
    = ap lent_controller.view (sym h.last_memory) ∙ view_last (fresh_controller_memory words slots bytes) h.memories ∙ ap (λ (c : Controller). last_of c (map lent_controller.view h.memories)) fresh.view ∙ ap (last_of empty_controller) plain.plain_states in
    record {
      fresh = fresh;
      run = h;
      promise = plain;
      sound = p.1;
      memory = extends_is at_first (after words' slots' bytes' r) both extends ∙ ap (controller_after at_first) left;
    }

-- ---- a store that is opened, or not

bool_clash : (A : Type 0) → true ≡ false → A
bool_clash A e = let z : ◌≡◌ {A = ℕ} 0 1 = cc in absurd (omega arith)

fresh_clash : (A : Type 0) (arena : DagArena) (number : ℕ) → ◌≡◌ {A = FreshStore} (Ok arena) (Err number) → A
fresh_clash A arena number e = let z : ◌≡◌ {A = ℕ} 0 1 = cc in absurd (omega arith)

pub replays_refused : (words slots bytes calls slots' : List ℕ) (f : FreshStore) (number : ℕ) → Opens words slots f slots' → f ≡ Err number
    → Replays words slots bytes calls (Err NoSlotPlace) words slots' bytes
replays_refused words slots bytes calls slots' f number o e = go (M.fresh_refused (lent words slots)) refl o.answer o.slots_after
  where
    go : (b : Bool) → M.fresh_refused (lent words slots) ≡ b → f ≡ fresh_answer b → slots' ≡ fresh_slots b slots → Replays words slots bytes calls (Err NoSlotPlace) words slots' bytes
    go true q a s = record { refused = λ _. (refl, refl, s, refl); promised = λ q'. bool_clash _ (sym q ∙ q') }
    go false q a s = fresh_clash _ (record { count = 0; size = first_table_size }) number (sym a ∙ e)

pub replays_done : (words slots bytes calls slots₁ words' slots' bytes' : List ℕ) (f : FreshStore) (arena : DagArena) (r : Run)
    → Opens words slots f slots₁ → f ≡ Ok arena → length slots₁ ≡ length slots
    → RunsAll (controller_memory words slots₁ arena bytes 0) calls r (after words' slots' bytes' r.last) → Replays words slots bytes calls (Ok r) words' slots' bytes'
replays_done words slots bytes calls slots₁ words' slots' bytes' f arena r o e l h = go (M.fresh_refused (lent words slots)) refl o.answer o.slots_after
  where
    go : (b : Bool) → M.fresh_refused (lent words slots) ≡ b → f ≡ fresh_answer b → slots₁ ≡ fresh_slots b slots → Replays words slots bytes calls (Ok r) words' slots' bytes'
    go true q a s = fresh_clash _ arena no_slot_place (sym e ∙ a)
    go false q a s =
        let n : arena ≡ record { count = 0; size = first_table_size } = cc in
        let at_first : memory words slots₁ arena ≡ fresh_memory words slots = λ i. memory words (s i) (n i) in
        let long : length (fresh_slots false slots) ≡ length slots = ap length (sym s) ∙ l in
        let same : model.lent (fresh_memory words slots) ≡ lent words slots = ap (λ (k : ℕ). record { nodes = (lent words slots).nodes; slots = k }) long in
        record {
          refused = λ q'. bool_clash _ (sym q' ∙ q);
          promised = λ _. (
            r,
            refl,
            promised words slots bytes (decode calls) r.last words' slots' bytes' (subst (Fresh model) at_first (o.fresh arena e)) same
                (subst (λ m. Continues (beside model name_model m (name_memory bytes 0)) (decode calls) r.last (after words' slots' bytes' r.last)) at_first h.continues),
            h.counts,
          );
        }
