-- A text that was written, read on the same lists, gives the id and changes nothing.
use Rattle.std.proofs.Common.{◌≡◌, ℕ, List, length, take, drop, sym, refl, ap, ◌∙◌, subst, arith, take_at}
use Rattle.definitions.specs.Controller.{stored}
use Rattle.store.specs.declared.NodeAnswer as Store
use Rattle.store.specs.declared.NodeAnswer.TheVariants as store
use Rattle.text.specs.Memory.{ControllerMemory, controller_of, lent_of, controller_after, BothSound}
use Rattle.text.specs.Reading.{answered, ReadingLeft, reading_left, reading_left_of, ReadsText}
use Rattle.text.proofs.Performing.{extends_refl}
use Rattle.text.proofs.Determined.{extends_is}
use Rattle.writer.specs.Writing.{ReadsBack, Writes, unsound, unknown, textless, too_long, written, ReadAfterWrite}
use Rattle.writer.specs.Answers.{WriteAnswer, Length}

answer_is : (a : Store.NodeAnswer) (id : ℕ) → answered a ≡ stored id → a ≡ store.Id id
answer_is (store.Id i) id e = let q : i ≡ id = cc in ap store.Id q
answer_is (store.Refused k) id e = let z : ◌≡◌ {A = ℕ} 0 1 = cc in absurd (omega arith)

-- the reading's contract at the text
module _ (m m' : ControllerMemory) (id : ℕ) (t : List ℕ) (a : Store.NodeAnswer) (h : BothSound m) (b : ReadsBack (lent_of m) (controller_of m) id t) where
  read_back : ReadsText t m a m' → (a ≡ store.Id id) × (m' ≡ m)
  read_back r =
      let e : reading_left (answered a) m' ≡ reading_left (stored id) (controller_after m (controller_of m)) = r.equation (yes h) ∙ ap (reading_left_of m) b in
      (answer_is a id (ap (λ (x : ReadingLeft). x.answer) e), ap (λ (x : ReadingLeft). x.memory) e ∙ sym (extends_is m m h (extends_refl m h)))

module _ (m m' : ControllerMemory) (id size : ℕ) (buffer : List ℕ) (a : Store.NodeAnswer) where
  goes : {r : WriteAnswer} {buffer' : List ℕ} → Writes m id buffer r buffer' → r ≡ Length size
      → ReadsText (take size buffer') m a m' → (a ≡ store.Id id) × (m' ≡ m)
  goes (unsound n) e c = let z : ◌≡◌ {A = ℕ} 0 1 = cc in absurd (omega arith)
  goes (unknown h l) e c = let z : ◌≡◌ {A = ℕ} 0 1 = cc in absurd (omega arith)
  goes (textless h l n) e c = let z : ◌≡◌ {A = ℕ} 0 1 = cc in absurd (omega arith)
  goes (too_long h l w n) e c = let z : ◌≡◌ {A = ℕ} 0 1 = cc in absurd (omega arith)
  goes (written {t} h l w n b) e c =
      let q : length t ≡ size = cc in
      read_back m m' id t a h b
      (subst (λ (x : List ℕ). ReadsText x m a m')
      (take_at t (drop (length t) buffer) size q) c)

pub after_write : ReadAfterWrite
after_write m m' id size buffer buffer' a w c = goes m m' id size buffer a w refl c
