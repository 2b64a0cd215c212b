-- The whole call, from the check of the text and the run of its program.
use Prim.Native.Nat.{ℕ}
use mathlib.Core.Path.{◌≡◌, sym, ap, ◌∙◌, subst}
use mathlib.Core.Bool.{Bool, true, false}
use mathlib.Core.List.{List, [], map}
use lib.ListN.{length, take}
use lib.Seq.{take_all}
use native.Mathlib.Omega.{arith}
use Rattle.arena.specs.declared.DagArena.{DagArena}
use Rattle.store.specs.declared.NodeAnswer.{NodeAnswer}
use Rattle.store.specs.declared.NodeAnswer.TheVariants.{Refused}
use Rattle.store.specs.Memory.{memory, model}
use Rattle.name_entries.specs.Sound as Names
use Rattle.text_language.specs.Program.{Token, token_at, tokens, FitsProgram, postfix}
use Rattle.definitions.specs.Making.{Made, run}
use Rattle.text_language.specs.Reading.{any_nan, nan}
use Rattle.definitions.proofs.Making.{run_is}
use Rattle.text_language.proofs.Waiting.{fits_text}
use Rattle.text.specs.Memory.{ControllerMemory, controller_memory, BothSound, controller_of, lent_of}
use Rattle.text.specs.Making.{Makes}
use Rattle.text_program.specs.Compiling.{Compiled}
use Rattle.text.specs.Reading.{ReadingCases, refused, read}

pub both_sound : (words slots : List ℕ) (arena : DagArena) (entries : List ℕ) (names : ℕ) → model.Sound (memory words slots arena) → Names.SoundNames entries names → BothSound (controller_memory words slots arena entries names)
both_sound words slots arena entries names a b = record { store = a; names = b }

-- the first words of a program are its tokens
pub words_tokens : (s program : List ℕ) (size : ℕ) → tokens s (take size program) (length (take size program)) ≡ tokens s program size
unfolding tokens
words_tokens s program size = ap (map (token_at s)) (take_all (length (take size program)) (take size program) (omega arith))

module _ (s program : List ℕ) (size : ℕ) (c : Compiled s program size) where
  abbrev pub typed : List Token
  typed = tokens s (take size program) (length (take size program))

  typed_is : typed ≡ postfix c.expr
  typed_is = words_tokens s program size ∙ c.tokens

  pub program_fits : FitsProgram 0 typed
  program_fits = subst (FitsProgram 0) (sym typed_is) (fits_text c.text.reads c.shallow)

  module _ (d : ControllerMemory) (h : BothSound d) (r : Bool) (e : r ≡ any_nan typed) where
    pub read_nan : r ≡ true → ReadingCases s d (Refused 10) d
    read_nan t = refused h (nan c.sized c.text c.shallow (ap any_nan (sym typed_is) ∙ sym e ∙ t))

    pub read_made : r ≡ false → (a : NodeAnswer) (d' : ControllerMemory) → Makes (run (lent_of d) typed [] (controller_of d)) d a d' → ReadingCases s d a d'
    read_made t a d' m =
        read h (record { sized = c.sized; depth = c.depth; text = c.text; shallow = c.shallow; numbers = ap any_nan (sym typed_is) ∙ sym e ∙ t })
        (subst (λ (x : Made). Makes x d a d') (ap (λ (ts : List Token). run (lent_of d) ts [] (controller_of d)) typed_is ∙ run_is (lent_of d) c.expr (controller_of d)) m)
