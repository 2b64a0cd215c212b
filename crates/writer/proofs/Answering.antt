-- From the expression of a node to what a write says.
use Rattle.std.proofs.Common.{◌≡◌, ℕ, ◌<◌, ◌≤◌, Bool, true, false, List, [], length, sym, refl, ap, ◌∙◌, subst, inl, inr, arith}
use mathlib.Core.Option.{Option, none, some}
use native.Mathlib.Decide.{dec_le}
use Rattle.text_language.specs.Grammar.{Expr, Text}
use Rattle.text_language.specs.Reading.{most_bytes, most_nested}
use Rattle.text_language.proofs.Reading.{verdict_denotes}
use Rattle.definitions.specs.Refusals.{not_sound, bad_operand, no_text, text_too_long}
use Rattle.definitions.specs.Says.{Says}
use Rattle.definitions.specs.Controller.{Controller, controller_call, on_text, from_made}
use Rattle.arena.specs.declared.DagArena.{DagArena}
use Rattle.store.specs.Sound.{Sound}
use Rattle.store.proofs.Viewing.{plain_length}
use Rattle.name_entries.specs.Sound as Names
use Rattle.text.specs.Memory.{ControllerMemory, controller_memory, controller_of, lent_of, BothSound}
use Rattle.expression_text.specs.Written.{text_of, depth_of}
use Rattle.expression_text.specs.Proper.{Proper}
use Rattle.expression_text.specs.Listed.{TextFacts}
use Rattle.expression_text.proofs.Texts.{writes}
use Rattle.expression_text.proofs.Forms.{has_text}
use Rattle.writer.specs.Placing.{KnownText, expression_at}
use Rattle.writer.specs.Sweeping.{Texted, WritesExpression}
use Rattle.writer.specs.Writing.{NodeText, WrittenText, TooLong, ReadsBack, Writes, unsound, unknown, textless, too_long, written, Covers}
use Rattle.writer.specs.Answers.{WriteAnswer, Length, Refused}
use Rattle.writer.proofs.Spelling.{spelled, only_one}
use Rattle.writer.proofs.ReadsBack.{reads_back}

-- a text of a node has a proper expression
pub proper_of : {s : Controller} {id : ℕ} {t : List ℕ} (n : NodeText s id t) → Proper n.expr
proper_of {t = t} n = has_text n.expr (record { text = t; depth = n.depth; reads = n.text; numbers = n.numbers })

pub known_of : {w slots : List ℕ} {a : DagArena} {es : List ℕ} {named : ℕ} {b d : Bool} → Says b (Sound w slots a) → b ≡ true → Says d (Names.SoundNames es named) → d ≡ true → KnownText w a.count es named
known_of s e t f = record { nodes = (s.yes e).nodes; names = t.yes f }

module _ (w slots : List ℕ) (a : DagArena) (es : List ℕ) (named id : ℕ) (buffer : List ℕ) where
  abbrev m : ControllerMemory
  m = controller_memory w slots a es named

  pub no_store : {b : Bool} → Says b (Sound w slots a) → b ≡ false → Writes m id buffer (Refused not_sound) buffer
  no_store s e = unsound (λ h. s.no e h.store)

  pub no_names : {b : Bool} → Says b (Names.SoundNames es named) → b ≡ false → Writes m id buffer (Refused not_sound) buffer
  no_names s e = unsound (λ h. s.no e h.names)

  module _ (s : Sound w slots a) (t : Names.SoundNames es named) where
    sound : BothSound m
    sound = record { store = s; names = t }

    no_node : a.count ≤ id → Writes m id buffer (Refused bad_operand) buffer
    no_node l = unknown sound (omega (arith, plain_length w a.count))

    module _ (l : id < a.count) where
      below : id < length (controller_of m).nodes
      below = omega (arith, plain_length w a.count)

      -- 13: a text would give the node an expression
      has_no_text : expression_at w a.count es named id ≡ none → (u : List ℕ) → NodeText (controller_of m) id u → ⊥
      has_no_text q u n = let y : ◌≡◌ {A = ℕ} 0 1 = cc (only_one w slots a s es named t id n.expr (proper_of n) n.spells) in omega arith

      module _ (e : Expr) (q : expression_at w a.count es named id ≡ some e) where
        proper : Proper e
        proper = (spelled w slots a s es named t id l e q).proper

        says : TextFacts e
        says = writes e proper

        abbrev own : NodeText (controller_of m) id (text_of e)
        own = record { expr = e; depth = depth_of e; text = says.reads; numbers = says.numbers; spells = (spelled w slots a s es named t id l e q).spells }

        same : (u : List ℕ) (n : NodeText (controller_of m) id u) → n.expr ≡ e
        same u n = let z : some n.expr ≡ some e = sym (only_one w slots a s es named t id n.expr (proper_of n) n.spells) ∙ q in cc

        abbrev its_text : WrittenText (controller_of m) id (text_of e)
        its_text = record {
          of = own;
          is = refl;
          no_blanks = says.no_blanks;
          fewest = λ u n. says.fewest u n.depth (subst (λ x. Text u x n.depth) (same u n) n.text);
          shallowest = λ u n. says.shallowest u n.depth (subst (λ x. Text u x n.depth) (same u n) n.text);
        }

        -- the reading of a text that is not too long
        back : length (text_of e) ≤ most_bytes → depth_of e ≤ most_nested → ReadsBack (lent_of m) (controller_of m) id (text_of e)
        unfolding controller_call
        back long deep =
            ap (on_text (lent_of m) (controller_of m))
            (verdict_denotes (record { sized = record { some = says.some; short = long }; depth = depth_of e; text = says.reads; shallow = deep; numbers = says.numbers }))
            ∙ ap from_made (reads_back w slots a s es named t (lent_of m) id l e q)

        is_too_long : TooLong its_text buffer → {r : WriteAnswer} {buffer' : List ℕ} → Texted e buffer r buffer' → Writes m id buffer r buffer'
        is_too_long x {r} {buffer'} y =
            let z = y.refused x in
            subst (λ v. Writes m id buffer v buffer') (sym z.0) (subst (λ v. Writes m id buffer (Refused text_too_long) v) (sym z.1) (too_long sound below its_text x))

        fits : length (text_of e) ≤ most_bytes → length (text_of e) ≤ length buffer → depth_of e ≤ most_nested → {r : WriteAnswer} {buffer' : List ℕ} → Texted e buffer r buffer' → Writes m id buffer r buffer'
        fits x y d {r} {buffer'} h =
            let z = h.written x y d in
            subst (λ v. Writes m id buffer v buffer') (sym z.0)
            (subst (λ v. Writes m id buffer (Length (length (text_of e))) v) (sym z.1) (written sound below its_text (λ b. none_long b) (back x d)))
          where
            none_long : TooLong its_text buffer → ⊥
            none_long (inl b) = omega arith
            none_long (inr (inl b)) = omega arith
            none_long (inr (inr b)) = omega arith

        has_own : {r : WriteAnswer} {buffer' : List ℕ} → Texted e buffer r buffer' → Writes m id buffer r buffer'
        has_own {r} {buffer'} h = go (dec_le (length (text_of e)) most_bytes) (dec_le (length (text_of e)) (length buffer)) (dec_le (depth_of e) most_nested)
          where
            go : Dec (length (text_of e) ≤ most_bytes) → Dec (length (text_of e) ≤ length buffer) → Dec (depth_of e ≤ most_nested) → Writes m id buffer r buffer'
            go (no x) y z = is_too_long (inl (omega arith)) h
            go (yes x) (no y) z = is_too_long (inr (inl (omega arith))) h
            go (yes x) (yes y) (no z) = is_too_long (inr (inr (omega arith))) h
            go (yes x) (yes y) (yes z) = fits x y z h

      with_own : {r : WriteAnswer} {buffer' : List ℕ} → WritesExpression (expression_at w a.count es named id) buffer r buffer' → Writes m id buffer r buffer'
      unfolding WritesExpression
      with_own {r} {buffer'} h = go (expression_at w a.count es named id) refl h
        where
          go : (o : Option Expr) → expression_at w a.count es named id ≡ o → WritesExpression o buffer r buffer' → Writes m id buffer r buffer'
          go none q y =
              subst (λ v. Writes m id buffer v buffer') (sym y.0) (subst (λ v. Writes m id buffer (Refused no_text) v) (sym y.1) (textless sound below (has_no_text q)))
          go (some e) q y = has_own e q y

  module _ {b d : Bool} (s : Says b (Sound w slots a)) (e : b ≡ true) (t : Says d (Names.SoundNames es named)) (f : d ≡ true) where
    pub no_id : a.count ≤ id → Writes m id buffer (Refused bad_operand) buffer
    no_id l = no_node (s.yes e) (t.yes f) l

    pub with_text : id < a.count → {r : WriteAnswer} {buffer' : List ℕ} → WritesExpression (expression_at w a.count es named id) buffer r buffer' → Writes m id buffer r buffer'
    with_text l h = with_own (s.yes e) (t.yes f) l h

-- ---- which nodes have a text

pub covers : Covers
covers m id h l = (own_text, no_own)
  where
    low : id < m.store.arena.count
    low = omega (arith, plain_length m.store.words m.store.arena.count)

    own_text : (e : Expr) → expression_at m.store.words m.store.arena.count m.names.bytes m.names.count id ≡ some e → NodeText (controller_of m) id (text_of e)
    own_text e q = own m.store.words m.store.slots m.store.arena m.names.bytes m.names.count id [] h.store h.names low e q

    no_own : expression_at m.store.words m.store.arena.count m.names.bytes m.names.count id ≡ none → (t : List ℕ) → NodeText (controller_of m) id t → ⊥
    no_own q = has_no_text m.store.words m.store.slots m.store.arena m.names.bytes m.names.count id [] h.store h.names low q
