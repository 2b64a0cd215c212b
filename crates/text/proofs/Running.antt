-- The loop over a program: what is still to run, over the lists and the results as they are now, gives what the whole program gives.
use Prim.Native.Nat.{ℕ, zero, suc, ◌+◌, ◌-◌, ◌≤◌, ◌<◌}
use mathlib.Core.Path.{◌≡◌, refl, sym, ap, ◌∙◌, subst}
use mathlib.Core.List.{List, [], ◌∷◌, map}
use lib.ListN.{length, length-take, length-set, get_or, take, drop, set, drop_of_length-le}
use lib.Seq.{drop-cons, get_or-take, length-take-le, get_or-set_same, get_or-set_other}
use native.Mathlib.Omega.{arith}
use native.Mathlib.Numerals.{add-one}
use Rattle.store.specs.declared.NodeAnswer.{NodeAnswer}
use Rattle.store.specs.declared.NodeAnswer.TheVariants.{Id, Refused}
use Rattle.text_language.specs.Program.{Token, number, name, negate, join, most_waiting, FitsProgram, token_at, tokens, operands}
use Rattle.definitions.specs.Making as Plain
use Rattle.definitions.specs.Making.{Controller, LentLists, bind}
use Rattle.text.specs.Memory.{ControllerMemory, BothSound, controller_of, lent_of, Extends}
use Rattle.text.specs.Making.{outcome, FitsId, Makes, stack_of, id_values}
use Rattle.text.proofs.Performing.{extends_refl, extends_trans, same_lent_of}

-- ---- the results that wait

pub drop_stack : (stack : List ℕ) (h k : ℕ) → drop k (stack_of stack h) ≡ stack_of stack (h - k)
unfolding stack_of
drop_stack stack h zero = let e : h ≡ h - 0 = omega arith in ap (stack_of stack) e
drop_stack stack zero (suc k) = let e : 0 ≡ 0 - suc k = omega arith in ap (stack_of stack) e
drop_stack stack (suc h) (suc k) = let e : h - k ≡ suc h - suc k = omega arith in drop_stack stack h k ∙ ap (stack_of stack) e

pub stack_set : (stack : List ℕ) (h p v : ℕ) → h ≤ p → stack_of (set stack p v) h ≡ stack_of stack h
unfolding stack_of
stack_set stack zero p v l = refl
stack_set stack (suc h) p v l =
    ap (λ (x : ℕ). x ∷ stack_of (set stack p v) h) (get_or-set_other stack p h v 0 (λ e. omega arith))
    ∙ ap (λ (x : List ℕ). get_or stack h 0 ∷ x) (stack_set stack h p v (omega arith))

pub stack_put : (stack : List ℕ) (p v : ℕ) → p < length stack → stack_of (set stack p v) (p + 1) ≡ v ∷ stack_of stack p
unfolding stack_of
stack_put stack p v l =
    ap (stack_of (set stack p v)) (add-one p)
    ∙ ap (λ (x : ℕ). x ∷ stack_of (set stack p v) p) (get_or-set_same stack p v 0 l)
    ∙ ap (λ (x : List ℕ). v ∷ x) (stack_set stack p p v (omega arith))

pub stack_at : (stack : List ℕ) (h back : ℕ) → back < h → get_or (stack_of stack h) back 0 ≡ get_or stack (h - 1 - back) 0
unfolding stack_of
stack_at stack zero back l = absurd (omega arith)
stack_at stack (suc h) zero l = let e : h ≡ suc h - 1 - 0 = omega arith in ap (λ (k : ℕ). get_or stack k 0) e
stack_at stack (suc h) (suc back) l = let e : h - 1 - back ≡ suc h - 1 - suc back = omega arith in stack_at stack h back (omega arith) ∙ ap (λ (k : ℕ). get_or stack k 0) e

pub stack_none : (stack : List ℕ) (h back : ℕ) → h ≤ back → get_or (stack_of stack h) back 0 ≡ 0
unfolding stack_of
stack_none stack zero back l = refl
stack_none stack (suc h) zero l = absurd (omega arith)
stack_none stack (suc h) (suc back) l = stack_none stack h back (omega arith)

-- ---- a token finds its operands, and its result a place

pub record Room (h : ℕ) (t : Token) (ts : List Token) : Type 0 where
  pub enough : operands t ≤ h
  pub place : h - operands t < most_waiting
  pub fits : FitsProgram (h - operands t + 1) ts

pub room : (h : ℕ) (t : Token) (ts : List Token) → h ≤ most_waiting → FitsProgram h (t ∷ ts) → Room h t ts
unfolding FitsProgram
room h (number b) ts m f = record { enough = omega arith; place = omega (arith, f.0); fits = let e : suc h ≡ h - 0 + 1 = omega arith in subst (λ (n : ℕ). FitsProgram n ts) e f.1 }
room h (name w) ts m f = record { enough = omega arith; place = omega (arith, f.0); fits = let e : suc h ≡ h - 0 + 1 = omega arith in subst (λ (n : ℕ). FitsProgram n ts) e f.1 }
room h negate ts m f = record { enough = f.0; place = omega (arith, f.0); fits = let p = f.0 in let e : h ≡ h - 1 + 1 = omega arith in subst (λ (n : ℕ). FitsProgram n ts) e f.1 }
room h (join o) ts m f = record { enough = f.0; place = omega (arith, f.0); fits = let p = f.0 in let e : h - 1 ≡ h - 2 + 1 = omega arith in subst (λ (n : ℕ). FitsProgram n ts) e f.1 }

-- ---- the loop

module _ (s program : List ℕ) (size : ℕ) where
  -- the tokens from a place on
  abbrev pub rest : ℕ → List Token
  rest i = map (token_at s) (drop i (take size program))

  rest_cons : (i : ℕ) → i < size → size ≤ length program → rest i ≡ token_at s (get_or program i 0) ∷ rest (i + 1)
  rest_cons i l m =
      let e = length-take-le size program m in
      ap (map (token_at s)) (drop-cons (take size program) i 0 (omega arith))
      ∙ ap (λ (w : ℕ). token_at s w ∷ rest (suc i)) (get_or-take size program i 0 l)
      ∙ ap (λ (k : ℕ). token_at s (get_or program i 0) ∷ rest k) (sym (add-one i))

  rest_none : (i : ℕ) → size ≤ i → rest i ≡ []
  rest_none i l = let e = length-take size program in ap (map (token_at s)) (drop_of_length-le (take size program) {i = i} (omega arith))

  abbrev pub whole : ControllerMemory → Plain.Made
  whole d = Plain.run (lent_of d) (tokens s program size) [] (controller_of d)

  pub record Running (d₀ d : ControllerMemory) (stack : List ℕ) (height i : ℕ) : Type 0 where
    pub same : Plain.run (lent_of d₀) (rest i) (stack_of stack height) (controller_of d) ≡ whole d₀
    pub extends : Extends d₀ d
    pub fits : FitsProgram height (rest i)
    pub high : height ≤ most_waiting
    pub wide : length stack ≡ most_waiting

  pub running_start : (d : ControllerMemory) (stack : List ℕ) → BothSound d → FitsProgram 0 (tokens s program size) → length stack ≡ most_waiting → Running d d stack 0 0
  unfolding tokens stack_of
  running_start d stack h f w = record { same = refl; extends = extends_refl d h; fits = f; high = omega arith; wide = w }

  module _ (d₀ d : ControllerMemory) (stack : List ℕ) (height i : ℕ) (r : Running d₀ d stack height i) where
    pub running_end : size ≤ i → (last : ℕ) → last ≡ get_or (stack_of stack height) 0 0 → last < id_values → Makes (whole d₀) d₀ (Id last) d
    unfolding Plain.run
    running_end l last e low = record {
      is = ap (λ (x : ℕ). Plain.made x (controller_of d)) e ∙ ap (λ (ts : List Token). Plain.run (lent_of d₀) ts (stack_of stack height) (controller_of d)) (sym (rest_none i l)) ∙ r.same;
      extends = r.extends;
      fits = low;
    }

    module _ (l : i < size) (m : size ≤ length program) (first second : ℕ) (p : first ≡ get_or (stack_of stack height) 0 0) (q : second ≡ get_or (stack_of stack height) 1 0) where
      abbrev token : Token
      token = token_at s (get_or program i 0)

      here : Room height token (rest (i + 1))
      here = room height token (rest (i + 1)) r.high (subst (FitsProgram height) (rest_cons i l m) r.fits)

      abbrev onward : ℕ → Controller → Plain.Made
      onward j u = Plain.run (lent_of d₀) (rest (i + 1)) (j ∷ drop (operands token) (stack_of stack height)) u

      module _ (a : NodeAnswer) (d' : ControllerMemory) (made : Makes (Plain.perform (lent_of d) token first second (controller_of d)) d a d') where
        performed : bind (outcome a (controller_of d')) onward ≡ whole d₀
        unfolding Plain.run
        performed =
            ap (λ (x : Plain.Made). bind x onward)
            (made.is
            ∙ ap (λ (x : LentLists). Plain.perform x token first second (controller_of d)) (same_lent_of d₀ d r.extends)
            ∙ ap (λ (x : ℕ). Plain.perform (lent_of d₀) token x second (controller_of d)) p
            ∙ ap (λ (x : ℕ). Plain.perform (lent_of d₀) token (get_or (stack_of stack height) 0 0) x (controller_of d)) q)
            ∙ ap (λ (ts : List Token). Plain.run (lent_of d₀) ts (stack_of stack height) (controller_of d)) (sym (rest_cons i l m))
            ∙ r.same

        -- a refusal ends it, and what was made before stays
        pub running_stopped : (k : ℕ) → a ≡ Refused k → Makes (whole d₀) d₀ a d'
        unfolding bind
        running_stopped k e = record {
          is = ap (λ (x : NodeAnswer). outcome x (controller_of d')) e ∙ ap (λ (x : NodeAnswer). bind (outcome x (controller_of d')) onward) (sym e) ∙ performed;
          extends = extends_trans d₀ d d' r.extends made.extends;
          fits = made.fits;
        }

        pub running_room : (taken : ℕ) → taken ≡ operands token → (taken ≤ height) × (height - taken < most_waiting)
        running_room taken e = let h = here in (omega (arith, e, h.enough), omega (arith, e, h.place))

        pub running_fits : (id : ℕ) → a ≡ Id id → id < id_values
        running_fits id e = subst FitsId e made.fits

        -- its result waits in its operands' place
        pub running_on : (id taken : ℕ) → a ≡ Id id → taken ≡ operands token → Running d₀ d' (set stack (height - taken) id) (height - taken + 1) (i + 1)
        unfolding bind
        running_on id taken e t =
            let w = r.wide in
            let h = here in
            let k = h.place in
            record {
              same =
                  ap (λ (x : List ℕ). Plain.run (lent_of d₀) (rest (i + 1)) x (controller_of d')) (stack_put stack (height - taken) id (omega (arith, t, k, w)) ∙ ap (λ (x : ℕ). id ∷ stack_of stack (height - x)) t ∙ ap (λ (x : List ℕ). id ∷ x) (sym (drop_stack stack height (operands token))))
                  ∙ ap (λ (x : NodeAnswer). bind (outcome x (controller_of d')) onward) (sym e)
                  ∙ performed;
              extends = extends_trans d₀ d d' r.extends made.extends;
              fits = subst (λ (x : ℕ). FitsProgram (height - x + 1) (rest (i + 1))) (sym t) h.fits;
              high = omega (arith, t, k);
              wide = length-set stack (height - taken) id ∙ r.wide;
            }
