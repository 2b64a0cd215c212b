-- What a word more says of a program.
use Prim.Native.Nat.{ℕ, ◌+◌, ◌≤◌, ◌<◌}
use mathlib.Core.Path.{◌≡◌, refl, sym, ap, ◌∙◌, subst}
use mathlib.Core.Bool.{Bool, true, false}
use mathlib.Core.Option.{some}
use mathlib.Core.List.{List, [], ◌∷◌, ◌++◌, map, append_assoc}
use lib.ListN.{length, length-drop, take, drop, set}
use lib.Seq.{take-suc-set}
use native.Mathlib.Omega.{arith}
use native.Mathlib.Numerals.{add-one}
use borrow.Author.Tests.{eqb-true}
use Rattle.text_language.specs.Grammar.{Chain, sums, products, sign, Expr, negated, linked, raised, Atom}
use Rattle.text_language.specs.Reader.{Got, got, atom_of, which}
use Rattle.text_language.specs.Program.{Join, Token, negate, join, join_of, postfix, token_of, atom_token, operator_token, token_at, tokens}
use Rattle.text_language.specs.Program as P
use Rattle.text_language.proofs.Sound.{OkA, atom_of_lem, which_sign}
use Rattle.text_language.proofs.Complete.{atom_length}
use Rattle.text_language.proofs.Tokens.{place_token}
use Rattle.text_program.specs.Readers.{AppendsWords}
use Rattle.text_program.specs.Words.{plus_word, minus_word, times_word, over_word, raise_word, negate_word, join_word}

map_append : (f : ℕ → Token) (a b : List ℕ) → map f (a ++ b) ≡ map f a ++ map f b
map_append f [] b = refl
map_append f (x ∷ a) b = ap (λ (y : List Token). f x ∷ y) (map_append f a b)

leaf_token : (g : Got) (e : Expr) (d : ℕ) (r : List ℕ) → g ≡ got e d r → atom_token g ≡ token_of e
unfolding atom_token
leaf_token g e d r q = ap atom_token q

atom_alone : {s r : List ℕ} {e : Expr} → Atom s e r → postfix e ≡ token_of e ∷ []
unfolding postfix token_of
atom_alone (Atom.blank e a) = atom_alone a
atom_alone (Atom.whole e h l) = refl
atom_alone (Atom.bits e h l) = refl
atom_alone (Atom.name e h l) = refl

module _ (s : List ℕ) where
  pub one_word : (program : List ℕ) (size w : ℕ) → size < length program → tokens s (set program size w) (size + 1) ≡ tokens s program size ++ token_at s w ∷ []
  unfolding tokens
  one_word program size w l =
      ap (λ (n : ℕ). map (token_at s) (take n (set program size w))) (add-one size)
      ∙ ap (map (token_at s)) (take-suc-set program size w l)
      ∙ map_append (token_at s) (take size program) (w ∷ [])

  negate_token : token_at s negate_word ≡ negate
  unfolding token_at operator_token
  negate_token = refl

  pub raise_token : token_at s raise_word ≡ join P.raise
  unfolding token_at operator_token
  raise_token = refl

  signs : (token_at s plus_word ≡ join P.plus) × (token_at s minus_word ≡ join P.minus) × (token_at s times_word ≡ join P.times) × (token_at s over_word ≡ join P.over)
  unfolding token_at operator_token
  signs = (refl, refl, refl, refl)

  pub join_token : (k : Chain) (c : ℕ) (x : Bool) → which k c ≡ some x → token_at s (join_word c) ≡ join (join_of k x)
  join_token k c x e = go k x (eqb-true c (sign k x) (which_sign k c x e))
    where
      at : (d : ℕ) → c ≡ d → token_at s (join_word c) ≡ token_at s (join_word d)
      at d e = ap (λ (y : ℕ). token_at s (join_word y)) e

      go : (k : Chain) (x : Bool) → c ≡ sign k x → token_at s (join_word c) ≡ join (join_of k x)
      go sums false e = at 43 e ∙ signs.0
      go sums true e = at 45 e ∙ signs.1
      go products false e = at 42 e ∙ signs.2
      go products true e = at 47 e ∙ signs.3

  module _ (program : List ℕ) (size : ℕ) (at : ℕ) where
    pub appends_negated : (a : Expr) (j i : ℕ) (program' : List ℕ) (size' : ℕ) → AppendsWords s program size a (j + 1) i program' size' → at ≤ j → size' < length program'
        → AppendsWords s program size (negated a) at i (set program' size' negate_word) (size' + 1)
    unfolding postfix
    appends_negated a j i program' size' w l m = record {
      tokens =
          one_word program' size' negate_word m ∙ ap (λ (t : Token). tokens s program' size' ++ t ∷ []) negate_token
          ∙ ap (λ (ts : List Token). ts ++ negate ∷ []) w.tokens ∙ append_assoc (tokens s program size) (postfix a) (negate ∷ []);
      room = let r = w.room in omega (arith, r);
    }

    joined : (o : Join) (w : ℕ) (a b : Expr) (i j k : ℕ) (program₁ : List ℕ) (size₁ : ℕ) (program₂ : List ℕ) (size₂ : ℕ) → token_at s w ≡ join o
        → AppendsWords s program size a at i program₁ size₁ → AppendsWords s program₁ size₁ b (j + 1) k program₂ size₂ → size₂ < length program₂
        → tokens s (set program₂ size₂ w) (size₂ + 1) ≡ tokens s program size ++ (postfix a ++ (postfix b ++ join o ∷ []))
    joined o w a b i j k program₁ size₁ program₂ size₂ e x y m =
        one_word program₂ size₂ w m ∙ ap (λ (t : Token). tokens s program₂ size₂ ++ t ∷ []) e
        ∙ ap (λ (ts : List Token). ts ++ join o ∷ []) (y.tokens ∙ ap (λ (ts : List Token). ts ++ postfix b) x.tokens)
        ∙ append_assoc (tokens s program size ++ postfix a) (postfix b) (join o ∷ [])
        ∙ append_assoc (tokens s program size) (postfix a) (postfix b ++ join o ∷ [])

    module _ (a b : Expr) (i j k : ℕ) (program₁ : List ℕ) (size₁ : ℕ) (program₂ : List ℕ) (size₂ : ℕ)
        (x : AppendsWords s program size a at i program₁ size₁) (y : AppendsWords s program₁ size₁ b (j + 1) k program₂ size₂) (l : i ≤ j) (m : size₂ < length program₂) where
      pub appends_linked : (c : Chain) (z : Bool) (w : ℕ) → token_at s w ≡ join (join_of c z) → AppendsWords s program size (linked c z a b) at k (set program₂ size₂ w) (size₂ + 1)
      unfolding postfix
      appends_linked c z w e = record { tokens = joined (join_of c z) w a b i j k program₁ size₁ program₂ size₂ e x y m; room = let p = x.room in let q = y.room in omega (arith, p, q) }

      pub appends_power : AppendsWords s program size (raised a b) at k (set program₂ size₂ raise_word) (size₂ + 1)
      unfolding postfix
      appends_power = record { tokens = joined P.raise raise_word a b i j k program₁ size₁ program₂ size₂ raise_token x y m; room = let p = x.room in let q = y.room in omega (arith, p, q) }

    -- brackets add no word
    pub appends_around : (e : Expr) (j i k : ℕ) (program' : List ℕ) (size' : ℕ) → AppendsWords s program size e (j + 1) i program' size' → at ≤ j → i ≤ k → AppendsWords s program size e at k program' size'
    appends_around e j i k program' size' w l m = record { tokens = w.tokens; room = let r = w.room in omega (arith, r) }

    -- a number or a name
    pub appends_atom : (e : Expr) (d : ℕ) (j i : ℕ) → atom_of (drop j s) ≡ got e d (drop i s) → length s ≤ 8192 → at ≤ j → i ≤ length s → size < length program
        → AppendsWords s program size e at i (set program size j) (size + 1)
    appends_atom e d j i g short l h m =
        let o = subst (OkA (drop j s)) g (atom_of_lem (drop j s)) in
        let n = moved e d (drop i s) o in
        let p = length-drop j s in
        let q = length-drop i s in
        record {
          tokens = one_word program size j m ∙ ap (λ (ts : List Token). tokens s program size ++ ts) (ap (λ (t : Token). t ∷ []) (place_token s j (omega (arith, n, p)) ∙ leaf_token (atom_of (drop j s)) e d (drop i s) g) ∙ sym (alone e d (drop i s) o));
          room = omega (arith, n, p, q);
        }
      where
        moved : (e : Expr) (d : ℕ) (r : List ℕ) → OkA (drop j s) (got e d r) → length r < length (drop j s)
        moved e d r (OkA.ok a) = atom_length a

        alone : (e : Expr) (d : ℕ) (r : List ℕ) → OkA (drop j s) (got e d r) → postfix e ≡ token_of e ∷ []
        alone e d r (OkA.ok a) = atom_alone a
