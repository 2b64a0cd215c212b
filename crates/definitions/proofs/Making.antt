-- Running an expression's program is reading the expression.
use Prim.Native.Nat.{ℕ}
use mathlib.Core.Path.{◌≡◌, refl, sym, ap, ◌∙◌}
use mathlib.Core.List.{List, [], ◌∷◌, ◌++◌, append_assoc}
use Rattle.definitions.specs.Machine as M
use Rattle.definitions.specs.Making.{Controller, LentLists, Made, made, stopped, bind, storing, joined, make, perform, run}
use Rattle.text_language.specs.Grammar.{Expr, constant, variable, negated, linked, raised}
use Rattle.text_language.specs.Program as P
use Rattle.text_language.specs.Program.{Token, negate, join, join_of, postfix}
use Rattle.text_language.proofs.Waiting.{append_nil}

bind_bind : (m : Made) (f g : ℕ → Controller → Made) → bind (bind m f) g ≡ bind m (λ i s. bind (f i s) g)
unfolding bind
bind_bind (made i s) f g = refl
bind_bind (stopped r s) f g = refl

bind_same : (m : Made) (f g : ℕ → Controller → Made) → ((i : ℕ) (s : Controller) → f i s ≡ g i s) → bind m f ≡ bind m g
unfolding bind
bind_same (made i s) f g h = h i s
bind_same (stopped r s) f g h = refl

-- a program that starts with an expression's
pub runs : (l : LentLists) (e : Expr) (ts : List Token) (stack : List ℕ) (s : Controller) → run l (postfix e ++ ts) stack s ≡ bind (make l e s) (λ i u. run l ts (i ∷ stack) u)
unfolding run make postfix perform
runs l (constant b) ts stack s = refl
runs l (variable w) ts stack s = refl
runs l (negated a) ts stack s =
    ap (λ (y : List Token). run l y stack s) (append_assoc (postfix a) (negate ∷ []) ts)
    ∙ runs l a (negate ∷ ts) stack s
    ∙ sym (bind_bind (make l a s) _ _)
runs l (linked k x a b) ts stack s =
    ap (λ (y : List Token). run l y stack s) (append_assoc (postfix a) (postfix b ++ join (join_of k x) ∷ []) ts)
    ∙ runs l a ((postfix b ++ join (join_of k x) ∷ []) ++ ts) stack s
    ∙ bind_same (make l a s) _ _ (λ i t.
    ap (λ (y : List Token). run l y (i ∷ stack) t) (append_assoc (postfix b) (join (join_of k x) ∷ []) ts)
    ∙ runs l b (join (join_of k x) ∷ ts) (i ∷ stack) t
    ∙ sym (bind_bind (make l b t) (λ j u. storing l (joined (join_of k x) i j) u) (λ j u. run l ts (j ∷ stack) u)))
    ∙ sym (bind_bind (make l a s) _ _)
runs l (raised a b) ts stack s =
    ap (λ (y : List Token). run l y stack s) (append_assoc (postfix a) (postfix b ++ join P.raise ∷ []) ts)
    ∙ runs l a ((postfix b ++ join P.raise ∷ []) ++ ts) stack s
    ∙ bind_same (make l a s) _ _ (λ i t.
    ap (λ (y : List Token). run l y (i ∷ stack) t) (append_assoc (postfix b) (join P.raise ∷ []) ts)
    ∙ runs l b (join P.raise ∷ ts) (i ∷ stack) t
    ∙ sym (bind_bind (make l b t) (λ j u. storing l (M.pow i j) u) (λ j u. run l ts (j ∷ stack) u)))
    ∙ sym (bind_bind (make l a s) _ _)

bind_made : (m : Made) → bind m (λ i u. made i u) ≡ m
unfolding bind
bind_made (made i s) = refl
bind_made (stopped r s) = refl

-- the program of an expression, run from an empty stack
pub run_is : (l : LentLists) (e : Expr) (s : Controller) → run l (postfix e) [] s ≡ make l e s
unfolding run
run_is l e s = ap (λ (y : List Token). run l y [] s) (sym (append_nil (postfix e))) ∙ runs l e [] [] s ∙ bind_made (make l e s)
