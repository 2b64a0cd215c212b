-- A reading as a list of the controller's own calls: operands first, left before right, each name interned just before its node, up to the
-- first call that is refused.
use Rattle.std.specs.Prelude.{ℕ, ◌≡◌, List, [], ◌∷◌, ◌++◌}
use Rattle.text_language.specs.Grammar.{Expr, constant, variable, negated, linked, raised}
use Rattle.text_language.specs.Program.{join_of}
use Rattle.definitions.specs.Names.{intern_name}
use Rattle.definitions.specs.Machine as M
use Rattle.definitions.specs.Lists.{LentLists, Controller}
use Rattle.definitions.specs.Making as Making
use Rattle.definitions.specs.Making.{Made, made, stopped, joined, make}
use Rattle.definitions.specs.Controller.{ControllerCall, building, naming, AfterCall, from_made, controller_call}

-- the answer of the last of some calls, and what stands after it
unfoldable pub after_calls : LentLists → AfterCall → List ControllerCall → AfterCall
unfolding controller_call
after_calls l r [] = r
after_calls l r (c ∷ cs) = after_calls l (controller_call l r.left c) cs

-- the calls that follow an answer, none where a call was refused
unfoldable pub if_answered : Made → (ℕ → Controller → List ControllerCall) → List ControllerCall
if_answered (made i s) f = f i s
if_answered (stopped r s) f = []

unfoldable pub reading_calls : LentLists → Expr → Controller → List ControllerCall
unfolding if_answered make Making.naming
reading_calls l (constant b) s = building (M.constant b) ∷ []
reading_calls l (variable w) s = naming (intern_name w) ∷ if_answered (Making.naming l w s) (λ n t. building (M.variable n) ∷ [])
reading_calls l (negated a) s = reading_calls l a s ++ if_answered (make l a s) (λ i t. building (M.neg i) ∷ [])
reading_calls l (linked k x a b) s =
    reading_calls l a s
    ++ if_answered (make l a s) (λ i t. reading_calls l b t ++ if_answered (make l b t) (λ j u. building (joined (join_of k x) i j) ∷ []))
reading_calls l (raised a b) s =
    reading_calls l a s ++ if_answered (make l a s) (λ i t. reading_calls l b t ++ if_answered (make l b t) (λ j u. building (M.pow i j) ∷ []))

-- a reading answers what the last of those calls answers, and leaves what it leaves
abbrev pub ReadsAsCalls : Type 0
ReadsAsCalls = (l : LentLists) (e : Expr) (r : AfterCall) → after_calls l r (reading_calls l e r.left) ≡ from_made (make l e r.left)
