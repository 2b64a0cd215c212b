-- The promise at a list of calls: a variable by its name in ((flow + 0.25) + 0.5) * 1, simplified, then other calls, then pruned at 1.
use Prim.Native.Nat.{ℕ}
use mathlib.Core.Path.{◌≡◌, refl, subst}
use mathlib.Core.Bool.{false}
use mathlib.Core.Option.{some}
use mathlib.Core.List.{List, [], ◌∷◌, map}
use lib.Dec.{lit≤, lit<}
use lib.ListN.{get_or}
use lib.Ieee.{binary64, of_bits, le, lt, eq, add as add_float, mul as mul_float, to_bits}
use Rattle.definitions.specs.Machine.{variable, constant, add, mul, call}
use Rattle.definitions.specs.Names.{intern_name, lookup_name, same_name}
use Rattle.definitions.specs.Walk.{standard, strict}
use Rattle.definitions.specs.Controller.{LentLists, Controller, empty_controller, ControllerCall, building, simplifying, pruning, naming, reading, stored, refused, numbered, controller_call, controller_answers, controllers, takes, SamePart, pruning_by_setting, simplified, pruned}
use Rattle.definitions.specs.Formula.{tree, nil, cons, formula}
use Rattle.definitions.specs.Exact.{Exact, bound}
use Rattle.definitions.specs.Evaluation.{Evaluation, bits_of}
use Rattle.definitions.specs.Promise.{ControllerModel, ControllerCalled, FreshController, History, done, next, nth, Balanced, Promise, ReadTo, StopsReading}
use Rattle.definitions.specs.Value.{Reading, value_of}
use Rattle.definitions.specs.Moved.{Moved}
use Rattle.text_language.specs.Grammar.{Expr, linked, sums, variable as name}
use Rattle.text_language.specs.Reader.{after}
use Rattle.text_language.specs.Reading.{denotes, verdict, Judged}
use Rattle.text_language.proofs.Reading.{judged}
use Rattle.definitions.proofs.Histories.{plain_promise, demand3, all_of, call_untouched}
use Rattle.definitions.proofs.Moved.{dropped_count_bounds}

abbrev lent : LentLists
lent = record { store = record { nodes = 512; slots = 1024 }; names = 1 }

-- the plain machine is a controller of its own
abbrev plain_model : LentLists → ControllerModel
plain_model l = record { Memory = Controller; Sound = λ s p. Unit {0}; Same = SamePart; view = λ s. s; lent = λ s. l }

plain_called : (l : LentLists) (s : Controller) (c : ControllerCall) → ControllerCalled (plain_model l) c s (controller_call l s c).answer (controller_call l s c).left
plain_called l s c = record { unsound = λ u. absurd (u (all_of (λ p. Unit {0}) (λ p. tt) (takes c))); answer = λ u. refl; left = λ u. refl; sound = λ u p h. tt; untouched = call_untouched l s c; same_lent = refl }

plain_history : (l : LentLists) (s : Controller) (cs : List ControllerCall) → History (plain_model l) s cs (controller_answers l s cs) (controllers l s cs)
unfolding controller_answers controllers
plain_history l s [] = done
plain_history l s (c ∷ cs) = next (plain_called l s c) (plain_history l (controller_call l s c).left cs)

abbrev flow : List ℕ
flow = 102 ∷ 108 ∷ 111 ∷ 119 ∷ []

abbrev calls : List ControllerCall
calls =
    naming (intern_name flow) ∷ building (variable 0) ∷ building (constant 0x3FD0000000000000) ∷ building (constant 0x3FE0000000000000) ∷ building (add 0 1)
    ∷ building (add 3 2) ∷ building (constant 0x3FF0000000000000) ∷ building (mul 4 5) ∷ simplifying standard 6 255 100 ∷ naming (intern_name (116 ∷ []))
    ∷ naming (lookup_name flow) ∷ pruning 8 0x3FF0000000000000 ∷ []

kept_promise : Promise lent calls (controller_answers lent empty_controller calls) (map (λ (s : Controller). s) (controllers lent empty_controller calls))
kept_promise =
    (demand3 (plain_model lent) empty_controller calls (controller_answers lent empty_controller calls) (controllers lent empty_controller calls)
    (record { sound = λ p. tt; view = refl }) (plain_history lent empty_controller calls)).0

abbrev state_after : ℕ → Controller
state_after n = get_or (empty_controller ∷ controllers lent empty_controller calls) n empty_controller

old_is_exact : Exact (formula (state_after 8).nodes 6)
unfolding Exact formula controllers of_bits bound
old_is_exact = (lit≤ tt, tt, ((lit≤ tt, tt, ((lit≤ tt, tt, ((lit≤ tt, tt, tt), ((lit≤ tt, tt, tt), tt))), ((lit≤ tt, tt, tt), tt))), ((lit≤ tt, tt, tt), tt)))

-- flow + 0.75 is left of it, and pruned at 1 the constant is dropped: the old value is that of flow plus 0.75
pub instance : Balanced (formula (state_after 8).nodes 6)
    (tree 2 0 3 (cons (tree 0 0 0 nil) (cons (tree 1 0x3FE8000000000000 0 nil) nil))) (tree 0 0 0 nil) (of_bits binary64 0x3FF0000000000000) 1 1
unfolding controller_answers controllers add_float mul_float le lt eq of_bits formula
instance =
    (kept_promise.balance standard 8 11 6 255 100 8 9 0x3FF0000000000000 0 1 1 false (pruning 8 0x3FF0000000000000) (state_after 8) (state_after 9) (state_after 12) (lit< tt)
    refl refl refl refl refl refl refl refl tt old_is_exact).4

-- one term was dropped at threshold 1: the value moved by less than 1
pub instance_moved : (r : Reading) → Moved (value_of r (formula (state_after 8).nodes 6)) (value_of r (tree 0 0 0 nil)) (of_bits binary64 0x3FF0000000000000) 1
unfolding le lt eq of_bits
instance_moved = dropped_count_bounds (formula (state_after 8).nodes 6) _ (tree 0 0 0 nil) (of_bits binary64 0x3FF0000000000000) 1 1 tt instance

-- the name still has its number, in a list that had no place for another
pub instance_named : nth (controller_answers lent empty_controller calls) 10 ≡ some (numbered 0)
unfolding controller_answers controllers same_name
instance_named = kept_promise.names_known 10 0 flow (lookup_name flow) (state_after 10) refl refl refl refl

-- x+2 read, then x+y, for whose name there is no place, and x+ outside the language
abbrev texts : List ControllerCall
texts = reading (120 ∷ 43 ∷ 50 ∷ []) ∷ reading (120 ∷ 43 ∷ 121 ∷ []) ∷ reading (120 ∷ 43 ∷ []) ∷ []

pub instance_read : controller_answers lent empty_controller texts ≡ stored 2 ∷ refused 24 ∷ refused 11 ∷ []
unfolding controller_answers same_name after
instance_read = refl

kept_texts : Promise lent texts (controller_answers lent empty_controller texts) (map (λ (s : Controller). s) (controllers lent empty_controller texts))
kept_texts =
    (demand3 (plain_model lent) empty_controller texts (controller_answers lent empty_controller texts) (controllers lent empty_controller texts)
    (record { sound = λ p. tt; view = refl }) (plain_history lent empty_controller texts)).0

abbrev texts_after : ℕ → Controller
texts_after n = get_or (empty_controller ∷ controllers lent empty_controller texts) n empty_controller

-- the premises of the promise's fields on readings can be met: x+2 is read to its formula, and x+y is stopped by 24
pub instance_reads : ReadTo (120 ∷ 43 ∷ 50 ∷ []) (texts_after 1) 2
unfolding controller_answers controllers same_name after
instance_reads = kept_texts.reads 0 2 (120 ∷ 43 ∷ 50 ∷ []) (texts_after 1) refl refl refl

second_denotes : verdict (120 ∷ 43 ∷ 121 ∷ []) ≡ denotes (linked sums false (name (120 ∷ [])) (name (121 ∷ [])))
unfolding verdict after
second_denotes = refl

pub instance_stopped : StopsReading 24
unfolding controller_answers controllers same_name after
instance_stopped =
    let e : Expr = linked sums false (name (120 ∷ [])) (name (121 ∷ [])) in
    kept_texts.reads_stopped 1 24 (120 ∷ 43 ∷ 121 ∷ []) e refl (subst (Judged (120 ∷ 43 ∷ 121 ∷ [])) second_denotes (judged (120 ∷ 43 ∷ 121 ∷ []))) refl

-- The knob: flow + 0.25 simplified; settings 0 and 19 answer it untouched, with 1 kept; 20 and 200 keep both of its terms; 4 comes
-- before 8, which begins at 201.
abbrev knob : List ControllerCall
knob =
    building (variable 0) ∷ building (constant 0x3FD0000000000000) ∷ building (add 0 1) ∷ simplifying standard 2 255 100 ∷ pruning_by_setting 2 0 ∷ pruning_by_setting 2 19
    ∷ pruning_by_setting 2 20 ∷ pruning_by_setting 2 200 ∷ pruning_by_setting 3 201 ∷ pruning_by_setting 2 201 ∷ pruning_by_setting 2 0xFFFFFFFF ∷ []

pub instance_knob : controller_answers lent empty_controller knob
    ≡ stored 0 ∷ stored 1 ∷ stored 2 ∷ simplified 2 false 3 ∷ pruned 2 1 0 ∷ pruned 2 1 0 ∷ pruned 2 2 0 ∷ pruned 2 2 0 ∷ refused 4 ∷ refused 8 ∷ refused 8 ∷ []
unfolding controller_answers add_float le lt eq of_bits
instance_knob = refl

-- A strict walk of (-0.0) + x·1, which is x: the promise's premises on it can be met, and the bits are x's under every evaluation.
abbrev strictly : List ControllerCall
strictly =
    building (variable 0) ∷ building (constant 0x3FF0000000000000) ∷ building (constant 0x8000000000000000) ∷ building (mul 0 1) ∷ building (add 2 3)
    ∷ simplifying strict 4 255 100 ∷ []

abbrev strictly_after : ℕ → Controller
strictly_after n = get_or (empty_controller ∷ controllers lent empty_controller strictly) n empty_controller

pub instance_bits : (e : Evaluation) → bits_of e (tree 0 0 0 nil) ≡ bits_of e (formula (strictly_after 5).nodes 4)
unfolding controller_answers controllers add_float mul_float le lt eq of_bits formula
instance_bits =
    ((plain_promise lent strictly).same_bits 5 4 255 100 0 6 false (strictly_after 5) (strictly_after 6) refl refl refl refl).2
