-- A formula has no more levels than its id says, since each child's id is lower.
use Rattle.std.specs.Prelude.{Option, Result, Ok}
use Rattle.write_back.specs.declared.Written.{Written}
use Prim.Native.Nat.{ℕ, zero, suc, ◌≤◌, ◌<◌}
use mathlib.Core.Path.{◌≡◌, refl, ap}
use mathlib.Core.Bool.{Bool, false}
use mathlib.Core.List.{List, [], ◌∷◌}
use lib.ListN.{length}
use native.Mathlib.Omega.{arith}
use borrow.Author.Tests.{ltb-false}
use Rattle.definitions.specs.Node.{Node, at}
use Rattle.definitions.specs.Formula.{Tree, forest, formula}
use Rattle.definitions.specs.Controller.{store_part, names_part}
use Rattle.definitions.specs.Promise.{All}
use Rattle.definitions.specs.Beside.{SoundPart}
use Rattle.definitions.proofs.Stable.{Lower, opened}
use Rattle.definitions.proofs.Intern.{Sound}
use Rattle.store.specs.declared.NodeAnswer.TheVariants.{Id}
use Rattle.store.specs.Memory.{model}
use Rattle.names.specs.Memory.{name_model}
use Rattle.text.specs.Memory.{ControllerMemory, controller_of, BothSound}
use Rattle.text.specs.Reading.{ReadsText}
use Rattle.text.proofs.Calling.{read_called}
use Rattle.writer.specs.Answers as Write
use Rattle.writer.proofs.ReadTexts.{whole, read_to}
use Rattle.write_back.specs.Ids.{id_of}
use Rattle.write_back.specs.Answers.{depth_limit, may_be_deeper, FinishesFormula, unpruned, finished, Simplifies, unsimplified, walked, Answers, unread, read}
use Rattle.write_back.specs.Depth.{levels, levels_over, ShallowText, Shallow}
use Rattle.write_back.proofs.Stages.{id_same}

over_low : (f : ℕ → Tree) (i : ℕ) (cs : List ℕ) → Lower i cs → ((c : ℕ) → c < i → levels (f c) ≤ c) → levels_over (forest f cs) ≤ i
unfolding levels_over
over_low f i [] l h = omega arith
over_low f i (c ∷ cs) l h =
    let x = l.0 in
    let y = h c l.0 in
    let z = over_low f i cs l.1 h in
    omega arith

-- by rising id
levels_low : (ns : List Node) → Sound ns → (n i : ℕ) → i < n → i < length ns → levels (formula ns i) ≤ i
unfolding levels
levels_low ns s zero i z h = absurd (omega arith)
levels_low ns s (suc n) i z h =
    let low = (s i h).low in
    let y = over_low (formula ns) i (at ns i).children low (λ c l. levels_low ns s n c (omega arith) (omega arith)) in
    let e = ap levels (opened ns i h low) in
    omega arith

-- a formula that was read to an id that is not over the limit
shallow_read : (typed : List ℕ) (m after : ControllerMemory) (id : ℕ) → BothSound m → ReadsText typed m (Id id) after → may_be_deeper id ≡ false → ShallowText typed m
shallow_read typed m after id h r e =
    let c = read_called typed m after (Id id) r in
    let taken : All (SoundPart model name_model m) (store_part ∷ names_part ∷ []) = (h.store, (h.names, tt)) in
    let sound : BothSound after = record { store = c.sound taken store_part h.store; names = c.sound taken names_part h.names } in
    let known = (read_to m after id typed h c).known in
    let same = id_same after.store id sound.store known in
    let small = ltb-false depth_limit (id_of id) e in
    let low = levels_low (controller_of after).nodes (whole after sound).nodes (suc id) id (omega arith) known in
    record { after = after; id = id; read = r; shallow = omega arith }

-- ---- from the cases of `Answers`

finished_so : {pruning : Option ℕ} {m m' : ControllerMemory} {i steps' : ℕ} {spent' deep : Bool} {buffer buffer' : List ℕ} {o : Result Written ℕ} (size steps kept dropped : ℕ) (spent : Bool)
    → FinishesFormula pruning steps' spent' deep m i buffer o m' buffer' → o ≡ Ok (record { length = size; steps = steps; spent = spent; deep = false; kept = kept; dropped = dropped }) → deep ≡ false
finished_so size steps kept dropped spent (unpruned p) e = let z : ◌≡◌ {A = ℕ} 0 1 = cc in absurd (omega arith)
finished_so size steps kept dropped spent (finished {a = Write.Refused number} p w) e = let z : ◌≡◌ {A = ℕ} 0 1 = cc in absurd (omega arith)
finished_so {steps' = steps'} {spent'} {deep} size steps kept dropped spent (finished {kept = kept'} {dropped = dropped'} {a = Write.Length n} p w) e =
    let told : ◌≡◌ {A = Written} (record { length = n; steps = steps'; spent = spent'; deep = deep; kept = kept'; dropped = dropped' })
    (record { length = size; steps = steps; spent = spent; deep = false; kept = kept; dropped = dropped }) = cc in
    ap (λ (x : Written). x.deep) told

simplified_so : {pruning : Option ℕ} {m m' : ControllerMemory} {id : ℕ} {buffer buffer' : List ℕ} {o : Result Written ℕ} (size steps kept dropped : ℕ) (spent : Bool)
    → Simplifies pruning m id buffer o m' buffer' → o ≡ Ok (record { length = size; steps = steps; spent = spent; deep = false; kept = kept; dropped = dropped }) → may_be_deeper id ≡ false
simplified_so size steps kept dropped spent (unsimplified c) e = let z : ◌≡◌ {A = ℕ} 0 1 = cc in absurd (omega arith)
simplified_so size steps kept dropped spent (walked c f) e = finished_so size steps kept dropped spent f e

answered_so : {typed : List ℕ} {pruning : Option ℕ} {m m' : ControllerMemory} {buffer buffer' : List ℕ} {o : Result Written ℕ} (size steps kept dropped : ℕ) (spent : Bool) → BothSound m
    → Answers typed pruning m buffer o m' buffer' → o ≡ Ok (record { length = size; steps = steps; spent = spent; deep = false; kept = kept; dropped = dropped }) → ShallowText typed m
answered_so size steps kept dropped spent h (unread c) e = let z : ◌≡◌ {A = ℕ} 0 1 = cc in absurd (omega arith)
answered_so {typed} {m = m} size steps kept dropped spent h (read {id = id} {m' = after} c f) e =
    shallow_read typed m after id h c (simplified_so size steps kept dropped spent f e)

pub shallow : Shallow
shallow typed pruning m m' buffer buffer' size steps kept dropped spent h a = answered_so size steps kept dropped spent h a refl
