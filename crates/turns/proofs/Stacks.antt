-- The walk's stack as lists, and what keeps them valid.
use Prim.Native.Nat.{ℕ, zero, suc, ◌+◌, ◌*◌, ◌≤◌, ◌<◌}
use mathlib.Core.Path.{◌≡◌, refl, sym, ap, ap₂, ◌∙◌, subst}
use mathlib.Core.List.{List, [], ◌∷◌, ◌++◌, append_assoc, append-nil}
use mathlib.Core.Logic.{◌⊎◌, inl, inr}
use lib.ListN.{length, get_or, take, drop, set, length-drop}
use lib.Seq.{get_or-set_same, get_or-set_other, take-suc, get_or-drop}
use native.Mathlib.Omega.{arith}
use native.Mathlib.Nat.{add-suc, eq-or-lt_of_le, le_of_suc-le-suc}
use native.Mathlib.Numerals.{add-one}
use Rattle.definitions.specs.Limits.{most_children}
use Rattle.definitions.specs.Node.{Node, at}
use Rattle.definitions.specs.Walk.{Frame, frame, reverse_onto}
use Rattle.turns.specs.declared.state.Frame as Code
use Rattle.turns.specs.Stack.{blank, frames_of, values_of, ValuesBelow, Waiting, held, Valid}

-- ---- writes above what is read

values_above : (vs : List ℕ) (i v n : ℕ) → n ≤ i → values_of (set vs i v) n ≡ values_of vs n
values_above vs i v zero l = refl
values_above vs i v (suc n) l = ap₂ (λ (x : ℕ) (r : List ℕ). x ∷ r) (get_or-set_other vs i n v 0 (λ e. omega arith)) (values_above vs i v n (omega arith))

frames_above : (frames : List Code.Frame) (i : ℕ) (f : Code.Frame) (n : ℕ) → n ≤ i → frames_of (set frames i f) n ≡ frames_of frames n
frames_above frames i f zero l = refl
frames_above frames i f (suc n) l =
    ap₂ (λ (x : Code.Frame) (r : List Frame). frame x.id n x.taken ∷ r) (get_or-set_other frames i n f blank (λ e. omega arith)) (frames_above frames i f n (omega arith))

-- a value on top
pub push_value : (vs : List ℕ) (i v : ℕ) → i < length vs → values_of (set vs i v) (i + 1) ≡ v ∷ values_of vs i
push_value vs i v l =
    ap (values_of (set vs i v)) (add-one i)
    ∙ ap₂ (λ (x : ℕ) (r : List ℕ). x ∷ r) (get_or-set_same vs i v 0 l) (values_above vs i v i (omega arith))

-- a frame on top
pub set_top : (frames : List Code.Frame) (n : ℕ) (f : Code.Frame) → n < length frames → frames_of (set frames n f) (suc n) ≡ frame f.id n f.taken ∷ frames_of frames n
set_top frames n f l =
    ap₂ (λ (x : Code.Frame) (r : List Frame). frame x.id n x.taken ∷ r) (get_or-set_same frames n f blank l) (frames_above frames n f n (omega arith))

-- ---- reading

pub frames_length : (frames : List Code.Frame) (n : ℕ) → length (frames_of frames n) ≡ n
frames_length frames zero = refl
frames_length frames (suc n) = ap suc (frames_length frames n)

pub values_length : (vs : List ℕ) (n : ℕ) → length (values_of vs n) ≡ n
values_length vs zero = refl
values_length vs (suc n) = ap suc (values_length vs n)

pub values_drop : (vs : List ℕ) (from n : ℕ) → drop n (values_of vs (from + n)) ≡ values_of vs from
values_drop vs from zero = ap (values_of vs) (let e : from + 0 ≡ from = omega arith in e)
values_drop vs from (suc n) = ap (λ (k : ℕ). drop (suc n) (values_of vs k)) (add-suc from n) ∙ values_drop vs from n

-- the values on top, turned round, are those from a place on
values_reversed : (vs : List ℕ) (from n : ℕ) (acc : List ℕ) → from + n ≤ length vs → reverse_onto (take n (values_of vs (from + n))) acc ≡ take n (drop from vs) ++ acc
values_reversed vs from zero acc l = refl
values_reversed vs from (suc n) acc l =
    ap (λ (k : ℕ). reverse_onto (take (suc n) (values_of vs k)) acc) (add-suc from n)
    ∙ values_reversed vs from n (get_or vs (from + n) 0 ∷ acc) (omega arith)
    ∙ sym (ap (λ (x : List ℕ). x ++ acc) (take-suc (drop from vs) n 0 (rw length-drop (omega arith))) ∙ append_assoc (take n (drop from vs)) (get_or (drop from vs) n 0 ∷ []) acc
    ∙ ap (λ (x : ℕ). take n (drop from vs) ++ (x ∷ acc)) (get_or-drop from vs n 0))

pub lent_values : (vs : List ℕ) (from n : ℕ) → from + n ≤ length vs → take n (drop from vs) ≡ reverse_onto (take n (values_of vs (from + n))) []
lent_values vs from n l = sym (values_reversed vs from n [] l ∙ append-nil (take n (drop from vs)))

-- ---- what holds between turns

pub below_up : (m n : ℕ) → m ≤ n → (vs : List ℕ) → ValuesBelow m vs → ValuesBelow n vs
below_up m n l [] h = tt
below_up m n l (v ∷ vs) h = (omega (arith, h.0), below_up m n l vs h.1)

pub below_drop : (m n : ℕ) (vs : List ℕ) → ValuesBelow m vs → ValuesBelow m (drop n vs)
below_drop m zero vs h = h
below_drop m (suc n) [] h = tt
below_drop m (suc n) (v ∷ vs) h = below_drop m n vs h.1

pub below_at : (m : ℕ) (vs : List ℕ) (n i : ℕ) → ValuesBelow m (values_of vs n) → i < n → get_or vs i 0 < m
below_at m vs zero i h l = absurd (omega arith)
below_at m vs (suc n) i h l = go (eq-or-lt_of_le (le_of_suc-le-suc l)) (below_at m vs n i h.1)
  where
    go : (i ≡ n) ⊎ (i < n) → (i < n → get_or vs i 0 < m) → get_or vs i 0 < m
    go (inl e) rec = subst (λ (x : ℕ). get_or vs x 0 < m) (sym e) h.0
    go (inr k) rec = rec k

pub waiting_up : (ns ms : List Node) → length ns ≤ length ms → ((i : ℕ) → i < length ns → (at ms i).children ≡ (at ns i).children)
    → (fs : List Frame) → Waiting ns fs → Waiting ms fs
waiting_up ns ms l k [] h = tt
waiting_up ns ms l k (f ∷ fs) h =
    (omega (arith, h.0), h.1, subst (λ (c : List ℕ). f.cursor ≤ length c) (sym (k f.id h.0)) h.2, waiting_up ns ms l k fs h.3)

-- a value for the frame that waits
pub popped : (ns : List Node) (i : ℕ) (fs : List Frame) (vs : List ℕ) → i < length ns → Waiting ns fs → length vs ≡ held fs → ValuesBelow (length ns) vs → Valid ns fs (i ∷ vs)
popped ns i [] vs l b e a = (ap suc e, (l, a))
popped ns i (g ∷ gs) vs l b e a = (b.0, b.2, b.3, omega (arith, b.1), (l, a))

-- a frame that waits has fewer values than a node has children at most
pub few_held : (ns : List Node) → ((i : ℕ) → i < length ns → length (at ns i).children ≤ most_children) → (fs : List Frame) → Waiting ns fs → held fs + length fs ≤ most_children * length fs
few_held ns k [] h = omega arith
few_held ns k (f ∷ fs) h = omega (arith, k f.id h.0, h.1, h.2, few_held ns k fs h.3)
