-- The walk's stack as the plain machine's frames and values, and what holds of it between turns.
use Rattle.std.specs.Prelude.{ℕ, zero, suc, ◌+◌, ◌-◌, ◌*◌, ◌≤◌, ◌<◌, ◌≡◌, List, [], ◌∷◌, length, get_or, set, replicate}
use Rattle.definitions.specs.Limits.{most_depth, most_children}
use Rattle.definitions.specs.Node.{Node, at}
use Rattle.definitions.specs.Walk.{Frame, frame}
use Rattle.turns.specs.declared.state.Frame as Code
use Rattle.turns.specs.declared.state.Heights as CodeHeights
use Rattle.turns.specs.declared.state.Arrays as CodeArrays

-- "filled arrays of 256 frames"
abbrev pub most_frames : ℕ
most_frames = 256

-- at most 16 values a frame
abbrev pub most_values : ℕ
most_values = most_frames * most_children

-- a frame in the array, and one that is not in use
abbrev pub framed : ℕ → ℕ → Code.Frame
framed id taken = record { id = id; taken = taken }

abbrev pub blank : Code.Frame
blank = framed 0 0

-- the stack: the arrays, and how many frames and values are in use
pub record Stack : Type 0 where
  pub frames : List Code.Frame
  pub values : List ℕ
  pub depth : ℕ
  pub filled : ℕ

abbrev pub stack : CodeArrays.Arrays → CodeHeights.Heights → Stack
stack arrays heights = record { frames = arrays.frames; values = arrays.values; depth = heights.depth; filled = heights.filled }

-- one frame, and no value
abbrev pub first_heights : CodeHeights.Heights
first_heights = record { depth = 1; filled = 0 }

-- the frames, the top first: a frame's depth is its place
abbrev pub frames_of : List Code.Frame → ℕ → List Frame
frames_of frames zero = []
frames_of frames (suc n) = frame (get_or frames n blank).id n (get_or frames n blank).taken ∷ frames_of frames n

-- the values, the last first
abbrev pub values_of : List ℕ → ℕ → List ℕ
values_of values zero = []
values_of values (suc n) = get_or values n 0 ∷ values_of values n

abbrev pub frames_in : Stack → List Frame
frames_in k = frames_of k.frames k.depth

abbrev pub values_in : Stack → List ℕ
values_in k = values_of k.values k.filled

-- the parts of the top frame, and the frames under it
abbrev pub top_id : Stack → ℕ
top_id k = (get_or k.frames (k.depth - 1) blank).id

abbrev pub top_taken : Stack → ℕ
top_taken k = (get_or k.frames (k.depth - 1) blank).taken

abbrev pub top_frame : Stack → Frame
top_frame k = frame (top_id k) (k.depth - 1) (top_taken k)

abbrev pub frames_under : Stack → List Frame
frames_under k = frames_of k.frames (k.depth - 1)

-- ---- what is done with it

-- the arrays of a stack with a frame for the root
abbrev pub new_arrays : ℕ → CodeArrays.Arrays
new_arrays root = record { frames = set (replicate most_frames blank) 0 (framed root 0); values = replicate most_values 0 }

-- one child more of the top frame has been taken
abbrev pub counted : Stack → Stack
counted k = record { frames = set k.frames (k.depth - 1) (framed (top_id k) (top_taken k + 1)); values = k.values; depth = k.depth; filled = k.filled }

-- a frame on top
abbrev pub pushed : Stack → ℕ → Stack
pushed k id = record { frames = set k.frames k.depth (framed id 0); values = k.values; depth = k.depth + 1; filled = k.filled }

-- a value on top
abbrev pub given : Stack → ℕ → Stack
given k value = record { frames = k.frames; values = set k.values k.filled value; depth = k.depth; filled = k.filled + 1 }

-- the top frame gone, with a value in place of those from a place on
abbrev pub left : Stack → ℕ → ℕ → Stack
left k base value = record { frames = k.frames; values = set k.values base value; depth = k.depth - 1; filled = base + 1 }

-- ---- what holds between turns

-- values are ids of the store
abbrev pub ValuesBelow : ℕ → List ℕ → Type 0
ValuesBelow n [] = Unit {0}
ValuesBelow n (v ∷ vs) = (v < n) × ValuesBelow n vs

-- frames that wait for the value of a child, which their cursors count already
abbrev pub Waiting : List Node → List Frame → Type 0
Waiting ns [] = Unit {0}
Waiting ns (f ∷ fs) = (f.id < length ns) × (1 ≤ f.cursor) × (f.cursor ≤ length (at ns f.id).children) × Waiting ns fs

-- how many values they have
abbrev pub held : List Frame → ℕ
held [] = 0
held (f ∷ fs) = f.cursor - 1 + held fs

-- the top frame has a value for each child that was taken; without a frame, the one value is the result
abbrev pub Valid : List Node → List Frame → List ℕ → Type 0
Valid ns [] vs = (length vs ≡ 1) × ValuesBelow (length ns) vs
Valid ns (f ∷ fs) vs =
    (f.id < length ns) × (f.cursor ≤ length (at ns f.id).children) × Waiting ns fs × (length vs ≡ f.cursor + held fs) × ValuesBelow (length ns) vs

-- the arrays are whole
pub record Whole (k : Stack) : Type 0 where
  pub frames : length k.frames ≡ most_frames
  pub values : length k.values ≡ most_values

-- all of it, at a depth limit
pub record Invariant (ns : List Node) (limit : ℕ) (k : Stack) : Type 0 where
  pub listed : limit ≤ most_depth
  pub deep : k.depth ≤ limit + 1
  pub whole : Whole k
  pub valid : Valid ns (frames_in k) (values_in k)
