-- Bytes that begin with a first line and lines of nodes, told twice: the shorter telling is the start of the longer.
use Prim.Native.Nat.{ℕ, zero, suc, ◌+◌, ◌-◌, ◌≤◌, ◌<◌}
use mathlib.Core.Path.{◌≡◌, refl, sym, ap, ap₂, subst, ◌∙◌}
use mathlib.Core.List.{List, [], ◌∷◌, ◌++◌, append_assoc}
use native.Mathlib.Omega.{arith}
use Rattle.definitions.specs.Listing.{line_feed, node_line, node_lines}
use Rattle.arena.specs.declared.node.DagNode.{DagNode}
use Rattle.arena.specs.Layout.{most_nodes}
use Rattle.arena.specs.Node.{node_at}
use Rattle.store.specs.View.{plain_node, nodes_in}
use Rattle.listing_lines.specs.declared.SheetOutcome.{SheetOutcome}
use Rattle.listing_reader.specs.Line.{LineOf}
use Rattle.listing_reader.specs.Listing.{Begins}
use Rattle.listing_reader.proofs.NodeTexts.{line_unique}
use Rattle.listing_reader.proofs.Memory.{lines_from, lines_are, Run, run_next, run_line, not_empty}
use Rattle.listing_reader.proofs.Listings.{first_unique, run_of}

-- the nodes of the shorter telling are those of the longer, and what follows them begins with the others' lines
pub record StartOf (w w' : List ℕ) (j j' i : ℕ) (rest rest' : List ℕ) : Type 0 where
  pub same : (k : ℕ) → k < j → node_at w (i + k) ≡ node_at w' (i + k)
  pub rest_is : rest ≡ lines_from w' (j' - j) (i + j) ++ rest'

-- a line and what follows it
line_then : (w : List ℕ) (j i : ℕ) (rest : List ℕ) → lines_from w (suc j) i ++ rest ≡ node_line i (plain_node (node_at w i)) ++ line_feed ∷ (lines_from w j (suc i) ++ rest)
unfolding lines_from
line_then w j i rest = append_assoc (node_line i (plain_node (node_at w i))) (line_feed ∷ lines_from w j (suc i)) rest

start_of : (w w' : List ℕ) (j j' i : ℕ) (rest rest' : List ℕ) → j ≤ j' → i + j' ≤ most_nodes → Run w j i → Run w' j' i → lines_from w j i ++ rest ≡ lines_from w' j' i ++ rest'
    → StartOf w w' j j' i rest rest'
unfolding lines_from
start_of w w' zero j' i rest rest' l low h h' e =
    let y : i ≡ i + 0 = omega arith in
    let z : j' ≡ j' - 0 = omega arith in
    record { same = λ k m. absurd (omega arith); rest_is = e ∙ ap₂ (λ (a b : ℕ). lines_from w' a b ++ rest') z y }
start_of w w' (suc j) zero i rest rest' l low h h' e = absurd (omega arith)
start_of w w' (suc j) (suc j') i rest rest' l low h h' e =
    let u = line_unique (omega arith) (run_line h (lines_from w j (suc i) ++ rest))
    (subst (λ (x : List ℕ). LineOf x i (node_at w' i) (lines_from w' j' (suc i) ++ rest')) (sym (sym (line_then w j i rest) ∙ e ∙ line_then w' j' i rest')) (run_line h' (lines_from w' j' (suc i) ++ rest'))) in
    go u.0 (start_of w w' j j' (suc i) rest rest' (omega arith) (omega arith) (run_next h) (run_next h') u.1)
  where
    go : node_at w i ≡ node_at w' i → StartOf w w' j j' (suc i) rest rest' → StartOf w w' (suc j) (suc j') i rest rest'
    go s r =
        let y : j' - j ≡ suc j' - suc j = omega arith in
        let z : suc i + j ≡ i + suc j = omega arith in
        record { same = same; rest_is = r.rest_is ∙ ap₂ (λ (a b : ℕ). lines_from w' a b ++ rest') y z }
      where
        same : (k : ℕ) → k < suc j → node_at w (i + k) ≡ node_at w' (i + k)
        same zero m = let z : i ≡ i + 0 = omega arith in subst (λ (x : ℕ). node_at w x ≡ node_at w' x) z s
        same (suc k) m = let z : suc i + k ≡ i + suc k = omega arith in subst (λ (x : ℕ). node_at w x ≡ node_at w' x) z (r.same k (omega arith))

module _ {bytes : List ℕ} {o o' : SheetOutcome} {w w' : List ℕ} {c c' : ℕ} {rest rest' : List ℕ} (b : Begins bytes o w c rest) (b' : Begins bytes o' w' c' rest') where
  both_lines : (o ≡ o') × (node_lines 0 (nodes_in w c) ++ rest ≡ node_lines 0 (nodes_in w' c') ++ rest')
  both_lines = first_unique o o' (node_lines 0 (nodes_in w c) ++ rest) (node_lines 0 (nodes_in w' c') ++ rest') b.small b'.small (sym b.text ∙ b'.text)

  pub one_outcome : o ≡ o'
  one_outcome = both_lines.0

  pub starts : c ≤ c' → StartOf w w' c c' 0 rest rest'
  starts l =
      let m = b'.formed.many in
      start_of w w' c c' 0 rest rest' l (omega arith) (run_of b) (run_of b')
      (ap (λ (x : List ℕ). x ++ rest) (sym (lines_are w c)) ∙ both_lines.1 ∙ ap (λ (x : List ℕ). x ++ rest') (lines_are w' c'))

  -- after fewer lines than the other tells, one more line stands
  pub next_line : c < c' → (more : List ℕ) × LineOf rest c (node_at w' c) more
  next_line l =
      let s = starts (omega arith) in
      let j = c' - suc c in
      let y : c' - c ≡ suc j = omega arith in
      let z : 0 + c ≡ c = omega arith in
      let h : Run w' (suc j) c = record { each = λ k m. (b'.formed.each (c + k) (omega arith), b'.wide (c + k) (omega arith)) } in
      let e : rest ≡ node_line c (plain_node (node_at w' c)) ++ line_feed ∷ (lines_from w' j (suc c) ++ rest') = s.rest_is ∙ ap₂ (λ (a d : ℕ). lines_from w' a d ++ rest') y z ∙ line_then w' j c rest' in
      (lines_from w' j (suc c) ++ rest', subst (λ (x : List ℕ). LineOf x c (node_at w' c) (lines_from w' j (suc c) ++ rest')) (sym e) (run_line h (lines_from w' j (suc c) ++ rest')))
