-- The lines of the nodes in memory, and the words that they tell.
use Prim.Native.Nat.{ℕ, zero, suc, ◌+◌, ◌*◌, ◌/◌, ◌%◌, ◌≤◌, ◌<◌}
use mathlib.Core.Path.{◌≡◌, refl, sym, ap, ◌∙◌, subst}
use mathlib.Core.List.{List, [], ◌∷◌, ◌++◌, append_assoc, append-nil}
use mathlib.Core.Logic.{◌⊎◌, inl, inr}
use lib.ListN.{length, get_or, take, length-append}
use lib.Seq.{length-take-le, get_or-take, ext_get_or}
use native.Mathlib.Omega.{arith}
use native.Mathlib.Nat.{eq-or-lt_of_le, le_of_suc-le-suc}
use Rattle.definitions.specs.Node as N
use Rattle.definitions.specs.Listing.{line_feed, node_line, node_lines}
use Rattle.arena.specs.declared.node.DagNode.{DagNode}
use Rattle.arena.specs.Layout.{node_words, most_nodes, most_children, children_word}
use Rattle.arena.specs.Node.{node_at, words_of, words_from, put}
use Rattle.arena.specs.Nodes.{WellFormed, AllWellFormed}
use Rattle.arena.proofs.Words.{children_length, words_at}
use Rattle.arena.proofs.Putting.{put_length, put_old, put_new}
use Rattle.store.specs.View.{plain_node, nodes_in}
use Rattle.store.proofs.Viewing.{plain_more, plain_length, plain_same}
use Rattle.listing_reader.specs.Numbers.{word_end}
use Rattle.listing_reader.specs.Line.{LineOf}
use Rattle.listing_reader.proofs.NodeTexts.{line_unique}

-- ---- one line more

lines_more : (ns : List N.Node) (n : N.Node) (i : ℕ) (rest : List ℕ) → node_lines i ns ++ (node_line (i + length ns) n ++ line_feed ∷ rest) ≡ node_lines i (ns ++ (n ∷ [])) ++ rest
unfolding node_lines
lines_more [] n i rest =
    let z : i + 0 ≡ i = omega arith in
    ap (λ (k : ℕ). node_line k n ++ line_feed ∷ rest) z ∙ sym (append_assoc (node_line i n) (line_feed ∷ []) rest)
lines_more (m ∷ ns) n i rest =
    let z : i + suc (length ns) ≡ suc i + length ns = omega arith in
    append_assoc (node_line i m) (line_feed ∷ node_lines (suc i) ns) (node_line (i + suc (length ns)) n ++ line_feed ∷ rest)
    ∙ ap (λ (k : ℕ). node_line i m ++ (line_feed ∷ (node_lines (suc i) ns ++ (node_line k n ++ line_feed ∷ rest)))) z
    ∙ ap (λ (x : List ℕ). node_line i m ++ (line_feed ∷ x)) (lines_more ns n (suc i) rest)
    ∙ sym (append_assoc (node_line i m) (line_feed ∷ node_lines (suc i) (ns ++ (n ∷ []))) rest)

pub memory_more : (w : List ℕ) (count : ℕ) (rest : List ℕ) → node_lines 0 (nodes_in w count) ++ (node_line count (plain_node (node_at w count)) ++ line_feed ∷ rest) ≡ node_lines 0 (nodes_in w (count + 1)) ++ rest
memory_more w count rest =
    let z : count ≡ 0 + length (nodes_in w count) = (let l = plain_length w count in omega arith) in
    let s : suc count ≡ count + 1 = omega arith in
    ap (λ (k : ℕ). node_lines 0 (nodes_in w count) ++ (node_line k (plain_node (node_at w count)) ++ line_feed ∷ rest)) z
    ∙ lines_more (nodes_in w count) (plain_node (node_at w count)) 0 rest
    ∙ ap (λ (ns : List N.Node). node_lines 0 ns ++ rest) (sym (plain_more w count))
    ∙ ap (λ (k : ℕ). node_lines 0 (nodes_in w k) ++ rest) s

-- a node put behind the others
module _ (w : List ℕ) (count : ℕ) (n : DagNode) (many : count < most_nodes) (fits : count * node_words + node_words ≤ length w) (four : length n.children ≡ most_children) where
  pub old_nodes : nodes_in (put w count n) count ≡ nodes_in w count
  old_nodes = plain_same w (put w count n) count (put_old w count n fits four)

  last : (i : ℕ) → i < count + 1 → (i ≡ count) ⊎ (i < count)
  last i l = eq-or-lt_of_le (le_of_suc-le-suc (let m : suc i ≤ suc count = omega arith in m))

  pub formed_more : AllWellFormed w count → WellFormed count n → AllWellFormed (put w count n) (count + 1)
  formed_more a f = record {
    many = omega arith;
    fits = let l = put_length w count n fits four in omega arith;
    each = λ i l. each i (last i l);
  }
    where
      each : (i : ℕ) → (i ≡ count) ⊎ (i < count) → WellFormed i (node_at (put w count n) i)
      each i (inl e) = subst (λ (k : ℕ). WellFormed k (node_at (put w count n) k)) (sym e) (subst (λ (x : DagNode). WellFormed count x) (sym (put_new w count n fits four)) f)
      each i (inr l) = subst (λ (x : DagNode). WellFormed i x) (sym (put_old w count n fits four i l)) (a.each i l)

  pub wide_more : ((i : ℕ) → i < count → (node_at w i).payload < word_end) → n.payload < word_end → (i : ℕ) → i < count + 1 → (node_at (put w count n) i).payload < word_end
  wide_more a f i l = go (last i l)
    where
      go : (i ≡ count) ⊎ (i < count) → (node_at (put w count n) i).payload < word_end
      go (inl e) = subst (λ (k : ℕ). (node_at (put w count n) k).payload < word_end) (sym e) (subst (λ (x : DagNode). x.payload < word_end) (sym (put_new w count n fits four)) f)
      go (inr k) = subst (λ (x : DagNode). x.payload < word_end) (sym (put_old w count n fits four i k)) (a i k)

-- ---- the lines by rising id

unfoldable pub lines_from : List ℕ → ℕ → ℕ → List ℕ
lines_from w zero i = []
lines_from w (suc j) i = node_line i (plain_node (node_at w i)) ++ line_feed ∷ lines_from w j (suc i)

from_more : (w : List ℕ) (j i : ℕ) → lines_from w (suc j) i ≡ lines_from w j i ++ (node_line (i + j) (plain_node (node_at w (i + j))) ++ line_feed ∷ [])
unfolding lines_from
from_more w zero i = let z : i ≡ i + 0 = omega arith in ap (λ (k : ℕ). node_line k (plain_node (node_at w k)) ++ line_feed ∷ []) z
from_more w (suc j) i =
    let z : suc i + j ≡ i + suc j = omega arith in
    ap (λ (x : List ℕ). node_line i (plain_node (node_at w i)) ++ (line_feed ∷ x)) (from_more w j (suc i))
    ∙ ap (λ (k : ℕ). node_line i (plain_node (node_at w i)) ++ (line_feed ∷ (lines_from w j (suc i) ++ (node_line k (plain_node (node_at w k)) ++ line_feed ∷ [])))) z
    ∙ sym (append_assoc (node_line i (plain_node (node_at w i))) (line_feed ∷ lines_from w j (suc i)) (node_line (i + suc j) (plain_node (node_at w (i + suc j))) ++ line_feed ∷ []))

pub lines_are : (w : List ℕ) (count : ℕ) → node_lines 0 (nodes_in w count) ≡ lines_from w count 0
unfolding nodes_in node_lines lines_from
lines_are w zero = refl
lines_are w (suc count) =
    let s : suc count ≡ count + 1 = omega arith in
    let z : count ≡ 0 + count = omega arith in
    ap (λ (k : ℕ). node_lines 0 (nodes_in w k)) s
    ∙ sym (append-nil (node_lines 0 (nodes_in w (count + 1))))
    ∙ sym (memory_more w count [])
    ∙ ap (λ (x : List ℕ). x ++ (node_line count (plain_node (node_at w count)) ++ line_feed ∷ [])) (lines_are w count)
    ∙ ap (λ (k : ℕ). lines_from w count 0 ++ (node_line k (plain_node (node_at w k)) ++ line_feed ∷ [])) z
    ∙ sym (from_more w count 0)

-- ---- lines of two memories, one the start of the other

-- nodes of one run of ids, as listed
pub record Run (w : List ℕ) (j i : ℕ) : Type 0 where
  pub each : (k : ℕ) → k < j → WellFormed (i + k) (node_at w (i + k)) × ((node_at w (i + k)).payload < word_end)

pub run_next : {w : List ℕ} {j i : ℕ} → Run w (suc j) i → Run w j (suc i)
run_next {w} {j} {i} h = record {
  each = λ k l.
      let z : i + suc k ≡ suc i + k = omega arith in
      subst (λ (x : ℕ). WellFormed x (node_at w x) × ((node_at w x).payload < word_end)) z (h.each (suc k) (omega arith));
}

pub run_line : {w : List ℕ} {j i : ℕ} → Run w (suc j) i → (rest : List ℕ) → LineOf (node_line i (plain_node (node_at w i)) ++ line_feed ∷ rest) i (node_at w i) rest
run_line {w} {j} {i} h rest =
    let z : i + 0 ≡ i = omega arith in
    let f = subst (λ (x : ℕ). WellFormed x (node_at w x) × ((node_at w x).payload < word_end)) z (h.each 0 (omega arith)) in
    record { is = refl; formed = f.0; four = children_length w i; wide = f.1 }

pub not_empty : (a : List ℕ) (b : ℕ) (c : List ℕ) → [] ≡ a ++ b ∷ c → ⊥
not_empty a b c e = let l : 0 ≡ length a + suc (length c) = ap length e ∙ length-append a (b ∷ c) in omega arith

-- what is left of the longer one
pub record Longer (w w' : List ℕ) (j j' i : ℕ) (rest : List ℕ) : Type 0 where
  pub left : ℕ
  pub long : j ≡ j' + left
  pub same : (k : ℕ) → k < j' → node_at w (i + k) ≡ node_at w' (i + k)
  pub rest_is : rest ≡ lines_from w left (i + j')

pub longer : (w w' : List ℕ) (j j' i : ℕ) (rest : List ℕ) → i + j ≤ most_nodes → Run w j i → Run w' j' i → lines_from w j i ≡ lines_from w' j' i ++ rest → Longer w w' j j' i rest
unfolding lines_from
longer w w' j zero i rest low h h' e =
    let z : i ≡ i + 0 = omega arith in
    record { left = j; long = omega arith; same = λ k l. absurd (omega arith); rest_is = sym e ∙ ap (lines_from w j) z }
longer w w' zero (suc j') i rest low h h' e =
    absurd (not_empty (node_line i (plain_node (node_at w' i))) line_feed (lines_from w' j' (suc i) ++ rest) (e ∙ append_assoc (node_line i (plain_node (node_at w' i))) (line_feed ∷ lines_from w' j' (suc i)) rest))
longer w w' (suc j) (suc j') i rest low h h' e =
    let u = line_unique (omega arith) (run_line h (lines_from w j (suc i))) (subst (λ (x : List ℕ). LineOf x i (node_at w' i) (lines_from w' j' (suc i) ++ rest)) (sym (e ∙ append_assoc (node_line i (plain_node (node_at w' i))) (line_feed ∷ lines_from w' j' (suc i)) rest)) (run_line h' (lines_from w' j' (suc i) ++ rest))) in
    go u.0 (longer w w' j j' (suc i) rest (omega arith) (run_next h) (run_next h') u.1)
  where
    go : node_at w i ≡ node_at w' i → Longer w w' j j' (suc i) rest → Longer w w' (suc j) (suc j') i rest
    go s r =
        let b : j ≡ j' + r.left = r.long in
        let z : suc i + j' ≡ i + suc j' = omega arith in
        record { left = r.left; long = omega arith; same = same; rest_is = r.rest_is ∙ ap (lines_from w r.left) z }
      where
        same : (k : ℕ) → k < suc j' → node_at w (i + k) ≡ node_at w' (i + k)
        same zero l = let z : i ≡ i + 0 = omega arith in subst (λ (x : ℕ). node_at w x ≡ node_at w' x) z s
        same (suc k) l = let z : suc i + k ≡ i + suc k = omega arith in subst (λ (x : ℕ). node_at w x ≡ node_at w' x) z (r.same k (omega arith))

-- the first line that is left
pub left_line : {w : List ℕ} {j i : ℕ} {rest : List ℕ} → Run w (suc j) i → rest ≡ lines_from w (suc j) i → LineOf rest i (node_at w i) (lines_from w j (suc i))
unfolding lines_from
left_line {w} {j} {i} h e = subst (λ (x : List ℕ). LineOf x i (node_at w i) (lines_from w j (suc i))) (sym e) (run_line h (lines_from w j (suc i)))

pub left_some : (w : List ℕ) (j i : ℕ) → [] ≡ lines_from w (suc j) i → ⊥
unfolding lines_from
left_some w j i e = not_empty (node_line i (plain_node (node_at w i))) line_feed (lines_from w j (suc i)) e

pub left_none : (w : List ℕ) (i : ℕ) (rest : List ℕ) → rest ≡ lines_from w 0 i → rest ≡ []
unfolding lines_from
left_none w i rest e = e

pub line_some : {id : ℕ} {n : DagNode} {rest after : List ℕ} → LineOf rest id n after → rest ≡ [] → ⊥
line_some {id} {n} {rest} {after} l e = not_empty (node_line id (plain_node n)) line_feed after (sym e ∙ l.is)

-- ---- the same nodes are the same words

word_of : (w : List ℕ) (k j : ℕ) → j < node_words → get_or w (k * node_words + j) 0 ≡ get_or (words_of (node_at w k)) j 0
unfolding words_of node_at words_from
word_of w k zero l = refl
word_of w k (suc zero) l = refl
word_of w k (suc (suc zero)) l = refl
word_of w k (suc (suc (suc zero))) l = refl
word_of w k (suc (suc (suc (suc zero)))) l = refl
word_of w k (suc (suc (suc (suc (suc zero))))) l = refl
word_of w k (suc (suc (suc (suc (suc (suc j)))))) l =
    ap (λ (x : ℕ). get_or w x 0) (let e : k * node_words + suc (suc (suc (suc (suc (suc j))))) ≡ k * node_words + children_word + j = omega arith in e)
    ∙ sym (words_at most_children w (k * node_words + children_word) j (omega arith))

pub same_words : (w w' : List ℕ) (count : ℕ) → count * node_words ≤ length w → count * node_words ≤ length w' → ((k : ℕ) → k < count → node_at w k ≡ node_at w' k) → take (count * node_words) w ≡ take (count * node_words) w'
same_words w w' count f f' h =
    let l : length (take (count * node_words) w) ≡ count * node_words = length-take-le (count * node_words) w f in
    ext_get_or 0 (take (count * node_words) w) (take (count * node_words) w') (l ∙ sym (length-take-le (count * node_words) w' f')) (λ x b. word x (omega arith))
  where
    word : (x : ℕ) → x < count * node_words → get_or (take (count * node_words) w) x 0 ≡ get_or (take (count * node_words) w') x 0
    word x b =
        let z : x ≡ x / node_words * node_words + x % node_words = omega arith in
        let k : x / node_words < count = omega arith in
        let j : x % node_words < node_words = omega arith in
        get_or-take (count * node_words) w x 0 b
        ∙ ap (λ (y : ℕ). get_or w y 0) z
        ∙ word_of w (x / node_words) (x % node_words) j
        ∙ ap (λ (n : DagNode). get_or (words_of n) (x % node_words) 0) (h (x / node_words) k)
        ∙ sym (word_of w' (x / node_words) (x % node_words) j)
        ∙ sym (ap (λ (y : ℕ). get_or w' y 0) z)
        ∙ sym (get_or-take (count * node_words) w' x 0 b)
