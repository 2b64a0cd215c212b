-- Lines one after another in one array.
use Prim.Native.Nat.{ℕ, zero, suc, ◌+◌, ◌*◌, ◌≤◌, ◌<◌, min}
use mathlib.Core.Path.{◌≡◌, refl, sym, ap, ap₂, ◌∙◌}
use mathlib.Core.List.{List, [], ◌∷◌, ◌++◌, append_assoc, append-nil}
use lib.ListN.{length, take, drop, length-take, take-append-drop}
use lib.Seq.{length-take-le}
use native.Mathlib.Omega.{arith}
use native.Mathlib.Nat.{min-le_left}
use Rattle.definitions.specs.Listing.{line_feed}
use Rattle.store.specs.View.{nodes_in}
use Rattle.listing_lines.specs.declared.line.Line.{Line}
use Rattle.listing_lines.specs.declared.SheetOutcome.{SheetOutcome}
use Rattle.listing_lines.specs.Line.{line_bytes, text, Holds}
use Rattle.listing_lines.specs.Outcome.{first_line_of, line_of, joined, all_lines}
use Rattle.listing_lines.specs.Filling.{PutsLine, Fills}
use Rattle.listing_lines.proofs.Lines.{later_rest}

-- the lines of one id more
pub joined_more : (line : ℕ → List ℕ) (n i : ℕ) → joined line (suc n) i ≡ joined line n i ++ line (i + n)
unfolding joined
joined_more line zero i = append-nil (line i) ∙ ap line (let e : i ≡ i + 0 = omega arith in e)
joined_more line (suc n) i =
    ap (λ (x : List ℕ). line i ++ x) (joined_more line n (suc i))
    ∙ sym (append_assoc (line i) (joined line n (suc i)) (line (suc i + n)))
    ∙ ap (λ (k : ℕ). (line i ++ joined line n (suc i)) ++ line k) (let e : suc i + n ≡ i + suc n = omega arith in e)

-- a line's text is no longer than a line
pub text_within : (line : Line) → line.length ≤ line_bytes → length (text line) ≤ line_bytes
text_within line h = let l : min line.length (length line.bytes) ≤ line.length = min-le_left line.length (length line.bytes) in omega (arith, length-take line.length line.bytes)

module _ (from : ℕ) (first words : List ℕ) (count : ℕ) where
  -- what the first line left, and the lines of so many ids
  abbrev lines_before : ℕ → List ℕ
  lines_before id = first ++ joined (line_of (nodes_in words count)) id 0

  -- so far an array starts with them, and past them is as it was when the first line was there
  pub record Gathered (before out : List ℕ) (at id : ℕ) : Type 0 where
    pub is : take at out ≡ lines_before id
    pub after : from ≤ at
    pub place : at ≤ (id + 1) * line_bytes
    pub some : id ≤ count
    pub rest : drop at out ≡ drop at before

  pub gathered_more : (before out : List ℕ) (at id : ℕ) → Gathered before out at id → id < count → (line : Line) → Holds (line_of (nodes_in words count) id) line → (r : ℕ) (out' : List ℕ) → PutsLine (text line) at out r out' → Gathered before out' r (id + 1)
  gathered_more before out at id g l line h r out' p = record {
    is =
        p.is
        ∙ ap (λ (x : List ℕ). x ++ text line) g.is
        ∙ ap (λ (x : List ℕ). lines_before id ++ x) h.is
        ∙ append_assoc first (joined (line_of (nodes_in words count)) id 0) (line_of (nodes_in words count) id)
        ∙ ap (λ (x : List ℕ). first ++ x) (sym (one_more id));
    after = let a = g.after in let b = p.place in omega arith;
    place = let a = g.place in let b = p.place in let t = text_within line h.within in omega arith;
    some = omega arith;
    rest = p.rest ∙ later_rest at r out before (let b = p.place in omega arith) g.rest;
  }
    where
      one_more : (id : ℕ) → joined (line_of (nodes_in words count)) (id + 1) 0 ≡ joined (line_of (nodes_in words count)) id 0 ++ line_of (nodes_in words count) id
      one_more id =
          ap (λ (k : ℕ). joined (line_of (nodes_in words count)) k 0) (let e : id + 1 ≡ suc id = omega arith in e)
          ∙ joined_more (line_of (nodes_in words count)) id 0
          ∙ ap (λ (k : ℕ). joined (line_of (nodes_in words count)) id 0 ++ line_of (nodes_in words count) k) (let e : 0 + id ≡ id = omega arith in e)

  pub gathered_all : (entry before out : List ℕ) (at id : ℕ) → Gathered before out at id → length out ≡ length entry → drop from before ≡ drop from entry → count ≤ id → (count + 1) * line_bytes ≤ length out → (o : SheetOutcome) → first ≡ first_line_of o ++ (line_feed ∷ []) → Fills (all_lines o words count) at entry out
  gathered_all entry before out at id g same past l room o f =
      let k = g.some in
      let e : id ≡ count = omega arith in
      let a = g.place in
      let start : take at out ≡ all_lines o words count = g.is ∙ ap lines_before e ∙ ap (λ (x : List ℕ). x ++ joined (line_of (nodes_in words count)) count 0) f in
      let inside : at ≤ length out = omega arith in
      record {
        is = sym (take-append-drop at out) ∙ ap₂ (λ (x y : List ℕ). x ++ y) start (g.rest ∙ later_rest from at before entry g.after past);
        long = sym (length-take-le at out inside) ∙ ap length start;
        within = omega arith;
      }

-- the first line in an array
module _ (o : SheetOutcome) (line : Line) (h : Holds (first_line_of o ++ (line_feed ∷ [])) line) (out : List ℕ) (at : ℕ) (out' : List ℕ) (p : PutsLine (text line) 0 out at out') where
  pub first_is : take at out' ≡ first_line_of o ++ (line_feed ∷ [])
  first_is = p.is ∙ h.is

  pub gathered_first : (words : List ℕ) (count : ℕ) → Gathered at (take at out') words count out' out' at 0
  unfolding joined
  gathered_first words count = record {
    is = sym (append-nil (take at out'));
    after = omega arith;
    place = let l = p.place in let t = text_within line h.within in omega arith;
    some = omega arith;
    rest = refl;
  }
