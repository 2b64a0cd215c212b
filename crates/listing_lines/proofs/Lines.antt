-- Lines that grow, and the listing by lines.
use Prim.Native.Nat.{ℕ, suc, ◌+◌, ◌*◌, ◌-◌, ◌≤◌, ◌<◌}
use mathlib.Core.Path.{◌≡◌, refl, sym, ap, ap₂, ◌∙◌, subst}
use mathlib.Core.Bool.{true, false}
use mathlib.Core.Option.{Option, none, some}
use mathlib.Core.List.{List, [], ◌∷◌, ◌++◌, append_assoc, append-nil}
use lib.ListN.{length, get_or, take, drop, length-drop, length-append}
use lib.Seq.{take-suc, take_all, take-length, drop-drop, get_or_at}
use lib.Dec.{lit≤}
use native.Mathlib.Omega.{arith}
use native.Mathlib.Numerals.{add-one}
use Rattle.std.proofs.lemmas.Slice.{take-put_mid, drop-put_mid}
use borrow.Rule.Slice.PartMut.{put_mid}
use Rattle.definitions.specs.Limits.{most_children}
use Rattle.definitions.specs.Node.{Node, at, blank}
use Rattle.definitions.specs.Machine.{Answer, stored, simplified, pruned, refused}
use Rattle.definitions.specs.Sheet.{Ran}
use Rattle.definitions.specs.Listing.{space, line_feed, decimal, hex, ok_word, spent_word, refused_word, at_word, dash, all_flags, last_of, answered, first_line, children_part, node_line, node_lines, listing}
use Rattle.store.specs.View.{nodes_in}
use Rattle.store.proofs.Viewing.{plain_length}
use Rattle.listing_lines.specs.declared.line.Line.{Line}
use Rattle.listing_lines.specs.declared.SheetOutcome.{SheetOutcome}
use Rattle.listing_lines.specs.declared.SheetOutcome.TheVariants.{Ok, Spent, Refused, Empty}
use Rattle.listing_lines.specs.Line.{line_bytes, most_digits, number_bytes, children_bytes, text, EmptyLine, ExtendsLine, Holds}
use Rattle.listing_lines.specs.Outcome.{answered_as, outcome_of, first_line_of, line_of, joined, all_lines}

-- ---- a text copied into an array

-- what stays from a place on stays from every later one
pub later_rest : (m n : ℕ) (a b : List ℕ) → m ≤ n → drop m a ≡ drop m b → drop n a ≡ drop n b
later_rest m n a b h e =
    let s : m + (n - m) ≡ n = omega arith in
    sym (ap (λ (k : ℕ). drop k a) s) ∙ sym (drop-drop (n - m) m a) ∙ ap (drop (n - m)) e ∙ drop-drop (n - m) m b ∙ ap (λ (k : ℕ). drop k b) s

module _ (before more : List ℕ) (start n : ℕ) (bytes : List ℕ) (e : bytes ≡ more) (k : n ≡ length more) (fits : start + length more ≤ length before) where
  pub copied_text : take (start + length more) (put_mid start n before bytes) ≡ take start before ++ more
  copied_text = take-put_mid start n before bytes (start + length more) (rw e refl) (omega arith) ∙ ap (λ (x : List ℕ). take start before ++ x) e

  pub copied_rest : drop (start + length more) (put_mid start n before bytes) ≡ drop (start + length more) before
  copied_rest = drop-put_mid start n before bytes (start + length more) (omega arith) (omega arith) (ap length e ∙ sym k)

-- ---- text after text
pub extends_trans : {a b c : Line} {x y : List ℕ} {m n : ℕ} → ExtendsLine a x m b → ExtendsLine b y n c → ExtendsLine a (x ++ y) (m + n) c
extends_trans {a} {b} {c} {x} {y} p q = record {
  is = q.is ∙ ap (λ (t : List ℕ). t ++ y) p.is ∙ append_assoc (text a) x y;
  longer = let h = p.longer in let k = q.longer in omega arith;
  long = let h = p.long in let k = q.long in omega arith;
  rest = q.rest ∙ later_rest b.length c.length b.bytes a.bytes q.longer p.rest;
}

-- text that is the end of an array of 20 bytes
pub extends_part : {a b : Line} (bytes : List ℕ) (f : ℕ) → length bytes ≡ 20 → ExtendsLine a (take (20 - f) (drop f bytes)) (length (take (20 - f) (drop f bytes))) b → ExtendsLine a (drop f bytes) 20 b
extends_part {a} {b} bytes f l p =
    let d : length (drop f bytes) ≡ length bytes - f = length-drop f bytes in
    let e : take (20 - f) (drop f bytes) ≡ drop f bytes = take_all (20 - f) (drop f bytes) (omega arith) in
    let m : length (take (20 - f) (drop f bytes)) ≡ length (drop f bytes) = ap length e in
    let h = p.long in
    record { is = p.is ∙ ap (λ (t : List ℕ). text a ++ t) e; longer = p.longer; long = omega arith; rest = p.rest }

pub extends_more : {a b : Line} {x : List ℕ} {m : ℕ} (n : ℕ) → m ≤ n → ExtendsLine a x m b → ExtendsLine a x n b
extends_more n h p = record { is = p.is; longer = p.longer; long = let l = p.long in omega arith; rest = p.rest }

pub extends_as : {a b : Line} {m : ℕ} (x y : List ℕ) → x ≡ y → ExtendsLine a x m b → ExtendsLine a y m b
extends_as {a} {b} {m} x y e p = subst (λ (t : List ℕ). ExtendsLine a t m b) e p

pub from_empty : {a b : Line} {x : List ℕ} {m : ℕ} → EmptyLine a → ExtendsLine a x m b → m ≤ line_bytes → Holds x b
from_empty {a} {b} {x} e p l =
    let z = e.long in
    let h = p.long in
    record {
      is = p.is ∙ ap (λ (k : ℕ). take k a.bytes ++ x) z;
      within = omega arith;
      rest = p.rest ∙ ap (drop b.length) e.zeros;
    }

-- ---- children, one at a time

-- so many children of a node written behind a line
pub record Listed (base : Line) (children : List ℕ) (r : Line) (place : ℕ) : Type 0 where
  pub within : place ≤ length children
  pub few : length children ≤ most_children
  pub extends : ExtendsLine base (children_part (take place children)) (place * number_bytes) r

children_snoc : (l : List ℕ) (c : ℕ) → children_part (l ++ (c ∷ [])) ≡ children_part l ++ (space ∷ decimal c)
unfolding children_part
children_snoc [] c = append-nil (space ∷ decimal c)
children_snoc (d ∷ l) c = ap (λ (t : List ℕ). space ∷ (decimal d ++ t)) (children_snoc l c) ∙ sym (append_assoc (space ∷ decimal d) (children_part l) (space ∷ decimal c))

pub listed_none : (base : Line) (children : List ℕ) → length children ≤ most_children → Listed base children base 0
unfolding children_part
listed_none base children h = record { within = omega arith; few = h; extends = record { is = sym (append-nil (text base)); longer = omega arith; long = omega arith; rest = refl } }

module _ (base : Line) (children : List ℕ) (r : Line) (place : ℕ) (d : Listed base children r place) where
  pub listed_more : place < length children → (n : ℕ) → n ≡ get_or children place 0 → (r' : Line) → ExtendsLine r (space ∷ decimal n) number_bytes r' → Listed base children r' (place + 1)
  listed_more l n e r' p = record {
    within = omega arith;
    few = d.few;
    extends =
        let t : ExtendsLine base (children_part (take place children) ++ (space ∷ decimal n)) (place * number_bytes + number_bytes) r' = extends_trans d.extends p in
        let h = t.long in
        let one : take (place + 1) children ≡ take place children ++ (n ∷ []) = ap (λ (k : ℕ). take k children) (add-one place) ∙ take-suc children place 0 l ∙ ap (λ (x : ℕ). take place children ++ (x ∷ [])) (sym e) in
        record {
          is = t.is ∙ ap (λ (x : List ℕ). text base ++ x) (sym (ap children_part one ∙ children_snoc (take place children) n));
          longer = t.longer;
          long = omega arith;
          rest = t.rest;
        };
  }

  pub listed_all : place ≡ length children → ExtendsLine base (children_part children) children_bytes r
  listed_all e =
      let few : length children ≤ most_children = d.few in
      let h : r.length ≤ base.length + place * number_bytes = d.extends.long in
      record {
        is = d.extends.is ∙ ap (λ (x : List ℕ). text base ++ children_part x) (ap (λ (k : ℕ). take k children) e ∙ take-length children);
        longer = d.extends.longer;
        long = omega arith;
        rest = d.extends.rest;
      }

-- ---- whole lines

pub same_outcome : {o o' : SheetOutcome} {r : Line} → o' ≡ o → Holds (first_line_of o ++ (line_feed ∷ [])) r → Holds (first_line_of o' ++ (line_feed ∷ [])) r
same_outcome {r = r} e h = subst (λ (o : SheetOutcome). Holds (first_line_of o ++ (line_feed ∷ [])) r) (sym e) h

module _ {a b c d : Line} (i : ℕ) (e : EmptyLine a) (q : ExtendsLine b (space ∷ decimal i) number_bytes c) (r : ExtendsLine c (line_feed ∷ []) 1 d) where
  pub ok_line : ExtendsLine a ok_word 2 b → Holds (first_line_of (Ok i) ++ (line_feed ∷ [])) d
  unfolding first_line_of first_line answered
  ok_line p = from_empty e (extends_trans (extends_trans p q) r) (lit≤ tt)

  pub spent_line : ExtendsLine a spent_word 5 b → Holds (first_line_of (Spent i) ++ (line_feed ∷ [])) d
  unfolding first_line_of first_line answered
  spent_line p = from_empty e (extends_trans (extends_trans p q) r) (lit≤ tt)

pub empty_line : {a b : Line} → EmptyLine a → ExtendsLine a (ok_word ++ space ∷ dash ++ line_feed ∷ []) 5 b → Holds (first_line_of Empty ++ (line_feed ∷ [])) b
unfolding first_line_of first_line
empty_line e p = from_empty e p (lit≤ tt)

pub refused_line : {a b c d f g : Line} (number at : ℕ) → EmptyLine a → ExtendsLine a refused_word 7 b → ExtendsLine b (space ∷ decimal number) number_bytes c → ExtendsLine c (space ∷ at_word) 3 d → ExtendsLine d (space ∷ decimal at) number_bytes f → ExtendsLine f (line_feed ∷ []) 1 g → Holds (first_line_of (Refused number at) ++ (line_feed ∷ [])) g
unfolding first_line_of first_line
refused_line number at e p q r s t = from_empty e (extends_trans (extends_trans (extends_trans (extends_trans p q) r) s) t) (lit≤ tt)

-- "id, kind, payload in 16 capital hex digits, flags, children; one space between"
pub node_line_lem : {a b c d f g h : Line} (i k p l : ℕ) (n : Node) → EmptyLine a → ExtendsLine a (decimal i) most_digits b → ExtendsLine b (space ∷ decimal k) number_bytes c → ExtendsLine c (space ∷ hex p) number_bytes d → ExtendsLine d (space ∷ decimal l) number_bytes f → ExtendsLine f (children_part n.children) children_bytes g → ExtendsLine g (line_feed ∷ []) 1 h → k ≡ n.kind → p ≡ n.payload → l ≡ all_flags n → Holds (node_line i n ++ (line_feed ∷ [])) h
unfolding node_line
node_line_lem i k p l n e id kind payload flags children feed ek ep el =
    let kind' = extends_as _ _ (ap (λ (v : ℕ). space ∷ decimal v) ek) kind in
    let payload' = extends_as _ _ (ap (λ (v : ℕ). space ∷ hex v) ep) payload in
    let flags' = extends_as _ _ (ap (λ (v : ℕ). space ∷ decimal v) el) flags in
    from_empty e (extends_trans (extends_trans (extends_trans (extends_trans (extends_trans id kind') payload') flags') children) feed) (lit≤ tt)

-- ---- the listing by lines

-- an outcome has 01's first line
pub first_line_is : (r : Option (ℕ × ℕ)) (al : List Answer) → first_line_of (outcome_of r al) ≡ first_line r al
unfolding first_line_of first_line
first_line_is (some r) al = refl
first_line_is none [] = refl
first_line_is none (a ∷ al) = go (last_of a al)
  where
    go : (b : Answer) → first_line_of (answered_as b) ≡ answered b
    go (stored i) = refl
    go (simplified i false steps) = refl
    go (simplified i true steps) = refl
    go (pruned i kept dropped) = refl
    go (refused k) = refl

lines_from : (done ns : List Node) → node_lines (length done) ns ≡ joined (line_of (done ++ ns)) (length ns) (length done)
unfolding node_lines joined
lines_from done [] = refl
lines_from done (n ∷ ns) =
    sym
    (ap (λ (m : Node). (node_line (length done) m ++ (line_feed ∷ [])) ++ joined (line_of (done ++ n ∷ ns)) (length ns) (suc (length done))) (get_or_at done n ns blank (length done) refl)
    ∙ append_assoc (node_line (length done) n) (line_feed ∷ []) (joined (line_of (done ++ n ∷ ns)) (length ns) (suc (length done)))
    ∙ ap (λ (x : List ℕ). node_line (length done) n ++ line_feed ∷ x) (sym (rest (lines_from (done ++ n ∷ []) ns))))
  where
    longer : length (done ++ n ∷ []) ≡ suc (length done)
    longer = length-append done (n ∷ []) ∙ omega arith

    rest : node_lines (length (done ++ n ∷ [])) ns ≡ joined (line_of ((done ++ n ∷ []) ++ ns)) (length ns) (length (done ++ n ∷ [])) → node_lines (suc (length done)) ns ≡ joined (line_of (done ++ n ∷ ns)) (length ns) (suc (length done))
    rest h =
        subst (λ (k : ℕ). node_lines k ns ≡ joined (line_of (done ++ n ∷ ns)) (length ns) k) longer
        (subst (λ (l : List Node). node_lines (length (done ++ n ∷ [])) ns ≡ joined (line_of l) (length ns) (length (done ++ n ∷ []))) (append_assoc done (n ∷ []) ns) h)

-- The first line and then the lines of ids 0 up to the count, joined, are 01's listing.
listing_by_lines : (r : Ran) → (first_line_of (outcome_of r.refusal r.answers) ++ (line_feed ∷ [])) ++ joined (line_of r.left.nodes) (length r.left.nodes) 0 ≡ listing r
unfolding listing
listing_by_lines r =
    append_assoc (first_line_of (outcome_of r.refusal r.answers)) (line_feed ∷ []) (joined (line_of r.left.nodes) (length r.left.nodes) 0)
    ∙ ap₂ (λ (x y : List ℕ). x ++ line_feed ∷ y) (first_line_is r.refusal r.answers) (sym (lines_from [] r.left.nodes))

-- The same of the nodes in memory.
pub listing_of_memory : (o : SheetOutcome) (words : List ℕ) (count : ℕ) (r : Ran) → o ≡ outcome_of r.refusal r.answers → nodes_in words count ≡ r.left.nodes → all_lines o words count ≡ listing r
listing_of_memory o words count r f e =
    ap (λ (x : SheetOutcome). all_lines x words count) f
    ∙ ap₂ (λ (ns : List Node) (n : ℕ). (first_line_of (outcome_of r.refusal r.answers) ++ (line_feed ∷ [])) ++ joined (line_of ns) n 0) e (sym (plain_length words count) ∙ ap length e)
    ∙ listing_by_lines r
