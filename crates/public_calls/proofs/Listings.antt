-- The reader of a listing refuses no listing, and reads the same bytes one way.
use Prim.Native.Nat.{ℕ, ◌+◌, ◌*◌, ◌-◌, ◌/◌, ◌≤◌, ◌<◌}
use mathlib.Core.Path.{◌≡◌, refl, sym, ap, ap₂, subst, ◌∙◌}
use mathlib.Core.List.{List, [], ◌∷◌, ◌++◌}
use lib.ListN.{length, take, drop, take-append-drop}
use native.Mathlib.Omega.{arith}
use native.Mathlib.Decide.{dec_lt}
use Rattle.arena.specs.declared.node.DagNode.{DagNode}
use Rattle.arena.specs.Layout.{node_words, most_nodes}
use Rattle.arena.specs.Node.{node_at}
use Rattle.listing_lines.specs.declared.SheetOutcome.{SheetOutcome}
use Rattle.listing_reader.specs.declared.ListingAnswer.{ListingAnswer}
use Rattle.listing_reader.specs.declared.ListingAnswer.TheVariants.{Read, Refused, Full}
use Rattle.listing_reader.specs.First.{NoFirst}
use Rattle.listing_reader.specs.Line.{LineOf, NoLine}
use Rattle.listing_reader.specs.Listing.{Begins, AnswerListed, IsListing, Wrong, first, later, missing, OneMore, written, ListingReading}
use Rattle.listing_reader.proofs.Memory.{lines_from, line_some, same_words}
use Rattle.public_calls.specs.Listings.{ReaderRefuses, ReadersRefuse, ReadsListingOneWay}
use Rattle.public_calls.proofs.Beginnings.{StartOf, one_outcome, starts, next_line}

-- ---- what is refused

wrong_first : {bytes words : List ℕ} {line : ℕ} → Wrong bytes words line → 1 ≤ line
wrong_first (first h) = omega arith
wrong_first (later o count rest b n h) = omega arith
wrong_first (missing o count b n) = omega arith

wrong_last : {bytes words : List ℕ} {line : ℕ} → Wrong bytes words line → line ≤ most_nodes + 2
wrong_last (first h) = omega arith
wrong_last (later o count rest b n h) = let m = b.formed.many in omega arith
wrong_last (missing o count b n) = let m = b.formed.many in omega arith

pub readers_refuse : ReadersRefuse
readers_refuse bytes before after r h = record {
  no_listing = λ o words count line l e. listed o words count line l e (dec_lt (length before) (count * node_words));
  first_line = λ line e. wrong_first (h.refused line e);
  last_line = λ line e. wrong_last (h.refused line e);
  no_place = λ e. let m = (h.full e).many in omega arith;
}
  where
    listed : (o : SheetOutcome) (words : List ℕ) (count line : ℕ) → IsListing bytes o words count → r ≡ Refused line → Dec (length before < count * node_words) → ⊥
    listed o words count line l e (yes s) = let q : Refused line ≡ Full = sym e ∙ h.short o words count l s in let z : ◌≡◌ {A = ℕ} 0 1 = cc in omega arith
    listed o words count line l e (no n) = let q : Refused line ≡ Read o count = sym e ∙ (h.whole o words count l (omega arith)).0 in let z : ◌≡◌ {A = ℕ} 0 1 = cc in omega arith

-- ---- where a reading ends

-- why it goes no further, after so many nodes, with `rest` before it and places for `lent` nodes
data Ending (o : SheetOutcome) (count : ℕ) (rest : List ℕ) (lent : ℕ) : ListingAnswer → Type 0 where
  whole : rest ≡ [] → AnswerListed o count → Ending o count rest lent (Read o count)
  wrong : (rest ≡ [] → ⊥) → (count < most_nodes → NoLine rest count) → Ending o count rest lent (Refused (count + 2))
  cut_short : rest ≡ [] → (AnswerListed o count → ⊥) → Ending o count rest lent (Refused (count + 2))
  no_place_left : count ≡ lent → count < most_nodes → (n : DagNode) (more : List ℕ) → LineOf rest count n more → Ending o count rest lent Full

-- a reading, by its end
data Told (bytes after : List ℕ) (lent : ℕ) (r : ListingAnswer) : Type 0 where
  no_first : NoFirst bytes → r ≡ Refused 1 → Told bytes after lent r
  lines : (o : SheetOutcome) (count : ℕ) (rest : List ℕ) → Begins bytes o after count rest → count ≤ lent → Ending o count rest lent r → Told bytes after lent r

module _ (bytes before after : List ℕ) (r : ListingAnswer) (h : ListingReading bytes before r after) where
  abbrev places : ℕ
  places = length before / node_words

  -- there is a place for each node that was read
  room : {o : SheetOutcome} {count : ℕ} {rest : List ℕ} → Begins bytes o after count rest → count ≤ places
  room b =
      let f = b.formed.fits in
      let l = h.long in
      omega arith

  by_wrong : (line : ℕ) → Wrong bytes after line → Told bytes after places (Refused line)
  by_wrong line (first n) = no_first n refl
  by_wrong line (later o count rest b n l) = lines o count rest b (room b) (wrong n l)
  by_wrong line (missing o count b n) = lines o count [] b (room b) (cut_short refl n)

  by_answer : (a : ListingAnswer) → r ≡ a → Told bytes after places a
  by_answer (Read o count) e = let l = h.right o count e in lines o count [] l.begins (room l.begins) (whole refl l.answer)
  by_answer (Refused line) e = by_wrong line (h.refused line e)
  by_answer Full e =
      let m = h.full e in
      lines m.outcome places m.rest m.begins (room m.begins) (no_place_left refl m.many m.node m.after m.line)

  told : Told bytes after places r
  told = by_answer r refl

-- where a reading ends, no line with a place for its node stands
no_next : {o : SheetOutcome} {count : ℕ} {rest : List ℕ} {lent : ℕ} {r : ListingAnswer} → Ending o count rest lent r → (n : DagNode) (more : List ℕ) → LineOf rest count n more → count < lent → count < most_nodes → ⊥
no_next (whole e a) n more l p q = line_some l e
no_next (wrong u f) n more l p q = f q n more l
no_next (cut_short e u) n more l p q = line_some l e
no_next (no_place_left e m k other t) n more l p q = omega arith

-- one end has one answer
one_answer : {o : SheetOutcome} {count : ℕ} {rest : List ℕ} {lent : ℕ} {r r' : ListingAnswer} → Ending o count rest lent r → Ending o count rest lent r' → r ≡ r'
one_answer (whole e a) (whole f b) = refl
one_answer (whole e a) (wrong n f) = absurd (n e)
one_answer (whole e a) (cut_short f n) = absurd (n a)
one_answer (whole e a) (no_place_left f m k more t) = absurd (line_some t e)
one_answer (wrong n f) (whole e a) = absurd (n e)
one_answer (wrong n f) (wrong m g) = refl
one_answer (wrong n f) (cut_short g m) = refl
one_answer (wrong n f) (no_place_left g m k more t) = absurd (f m k more t)
one_answer (cut_short e n) (whole f a) = absurd (n a)
one_answer (cut_short e n) (wrong m f) = refl
one_answer (cut_short e n) (cut_short f m) = refl
one_answer (cut_short e n) (no_place_left f m k more t) = absurd (line_some t e)
one_answer (no_place_left e m k more t) (whole f a) = absurd (line_some t f)
one_answer (no_place_left e m k more t) (wrong n f) = absurd (f m k more t)
one_answer (no_place_left e m k more t) (cut_short f n) = absurd (line_some t f)
one_answer (no_place_left e m k more t) (no_place_left f n j other u) = refl

-- as many nodes are written
nodes_written : {o : SheetOutcome} {count : ℕ} {rest : List ℕ} {lent : ℕ} {r : ListingAnswer} → Ending o count rest lent r → written lent r ≡ count
nodes_written (whole e a) = refl
nodes_written (wrong n f) = omega arith
nodes_written (cut_short e n) = omega arith
nodes_written (no_place_left e m k more t) = sym e

-- ---- two readings of the same bytes

module _ (bytes before after after' : List ℕ) (r r' : ListingAnswer) (h : ListingReading bytes before r after) (h' : ListingReading bytes before r' after') where
  abbrev lent : ℕ
  lent = length before / node_words

  -- without a first line nothing is written
  untouched : (a : List ℕ) (x : ListingAnswer) → ListingReading bytes before x a → x ≡ Refused 1 → a ≡ before
  untouched a x k e = subst (λ (y : ListingAnswer). drop (written lent y * node_words) a ≡ drop (written lent y * node_words) before) e k.past

  -- neither goes further than the other
  not_further : {o o' : SheetOutcome} {c c' : ℕ} {rest rest' : List ℕ} {w w' : List ℕ} {x : ListingAnswer} → Begins bytes o w c rest → Begins bytes o' w' c' rest' → c' ≤ lent → Ending o c rest lent x → c' ≤ c
  not_further {c = c} {c'} b b' l e = by (dec_lt c c')
    where
      by : Dec (c < c') → c' ≤ c
      by (yes p) = let m = b'.formed.many in let t = next_line b b' p in absurd (no_next e _ t.0 t.1 (omega arith) (omega arith))
      by (no n) = omega arith

  -- the same nodes before, and the same words past them
  same_after : (count : ℕ) → count * node_words ≤ length after → count * node_words ≤ length after' → ((k : ℕ) → k < count → node_at after k ≡ node_at after' k)
      → written lent r ≡ count → written lent r' ≡ count → after ≡ after'
  same_after count f g s p q =
      let front : take (count * node_words) after ≡ take (count * node_words) after' = same_words after after' count f g s in
      let past : drop (count * node_words) after ≡ drop (count * node_words) before = subst (λ (k : ℕ). drop (k * node_words) after ≡ drop (k * node_words) before) p h.past in
      let past' : drop (count * node_words) after' ≡ drop (count * node_words) before = subst (λ (k : ℕ). drop (k * node_words) after' ≡ drop (k * node_words) before) q h'.past in
      sym (take-append-drop (count * node_words) after) ∙ ap₂ (λ (x y : List ℕ). x ++ y) front (past ∙ sym past') ∙ take-append-drop (count * node_words) after'

  both : Told bytes after lent r → Told bytes after' lent r' → (r ≡ r') × (after ≡ after')
  unfolding lines_from
  both (no_first n e) (no_first m f) = (e ∙ sym f, untouched after r h e ∙ sym (untouched after' r' h' f))
  both (no_first n e) (lines o c rest b l x) = absurd (n o _ b.small b.text)
  both (lines o c rest b l x) (no_first n e) = absurd (n o _ b.small b.text)
  both (lines o c rest b l x) (lines o' c' rest' b' l' x') =
      let p : c' ≤ c = not_further b b' l' x in
      let q : c ≤ c' = not_further b' b l x' in
      let same : c ≡ c' = omega arith in
      let s = starts b b' q in
      let z : c' - c ≡ 0 = omega arith in
      let rests : rest ≡ rest' = s.rest_is ∙ nothing_left z in
      let y : Ending o c rest lent r' =
      subst (λ (k : ℕ). Ending o k rest lent r') (sym same) (subst (λ (t : List ℕ). Ending o c' t lent r') (sym rests) (subst (λ (k : SheetOutcome). Ending k c' rest' lent r') (sym (one_outcome b b')) x')) in
      let f = b.formed.fits in
      let g : c * node_words ≤ length after' = subst (λ (k : ℕ). k * node_words ≤ length after') (sym same) b'.formed.fits in
      (one_answer x y, same_after c f g (λ k m. let i : 0 + k ≡ k = omega arith in subst (λ (j : ℕ). node_at after j ≡ node_at after' j) i (s.same k m)) (nodes_written x) (nodes_written y))
    where
      nothing_left : c' - c ≡ 0 → lines_from after' (c' - c) (0 + c) ++ rest' ≡ rest'
      nothing_left z = ap (λ (k : ℕ). lines_from after' k (0 + c) ++ rest') z

pub reads_listing_one_way : ReadsListingOneWay
reads_listing_one_way bytes before after after' r r' h h' = both bytes before after after' r r' h h' (told bytes before after r h) (told bytes before after' r' h')
