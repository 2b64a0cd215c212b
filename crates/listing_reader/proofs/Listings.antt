-- A listing tells its first line and its nodes.
use Prim.Native.Nat.{ℕ, zero, suc, ◌+◌, ◌*◌, ◌-◌, ◌/◌, ◌≤◌, ◌<◌}
use mathlib.Core.Path.{◌≡◌, refl, sym, ap, ap₂, ◌∙◌, subst}
use mathlib.Core.Bool.{Bool, true, false, false≢true}
use mathlib.Core.List.{List, [], ◌∷◌, ◌++◌, append-nil}
use lib.ListN.{length, get_or, take, drop, drop_of_length-le}
use lib.Seq.{drop-cons, drop-drop}
use lib.Dec.{ltb}
use native.Mathlib.Omega.{arith}
use borrow.Author.Tests.{ltb-true, ltb-false}
use Rattle.definitions.specs.Listing.{line_feed, space, decimal, ok_word, spent_word, refused_word, at_word, dash, node_line, node_lines}
use Rattle.arena.specs.declared.node.DagNode.{DagNode}
use Rattle.definitions.specs.Says.{Says}
use Rattle.arena.specs.Layout.{node_words, most_nodes, most_children}
use Rattle.arena.specs.Node.{node_at, put}
use Rattle.arena.specs.Nodes.{WellFormed}
use Rattle.arena.proofs.Putting.{put_length, put_new, put_past}
use Rattle.store.specs.View.{plain_node, nodes_in}
use Rattle.listing_lines.specs.declared.SheetOutcome.{SheetOutcome}
use Rattle.listing_lines.specs.declared.SheetOutcome.TheVariants as O
use Rattle.listing_lines.specs.Outcome.{first_line_of}
use Rattle.listing_reader.specs.declared.ListingAnswer.TheVariants.{Read, Refused, Full}
use Rattle.listing_reader.specs.declared.node.ListedNode.{ListedNode}
use Rattle.std.specs.Prelude.{Option, Some, None}
use Rattle.listing_reader.specs.Numbers.{word_end, is_digit}
use Rattle.listing_reader.specs.First.{SmallOutcome, FirstAt, NoFirst}
use Rattle.listing_reader.specs.Line.{LineOf, NoLine, ReadsLine}
use Rattle.listing_reader.specs.Listing.{Begins, AnswerListed, IsListing, Wrong, first, later, missing, OneMore, ListingReading}
use Rattle.listing_reader.proofs.Decimal.{starts_with_digit}
use Rattle.listing_reader.proofs.Words.{feed_ends}
use Rattle.listing_reader.proofs.FirstLines.{word_unique, line_behind, ok_text, spent_text, empty_text, refused_text_lem}
use Rattle.listing_reader.proofs.Memory.{lines_from, lines_are, memory_more, old_nodes, formed_more, wide_more, Run, Longer, longer, left_line, left_some, left_none, line_some, same_words}

-- ---- the first line tells its outcome

line_behind_unique : (word : List ℕ) (n m : ℕ) (r s : List ℕ) → n < word_end → m < word_end → line_behind word n r ≡ line_behind word m s → (n ≡ m) × (r ≡ s)
line_behind_unique word n m r s a b e =
    let u = (word_unique word).same n m (line_feed ∷ r) (line_feed ∷ s) a b (feed_ends r) (feed_ends s) e in
    (u.0, ap (drop 1) u.1)

-- texts that differ in a byte
differ : {a b : List ℕ} (x y : ℕ) → (x ≡ y → ⊥) → get_or a 0 0 ≡ x → get_or b 0 0 ≡ y → a ≡ b → ⊥
differ x y h p q e = h (sym p ∙ ap (λ (l : List ℕ). get_or l 0 0) e ∙ q)

-- a number is no dash
no_dash : (n : ℕ) (r s : List ℕ) → n < word_end → line_behind ok_word n r ≡ (ok_word ++ space ∷ dash ++ line_feed ∷ []) ++ s → ⊥
no_dash n r s h e =
    let d : decimal n ++ (line_feed ∷ r) ≡ 45 ∷ line_feed ∷ s = ap (drop 3) e in
    false≢true (ap (λ (l : List ℕ). is_digit (get_or l 0 0)) (sym d) ∙ starts_with_digit n (line_feed ∷ r) h)

pub first_unique : (o p : SheetOutcome) (r s : List ℕ) → SmallOutcome o → SmallOutcome p → first_line_of o ++ line_feed ∷ r ≡ first_line_of p ++ line_feed ∷ s → (o ≡ p) × (r ≡ s)
first_unique (O.Ok i) (O.Ok j) r s a b e = let u = line_behind_unique ok_word i j r s a b (sym (ok_text i r) ∙ e ∙ ok_text j s) in (ap O.Ok u.0, u.1)
first_unique (O.Ok i) O.Empty r s a b e = absurd (no_dash i r s a (sym (ok_text i r) ∙ e ∙ empty_text s))
first_unique (O.Ok i) (O.Spent j) r s a b e = absurd (differ 111 115 (λ z. omega arith) refl refl (sym (ok_text i r) ∙ e ∙ spent_text j s))
first_unique (O.Ok i) (O.Refused n t) r s a b e = absurd (differ 111 114 (λ z. omega arith) refl refl (sym (ok_text i r) ∙ e ∙ refused_text_lem n t s))
first_unique O.Empty (O.Ok j) r s a b e = absurd (no_dash j s r b (sym (ok_text j s) ∙ sym e ∙ empty_text r))
first_unique O.Empty O.Empty r s a b e = (refl, ap (drop 5) (sym (empty_text r) ∙ e ∙ empty_text s))
first_unique O.Empty (O.Spent j) r s a b e = absurd (differ 111 115 (λ z. omega arith) refl refl (sym (empty_text r) ∙ e ∙ spent_text j s))
first_unique O.Empty (O.Refused n t) r s a b e = absurd (differ 111 114 (λ z. omega arith) refl refl (sym (empty_text r) ∙ e ∙ refused_text_lem n t s))
first_unique (O.Spent i) (O.Ok j) r s a b e = absurd (differ 115 111 (λ z. omega arith) refl refl (sym (spent_text i r) ∙ e ∙ ok_text j s))
first_unique (O.Spent i) O.Empty r s a b e = absurd (differ 115 111 (λ z. omega arith) refl refl (sym (spent_text i r) ∙ e ∙ empty_text s))
first_unique (O.Spent i) (O.Spent j) r s a b e = let u = line_behind_unique spent_word i j r s a b (sym (spent_text i r) ∙ e ∙ spent_text j s) in (ap O.Spent u.0, u.1)
first_unique (O.Spent i) (O.Refused n t) r s a b e = absurd (differ 115 114 (λ z. omega arith) refl refl (sym (spent_text i r) ∙ e ∙ refused_text_lem n t s))
first_unique (O.Refused m q) (O.Ok j) r s a b e = absurd (differ 114 111 (λ z. omega arith) refl refl (sym (refused_text_lem m q r) ∙ e ∙ ok_text j s))
first_unique (O.Refused m q) O.Empty r s a b e = absurd (differ 114 111 (λ z. omega arith) refl refl (sym (refused_text_lem m q r) ∙ e ∙ empty_text s))
first_unique (O.Refused m q) (O.Spent j) r s a b e = absurd (differ 114 115 (λ z. omega arith) refl refl (sym (refused_text_lem m q r) ∙ e ∙ spent_text j s))
first_unique (O.Refused m q) (O.Refused n t) r s a b e =
    let u = (word_unique refused_word).same m n (line_behind (space ∷ at_word) q r) (line_behind (space ∷ at_word) t s) a.0 b.0 (record { ends = refl }) (record { ends = refl }) (sym (refused_text_lem m q r) ∙ e ∙ refused_text_lem n t s) in
    let v = line_behind_unique (space ∷ at_word) q t r s a.1 b.1 u.1 in
    (ap₂ O.Refused u.0 v.0, v.1)

-- ---- whether an outcome's id is that of a node

-- what a test says of an equal outcome
pub listed_as : (o o' : SheetOutcome) (count : ℕ) (r : Bool) → o ≡ o' → Says r (AnswerListed o' count) → Says r (AnswerListed o count)
listed_as o o' count r e s = subst (λ (q : SheetOutcome). Says r (AnswerListed q count)) (sym e) s

pub says_below : (i count : ℕ) → Says (ltb i count) (i < count)
says_below i count = record { yes = ltb-true i count; no = λ e l. let m : count ≤ i = ltb-false i count e in absurd (omega arith) }

-- ---- a listing, and bytes that begin like one

-- the nodes of a listing that the first lines of the same bytes tell
pub record Agrees (w w' : List ℕ) (o o' : SheetOutcome) (c c' : ℕ) (rest : List ℕ) : Type 0 where
  pub outcomes : o ≡ o'
  pub nodes : Longer w w' c c' 0 rest

pub run_of : {bytes : List ℕ} {o : SheetOutcome} {w : List ℕ} {c : ℕ} {rest : List ℕ} → Begins bytes o w c rest → Run w c 0
run_of {w = w} {c = c} b = record {
  each = λ k l.
      let z : k ≡ 0 + k = omega arith in
      (subst (λ (x : ℕ). WellFormed x (node_at w x)) z (b.formed.each k l), subst (λ (x : ℕ). (node_at w x).payload < word_end) z (b.wide k l));
}

agree : {bytes : List ℕ} {o o' : SheetOutcome} {w w' : List ℕ} {c c' : ℕ} {rest : List ℕ} → Begins bytes o w c [] → Begins bytes o' w' c' rest → Agrees w w' o o' c c' rest
agree {bytes} {o} {o'} {w} {w'} {c} {c'} {rest} b b' =
    let u = first_unique o o' (node_lines 0 (nodes_in w c) ++ []) (node_lines 0 (nodes_in w' c') ++ rest) b.small b'.small (sym b.text ∙ b'.text) in
    let e : lines_from w c 0 ≡ lines_from w' c' 0 ++ rest = sym (append-nil (node_lines 0 (nodes_in w c)) ∙ lines_are w c) ∙ u.1 ∙ ap (λ (x : List ℕ). x ++ rest) (lines_are w' c') in
    let m = b.formed.many in
    record { outcomes = u.0; nodes = longer w w' c c' 0 rest (omega arith) (run_of b) (run_of b') e }

-- ---- what an answer says of every listing

-- the same bytes, told twice
read_back : {bytes : List ℕ} {o o' : SheetOutcome} {w w' : List ℕ} {c c' : ℕ} → Begins bytes o w c [] → Begins bytes o' w' c' [] → (o' ≡ o) × ((c' ≡ c) × (take (c * node_words) w' ≡ take (c * node_words) w))
read_back {o = o} {o'} {w} {w'} {c} {c'} b b' =
    let a = agree b b' in
    let z = none_left a.nodes.left a.nodes.rest_is in
    let l : c ≡ c' + a.nodes.left = a.nodes.long in
    let e : c' ≡ c = omega arith in
    let f : c * node_words ≤ length w = b.formed.fits in
    let g : c' * node_words ≤ length w' = b'.formed.fits in
    (sym a.outcomes, (e, same_words w' w c (omega arith) f (λ k l. let y : 0 + k ≡ k = omega arith in sym (subst (λ (x : ℕ). node_at w x ≡ node_at w' x) y (a.nodes.same k (omega arith))))))
  where
    none_left : (j : ℕ) → [] ≡ lines_from w j (0 + c') → j ≡ 0
    none_left zero e = refl
    none_left (suc j) e = absurd (left_some w j (0 + c') e)

-- bytes that go on after some lines, and all of them told
more_nodes : {bytes : List ℕ} {o o' : SheetOutcome} {w w' : List ℕ} {c c' : ℕ} {rest : List ℕ} → Begins bytes o w c [] → Begins bytes o' w' c' rest → (rest ≡ [] → ⊥) → (c' < c) × LineOf rest c' (node_at w c') (lines_from w (c - c' - 1) (suc c'))
more_nodes {w = w} {w'} {c} {c'} {rest} b b' n = go a.left a.long a.rest_is
  where
    a : Longer w w' c c' 0 rest
    a = (agree b b').nodes

    go : (j : ℕ) → c ≡ c' + j → rest ≡ lines_from w j (0 + c') → (c' < c) × LineOf rest c' (node_at w c') (lines_from w (c - c' - 1) (suc c'))
    go zero l e = absurd (n (left_none w (0 + c') rest e))
    go (suc j) l e =
        let y : 0 + c' ≡ c' = omega arith in
        let z : j ≡ c - c' - 1 = omega arith in
        let h : Run w (suc j) c' = record {
          each = λ k m.
              (b.formed.each (c' + k) (omega arith), b.wide (c' + k) (omega arith));
        } in
        (omega arith, subst (λ (x : ℕ). LineOf rest c' (node_at w c') (lines_from w x (suc c'))) z (left_line h (e ∙ ap (lines_from w (suc j)) y)))

no_listing : {bytes words : List ℕ} {line : ℕ} → Wrong bytes words line → (o : SheetOutcome) (w : List ℕ) (c : ℕ) → IsListing bytes o w c → ⊥
no_listing (first h) o w c b = h o (node_lines 0 (nodes_in w c) ++ []) b.begins.small b.begins.text
no_listing (later o' count rest b' n h) o w c b =
    let m = more_nodes b.begins b' n in
    let l : count < c = m.0 in
    let k = b.begins.formed.many in
    h (omega arith) (node_at w count) _ m.1
no_listing (missing o' count b' n) o w c b =
    let r = read_back b.begins b' in
    n (subst (λ (k : ℕ). AnswerListed o' k) (sym r.1.0) (subst (λ (q : SheetOutcome). AnswerListed q c) (sym r.0) b.answer))

-- ---- the answers

module _ (bytes before after : List ℕ) (long : length after ≡ length before) where
  pub reading_read : (o : SheetOutcome) (count : ℕ) → IsListing bytes o after count → drop (count * node_words) after ≡ drop (count * node_words) before → ListingReading bytes before (Read o count) after
  reading_read o count b past = record {
    right = λ p c e. let x : o ≡ p = cc in let y : count ≡ c = cc in subst (λ (k : ℕ). IsListing bytes p after k) y (subst (λ (q : SheetOutcome). IsListing bytes q after count) x b);
    whole = λ p w c l f. let r = read_back l.begins b.begins in (ap₂ Read r.0 r.1.0, r.1.1);
    short = λ p w c l f. absurd (let y : count ≡ c = (read_back l.begins b.begins).1.0 in let g : count * node_words ≤ length after = b.begins.formed.fits in omega arith);
    refused = λ line e. absurd (let z : ◌≡◌ {A = ℕ} 0 1 = cc in omega arith);
    full = λ e. absurd (let z : ◌≡◌ {A = ℕ} 0 1 = cc in omega arith);
    past = past;
    long = long;
  }

  pub reading_refused : (line : ℕ) → Wrong bytes after line → drop ((line - 2) * node_words) after ≡ drop ((line - 2) * node_words) before → ListingReading bytes before (Refused line) after
  reading_refused line w past = record {
    right = λ p c e. absurd (let z : ◌≡◌ {A = ℕ} 0 1 = cc in omega arith);
    whole = λ p words c l f. absurd (no_listing w p words c l);
    short = λ p words c l f. absurd (no_listing w p words c l);
    refused = λ to e. let y : line ≡ to = cc in subst (λ (k : ℕ). Wrong bytes after k) y w;
    full = λ e. absurd (let z : ◌≡◌ {A = ℕ} 0 1 = cc in omega arith);
    past = past;
    long = long;
  }

  pub reading_full : OneMore bytes after (length before / node_words) → drop (length before / node_words * node_words) after ≡ drop (length before / node_words * node_words) before → ListingReading bytes before Full after
  reading_full m past = record {
    right = λ p c e. absurd (let z : ◌≡◌ {A = ℕ} 0 1 = cc in omega arith);
    whole = λ p words c l f. absurd (let k : length before / node_words < c = (more_nodes l.begins m.begins (line_some m.line)).0 in omega arith);
    short = λ p words c l f. refl;
    refused = λ to e. absurd (let z : ◌≡◌ {A = ℕ} 0 1 = cc in omega arith);
    full = λ e. m;
    past = past;
    long = long;
  }

-- ---- line by line

-- so many nodes are read, and the rest stands at a place
pub record LinesRead (bytes : List ℕ) (o : SheetOutcome) (before after : List ℕ) (at count : ℕ) : Type 0 where
  pub begins : Begins bytes o after count (drop at bytes)
  pub past : drop (count * node_words) after ≡ drop (count * node_words) before
  pub long : length after ≡ length before

pub lines_none : {bytes : List ℕ} {o : SheetOutcome} {start : ℕ} (before : List ℕ) → FirstAt bytes o start → LinesRead bytes o before before start 0
unfolding nodes_in node_lines
lines_none before f = record {
  begins = record {
    text = f.text;
    small = f.small;
    formed = record { many = omega arith; fits = omega arith; each = λ i l. absurd (omega arith) };
    wide = λ i l. absurd (omega arith);
  };
  past = refl;
  long = refl;
}

module _ {bytes : List ℕ} {o : SheetOutcome} {before after : List ℕ} {at count : ℕ} (d : LinesRead bytes o before after at count) where
  wrong_next : Wrong bytes after (count + 2) → ListingReading bytes before (Refused (count + 2)) after
  wrong_next w =
      let z : count ≡ count + 2 - 2 = omega arith in
      reading_refused bytes before after d.long (count + 2) w (subst (λ (k : ℕ). drop (k * node_words) after ≡ drop (k * node_words) before) z d.past)

  module _ (l : length bytes ≤ at) {b : Bool} (r : Says b (AnswerListed o count)) where
    all_begin : Begins bytes o after count []
    all_begin = subst (λ (x : List ℕ). Begins bytes o after count x) (drop_of_length-le bytes l) d.begins

    pub lines_over : b ≡ true → ListingReading bytes before (Read o count) after
    lines_over e = reading_read bytes before after d.long o count (record { begins = all_begin; answer = r.yes e }) d.past

    pub line_missing : b ≡ false → ListingReading bytes before (Refused (count + 2)) after
    line_missing e = wrong_next (missing o count all_begin (r.no e))

  module _ (l : at < length bytes) where
    some_left : drop at bytes ≡ [] → ⊥
    some_left e = let z : ◌≡◌ {A = ℕ} 0 1 = cc (drop-cons bytes at 0 l) in omega arith

    wrong : (count < most_nodes → NoLine (drop at bytes) count) → ListingReading bytes before (Refused (count + 2)) after
    wrong h = wrong_next (later o count (drop at bytes) d.begins some_left h)

    pub too_many : count ≡ most_nodes → ListingReading bytes before (Refused (count + 2)) after
    too_many e = wrong (λ m. absurd (omega arith))

    pub wrong_line : {q : Option ListedNode} → ReadsLine bytes at count q → q ≡ None → ListingReading bytes before (Refused (count + 2)) after
    wrong_line r e = wrong (λ m. r.nothing e (omega arith))

    module _ {q : ListedNode} (r : ReadsLine bytes at count (Some q)) where
      pub no_place : (count ≡ most_nodes → ⊥) → length after / node_words ≤ count → ListingReading bytes before Full after
      no_place n m =
          let f : count * node_words ≤ length after = d.begins.formed.fits in
          let g : length after ≡ length before = d.long in
          let z : count ≡ length before / node_words = omega arith in
          let few = d.begins.formed.many in
          reading_full bytes before after g
          (subst (λ (k : ℕ). OneMore bytes after k) z (record { many = omega arith; outcome = o; rest = drop at bytes; node = q.node; after = drop q.next bytes; begins = d.begins; line = r.found q refl }))
          (subst (λ (k : ℕ). drop (k * node_words) after ≡ drop (k * node_words) before) z d.past)

  lines_one : {q : ListedNode} → ReadsLine bytes at count (Some q) → (count ≡ most_nodes → ⊥) → count < length after / node_words → LinesRead bytes o before (put after count q.node) q.next (count + 1)
  lines_one {q} r n m =
      let k = d.begins.formed.many in
      let many : count < most_nodes = omega arith in
      let fits : count * node_words + node_words ≤ length after = omega arith in
      let t : LineOf (drop at bytes) count q.node (drop q.next bytes) = r.found q refl in
      record {
        begins = record {
          text =
              d.begins.text
              ∙ ap (λ (x : List ℕ). first_line_of o ++ line_feed ∷ x)
              (ap₂ (λ (x y : List ℕ). x ++ y)
              (ap (node_lines 0) (sym (old_nodes after count q.node many fits t.four)))
              (t.is ∙ ap (λ (x : DagNode). node_line count (plain_node x) ++ line_feed ∷ drop q.next bytes) (sym (put_new after count q.node fits t.four)))
              ∙ memory_more (put after count q.node) count (drop q.next bytes));
          small = d.begins.small;
          formed = formed_more after count q.node many fits t.four d.begins.formed t.formed;
          wide = wide_more after count q.node many fits t.four d.begins.wide t.wide;
        };
        past = past fits t.four;
        long = put_length after count q.node fits t.four ∙ d.long;
      }
    where
      past : count * node_words + node_words ≤ length after → length q.node.children ≡ most_children → drop ((count + 1) * node_words) (put after count q.node) ≡ drop ((count + 1) * node_words) before
      past fits four =
          let z : (count + 1) * node_words ≡ count * node_words + node_words = omega arith in
          ap (λ (j : ℕ). drop j (put after count q.node)) z
          ∙ put_past after count q.node fits four
          ∙ sym (drop-drop node_words (count * node_words) after)
          ∙ ap (drop node_words) d.past
          ∙ drop-drop node_words (count * node_words) before
          ∙ sym (ap (λ (j : ℕ). drop j before) z)

  pub lines_next : {q : ListedNode} {w : List ℕ} → ReadsLine bytes at count (Some q) → (count ≡ most_nodes → ⊥) → count < length after / node_words → w ≡ put after count q.node → LinesRead bytes o before w q.next (count + 1)
  lines_next {q} r n m p = subst (λ (x : List ℕ). LinesRead bytes o before x q.next (count + 1)) (sym p) (lines_one r n m)

-- no first line
pub no_first : (bytes before : List ℕ) → NoFirst bytes → ListingReading bytes before (Refused 1) before
no_first bytes before h = reading_refused bytes before before refl 1 (first h) refl
