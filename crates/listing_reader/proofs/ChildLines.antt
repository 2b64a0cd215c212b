-- The children of a node's line, one at a time, and the line's end.
use Prim.Native.Nat.{ℕ, suc, ◌+◌, ◌≤◌, ◌<◌}
use mathlib.Core.Path.{◌≡◌, refl, sym, ap, ap₂, ◌∙◌, subst}
use mathlib.Core.Bool.{Bool, true, false}
use mathlib.Core.List.{List, [], ◌∷◌, ◌++◌, append_assoc}
use lib.ListN.{length, get_or, take, drop, set, replicate, length-append, length-set}
use lib.Seq.{take-suc-set, length-take-le, get_or_at, get_or-set_same, get_or-set_other}
use native.Mathlib.Omega.{arith}
use native.Mathlib.Numerals.{add-one}
use lib.Dec.{eqb}
use borrow.Author.Tests.{eqb-true, eqb-false}
use Rattle.definitions.specs.Listing.{space, line_feed, decimal, children_part}
use Rattle.arena.specs.Layout.{most_children}
use Rattle.store.proofs.Fitting.{no_children}
use Rattle.std.specs.Prelude.{Option, Some, None}
use Rattle.listing_reader.specs.declared.number.NumberRead.{NumberRead}
use Rattle.listing_reader.specs.Numbers.{number_read}
use Rattle.listing_reader.specs.declared.node.Children.{Children}
use Rattle.listing_reader.specs.Numbers.{word_end, EndsDigits, Spelled, ReadsNumber}
use Rattle.listing_reader.specs.Line.{ReadsEnd, PlacedChildren, ReadsChildren}
use Rattle.listing_reader.proofs.Bytes.{byte_then, first_byte}
use Rattle.listing_reader.proofs.Found.{only}
use Rattle.listing_reader.proofs.FirstLines.{spaced_unique}

-- ---- the text

pub children_end_digits : (cs rest : List ℕ) → EndsDigits (children_part cs ++ line_feed ∷ rest)
unfolding children_part
children_end_digits [] rest = record { ends = refl }
children_end_digits (c ∷ cs) rest = record { ends = refl }

children_cons : (c : ℕ) (cs rest : List ℕ) → children_part (c ∷ cs) ++ rest ≡ space ∷ (decimal c ++ (children_part cs ++ rest))
unfolding children_part
children_cons c cs rest = ap (λ (x : List ℕ). space ∷ x) (append_assoc (decimal c) (children_part cs) rest)

children_none : (rest : List ℕ) → children_part [] ++ rest ≡ rest
unfolding children_part
children_none rest = refl

children_then : (cs : List ℕ) (c : ℕ) (rest : List ℕ) → children_part cs ++ (space ∷ (decimal c ++ rest)) ≡ children_part (cs ++ (c ∷ [])) ++ rest
children_then [] c rest = children_none _ ∙ sym (children_cons c [] rest ∙ ap (λ (x : List ℕ). space ∷ (decimal c ++ x)) (children_none rest))
children_then (d ∷ cs) c rest =
    children_cons d cs (space ∷ (decimal c ++ rest))
    ∙ ap (λ (x : List ℕ). space ∷ (decimal d ++ x)) (children_then cs c rest)
    ∙ sym (children_cons d (cs ++ (c ∷ [])) rest)

-- a space is no line feed
pub feed_no_space : (a b : List ℕ) → line_feed ∷ a ≡ space ∷ b → ⊥
feed_no_space a b e = let z : ◌≡◌ {A = ℕ} 10 32 = ap (λ (x : List ℕ). get_or x 0 0) e in omega arith

-- the children tell themselves
pub children_unique : (cs ds r s : List ℕ) → ((j : ℕ) → get_or cs j 0 < word_end) → ((j : ℕ) → get_or ds j 0 < word_end) → children_part cs ++ line_feed ∷ r ≡ children_part ds ++ line_feed ∷ s → (cs ≡ ds) × (r ≡ s)
children_unique [] [] r s a b e = (refl, ap (drop 1) (sym (children_none (line_feed ∷ r)) ∙ e ∙ children_none (line_feed ∷ s)))
children_unique [] (d ∷ ds) r s a b e = absurd (feed_no_space _ _ (sym (children_none (line_feed ∷ r)) ∙ e ∙ children_cons d ds (line_feed ∷ s)))
children_unique (c ∷ cs) [] r s a b e = absurd (feed_no_space _ _ (sym (sym (children_cons c cs (line_feed ∷ r)) ∙ e ∙ children_none (line_feed ∷ s))))
children_unique (c ∷ cs) (d ∷ ds) r s a b e =
    let u = spaced_unique.same c d (children_part cs ++ line_feed ∷ r) (children_part ds ++ line_feed ∷ s) (a 0) (b 0) (children_end_digits cs r) (children_end_digits ds s) (sym (children_cons c cs (line_feed ∷ r)) ∙ e ∙ children_cons d ds (line_feed ∷ s)) in
    let p : c ≡ d = u.0 in
    let v = children_unique cs ds r s (λ j. a (suc j)) (λ j. b (suc j)) u.1 in
    let q : cs ≡ ds = v.0 in
    (ap₂ (λ (x : ℕ) (y : List ℕ). x ∷ y) p q, v.1)

-- ---- read one at a time

-- children of a text that go on after those that were read
pub record GoesOn (bytes : List ℕ) (next : ℕ) (done cs rest : List ℕ) : Type 0 where
  pub more : List ℕ
  pub is : cs ≡ done ++ more
  pub text : drop next bytes ≡ children_part more ++ line_feed ∷ rest

-- the children between two places are read, and are the first of any that stand there
pub record ChildrenRead (bytes : List ℕ) (at : ℕ) (places : List ℕ) (count next : ℕ) : Type 0 where
  pub placed : PlacedChildren places count
  pub text : drop at bytes ≡ children_part (take count places) ++ drop next bytes
  pub first : (cs rest : List ℕ) → ((j : ℕ) → get_or cs j 0 < word_end) → drop at bytes ≡ children_part cs ++ line_feed ∷ rest → GoesOn bytes next (take count places) cs rest

pub none_read : (bytes : List ℕ) (at : ℕ) → ChildrenRead bytes at (replicate most_children 0) 0 at
unfolding children_part
none_read bytes at = record {
  placed = record { four = refl; few = omega arith; unused = λ j l. no_children j; small = λ j. let z = no_children j in omega arith };
  text = refl;
  first = λ cs rest h e. record { more = cs; is = refl; text = e };
}

-- the line's end, or another byte
module _ {bytes : List ℕ} {at count : ℕ} {places : List ℕ} {b : ℕ} (e : b ≡ get_or bytes at 0) where
  pub no_end : (b ≡ line_feed → ⊥) → ReadsEnd bytes at count places None
  no_end h = record {
    text = λ x q. absurd (let z : ◌≡◌ {A = ℕ} 0 1 = cc in omega arith);
    counted = λ x q. absurd (let z : ◌≡◌ {A = ℕ} 0 1 = cc in omega arith);
    placed = λ x q. absurd (let z : ◌≡◌ {A = ℕ} 0 1 = cc in omega arith);
    nothing = λ q rest p. h (e ∙ first_byte bytes at line_feed rest p);
  }

  pub end_found : b ≡ line_feed → ReadsEnd bytes at count places (Some (record { count = count; places = places; next = at + 1 }))
  end_found h = record {
    text = λ x q. byte_then bytes at line_feed (omega arith) (sym e ∙ h) ∙ ap (λ (y : Children). line_feed ∷ drop y.next bytes) (same x q);
    counted = λ x q. sym (ap (λ (y : Children). y.count) (same x q));
    placed = λ x q. sym (ap (λ (y : Children). y.places) (same x q));
    nothing = λ q. absurd (let z : ◌≡◌ {A = ℕ} 0 1 = cc in omega arith);
  }
    where
      same : (x : Children) → Some (record { count = count; places = places; next = at + 1 }) ≡ Some x → record { count = count; places = places; next = at + 1 } ≡ x
      same x q = cc

module _ {bytes : List ℕ} {at : ℕ} {places : List ℕ} {count next : ℕ} (c : ChildrenRead bytes at places count next) where
  done_long : length (take count places) ≡ count
  done_long = let f = c.placed.four in let l = c.placed.few in length-take-le count places (omega arith)

  module _ {r : Option NumberRead} (d : ReadsNumber (λ n rest. space ∷ (decimal n ++ rest)) EndsDigits bytes next r) {v to : ℕ} (e : r ≡ Some (number_read v to)) (l : count < most_children) where
    s : Spelled (λ n rest. space ∷ (decimal n ++ rest)) EndsDigits bytes next v to
    s = d.found v to e

    one_taken : take (count + 1) (set places count v) ≡ take count places ++ (v ∷ [])
    one_taken = ap (λ (k : ℕ). take k (set places count v)) (add-one count) ∙ take-suc-set places count v (let f = c.placed.four in omega arith)

    goes_further : (cs rest : List ℕ) → ((j : ℕ) → get_or cs j 0 < word_end) → GoesOn bytes next (take count places) cs rest → GoesOn bytes to (take (count + 1) (set places count v)) cs rest
    goes_further cs rest h g = go g.more g.is g.text
      where
        go : (more : List ℕ) → cs ≡ take count places ++ more → drop next bytes ≡ children_part more ++ line_feed ∷ rest → GoesOn bytes to (take (count + 1) (set places count v)) cs rest
        go [] p q = absurd (feed_no_space _ _ (sym (q ∙ children_none (line_feed ∷ rest)) ∙ s.text))
        go (m ∷ more) p q =
            let small : m < word_end = subst (λ (x : ℕ). x < word_end) (ap (λ (x : List ℕ). get_or x count 0) p ∙ get_or_at (take count places) m more 0 count done_long) (h count) in
            let o = only spaced_unique s m (children_part more ++ line_feed ∷ rest) small (children_end_digits more rest) (q ∙ children_cons m more (line_feed ∷ rest)) in
            let same : v ≡ m = o.0 in
            record {
              more = more;
              is =
                  p
                  ∙ sym (append_assoc (take count places) (m ∷ []) more)
                  ∙ ap (λ (x : List ℕ). x ++ more) (ap (λ (x : ℕ). take count places ++ (x ∷ [])) (sym same) ∙ sym one_taken);
              text = o.1;
            }

    pub one_read : ChildrenRead bytes at (set places count v) (count + 1) to
    one_read =
        let four : length places ≡ most_children = c.placed.four in
        record {
          placed = record {
            four = length-set places count v ∙ four;
            few = omega arith;
            unused = λ j k. get_or-set_other places count j v 0 (λ q. omega arith) ∙ c.placed.unused j (omega arith);
            small = λ j. small j (eqb j count) refl;
          };
          text = c.text ∙ ap (λ (x : List ℕ). children_part (take count places) ++ x) s.text ∙ children_then (take count places) v (drop to bytes) ∙ ap (λ (x : List ℕ). children_part x ++ drop to bytes) (sym one_taken);
          first = λ cs rest h q. goes_further cs rest h (c.first cs rest h q);
        }
      where
        small : (j : ℕ) (b : Bool) → eqb j count ≡ b → get_or (set places count v) j 0 < word_end
        small j true q =
            let same : j ≡ count = eqb-true j count q in
            let there : count < length places = (let f = c.placed.four in omega arith) in
            subst (λ (x : ℕ). x < word_end) (sym (ap (λ (i : ℕ). get_or (set places count v) i 0) same ∙ get_or-set_same places count v 0 there)) s.small
        small j false q = subst (λ (x : ℕ). x < word_end) (sym (get_or-set_other places count j v 0 (eqb-false j count q))) (c.placed.small j)

  -- ---- the line's end

  module _ {r : Option Children} (d : ReadsEnd bytes next count places r) where
    ending : ((m : ℕ) (more cs rest : List ℕ) → length cs ≤ most_children → ((j : ℕ) → get_or cs j 0 < word_end) → cs ≡ take count places ++ m ∷ more → drop next bytes ≡ children_part (m ∷ more) ++ line_feed ∷ rest → ⊥) → ReadsChildren bytes at r
    ending stop = record {
      text = λ x e.
          c.text
          ∙ ap (λ (x : List ℕ). children_part (take count places) ++ x) (d.text x e)
          ∙ ap₂ (λ (k : ℕ) (p : List ℕ). children_part (take k p) ++ line_feed ∷ drop x.next bytes) (sym (d.counted x e)) (sym (d.placed x e));
      placed = λ x e. subst (λ (k : ℕ). PlacedChildren x.places k) (sym (d.counted x e)) (subst (λ (p : List ℕ). PlacedChildren p count) (sym (d.placed x e)) c.placed);
      nothing = λ e cs rest few small q. let g = c.first cs rest small q in go e cs rest few small g.more g.is g.text;
    }
      where
        go : r ≡ None → (cs rest : List ℕ) → length cs ≤ most_children → ((j : ℕ) → get_or cs j 0 < word_end) → (more : List ℕ) → cs ≡ take count places ++ more → drop next bytes ≡ children_part more ++ line_feed ∷ rest → ⊥
        go e cs rest few small [] p q = d.nothing e rest (q ∙ children_none (line_feed ∷ rest))
        go e cs rest few small (m ∷ more) p q = stop m more cs rest few small p q

    -- no further child
    pub children_stop : {a : Option NumberRead} → ReadsNumber (λ n rest. space ∷ (decimal n ++ rest)) EndsDigits bytes next a → a ≡ None → ReadsChildren bytes at r
    children_stop da ea = ending (λ m more cs rest few small p q.
        let low : m < word_end = subst (λ (x : ℕ). x < word_end) (ap (λ (x : List ℕ). get_or x count 0) p ∙ get_or_at (take count places) m more 0 count done_long) (small count) in
        da.nothing ea m (children_part more ++ line_feed ∷ rest) low (children_end_digits more rest) (q ∙ children_cons m more (line_feed ∷ rest)))

    -- as many as there may be
    pub children_full : most_children ≤ count → ReadsChildren bytes at r
    children_full l = ending (λ m more cs rest few small p q.
        let a : length cs ≡ length (take count places) + suc (length more) = ap length p ∙ length-append (take count places) (m ∷ more) in
        let b = done_long in
        omega arith)
