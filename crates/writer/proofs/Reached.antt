-- The sweep over the nodes under a root.
use Rattle.std.proofs.Common.{◌≡◌, ℕ, zero, suc, ◌+◌, ◌-◌, ◌*◌, ◌%◌, ◌<◌, ◌≤◌, Bool, true, false, ◌&&◌, leb, List, [], ◌∷◌, length, get_or, drop, set, sym, refl, ap, ◌∙◌, subst, ap₂, arith, length-drop, length-set, get_or-drop, drop-cons, get_or-set_other, get_or-take, get_or-set_same, le-leb}
use mathlib.Core.Bool.{false≢true}
use mathlib.Core.Option.{Option}
use lib.ListN.{get_or-eq_default}
use native.Mathlib.Decide.{dec_lt}
use Rattle.definitions.specs.Node.{Node, at}
use Rattle.definitions.specs.Says.{Says}
use Rattle.arena.specs.Layout.{node_words, flags_word}
use Rattle.arena.specs.Node.{node_at, canonical}
use Rattle.store.specs.View.{nodes_in, plain_node}
use Rattle.store.specs.Lookup.{Lookup}
use Rattle.store.proofs.Reading as R
use Rattle.store.proofs.Viewing.{at_plain}
use Rattle.name_entries.specs.Sound as Names
use Rattle.name_entries.specs.Entry.{entry_at}
use Rattle.names.proofs.Listing.{names_length, names_at}
use Rattle.text_language.specs.Grammar.{Expr, is_letter, is_word}
use Rattle.text_language.specs.Program.{Join, plus, minus, times, over, raise}
use Rattle.definitions.specs.Limits.{most_children, most_nodes}
use Rattle.writer.specs.Expression.{join_kind, join_flags}
use Rattle.expression_text.specs.Proper.{is_name, all_words, number_bits}
use Rattle.writer.specs.Expression.{symbol_name, is_some, Standing, a_name, a_number, a_minus, a_pair}
use Rattle.writer.specs.Placing.{NamedSymbol, KnownText, expression_at}
use Rattle.writer.specs.Sweeping.{FormOf, Marks, Unreached}
use Rattle.writer.specs.declared.sweeping.Form.{Form}
use Rattle.writer.proofs.Parts.{All, standing_of, some_of, opened_up}
use Rattle.writer.proofs.InFront.{name_length, name_byte}
use Rattle.writer.proofs.Leaves.{named_at}
use Rattle.text_language.proofs.Sound.{absurd_bool}

drop_all : (j : ℕ) (l : List ℕ) → length l ≤ j → drop j l ≡ []
drop_all zero [] h = refl
drop_all zero (x ∷ l) h = absurd (omega arith)
drop_all (suc j) [] h = refl
drop_all (suc j) (x ∷ l) h = drop_all j l (omega arith)

-- ---- flags

pub flags_is : (w : List ℕ) (count i : ℕ) → Lookup w count i → get_or w (i * node_words + flags_word) 0 % canonical ≡ (at (nodes_in w count) i).flags
unfolding plain_node node_at
flags_is w count i k = sym (ap (λ (m : Node). m.flags) (at_plain w count i k.below))

-- ---- names

module _ (es : List ℕ) (named : ℕ) (s : Names.SoundNames es named) (i : ℕ) where
  abbrev the_name : List ℕ
  the_name = symbol_name (Names.names_of es named) i

  pub name_none : named ≤ i → false ≡ is_name the_name
  unfolding is_name
  name_none h = sym (ap is_name (get_or-eq_default (Names.names_of es named) [] (omega (arith, names_length es named))))

  module _ (l : i < named) where
    pub a_name_lem : NamedSymbol es i
    a_name_lem = named_at es named s i l

    abbrev name : List ℕ
    name = Names.name_at es i

    abbrev size : ℕ
    size = get_or es (i * 33) 0

    long : 1 ≤ length name
    long =
        let z = name_length a_name_lem in
        let e = (s.entries i l).shortest in
        let g : get_or (entry_at es i) 0 0 ≡ size = get_or-take 33 (drop (i * 33) es) 0 0 (omega arith) ∙ get_or-drop (i * 33) es 0 0 ∙ ap (λ (k : ℕ). get_or es k 0) (omega arith) in
        omega arith

    apart : name ≡ get_or es (i * 33 + 1) 0 ∷ drop 1 name
    apart =
        let z = name_length a_name_lem in
        let h = long in
        drop-cons name 0 0 (omega arith) ∙ ap (λ (c : ℕ). c ∷ drop 1 name) (name_byte a_name_lem 0 (omega arith))

    -- the letter and the words decide
    decided : is_name the_name ≡ (is_letter (get_or es (i * 33 + 1) 0) && (all_words (drop 1 name) && leb (length (drop 1 name)) 31))
    unfolding is_name
    decided = ap is_name (names_at es named i l ∙ apart)

    pub no_letter : {b : Bool} → b ≡ is_letter (get_or es (i * 33 + 1) 0) → b ≡ false → false ≡ is_name the_name
    no_letter {b} e f = sym (decided ∙ ap (λ (x : Bool). x && (all_words (drop 1 name) && leb (length (drop 1 name)) 31)) (sym e ∙ f))

    pub record Words (j : ℕ) : Type 0 where
      pub letter : is_letter (get_or es (i * 33 + 1) 0) ≡ true
      pub low : 1 ≤ j
      pub high : j ≤ size
      pub same : all_words (drop 1 name) ≡ all_words (drop j name)

    pub words_start : {b : Bool} → b ≡ is_letter (get_or es (i * 33 + 1) 0) → b ≡ true → Words 1
    words_start {b} e f = record { letter = sym e ∙ f; low = omega arith; high = let z = name_length a_name_lem in let h = long in omega arith; same = refl }

    module _ {j : ℕ} (d : Words j) where
      one_more : j < size → all_words (drop j name) ≡ (is_word (get_or es (i * 33 + (j + 1)) 0) && all_words (drop (j + 1) name))
      unfolding all_words
      one_more h =
          let z = name_length a_name_lem in
          let e : suc j ≡ j + 1 = omega arith in
          ap all_words (drop-cons name j 0 (omega arith))
          ∙ ap₂ (λ (c : ℕ) (x : List ℕ). is_word c && all_words x) (name_byte a_name_lem j h) (ap (λ (k : ℕ). drop k name) e)

      pub no_word : j < size → {b : Bool} → b ≡ is_word (get_or es (i * 33 + (j + 1)) 0) → b ≡ false → false ≡ is_name the_name
      no_word h {b} e f =
          sym (decided
          ∙ ap₂ (λ (x y : Bool). x && (y && leb (length (drop 1 name)) 31)) d.letter (d.same ∙ one_more h ∙ ap (λ (x : Bool). x && all_words (drop (j + 1) name)) (sym e ∙ f)))

      pub words_on : j < size → {b : Bool} → b ≡ is_word (get_or es (i * 33 + (j + 1)) 0) → b ≡ true → Words (j + 1)
      words_on h {b} e f = record {
        letter = d.letter;
        low = omega arith;
        high = omega arith;
        same = d.same ∙ one_more h ∙ ap (λ (x : Bool). x && all_words (drop (j + 1) name)) (sym e ∙ f);
      }

      pub words_end : size ≤ j → true ≡ is_name the_name
      unfolding all_words
      words_end h =
          let z = name_length a_name_lem in
          let g = a_name_lem.short in
          let y = d.high in
          let e : drop j name ≡ [] = drop_all j name (omega arith) in
          sym (decided
          ∙ ap₂ (λ (x y : Bool). x && (y && leb (length (drop 1 name)) 31)) d.letter (d.same ∙ ap all_words e)
          ∙ le-leb (length (drop 1 name)) 31 (omega (arith, length-drop 1 name)))

-- ---- a node's own sign

none_left : (l : List ℕ) → length l ≡ 0 → l ≡ []
none_left [] h = refl
none_left (x ∷ l) h = absurd (omega arith)

one_left : (l : List ℕ) → length l ≡ 1 → (a : ℕ) × (l ≡ a ∷ [])
one_left [] h = absurd (omega arith)
one_left (x ∷ []) h = (x, refl)
one_left (x ∷ (y ∷ l)) h = absurd (omega arith)

two_left : (l : List ℕ) → length l ≡ 2 → (a : ℕ) × ((b : ℕ) × (l ≡ a ∷ (b ∷ [])))
two_left [] h = absurd (omega arith)
two_left (x ∷ []) h = absurd (omega arith)
two_left (x ∷ (y ∷ [])) h = (x, (y, refl))
two_left (x ∷ (y ∷ (z ∷ l))) h = absurd (omega arith)

module _ (names : List (List ℕ)) (n : Node) {kind : ℕ} (ek : kind ≡ n.kind) {r : Form} (f : FormOf kind r) where
  stand_arity : Standing names n → length n.children ≡ r.arity
  stand_arity (a_name k g c w) = ap length c ∙ sym (f.leaf (omega arith))
  stand_arity (a_number k g c q) = ap length c ∙ sym (f.leaf (omega arith))
  stand_arity (a_minus a k g c) = ap length c ∙ sym (f.minus (ek ∙ k))
  stand_arity (a_pair plus a b k g c) = ap length c ∙ sym (f.pair (omega arith) (omega arith))
  stand_arity (a_pair minus a b k g c) = ap length c ∙ sym (f.pair (omega arith) (omega arith))
  stand_arity (a_pair times a b k g c) = ap length c ∙ sym (f.pair (omega arith) (omega arith))
  stand_arity (a_pair over a b k g c) = ap length c ∙ sym (f.pair (omega arith) (omega arith))
  stand_arity (a_pair raise a b k g c) = ap length c ∙ sym (f.pair (omega arith) (omega arith))

  stand_flags : Standing names n → n.flags ≡ r.flags
  stand_flags (a_name k g c w) = g ∙ sym (f.leaf_flags (omega arith))
  stand_flags (a_number k g c q) = g ∙ sym (f.leaf_flags (omega arith))
  stand_flags (a_minus a k g c) = g ∙ sym (f.minus_flags (ek ∙ k))
  stand_flags (a_pair plus a b k g c) = g ∙ sym (f.add_flags (ek ∙ k))
  stand_flags (a_pair minus a b k g c) = g ∙ sym (f.sub_flags (ek ∙ k))
  stand_flags (a_pair times a b k g c) = g ∙ sym (f.mul_flags (ek ∙ k))
  stand_flags (a_pair over a b k g c) = g ∙ sym (f.div_flags (ek ∙ k))
  stand_flags (a_pair raise a b k g c) = g ∙ sym (f.pow_flags (ek ∙ k))

  pub other_arity : {x : ℕ} → x ≡ length n.children → (x ≡ r.arity → ⊥) → Says false (Standing names n)
  other_arity {x} e h = record { yes = λ z. absurd (false≢true z); no = λ z s. h (e ∙ stand_arity s) }

  pub other_flags : {x : ℕ} → x ≡ n.flags → (x ≡ r.flags → ⊥) → Says false (Standing names n)
  other_flags {x} e h = record { yes = λ z. absurd (false≢true z); no = λ z s. h (e ∙ stand_flags s) }

  module _ {x y : ℕ} (ea : x ≡ length n.children) (ha : x ≡ r.arity) (ef : y ≡ n.flags) (hf : y ≡ r.flags) where
    pub by_name : kind ≡ 0 → {p : ℕ} → p ≡ n.payload → {b : Bool} → b ≡ is_name (symbol_name names p) → Says b (Standing names n)
    by_name k {p} ep {b} eb = record {
      yes = λ z. a_name (sym ek ∙ k) (sym ef ∙ hf ∙ f.leaf_flags (omega arith)) (none_left n.children (sym ea ∙ ha ∙ f.leaf (omega arith))) (ap (λ (i : ℕ). is_name (symbol_name names i)) (sym ep) ∙ sym eb ∙ z);
      no = λ z s. only s z;
    }
      where
        only : Standing names n → b ≡ false → ⊥
        only (a_name k' g c w) z = absurd_bool (eb ∙ ap (λ (i : ℕ). is_name (symbol_name names i)) ep ∙ w) z
        only (a_number k' g c q) z = omega arith
        only (a_minus a k' g c) z = omega arith
        only (a_pair plus a b k' g c) z = omega arith
        only (a_pair minus a b k' g c) z = omega arith
        only (a_pair times a b k' g c) z = omega arith
        only (a_pair over a b k' g c) z = omega arith
        only (a_pair raise a b k' g c) z = omega arith

    pub by_number : kind ≡ 1 → {p : ℕ} → p ≡ n.payload → {b : Bool} → b ≡ number_bits p → Says b (Standing names n)
    by_number k {p} ep {b} eb = record {
      yes = λ z. a_number (sym ek ∙ k) (sym ef ∙ hf ∙ f.leaf_flags (omega arith)) (none_left n.children (sym ea ∙ ha ∙ f.leaf (omega arith))) (ap number_bits (sym ep) ∙ sym eb ∙ z);
      no = λ z s. only s z;
    }
      where
        only : Standing names n → b ≡ false → ⊥
        only (a_name k' g c w) z = omega arith
        only (a_number k' g c q) z = absurd_bool (eb ∙ ap number_bits ep ∙ q) z
        only (a_minus a k' g c) z = omega arith
        only (a_pair plus a b k' g c) z = omega arith
        only (a_pair minus a b k' g c) z = omega arith
        only (a_pair times a b k' g c) z = omega arith
        only (a_pair over a b k' g c) z = omega arith
        only (a_pair raise a b k' g c) z = omega arith

    pub by_form : (kind ≡ 0 → ⊥) → (kind ≡ 1 → ⊥) → length n.children ≤ most_children → Says true (Standing names n)
    by_form k j few = record { yes = λ z. go kind refl; no = λ z s. false≢true (sym z) }
      where
        fl : r.flags ≡ n.flags
        fl = sym hf ∙ ef

        le : length n.children ≡ r.arity
        le = sym ea ∙ ha

        pair_of : (o : Join) → n.kind ≡ join_kind o → n.flags ≡ join_flags o → 2 ≤ kind → kind ≤ 6 → Standing names n
        pair_of o nk nf l h = let t = two_left n.children (le ∙ f.pair l h) in a_pair o t.0 t.1.0 nk nf t.1.1

        go : (m : ℕ) → kind ≡ m → Standing names n
        go zero e = absurd (k e)
        go (suc zero) e = absurd (j e)
        go (suc (suc zero)) e = pair_of plus (sym ek ∙ e) (sym fl ∙ f.add_flags e) (omega arith) (omega arith)
        go (suc (suc (suc zero))) e = pair_of minus (sym ek ∙ e) (sym fl ∙ f.sub_flags e) (omega arith) (omega arith)
        go (suc (suc (suc (suc zero)))) e = pair_of times (sym ek ∙ e) (sym fl ∙ f.mul_flags e) (omega arith) (omega arith)
        go (suc (suc (suc (suc (suc zero))))) e = pair_of over (sym ek ∙ e) (sym fl ∙ f.div_flags e) (omega arith) (omega arith)
        go (suc (suc (suc (suc (suc (suc zero)))))) e = pair_of raise (sym ek ∙ e) (sym fl ∙ f.pow_flags e) (omega arith) (omega arith)
        go (suc (suc (suc (suc (suc (suc (suc zero))))))) e = absurd (let z = f.other (omega arith) (λ h. omega arith) in omega arith)
        go (suc (suc (suc (suc (suc (suc (suc (suc zero)))))))) e = let t = one_left n.children (le ∙ f.minus e) in a_minus t.0 (sym ek ∙ e) (sym fl ∙ f.minus_flags e) t.1
        go (suc (suc (suc (suc (suc (suc (suc (suc (suc m))))))))) e = absurd (let z = f.other (omega arith) (λ h. omega arith) in omega arith)

-- ---- marking

set_kept : (l : List ℕ) (a i : ℕ) → a < length l → (get_or l i 0 ≡ 0 → ⊥) → get_or (set l a 1) i 0 ≡ 0 → ⊥
set_kept l a i h n e = go (dec_lt i a) (dec_lt a i)
  where
    go : Dec (i < a) → Dec (a < i) → ⊥
    go (yes x) d = n (sym (get_or-set_other l a i 1 0 (λ z. omega arith)) ∙ e)
    go (no x) (yes y) = n (sym (get_or-set_other l a i 1 0 (λ z. omega arith)) ∙ e)
    go (no x) (no y) =
        let q : a ≡ i = omega arith in
        let z : ◌≡◌ {A = ℕ} 1 0 = sym (get_or-set_same l a 1 0 h) ∙ ap (λ (k : ℕ). get_or (set l a 1) k 0) q ∙ e in
        omega arith

pub marks_none : (ids l : List ℕ) → length ids ≡ 0 → Marks ids l l
marks_none ids l h = record { long = refl; marked = λ j k. absurd (omega arith); old = λ i n. n; only = λ i n o. n }

pub marks_one : (ids l : List ℕ) (a : ℕ) → length ids ≡ 1 → a ≡ get_or ids 0 0 → a < length l → Marks ids l (set l a 1)
marks_one ids l a h e k = record {
  long = length-set l a 1;
  marked = λ j x. let z : j ≡ 0 = omega arith in ap (λ (i : ℕ). get_or (set l a 1) (get_or ids i 0) 0) z ∙ ap (λ (i : ℕ). get_or (set l a 1) i 0) (sym e) ∙ get_or-set_same l a 1 0 k;
  old = λ i n. set_kept l a i k n;
  only = λ i n o x. n (get_or-set_other l a i 1 0 (λ z. o 0 (omega arith) (z ∙ e)) ∙ x);
}

pub marks_two : (ids l : List ℕ) (a b : ℕ) → length ids ≡ 2 → a ≡ get_or ids 0 0 → b ≡ get_or ids 1 0 → a < length l → b < length l → Marks ids l (set (set l a 1) b 1)
marks_two ids l a b h e e' k k' =
    let kb : b < length (set l a 1) = omega (arith, length-set l a 1) in
    record {
      long = length-set (set l a 1) b 1 ∙ length-set l a 1;
      marked = λ j x. go j (dec_lt j 1) x;
      old = λ i n. set_kept (set l a 1) b i kb (set_kept l a i k n);
      only = λ i n o x. n (get_or-set_other (set l a 1) b i 1 0 (λ z. o 1 (omega arith) (z ∙ e')) ∙ get_or-set_other l a i 1 0 (λ z. o 0 (omega arith) (z ∙ e)) ∙ x);
    }
  where
    both_first : (decided : Dec (a < b)) → Dec (b < a) → get_or (set (set l a 1) b 1) a 0 ≡ 1
    both_first (yes x) d = get_or-set_other (set l a 1) b a 1 0 (λ z. omega arith) ∙ get_or-set_same l a 1 0 k
    both_first (no x) (yes y) = get_or-set_other (set l a 1) b a 1 0 (λ z. omega arith) ∙ get_or-set_same l a 1 0 k
    both_first (no x) (no y) =
        let q : a ≡ b = omega arith in
        ap (λ (i : ℕ). get_or (set (set l a 1) b 1) i 0) q ∙ get_or-set_same (set l a 1) b 1 0 (omega (arith, length-set l a 1))

    go : (j : ℕ) → Dec (j < 1) → j < length ids → get_or (set (set l a 1) b 1) (get_or ids j 0) 0 ≡ 1
    go j (yes y) x =
        let z : j ≡ 0 = omega arith in
        ap (λ (i : ℕ). get_or (set (set l a 1) b 1) (get_or ids i 0) 0) z ∙ ap (λ (i : ℕ). get_or (set (set l a 1) b 1) i 0) (sym e) ∙ both_first (dec_lt a b) (dec_lt b a)
    go j (no y) x =
        let z : j ≡ 1 = omega arith in
        ap (λ (i : ℕ). get_or (set (set l a 1) b 1) (get_or ids i 0) 0) z ∙ ap (λ (i : ℕ). get_or (set (set l a 1) b 1) i 0) (sym e') ∙ get_or-set_same (set l a 1) b 1 0 (omega (arith, length-set l a 1))

-- ---- the sweep

all_at : (f : ℕ → Option Expr) (ks : List ℕ) → ((j : ℕ) → j < length ks → is_some (f (get_or ks j 0)) ≡ true) → All f ks
all_at f [] h = tt
all_at f (k ∷ ks) h = (h 0 (omega arith), all_at f ks (λ j z. h (suc j) (omega arith)))

at_all : (f : ℕ → Option Expr) (ks : List ℕ) → All f ks → (j : ℕ) → j < length ks → is_some (f (get_or ks j 0)) ≡ true
at_all f [] h j z = absurd (omega arith)
at_all f (k ∷ ks) h zero z = h.0
at_all f (k ∷ ks) h (suc j) z = at_all f ks h.1 j (omega arith)

-- the root has an expression exactly if all that are reached and not yet looked at have
pub record Swept (w : List ℕ) (count : ℕ) (es : List ℕ) (named root : ℕ) (reached : List ℕ) (i : ℕ) : Type 0 where
  pub known : KnownText w count es named
  pub long : length reached ≡ most_nodes
  pub low : i ≤ count
  pub down : is_some (expression_at w count es named root) ≡ true → (j : ℕ) → j < i → (get_or reached j 0 ≡ 0 → ⊥) → is_some (expression_at w count es named j) ≡ true
  pub up : ((j : ℕ) → j < i → (get_or reached j 0 ≡ 0 → ⊥) → is_some (expression_at w count es named j) ≡ true) → is_some (expression_at w count es named root) ≡ true

pub swept_start : (w : List ℕ) (count : ℕ) (es : List ℕ) (named root : ℕ) (reached : List ℕ) → KnownText w count es named → root < count → Unreached reached
    → Swept w count es named root (set reached root 1) (root + 1)
swept_start w count es named root reached s l u =
    let m = s.nodes.formed.many in
    let k : root < length reached = omega (arith, u.long) in
    record {
      known = s;
      long = length-set reached root 1 ∙ u.long;
      low = omega arith;
      down = λ h j x n. go j h n (dec_lt j root) (dec_lt root j);
      up = λ h. h root (omega arith) (λ z. let y : ◌≡◌ {A = ℕ} 1 0 = sym (get_or-set_same reached root 1 0 k) ∙ z in omega arith);
    }
  where
    go : (j : ℕ) → is_some (expression_at w count es named root) ≡ true → (get_or (set reached root 1) j 0 ≡ 0 → ⊥) → Dec (j < root) → Dec (root < j) → is_some (expression_at w count es named j) ≡ true
    go j h n (yes x) d = absurd (n (get_or-set_other reached root j 1 0 (λ z. omega arith) ∙ u.zeros j))
    go j h n (no x) (yes y) = absurd (n (get_or-set_other reached root j 1 0 (λ z. omega arith) ∙ u.zeros j))
    go j h n (no x) (no y) = let q : root ≡ j = omega arith in subst (λ (k : ℕ). is_some (expression_at w count es named k) ≡ true) q h

-- a Boolean that is not false
sure : (b : Bool) → (b ≡ false → ⊥) → b ≡ true
sure true h = refl
sure false h = absurd (h refl)

module _ {w : List ℕ} {count : ℕ} {es : List ℕ} {named root : ℕ} {reached : List ℕ} {i : ℕ} (v : Swept w count es named root reached i) where
  abbrev f : ℕ → Option Expr
  f = expression_at w count es named

  abbrev k : ℕ
  k = i - 1

  module _ (p : 0 < i) where
    pub swept_look : Lookup w count k
    swept_look = record { below = let z = v.low in omega arith; nodes = v.known.nodes }

    -- one that is not reached
    pub swept_past : get_or reached k 0 ≡ 0 → Swept w count es named root reached k
    swept_past z = record {
      known = v.known;
      long = v.long;
      low = let y = v.low in omega arith;
      down = λ h j x n. v.down h j (omega arith) n;
      up = λ h. v.up (λ j x n. go h j n (dec_lt j k) x);
    }
      where
        go : ((j : ℕ) → j < k → (get_or reached j 0 ≡ 0 → ⊥) → is_some (f j) ≡ true) → (j : ℕ) → (get_or reached j 0 ≡ 0 → ⊥) → Dec (j < k) → j < i → is_some (f j) ≡ true
        go h j n (yes y) x = h j y n
        go h j n (no y) x = let q : k ≡ j = omega arith in absurd (n (ap (λ (a : ℕ). get_or reached a 0) (sym q) ∙ z))

    module _ (n : get_or reached k 0 ≡ 0 → ⊥) where
      node_has : is_some (f root) ≡ true → Standing (Names.names_of es named) (at (nodes_in w count) k) × All f (at (nodes_in w count) k).children
      node_has h = standing_of f (Names.names_of es named) (at (nodes_in w count) k) (ap is_some (sym (opened_up (Names.names_of es named) w count k swept_look)) ∙ v.down h k (omega arith) n)

      -- one that has no sign of its own
      pub swept_none : {b : Bool} → Says b (Standing (Names.names_of es named) (at (nodes_in w count) k)) → b ≡ false → false ≡ is_some (f root)
      swept_none s e = go (is_some (f root)) refl
        where
          go : (x : Bool) → is_some (f root) ≡ x → false ≡ x
          go false q = refl
          go true q = absurd (s.no e (node_has q).0)

      module _ {b : Bool} (s : Says b (Standing (Names.names_of es named) (at (nodes_in w count) k))) (e : b ≡ true) where
        pub few : length (at (nodes_in w count) k).children ≤ 2
        few = go (s.yes e)
          where
            go : Standing (Names.names_of es named) (at (nodes_in w count) k) → length (at (nodes_in w count) k).children ≤ 2
            go (a_name x g c y) = omega (arith, ap length c)
            go (a_number x g c q) = omega (arith, ap length c)
            go (a_minus a x g c) = omega (arith, ap length c)
            go (a_pair o a d x g c) = omega (arith, ap length c)

        pub swept_on : {reached' : List ℕ} → Marks (at (nodes_in w count) k).children reached reached' → Swept w count es named root reached' k
        swept_on {reached'} m = record {
          known = v.known;
          long = m.long ∙ v.long;
          low = let y = v.low in omega arith;
          down = λ h j x y. sure (is_some (f j)) (λ z.
              m.only j y (λ a l q. absurd_bool (ap (λ (c : ℕ). is_some (f c)) q ∙ at_all f (at (nodes_in w count) k).children (node_has h).1 a l) z) (went h j x z));
          up = λ h. v.up (λ j x y. go h j y (dec_lt j k) x);
        }
          where
            went : is_some (f root) ≡ true → (j : ℕ) → j < k → is_some (f j) ≡ false → get_or reached j 0 ≡ 0
            went h j x z = zero_of (get_or reached j 0) (λ y. absurd_bool (v.down h j (omega arith) y) z)
              where
                zero_of : (a : ℕ) → ((a ≡ 0 → ⊥) → ⊥) → a ≡ 0
                zero_of zero t = refl
                zero_of (suc a) t = absurd (t (λ q. omega arith))

            go : ((j : ℕ) → j < k → (get_or reached' j 0 ≡ 0 → ⊥) → is_some (f j) ≡ true) → (j : ℕ) → (get_or reached j 0 ≡ 0 → ⊥) → Dec (j < k) → j < i → is_some (f j) ≡ true
            go h j y (yes z) x = h j z (m.old j y)
            go h j y (no z) x =
                let q : k ≡ j = omega arith in
                subst (λ (a : ℕ). is_some (f a) ≡ true) q
                (ap is_some (opened_up (Names.names_of es named) w count k swept_look)
                ∙ some_of f (Names.names_of es named) (at (nodes_in w count) k) (s.yes e)
                (all_at f (at (nodes_in w count) k).children (λ a l. h (get_or (at (nodes_in w count) k).children a 0) (R.child_low w count k swept_look a l) (λ t. let u : ◌≡◌ {A = ℕ} 1 0 = sym (m.marked a l) ∙ t in omega arith))))

  pub swept_end : i ≤ 0 → true ≡ is_some (f root)
  swept_end z = sym (v.up (λ j x n. absurd (omega arith)))

-- where the loop over a name's bytes stands
pub record Wording (es : List ℕ) (named i start size j : ℕ) : Type 0 where
  pub sound : Names.SoundNames es named
  pub below : i < named
  pub words : Words es named sound i below j
  pub start_is : start ≡ i * 33
  pub size_is : size ≡ get_or es (i * 33) 0
  pub inside : i * 33 + 33 ≤ length es
  pub short : size ≤ 32

pub wording : (es : List ℕ) (named i start size : ℕ) (s : Names.SoundNames es named) (l : i < named) → start ≡ i * 33 → size ≡ get_or es (i * 33) 0 → {b : Bool} → b ≡ is_letter (get_or es (start + 1) 0) → b ≡ true
    → Wording es named i start size 1
wording es named i start size s l e z {b} q t = record {
  sound = s;
  below = l;
  words = words_start es named s i l (q ∙ ap (λ (k : ℕ). is_letter (get_or es (k + 1) 0)) e) t;
  start_is = e;
  size_is = z;
  inside = (a_name_lem es named s i l).fits;
  short = let y = (a_name_lem es named s i l).short in omega arith;
}

module _ {es : List ℕ} {named i start size j : ℕ} (d : Wording es named i start size j) (h : j < size) {b : Bool} (q : b ≡ is_word (get_or es (start + (j + 1)) 0)) where
  q' : b ≡ is_word (get_or es (i * 33 + (j + 1)) 0)
  q' = q ∙ ap (λ (k : ℕ). is_word (get_or es (k + (j + 1)) 0)) d.start_is

  pub wording_none : b ≡ false → false ≡ is_name (symbol_name (Names.names_of es named) i)
  wording_none f = no_word es named d.sound i d.below d.words (let z = d.size_is in omega arith) q' f

  pub wording_on : b ≡ true → Wording es named i start size (j + 1)
  wording_on f = record {
    sound = d.sound;
    below = d.below;
    words = words_on es named d.sound i d.below d.words (let z = d.size_is in omega arith) q' f;
    start_is = d.start_is;
    size_is = d.size_is;
    inside = d.inside;
    short = d.short;
  }

pub wording_end : {es : List ℕ} {named i start size j : ℕ} (d : Wording es named i start size j) → size ≤ j → true ≡ is_name (symbol_name (Names.names_of es named) i)
wording_end {es} {named} {i} {start} {size} {j} d h = words_end es named d.sound i d.below d.words (let z = d.size_is in omega arith)
