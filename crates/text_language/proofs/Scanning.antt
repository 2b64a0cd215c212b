-- The scan finds just what the reader finds.
use Prim.Native.Nat.{ℕ, zero, suc, ◌+◌, ◌*◌, ◌≤◌, ◌<◌, max}
use mathlib.Core.Path.{◌≡◌, refl, sym, ap, ◌∙◌, subst}
use mathlib.Core.Bool.{Bool, true, false, ◌&&◌, ◌||◌, and-false, and-true, or-true}
use mathlib.Core.Option.{Option, none, some}
use mathlib.Core.List.{List, [], ◌∷◌}
use lib.ListN.{length}
use lib.Dec.{eqb}
use native.Mathlib.Omega.{arith}
use borrow.Author.Tests.{eqb-true, eqb-false, eq-eqb, ne_eqb}
use Rattle.text_language.specs.Grammar.{Chain, sums, products, Expr, negated, linked, raised, Level, chain, power, factor, under, sign, Sign, Reads, Atom, Blanks, Text}
use Rattle.text_language.specs.Reader.{lead, skip, past, Got, got, bad, after, atom_of, which, Job, level, onward, read}
use Rattle.text_language.specs.Reader.{rank, is_some}
use Rattle.text_language.specs.Scan.{Want, operand, operator, ended, joins, onto, pop, scan, whole, is_text}
use Rattle.text_language.proofs.Sound.{absurd_bool, split, fork, sign_at, which_sign, not_zero, OkA, skipped}
use Rattle.text_language.proofs.Complete.{Stops, atom_length, sign_length, rank_under, positive, text_of, text_read}
use Rattle.text_language.proofs.Place.{lead_cons, skip_cons}

-- ---- one step of the scan

module _ (n b : ℕ) (s : List ℕ) where
  pub scan_minus : eqb (lead s) 45 ≡ true → scan (suc n) operand b s ≡ scan n operand b (past s)
  unfolding scan
  scan_minus h = rw (scan, h)

  pub scan_open : eqb (lead s) 45 ≡ false → eqb (lead s) 40 ≡ true → scan (suc n) operand b s ≡ scan n operand (suc b) (past s)
  unfolding scan
  scan_open h q = rw (scan, h, q)

  pub scan_atom : eqb (lead s) 45 ≡ false → eqb (lead s) 40 ≡ false → scan (suc n) operand b s ≡ onto (atom_of (skip s)) (λ r. scan n operator b r)
  unfolding scan
  scan_atom h q = rw (scan, h, q)

  pub scan_join : joins (lead s) ≡ true → scan (suc n) operator b s ≡ scan n operand b (past s)
  unfolding scan
  scan_join h = rw (scan, h)

  pub scan_close : joins (lead s) ≡ false → eqb (lead s) 41 ≡ true → scan (suc n) operator b s ≡ pop b (λ k. scan n operator k (past s))
  unfolding scan
  scan_close h q = rw (scan, h, q)

  pub scan_end : joins (lead s) ≡ false → eqb (lead s) 41 ≡ false → scan (suc n) operator b s ≡ (ended s && eqb b 0)
  unfolding scan
  scan_end h q = rw (scan, h, q)

no_join : (c : ℕ) → Stops (chain sums) c → joins c ≡ false
unfolding joins
no_join c h =
    ap (λ (o : Option Bool). is_some o || (is_some (which products c) || eqb c 94)) h.1
    ∙ ap (λ (o : Option Bool). is_some o || eqb c 94) h.0.1 ∙ h.0.0

link_join : (k : Chain) (c : ℕ) (x : Bool) → which k c ≡ some x → joins c ≡ true
unfolding joins
link_join sums c x h = ap (λ (o : Option Bool). is_some o || (is_some (which products c) || eqb c 94)) h
link_join products c x h = ap (λ (o : Option Bool). is_some (which sums c) || (is_some o || eqb c 94)) h ∙ or-true (is_some (which sums c))

hat_join : (c : ℕ) → eqb c 94 ≡ true → joins c ≡ true
unfolding joins
hat_join c h =
    ap (λ (q : Bool). is_some (which sums c) || (is_some (which products c) || q)) h
    ∙ ap (λ (q : Bool). is_some (which sums c) || q) (or-true (is_some (which products c))) ∙ or-true (is_some (which sums c))

-- ---- where the scan goes, at any number of brackets

pub record Moves (v : Want) (b n : ℕ) (s r : List ℕ) (k : ℕ) : Type 0 where
  pub fuel : ℕ
  pub is : scan n v b s ≡ scan fuel operator k r
  pub left : n + length r ≤ fuel + length s

-- from s to an operator at r
pub record Goes (v : Want) (s r : List ℕ) : Type 0 where
  pub go : (b n : ℕ) → length s < n → Moves v b n s r b

pub record Fails (v : Want) (s : List ℕ) : Type 0 where
  pub fails : (b n : ℕ) → length s < n → scan n v b s ≡ false

pub data Flat : Job → List ℕ → Got → Type 0 where
  bad_level : {l : Level} {s : List ℕ} → Fails operand s → Flat (level l) s bad
  got_level : {l : Level} {s r : List ℕ} {e : Expr} {d : ℕ} → Stops l (lead r) → length r < length s → Goes operand s r → Flat (level l) s (got e d r)
  bad_onward : {k : Chain} {a : Expr} {d : ℕ} {s : List ℕ} → Fails operator s → Flat (onward k a d) s bad
  got_onward : {k : Chain} {a e : Expr} {d f : ℕ} {s r : List ℕ} → Stops (chain k) (lead r) → length r ≤ length s → Goes operator s r → Flat (onward k a d) s (got e f r)

level_after : (P : Got → Type 0) (g : Got) (f : Expr → ℕ → List ℕ → Got) (l : Level) (s : List ℕ) → Flat (level l) s g → (Fails operand s → P bad)
    → ((e : Expr) (d : ℕ) (r : List ℕ) → Stops l (lead r) → length r < length s → Goes operand s r → P (f e d r)) → P (after g f)
unfolding after
level_after P g f l s (Flat.bad_level h) x y = x h
level_after P g f l s (Flat.got_level {r = r} {e = e} {d = d} st lt h) x y = y e d r st lt h

onward_then : (P : Got → Type 0) (g : Got) (k : Chain) (a : Expr) (d : ℕ) (s : List ℕ) → Flat (onward k a d) s g → (Fails operator s → P bad)
    → ((e : Expr) (f : ℕ) (r : List ℕ) → Stops (chain k) (lead r) → length r ≤ length s → Goes operator s r → P (got e f r)) → P g
onward_then P g k a d s (Flat.bad_onward h) x y = x h
onward_then P g k a d s (Flat.got_onward {e = e} {f = f} {r = r} st lt h) x y = y e f r st lt h

-- ---- moves in a row

along : (v : Want) (s r t : List ℕ) → length r ≤ length s → Goes v s r → Goes operator r t → Goes v s t
along v s r t l g h = record {
  go = λ b n q.
      let m = g.go b n q in
      let k = h.go b m.fuel (let z = m.left in omega arith) in
      record { fuel = k.fuel; is = m.is ∙ k.is; left = let y = m.left in let z = k.left in omega arith };
}

along_fails : (v : Want) (s r : List ℕ) → length r ≤ length s → Goes v s r → Fails operator r → Fails v s
along_fails v s r l g h = record { fails = λ b n q. let m = g.go b n q in m.is ∙ h.fails b m.fuel (let z = m.left in omega arith) }

stay : (s : List ℕ) → Goes operator s s
stay s = record { go = λ b n q. record { fuel = n; is = refl; left = omega arith } }

-- one byte on, and then as an operand
module _ (v : Want) (s : List ℕ) (lt : length (past s) < length s) (step : (n b : ℕ) → scan (suc n) v b s ≡ scan n operand b (past s)) where
  step_goes : (t : List ℕ) → Goes operand (past s) t → Goes v s t
  step_goes t g = record {
    go = λ b n q.
        let (m, e) = positive n (omega arith) in
        let k = g.go b m (omega arith) in
        record { fuel = k.fuel; is = ap (λ (x : ℕ). scan x v b s) e ∙ step m b ∙ k.is; left = let z = k.left in omega arith };
  }

  step_fails : Fails operand (past s) → Fails v s
  step_fails h = record {
    fails = λ b n q.
        let (m, e) = positive n (omega arith) in
        ap (λ (x : ℕ). scan x v b s) e ∙ step m b ∙ h.fails b m (omega arith);
  }

-- ---- the reader's cases

past_shorter : (k : ℕ) (s : List ℕ) → eqb 0 k ≡ false → eqb (lead s) k ≡ true → length (past s) < length s
past_shorter k s z h = sign_length (sign_at k s z h)

link_shorter : (k : Chain) (s : List ℕ) (x : Bool) → which k (lead s) ≡ some x → length (past s) < length s
link_shorter k s x h = past_shorter (sign k x) s (not_zero k x) (which_sign k (lead s) x h)

stops_chain : (k : Chain) (c : ℕ) → Stops (under k) c → which k c ≡ none → Stops (chain k) c
stops_chain sums c h q = (h, q)
stops_chain products c h q = (h, q)

stops_under : (k : Chain) (c : ℕ) → Stops (chain k) c → Stops (under k) c
stops_under sums c h = h.0
stops_under products c h = h.0

abbrev Enough : Job → List ℕ → ℕ → Type 0
Enough (level l) s n = 4 * length s + rank l ≤ n
Enough (onward k a d) s n = 4 * length s + rank (chain k) ≤ n

abbrev Before : Job → List ℕ → Type 0
Before (level l) s = Unit {0}
Before (onward k a d) s = Stops (under k) (lead s)

-- after the bracketed sum
module _ (s r : List ℕ) (a : eqb (lead s) 45 ≡ false) (o : eqb (lead s) 40 ≡ true) (lt : length r < length (past s)) (g : Goes operand (past s) r) (st : Stops (chain sums) (lead r)) where
  shorter_s : length (past s) < length s
  shorter_s = past_shorter 40 s refl o

  closed : eqb (lead r) 41 ≡ true → Goes operand s (past r)
  unfolding pop
  closed z = record {
    go = λ b n q.
        let ls = shorter_s in
        let lr = past_shorter 41 r refl z in
        let (m, e) = positive n (omega arith) in
        let k = g.go (suc b) m (omega arith) in
        let kl = k.left in
        let (i, f) = positive k.fuel (omega arith) in
        record {
          fuel = i;
          is = ap (λ (x : ℕ). scan x operand b s) e ∙ scan_open m b s a o ∙ k.is ∙ ap (λ (x : ℕ). scan x operator (suc b) r) f ∙ scan_close i (suc b) r (no_join (lead r) st) z;
          left = omega arith;
        };
  }

  unclosed : eqb (lead r) 41 ≡ false → Fails operand s
  unclosed z = record {
    fails = λ b n q.
        let ls = shorter_s in
        let (m, e) = positive n (omega arith) in
        let k = g.go (suc b) m (omega arith) in
        let kl = k.left in
        let (i, f) = positive k.fuel (omega arith) in
        ap (λ (x : ℕ). scan x operand b s) e ∙ scan_open m b s a o ∙ k.is ∙ ap (λ (x : ℕ). scan x operator (suc b) r) f ∙ scan_end i (suc b) r (no_join (lead r) st) z
        ∙ ap (λ (x : Bool). ended r && x) (ne_eqb (suc b) 0 (λ y. omega arith)) ∙ and-false (ended r);
  }

open_fails : (s : List ℕ) → eqb (lead s) 45 ≡ false → eqb (lead s) 40 ≡ true → Fails operand (past s) → Fails operand s
open_fails s a o h = record {
  fails = λ b n q.
      let ls = past_shorter 40 s refl o in
      let (m, e) = positive n (omega arith) in
      ap (λ (x : ℕ). scan x operand b s) e ∙ scan_open m b s a o ∙ h.fails (suc b) m (omega arith);
}

atom_flat : (s : List ℕ) (g : Got) → atom_of (skip s) ≡ g → OkA s g → eqb (lead s) 45 ≡ false → eqb (lead s) 40 ≡ false → Flat (level factor) s g
unfolding onto
atom_flat s g i OkA.no a o =
    let f : Fails operand s = record {
      fails = λ b n q.
          let (m, e) = positive n (omega arith) in
          ap (λ (x : ℕ). scan x operand b s) e ∙ scan_atom m b s a o ∙ ap (λ (x : Got). onto x (λ r. scan m operator b r)) i;
    } in
    Flat.bad_level f
atom_flat s g i (OkA.ok {r = r} w) a o =
    let f : Goes operand s r = record {
      go = λ b n q.
          let (m, e) = positive n (omega arith) in
          let l = atom_length w in
          record { fuel = m; is = ap (λ (x : ℕ). scan x operand b s) e ∙ scan_atom m b s a o ∙ ap (λ (x : Got). onto x (λ r. scan m operator b r)) i; left = omega arith };
    } in
    Flat.got_level tt (atom_length w) f

pub flat : (n : ℕ) (j : Job) (s : List ℕ) → Enough j s n → Before j s → Flat j s (read n j s)
unfolding read
flat zero (level factor) s h p = absurd (omega arith)
flat zero (level power) s h p = absurd (omega arith)
flat zero (level (chain k)) s h p = absurd (let z = rank_under k in omega arith)
flat zero (onward k a d) s h p = absurd (let z = rank_under k in omega arith)
flat (suc n) (level (chain k)) s h p =
    let z = rank_under k in
    level_after (Flat (level (chain k)) s) (read n (level (under k)) s) (λ a d r. read n (onward k a d) r) (under k) s (flat n (level (under k)) s (omega arith) tt)
    Flat.bad_level
    (λ a d r st lt g. onward_then (Flat (level (chain k)) s) (read n (onward k a d) r) k a d r (flat n (onward k a d) r (omega arith) st)
    (λ f. Flat.bad_level (along_fails operand s r (omega arith) g f))
    (λ e f t st' le g'. Flat.got_level st' (omega arith) (along operand s r t (omega arith) g g')))
flat (suc n) (onward k a d) s h p =
    let z = rank_under k in
    fork (Flat (onward k a d) s) (which k (lead s)) (got a d s) (λ x. after (read n (level (under k)) (past s)) (λ b f r. read n (onward k (linked k x a b) (max d f)) r))
    (λ q. Flat.got_onward (stops_chain k (lead s) p q) (omega arith) (stay s))
    (λ x q.
    let ls = link_shorter k s x q in
    let st : (n b : ℕ) → scan (suc n) operator b s ≡ scan n operand b (past s) = λ n b. scan_join n b s (link_join k (lead s) x q) in
    level_after (Flat (onward k a d) s) (read n (level (under k)) (past s)) (λ b f r. read n (onward k (linked k x a b) (max d f)) r) (under k) (past s)
    (flat n (level (under k)) (past s) (omega arith) tt)
    (λ f. Flat.bad_onward (step_fails operator s ls st f))
    (λ b f r sr lr g. onward_then (Flat (onward k a d) s) (read n (onward k (linked k x a b) (max d f)) r) k (linked k x a b) (max d f) r
    (flat n (onward k (linked k x a b) (max d f)) r (omega arith) sr)
    (λ v. Flat.bad_onward (along_fails operator s r (omega arith) (step_goes operator s ls st r g) v))
    (λ e v t st' le g'. Flat.got_onward st' (omega arith) (along operator s r t (omega arith) (step_goes operator s ls st r g) g'))))
flat (suc n) (level power) s h p =
    level_after (Flat (level power) s) (read n (level factor) s)
    (λ a d r. elim (eqb (lead r) 94) [ true ↦ after (read n (level power) (past r)) (λ b f u. got (raised a b) (max d (suc f)) u) | false ↦ got a d r ]) factor s
    (flat n (level factor) s (omega arith) tt) Flat.bad_level
    (λ a d r st lt g. split (Flat (level power) s) (eqb (lead r) 94) (after (read n (level power) (past r)) (λ b f u. got (raised a b) (max d (suc f)) u)) (got a d r)
    (λ q.
    let lr = past_shorter 94 r refl q in
    let sp : (n b : ℕ) → scan (suc n) operator b r ≡ scan n operand b (past r) = λ n b. scan_join n b r (hat_join (lead r) q) in
    level_after (Flat (level power) s) (read n (level power) (past r)) (λ b f u. got (raised a b) (max d (suc f)) u) power (past r) (flat n (level power) (past r) (omega arith) tt)
    (λ f. Flat.bad_level (along_fails operand s r (omega arith) g (step_fails operator r lr sp f)))
    (λ b f u su lu g'. Flat.got_level su (omega arith) (along operand s r u (omega arith) g (step_goes operator r lr sp u g'))))
    (λ q. Flat.got_level q lt g))
flat (suc n) (level factor) s h p =
    split (Flat (level factor) s) (eqb (lead s) 45) _ _
    (λ q.
    let ls = past_shorter 45 s refl q in
    let sp : (n b : ℕ) → scan (suc n) operand b s ≡ scan n operand b (past s) = λ n b. scan_minus n b s q in
    level_after (Flat (level factor) s) (read n (level factor) (past s)) (λ a d r. got (negated a) (suc d) r) factor (past s) (flat n (level factor) (past s) (omega arith) tt)
    (λ f. Flat.bad_level (step_fails operand s ls sp f))
    (λ a d r st lt g. Flat.got_level st (omega arith) (step_goes operand s ls sp r g)))
    (λ q. split (Flat (level factor) s) (eqb (lead s) 40) _ _
    (λ o.
    let ls = past_shorter 40 s refl o in
    level_after (Flat (level factor) s) (read n (level (chain sums)) (past s)) (λ e d r. elim (eqb (lead r) 41) [ true ↦ got e (suc d) (past r) | false ↦ bad ]) (chain sums) (past s)
    (flat n (level (chain sums)) (past s) (omega arith) tt)
    (λ f. Flat.bad_level (open_fails s q o f))
    (λ e d r st lt g. split (Flat (level factor) s) (eqb (lead r) 41) (got e (suc d) (past r)) bad
    (λ z. let lr = past_shorter 41 r refl z in Flat.got_level tt (omega arith) (closed s r q o lt g st z))
    (λ z. Flat.bad_level (unclosed s r q o lt g st z))))
    (λ o. atom_flat s (atom_of (skip s)) refl (skipped s) q o))

-- ---- the whole text

pub ended_cons : (c : ℕ) (t : List ℕ) (b : Bool) → eqb c 32 ≡ b → ended (c ∷ t) ≡ elim b [ true ↦ ended t | false ↦ false ]
unfolding ended
ended_cons c t true h = ap (λ (x : List ℕ). elim x as (λ y. Bool) [ [] ↦ true | c ∷ t ↦ false ]) (skip_cons c t true h)
ended_cons c t false h = ap (λ (x : List ℕ). elim x as (λ y. Bool) [ [] ↦ true | c ∷ t ↦ false ]) (skip_cons c t false h)

not_ended : (r : List ℕ) → eqb (lead r) 41 ≡ true → ended r ≡ false
unfolding lead
not_ended [] z = absurd_bool z refl
not_ended (c ∷ t) z = go (eqb c 32) refl (not_ended t)
  where
    go : (b : Bool) → eqb c 32 ≡ b → (eqb (lead t) 41 ≡ true → ended t ≡ false) → ended (c ∷ t) ≡ false
    go true h i = ended_cons c t true h ∙ i (ap (λ (x : ℕ). eqb x 41) (sym (lead_cons c t true h)) ∙ z)
    go false h i = ended_cons c t false h

last_step : (n : ℕ) (r : List ℕ) → Stops (chain sums) (lead r) → scan (suc n) operator 0 r ≡ ended r
unfolding pop
last_step n r st = go (eqb (lead r) 41) refl
  where
    go : (b : Bool) → eqb (lead r) 41 ≡ b → scan (suc n) operator 0 r ≡ ended r
    go true z = scan_close n 0 r (no_join (lead r) st) z ∙ sym (not_ended r z)
    go false z = scan_end n 0 r (no_join (lead r) st) z ∙ and-true (ended r)

-- the scan accepts what the reader reads
pub scan_is : (n : ℕ) (s : List ℕ) → length s < n → scan n operand 0 s ≡ is_text s
unfolding is_text whole
scan_is n s h = go (read (4 * length s + 4) (level (chain sums)) s) (flat (4 * length s + 4) (level (chain sums)) s (omega arith) tt)
  where
    go : (g : Got) → Flat (level (chain sums)) s g → scan n operand 0 s ≡ whole g
    go g (Flat.bad_level f) = f.fails 0 n h
    go g (Flat.got_level {r = r} st lt w) =
        let m = w.go 0 n h in
        let ml = m.left in
        let (i, e) = positive m.fuel (omega arith) in
        m.is ∙ ap (λ (x : ℕ). scan x operator 0 r) e ∙ last_step i r st

-- and that is the language
pub ended_blanks : (r : List ℕ) → ended r ≡ true → Blanks r
ended_blanks [] h = Blanks.none
ended_blanks (c ∷ t) h = go (eqb c 32) refl (ended_blanks t)
  where
    go : (b : Bool) → eqb c 32 ≡ b → (ended t ≡ true → Blanks t) → Blanks (c ∷ t)
    go true q i = Blanks.more (eqb-true c 32 q) (i (sym (ended_cons c t true q) ∙ h))
    go false q i = absurd_bool h (ended_cons c t false q)

blanks_ended : {r : List ℕ} → Blanks r → ended r ≡ true
unfolding ended
blanks_ended Blanks.none = refl
blanks_ended (Blanks.more {c} {s} e b) = ended_cons c s true (eq-eqb c 32 e) ∙ blanks_ended b

pub record InLanguage (s : List ℕ) : Type 0 where
  pub expr : Expr
  pub depth : ℕ
  pub text : Text s expr depth

pub is_text_lem : (s : List ℕ) → is_text s ≡ true → InLanguage s
unfolding is_text whole
is_text_lem s h = go (read (4 * length s + 4) (level (chain sums)) s) refl h
  where
    go : (g : Got) → read (4 * length s + 4) (level (chain sums)) s ≡ g → whole g ≡ true → InLanguage s
    go (got e d r) i q = record { expr = e; depth = d; text = text_of s i (ended_blanks r q) }
    go bad i q = absurd_bool q refl

pub text_is : {s : List ℕ} {e : Expr} {d : ℕ} → Text s e d → is_text s ≡ true
unfolding is_text whole
text_is t = ap whole (text_read t) ∙ blanks_ended t.blanks
