-- Bytes put in front of others, one by one.
use Rattle.std.proofs.Common.{◌≡◌, ℕ, zero, suc, ◌+◌, ◌-◌, ◌*◌, ◌/◌, ◌%◌, ◌^◌, ◌<◌, ◌≤◌, Bool, true, false, cond, eqb, List, [], ◌∷◌, ◌++◌, length, get_or, drop, set, sym, refl, ap, ◌∙◌, subst, ap₂, pow-suc, arith, length-drop, length-set, length-take-le, get_or-drop, drop-cons, get_or-take, get_or-set_same, drop-set-lt, lt-length-set, eq-eqb, ne_eqb, le-leb}
use Rattle.name_entries.specs.Sound as Names
use Rattle.name_entries.specs.Entry.{entry_at}
use Rattle.expression_text.specs.Numeral.{decimals, hexes, hex_byte, numeral}
use Rattle.expression_text.specs.Numeral.{most_whole}
use Rattle.std.specs.Prelude.{Some, None}
use Rattle.std.proofs.lemmas.List.{drop-take, take-take, drop-drop}
use Rattle.std.proofs.lemmas.List.Edits.{paste_all}
use Rattle.std.proofs.Math.Seq.{paste, drop-append_seam}
use Rattle.std.proofs.Common.{take, length-append}
use Rattle.writer.specs.Placing.{spare, space, IsWhole, NamedSymbol, Open, PutsBytes}

-- one byte more
pub front : (l : List ℕ) (f v : ℕ) → 1 ≤ f → f ≤ length l → drop (f - 1) (set l (f - 1) v) ≡ v ∷ drop f l
front l zero v h k = absurd (omega arith)
front l (suc f) v h k =
    let e : suc f - 1 ≡ f = omega arith in
    ap (λ (i : ℕ). drop i (set l i v)) e
    ∙ drop-cons (set l f v) f 0 (lt-length-set l f v (omega arith))
    ∙ ap₂ (λ (a : ℕ) (r : List ℕ). a ∷ r) (get_or-set_same l f v 0 (omega arith)) (drop-set-lt (suc f) l f v (omega arith))

pub push_is : (out : List ℕ) (at v : ℕ) → Open out at → PutsBytes (v ∷ drop at out) 1 at (at - 1) (set out (at - 1) v) × (at - 1 + 1 ≡ at)
push_is out at v o =
    let l = o.low in
    let h = o.high in
    let g = o.long in (
      record { is = front out at v (omega arith) (omega arith); long = length-set out (at - 1) v ∙ g; low = omega arith; high = omega arith },
      omega arith,
    )

-- ---- decimal digits

pub record DecimalsLeft (n at : ℕ) (out₀ out : List ℕ) (place rest : ℕ) : Type 0 where
  pub more : ℕ
  pub place_is : place + 8 ≡ at + more
  pub few : more ≤ 8
  pub room : rest < 10 ^ suc more
  pub same : decimals 9 n (drop at out₀) ≡ decimals (suc more) rest (drop place out)
  pub long : length out ≡ space
  pub free : Open out₀ at

pub decimals_start : (n at : ℕ) (out : List ℕ) → Open out at → n ≤ most_whole → DecimalsLeft n at out out at n
decimals_start n at out o h = record { more = 8; place_is = refl; few = omega arith; room = small; same = refl; long = o.long; free = o }
  where
    small : n < 10 ^ 9
    small = omega arith

digit_byte : (d : ℕ) → d < 10 → hex_byte d ≡ 48 + d
digit_byte d h = ap (λ (b : Bool). cond b (48 + d) (55 + d)) (le-leb d 9 (omega arith))

module _ {n at : ℕ} {out₀ out : List ℕ} {place rest : ℕ} (d : DecimalsLeft n at out₀ out place rest) where
  pub decimals_place : (24 ≤ place) × (place ≤ space)
  decimals_place = let w = d.place_is in let f = d.few in let l = d.free.low in let h = d.free.high in (omega arith, omega arith)

  module _ {v : ℕ} (e : v ≡ hex_byte (rest % 10)) where
    abbrev out' : List ℕ
    out' = set out (place - 1) v

    next : drop (place - 1) out' ≡ (48 + rest % 10) ∷ drop place out
    next =
        let p = decimals_place in
        let l = d.long in
        front out place v (omega arith) (omega arith) ∙ ap (λ (x : ℕ). x ∷ drop place out) (e ∙ digit_byte (rest % 10) (omega arith))

    pub decimals_end : rest / 10 ≡ 0 → PutsBytes (decimals 9 n (drop at out₀)) spare at (place - 1) out'
    unfolding decimals
    decimals_end z = record {
      is =
          next
          ∙ sym (ap (λ (b : Bool). elim b [ true ↦ (48 + rest % 10) ∷ drop place out | false ↦ decimals d.more (rest / 10) ((48 + rest % 10) ∷ drop place out) ]) (eq-eqb (rest / 10) 0 z))
          ∙ sym d.same;
      long = length-set out (place - 1) v ∙ d.long;
      low = let w = d.place_is in omega arith;
      high = let w = d.place_is in let f = d.few in omega arith;
    }

    pub decimals_on : (rest / 10 ≡ 0 → ⊥) → DecimalsLeft n at out₀ out' (place - 1) (rest / 10)
    unfolding decimals
    decimals_on z = go d.more d.place_is d.few d.room d.same
      where
        go : (k : ℕ) → place + 8 ≡ at + k → k ≤ 8 → rest < 10 ^ suc k → decimals 9 n (drop at out₀) ≡ decimals (suc k) rest (drop place out) → DecimalsLeft n at out₀ out' (place - 1) (rest / 10)
        go zero w f r s = absurd (let q : rest < 10 ^ 1 = r in omega arith)
        go (suc k) w f r s =
            let p : 10 ^ suc (suc k) ≡ 10 ^ suc k * 10 = pow-suc 10 (suc k) in
            let u = decimals_place in
            record {
              more = k;
              place_is = omega arith;
              few = omega arith;
              room = omega arith;
              same =
                  s
                  ∙ ap (λ (b : Bool). elim b [ true ↦ (48 + rest % 10) ∷ drop place out | false ↦ decimals (suc k) (rest / 10) ((48 + rest % 10) ∷ drop place out) ]) (ne_eqb (rest / 10) 0 z)
                  ∙ ap (decimals (suc k) (rest / 10)) (sym next);
              long = length-set out (place - 1) v ∙ d.long;
              free = d.free;
            }

-- ---- hex digits

pub record HexesLeft (n at : ℕ) (out₀ out : List ℕ) (place rest left : ℕ) : Type 0 where
  pub place_is : place + 16 ≡ at + left
  pub few : left ≤ 16
  pub same : hexes 16 n (drop at out₀) ≡ hexes left rest (drop place out)
  pub long : length out ≡ space
  pub free : Open out₀ at

pub hexes_start : (n at : ℕ) (out : List ℕ) → Open out at → HexesLeft n at out out at n 16
hexes_start n at out o = record { place_is = refl; few = omega arith; same = refl; long = o.long; free = o }

module _ {n at : ℕ} {out₀ out : List ℕ} {place rest left : ℕ} (d : HexesLeft n at out₀ out place rest left) where
  pub hexes_place : (16 ≤ place) × (place ≤ space)
  hexes_place = let w = d.place_is in let f = d.few in let l = d.free.low in let h = d.free.high in (omega arith, omega arith)

  hexes_step : (k : ℕ) (w : List ℕ) → 0 < k → hexes k rest w ≡ hexes (k - 1) (rest / 16) (hex_byte (rest % 16) ∷ w)
  unfolding hexes
  hexes_step zero w h = absurd (omega arith)
  hexes_step (suc k) w h = let e : k ≡ suc k - 1 = omega arith in ap (λ (i : ℕ). hexes i (rest / 16) (hex_byte (rest % 16) ∷ w)) e

  pub hexes_on : 0 < left → {v : ℕ} → v ≡ hex_byte (rest % 16) → HexesLeft n at out₀ (set out (place - 1) v) (place - 1) (rest / 16) (left - 1)
  hexes_on h {v} e =
      let p = hexes_place in
      let l = d.long in
      let w = d.place_is in
      let f = d.few in
      record {
        place_is = omega arith;
        few = omega arith;
        same = d.same ∙ hexes_step left (drop place out) h ∙ ap (hexes (left - 1) (rest / 16)) (sym (front out place v (omega arith) (omega arith) ∙ ap (λ (x : ℕ). x ∷ drop place out) e));
        long = length-set out (place - 1) v ∙ d.long;
        free = d.free;
      }

  pub hexes_as : {k : ℕ} → left ≡ k → HexesLeft n at out₀ out place rest k
  hexes_as e = subst (HexesLeft n at out₀ out place rest) e d

  pub hexes_end : left ≤ 0 → PutsBytes (35 ∷ hexes 16 n (drop at out₀)) spare at (place - 1) (set out (place - 1) 35)
  unfolding hexes
  hexes_end h =
      let p = hexes_place in
      let l = d.long in
      let w = d.place_is in
      let z : left ≡ 0 = omega arith in
      record {
        is = front out place 35 (omega arith) (omega arith) ∙ ap (λ (x : List ℕ). 35 ∷ x) (sym (d.same ∙ ap (λ (i : ℕ). hexes i rest (drop place out)) z));
        long = length-set out (place - 1) 35 ∙ d.long;
        low = omega arith;
        high = omega arith;
      }

-- ---- constants

decimals_append : (k n : ℕ) (w r : List ℕ) → decimals k n (w ++ r) ≡ decimals k n w ++ r
unfolding decimals
decimals_append zero n w r = refl
decimals_append (suc k) n w r = go (eqb (n / 10) 0) (decimals_append k (n / 10) ((48 + n % 10) ∷ w) r)
  where
    go : (b : Bool) → decimals k (n / 10) ((48 + n % 10) ∷ (w ++ r)) ≡ decimals k (n / 10) ((48 + n % 10) ∷ w) ++ r
        → (elim b [ true ↦ (48 + n % 10) ∷ (w ++ r) | false ↦ decimals k (n / 10) ((48 + n % 10) ∷ (w ++ r)) ])
        ≡ (elim b as (λ x. List ℕ) [ true ↦ (48 + n % 10) ∷ w | false ↦ decimals k (n / 10) ((48 + n % 10) ∷ w) ]) ++ r
    go true i = refl
    go false i = i

hexes_append : (k n : ℕ) (w r : List ℕ) → hexes k n (w ++ r) ≡ hexes k n w ++ r
unfolding hexes
hexes_append zero n w r = refl
hexes_append (suc k) n w r = hexes_append k (n / 16) (hex_byte (n % 16) ∷ w) r

pub number_whole : (bits n at p : ℕ) (r out : List ℕ) → IsWhole bits (Some n) → PutsBytes (decimals 9 n r) spare at p out → PutsBytes (numeral bits ++ r) spare at p out
number_whole bits n at p r out h q = subst (λ (x : List ℕ). PutsBytes x spare at p out) (decimals_append 9 n [] r ∙ ap (λ (x : List ℕ). x ++ r) (sym h.1)) q

pub number_hex : (bits at p : ℕ) (r out : List ℕ) → IsWhole bits None → PutsBytes (35 ∷ hexes 16 bits r) spare at p out → PutsBytes (numeral bits ++ r) spare at p out
number_hex bits at p r out h q =
    subst (λ (x : List ℕ). PutsBytes x spare at p out) (ap (λ (x : List ℕ). 35 ∷ x) (hexes_append 16 bits [] r) ∙ ap (λ (x : List ℕ). x ++ r) (sym h)) q

-- ---- names

module _ {es : List ℕ} {s : ℕ} (m : NamedSymbol es s) where
  abbrev name : List ℕ
  name = Names.name_at es s

  abbrev size : ℕ
  size = get_or es (s * 33) 0

  entry_byte : (j : ℕ) → j < 33 → get_or (entry_at es s) j 0 ≡ get_or es (s * 33 + j) 0
  entry_byte j h = get_or-take 33 (drop (s * 33) es) j 0 h ∙ get_or-drop (s * 33) es j 0

  size_is : get_or (entry_at es s) 0 0 ≡ size
  size_is = entry_byte 0 (omega arith) ∙ ap (λ (i : ℕ). get_or es i 0) (omega arith)

  pub name_length : length name ≡ size
  name_length =
      let f = m.fits in
      let g = m.short in
      let z = size_is in
      length-take-le (get_or (entry_at es s) 0 0) (drop 1 (entry_at es s))
      (omega (arith, length-drop 1 (entry_at es s), length-take-le 33 (drop (s * 33) es) (omega (arith, length-drop (s * 33) es)))) ∙ z

  pub name_byte : (j : ℕ) → j < size → get_or name j 0 ≡ get_or es (s * 33 + (j + 1)) 0
  name_byte j h =
      let z = size_is in
      let g = m.short in
      get_or-take (get_or (entry_at es s) 0 0) (drop 1 (entry_at es s)) j 0 (omega arith)
      ∙ get_or-drop 1 (entry_at es s) j 0 ∙ entry_byte (1 + j) (omega arith) ∙ ap (λ (i : ℕ). get_or es (s * 33 + i) 0) (omega arith)

  -- it stands in the list behind its length
  name_is : name ≡ take size (drop (s * 33 + 1) es)
  name_is =
      ap (λ (n : ℕ). take n (drop 1 (entry_at es s))) size_is
      ∙ ap (take size) (drop-take 1 32 (drop (s * 33) es))
      ∙ take-take size 32 (drop 1 (drop (s * 33) es)) m.short
      ∙ ap (take size) (drop-drop 1 (s * 33) es)

  pub part_is : (part : List ℕ) (n k : ℕ) → n ≡ size → k ≡ n → part ≡ take k (drop (s * 33 + 1) es) → part ≡ name
  part_is part n k e f q = q ∙ ap (λ (j : ℕ). take j (drop (s * 33 + 1) es)) (f ∙ e) ∙ sym name_is

  pub part_long : (part : List ℕ) (n : ℕ) → n ≡ size → part ≡ name → n ≡ length part
  part_long part n e p = e ∙ sym (ap length p ∙ name_length)

  pub name_put : (at : ℕ) (out part out' : List ℕ) → Open out at → (n : ℕ) → n ≡ size → part ≡ name → out' ≡ paste out (at - n) part n
      → PutsBytes (name ++ drop at out) spare at (at - n) out'
  name_put at out part out' o n e p q =
      let g = m.short in
      let w = o.long in
      let l = o.low in
      let h = o.high in
      let z : at - n + n ≡ at = omega arith in
      let t : length (take (at - n) out) ≡ at - n = length-take-le (at - n) out (omega arith) in
      let r : out' ≡ take (at - n) out ++ (part ++ drop at out) = q ∙ paste_all out (at - n) part n (part_long part n e p) ∙ ap (λ (k : ℕ). take (at - n) out ++ (part ++ drop k out)) z in
      record {
        is =
            ap (drop (at - n)) r ∙ ap (λ (k : ℕ). drop k (take (at - n) out ++ (part ++ drop at out))) (sym t)
            ∙ drop-append_seam (take (at - n) out) (part ++ drop at out) ∙ ap (λ (x : List ℕ). x ++ drop at out) p;
        long = omega (arith, ap length r, length-append (take (at - n) out) (part ++ drop at out), length-append part (drop at out), length-drop at out, part_long part n e p);
        low = omega arith;
        high = omega arith;
      }
