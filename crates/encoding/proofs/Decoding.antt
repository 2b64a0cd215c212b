-- Decoding the words from a place on.
use Prim.Native.Nat.{ℕ, zero, suc, ◌+◌, ◌-◌, ◌<◌, ◌≤◌}
use mathlib.Core.Path.{◌≡◌, refl, ap, ◌∙◌, subst}
use mathlib.Core.Bool.{Bool, true, false, cond}
use mathlib.Core.Option.{Option, none, some}
use mathlib.Core.List.{List, [], ◌∷◌}
use lib.ListN.{length, get_or, take, drop, length-drop}
use lib.Dec.{leb}
use native.Mathlib.Omega.{arith}
use borrow.Author.Tests.{leb-true}
use Rattle.definitions.specs.Controller.{ControllerCall}
use Rattle.encoding.specs.Encoding.{with_rest, call_of_code, first_call, Decoded, decoded, with_first, decode_from, decode, unread}

-- the rest after a call is shorter
pub shorter : (ws : List ℕ) (c : ControllerCall) (r : List ℕ) → first_call ws ≡ some (c, r) → length r < length ws
unfolding first_call
shorter ws c r = one (leb 6 (length ws)) refl
  where
    n : ℕ
    n = get_or ws 5 0

    three : 6 ≤ length ws → (o : Option ControllerCall) → with_rest o (drop (6 + n) ws) ≡ some (c, r) → length r < length ws
    three h none e = let z : ◌≡◌ {A = ℕ} 0 1 = cc in absurd (omega arith)
    three h (some d) e =
        let p : ◌≡◌ {A = ControllerCall × List ℕ} (d, drop (6 + n) ws) (c, r) = cc in
        let q : drop (6 + n) ws ≡ r = ap (λ (x : ControllerCall × List ℕ). x.1) p in
        subst (λ (x : List ℕ). length x < length ws) q (omega (arith, length-drop (6 + n) ws))

    two : 6 ≤ length ws → (b : Bool) → cond b (with_rest (call_of_code (get_or ws 0 0) (get_or ws 1 0) (get_or ws 2 0) (get_or ws 3 0) (get_or ws 4 0) (take n (drop 6 ws))) (drop (6 + n) ws)) none ≡ some (c, r) → length r < length ws
    two h true e = three h (call_of_code (get_or ws 0 0) (get_or ws 1 0) (get_or ws 2 0) (get_or ws 3 0) (get_or ws 4 0) (take n (drop 6 ws))) e
    two h false e = let z : ◌≡◌ {A = ℕ} 0 1 = cc in absurd (omega arith)

    one : (b : Bool) → leb 6 (length ws) ≡ b → cond b (cond (leb n (length ws - 6)) (with_rest (call_of_code (get_or ws 0 0) (get_or ws 1 0) (get_or ws 2 0) (get_or ws 3 0) (get_or ws 4 0) (take n (drop 6 ws))) (drop (6 + n) ws)) none) none ≡ some (c, r) → length r < length ws
    one true k e = two (leb-true 6 (length ws) k) (leb n (length ws - 6)) e
    one false k e = let z : ◌≡◌ {A = ℕ} 0 1 = cc in absurd (omega arith)

-- what is decoded from the first call, or none, on
abbrev after : ℕ → List ℕ → Option (ControllerCall × List ℕ) → Decoded
after f ws o = elim o as (λ x. Decoded) [ none ↦ decoded [] ws | some cr ↦ with_first cr.0 (decode_from f cr.1) ]

-- more fuel than words changes nothing
pub enough : (f g : ℕ) (ws : List ℕ) → length ws ≤ f → length ws ≤ g → decode_from f ws ≡ decode_from g ws
unfolding decode_from
enough zero zero ws a b = refl
enough zero (suc g) ws a b = short (first_call ws) refl
  where
    short : (o : Option (ControllerCall × List ℕ)) → first_call ws ≡ o → decoded [] ws ≡ after g ws o
    short none e = refl
    short (some cr) e = absurd (omega (arith, shorter ws cr.0 cr.1 e))
enough (suc f) zero ws a b = short (first_call ws) refl
  where
    short : (o : Option (ControllerCall × List ℕ)) → first_call ws ≡ o → after f ws o ≡ decoded [] ws
    short none e = refl
    short (some cr) e = absurd (omega (arith, shorter ws cr.0 cr.1 e))
enough (suc f) (suc g) ws a b = both (first_call ws) refl (λ r h. enough f g r (omega arith) (omega arith))
  where
    both : (o : Option (ControllerCall × List ℕ)) → first_call ws ≡ o → ((r : List ℕ) → length r < length ws → decode_from f r ≡ decode_from g r) → after f ws o ≡ after g ws o
    both none e rec = refl
    both (some cr) e rec = ap (with_first cr.0) (rec cr.1 (shorter ws cr.0 cr.1 e))

-- the calls of the words and the words past them: none and all, or the first call and those of the rest
decoded_none : (ws : List ℕ) → first_call ws ≡ none → decode_from (length ws) ws ≡ decoded [] ws
unfolding decode_from
decoded_none ws e = go (length ws)
  where
    go : (f : ℕ) → decode_from f ws ≡ decoded [] ws
    go zero = refl
    go (suc f) = ap (after f ws) e

decoded_some : (ws : List ℕ) (c : ControllerCall) (r : List ℕ) → first_call ws ≡ some (c, r) → decode_from (length ws) ws ≡ with_first c (decode_from (length r) r)
unfolding decode_from
decoded_some ws c r e = go (length ws) (shorter ws c r e)
  where
    go : (f : ℕ) → length r < f → decode_from f ws ≡ with_first c (decode_from (length r) r)
    go zero h = absurd (omega arith)
    go (suc f) h = ap (after f ws) e ∙ ap (with_first c) (enough f (length r) r (omega arith) (omega arith))

module _ (ws : List ℕ) where
  pub decode_none : first_call ws ≡ none → decode ws ≡ []
  unfolding decode
  decode_none e = ap (λ (d : Decoded). d.calls) (decoded_none ws e)

  pub unread_none : first_call ws ≡ none → unread ws ≡ ws
  unfolding unread
  unread_none e = ap (λ (d : Decoded). d.unread) (decoded_none ws e)

  module _ (c : ControllerCall) (r : List ℕ) where
    pub decode_some : first_call ws ≡ some (c, r) → decode ws ≡ c ∷ decode r
    unfolding decode
    decode_some e = ap (λ (d : Decoded). d.calls) (decoded_some ws c r e)

    pub unread_some : first_call ws ≡ some (c, r) → unread ws ≡ unread r
    unfolding unread
    unread_some e = ap (λ (d : Decoded). d.unread) (decoded_some ws c r e)

-- no call in no words
pub none_in_nothing : first_call [] ≡ none
unfolding first_call
none_in_nothing = refl
