-- The steps of reading a label's characters out of its own bytes.
use mathlib.Core.Path.{◌≡◌, refl, ap, sym, ◌∙◌}
use mathlib.Core.Bool.{Bool, true, false, not, ◌&&◌}
use mathlib.Core.List.{List, [], ◌∷◌}
use Prim.Native.Nat.{ℕ, zero, suc, ◌+◌, ◌-◌, ◌<◌, ◌≤◌}
use native.Mathlib.Numerals.{add-one}
use native.Mathlib.Omega.{arith}
use lib.ListN.{length, length-set, set, drop, replicate, drop_of_length-le}
use lib.Dec.{eqb}
use Rattle.rules.specs.Words.{when◌then◌else◌}
use Rattle.std.proofs.lemmas.Bool.Decides.{nat_tests}
use lib.Seq.{drop-cons, sets, sets-eq}
use Rattle.rules.specs.Fields as fields
use Rattle.rules.specs.Fields.{byte, unescape, Chars}
use Rattle.rules.specs.Record.{label_of}

unescape_end : (escaped : Bool) (t : List ℕ) (i : ℕ) → length t ≤ i → unescape escaped (drop i t) ≡ []
unfolding fields.unescape
unescape_end true t i past = rw drop_of_length-le
unescape_end false t i past = rw drop_of_length-le

unescape_more : (escaped : Bool) (t : List ℕ) (i : ℕ) → i < length t
    → unescape escaped (drop i t)
    ≡ (when eqb (byte t i) 92 && not escaped then unescape true (drop (i + 1) t) else byte t i ∷ unescape false (drop (i + 1) t))
unfolding fields.unescape
unescape_more true t i h = rw (drop-cons t i 0, add-one i) (go (eqb (byte t i) 92))
  where
    go : (p : Bool) → byte t i ∷ unescape false (drop (suc i) t) ≡ (when p && false then unescape true (drop (suc i) t) else byte t i ∷ unescape false (drop (suc i) t))
    go true = refl
    go false = refl
unescape_more false t i h = rw (drop-cons t i 0, add-one i) (go (eqb (byte t i) 92))
  where
    go : (p : Bool)
        → (when p then unescape true (drop (suc i) t) else byte t i ∷ unescape false (drop (suc i) t))
        ≡ (when p && true then unescape true (drop (suc i) t) else byte t i ∷ unescape false (drop (suc i) t))
    go true = refl
    go false = refl

-- how far it is read: what is still to come, stored from n on, makes the label
pub record Filled (t bytes : List ℕ) (n : ℕ) (escaped : Bool) (i : ℕ) : Type 0 where
  pub count : n + length (unescape escaped (drop i t)) ≡ length (unescape false t)
  pub stored : sets bytes n (unescape escaped (drop i t)) ≡ sets (replicate 16 0) 0 (unescape false t)

pub filled_none : (t : List ℕ) → Filled t (replicate 16 0) 0 false 0
filled_none t = record { count = omega arith; stored = refl }

module _ (t bytes : List ℕ) (n : ℕ) (escaped : Bool) (i : ℕ) (f : Filled t bytes n escaped i) where
  module _ (h : i < length t) where
    -- a backslash, and any other byte, which is a character
    pub filled_backslash : (eqb (byte t i) 92 && not escaped) ≡ true → Filled t bytes n true (i + 1)
    filled_backslash k =
        let u : unescape escaped (drop i t) ≡ unescape true (drop (i + 1) t) = rw (unescape_more escaped t i h, k) in
        record { count = omega (arith, f.count, ap length u); stored = rw u at f.stored }

    module _ (k : (eqb (byte t i) 92 && not escaped) ≡ false) where
      next : unescape escaped (drop i t) ≡ byte t i ∷ unescape false (drop (i + 1) t)
      next = rw (unescape_more escaped t i h, k)

      pub filled_room : length (unescape false t) ≤ 16 → n < 16
      filled_room few = omega (arith, f.count, ap length next)

      pub filled_more : Filled t (set bytes n (byte t i)) (n + 1) false (i + 1)
      filled_more = record { count = omega (arith, f.count, ap length next); stored = rw (add-one n) (rw next at f.stored) }

  pub filled_all : length t ≤ i → length (unescape false t) ≤ 16 → record { len = n; bytes = bytes } ≡ label_of (unescape false t)
  filled_all past h =
      let e = unescape_end escaped t i past in
      same (unescape false t) (omega (arith, f.count, ap length e)) (ap (sets bytes n) (sym e) ∙ f.stored) h
    where
      drop_zeros : (k n : ℕ) → drop {A = ℕ} k (replicate n 0) ≡ replicate (n - k) 0
      drop_zeros zero n = let z : n - zero ≡ n = omega arith in rw z
      drop_zeros (suc k) zero = let z : zero - suc k ≡ zero = omega arith in rw z
      drop_zeros (suc k) (suc n) = let z : suc n - suc k ≡ n - k = omega arith in rw z (drop_zeros k n)

      same : (cs : Chars) → n ≡ length cs → bytes ≡ sets (replicate 16 0) 0 cs → length cs ≤ 16 → record { len = n; bytes = bytes } ≡ label_of cs
      same cs k b h =
          let z : 0 + length cs ≡ length cs = omega arith in
          rw (k, b, sets-eq cs (replicate 16 0) 0 (omega arith), z, drop_zeros (length cs) 16)

pub ruleset filled_steps = (filled_none, filled_backslash, filled_room, filled_more, filled_all, length-set, nat_tests)
