-- The steps of reading a number or a basis at a place, and that cutting its value on the way changes nothing.
use Rattle.std.specs.Prelude.{Some, option_map}
use mathlib.Core.Path.{◌≡◌, refl, ap, sym, ◌∙◌}
use mathlib.Core.Bool.{Bool, true, false, ◌&&◌}
use mathlib.Core.List.{List, [], ◌∷◌}
use Prim.Native.Nat.{ℕ, suc, ◌+◌, ◌-◌, ◌*◌, ◌<◌, ◌≤◌, min}
use native.Mathlib.Numerals.{add-one}
use native.Mathlib.Omega.{arith}
use lib.ListN.{length, drop, drop_of_length-le}
use borrow.Author.Tests.{ne_eqb, eqb-true}
use lib.Dec.{eqb}
use Rattle.rules.specs.Words.{when◌then◌else◌}
use Rattle.rules.specs.Fields as fields
use Rattle.rules.specs.Fields.{Field, got, malformed, byte, is_digit, run, number_at, basis_from, basis_at}
use Rattle.rules.specs.declared.Basis.TheVariants.{Mwh}
use Rattle.laws.specs.Lists.{get_d_first}
use Rattle.roundtrip.specs.Numbers.{digit_from}
use Rattle.read_fields.specs.Answers.{number_cut, number_field, basis_field}
use Rattle.read_fields.proofs.Bytes.{drop_byte, byte_inside}

-- Reading on, of an answer that tells numbers only up to a bound.

module _ {A : Type 0} (answer : Field ℕ → A) (most : ℕ) (alike : (v w i : ℕ) → min v most ≡ min w most → answer (got v i) ≡ answer (got w i)) where
  pub run_cut : (l : List ℕ) (v w i : ℕ) → min v most ≡ min w most → answer (run v i l) ≡ answer (run w i l)
  unfolding fields.run
  run_cut [] v w i e = alike v w i e
  run_cut (b ∷ t) v w i e = go (is_digit b) (run_cut t (v * 10 + (b - 48)) (w * 10 + (b - 48)) (suc i) (omega arith))
    where
      go : (p : Bool) → answer (run (v * 10 + (b - 48)) (suc i) t) ≡ answer (run (w * 10 + (b - 48)) (suc i) t)
          → answer (when p then run (v * 10 + (b - 48)) (suc i) t else got v i) ≡ answer (when p then run (w * 10 + (b - 48)) (suc i) t else got w i)
      go true ih = ih
      go false ih = alike v w i e

module _ (s : List ℕ) (at : ℕ) where
  pub digit_inside : is_digit (byte s at) ≡ true → 0 < byte s at
  digit_inside d = omega (arith, (digit_from (byte s at) d).0)

  pub digit_within : is_digit (byte s at) ≡ true → at < length s
  digit_within d = byte_inside s at (digit_inside d)

  module _ (v : ℕ) where
    pub run_stop : is_digit (byte s at) ≡ false → run v at (drop at s) ≡ got v at
    unfolding fields.run
    run_stop d = go (drop at s) refl
      where
        go : (l : List ℕ) → drop at s ≡ l → run v at l ≡ got v at
        go [] e = refl
        go (b ∷ t) e = rw (sym (ap is_digit (get_d_first s (b ∷ t) at 0 e)) ∙ d)

    pub run_more : is_digit (byte s at) ≡ true → run v at (drop at s) ≡ run (v * 10 + (byte s at - 48)) (at + 1) (drop (at + 1) s)
    unfolding fields.run
    run_more d = rw (drop_byte s at (digit_inside d), d, add-one at)

    -- the answer where the digits end, and where the bytes do, and one digit more
    module _ (most : ℕ) where
      pub cut_stop : v ≤ most → is_digit (byte s at) ≡ false → number_cut most (run v at (drop at s)) ≡ Some (v, at)
      cut_stop h d = let k : min v most ≡ v = omega arith in rw (run_stop d, k)

      pub cut_end : v ≤ most → length s ≤ at → number_cut most (run v at (drop at s)) ≡ Some (v, at)
      unfolding fields.run
      cut_end h past = let k : min v most ≡ v = omega arith in rw (drop_of_length-le, k)

      pub cut_more : (w : ℕ) → is_digit (byte s at) ≡ true → w ≡ min (v * 10 + (byte s at - 48)) most
          → number_cut most (run v at (drop at s)) ≡ number_cut most (run w (at + 1) (drop (at + 1) s))
      cut_more w d e =
          ap (number_cut most) (run_more d)
          ∙ run_cut (number_cut most) most (λ v w i e. ap (λ (x : ℕ). Some (x, i)) e) (drop (at + 1) s) (v * 10 + (byte s at - 48)) w (at + 1) (omega arith)

module _ (s : List ℕ) (at : ℕ) where
  pub number_none : is_digit (byte s at) ≡ false → number_at s at ≡ malformed
  unfolding fields.number_at
  number_none d = rw d

  pub number_zeros : byte s at ≡ 48 → is_digit (byte s (at + 1)) ≡ true → number_at s at ≡ malformed
  unfolding fields.number_at
  number_zeros z d = rw (z, d)

  pub number_zero : byte s at ≡ 48 → is_digit (byte s (at + 1)) ≡ false → number_at s at ≡ got 0 (at + 1)
  unfolding fields.number_at
  number_zero z d = rw (z, d) (run_more s at 0 (ap is_digit z) ∙ rw z (run_stop s (at + 1) 0 d))

  pub number_run : is_digit (byte s at) ≡ true → (byte s at ≡ 48 → ⊥) → number_at s at ≡ run (byte s at - 48) (at + 1) (drop (at + 1) s)
  unfolding fields.number_at
  number_run d z = let k : 0 * 10 + (byte s at - 48) ≡ byte s at - 48 = omega arith in rw (d, ne_eqb (byte s at) 48 z) (run_more s at 0 d ∙ rw k)

  number_read : is_digit (byte s at) ≡ true → (byte s at ≡ 48 → is_digit (byte s (at + 1)) ≡ false) → number_at s at ≡ run 0 at (drop at s)
  unfolding fields.number_at
  number_read d z = rw d (go (eqb (byte s at) 48) refl)
    where
      go : (p : Bool) → eqb (byte s at) 48 ≡ p → (when p && is_digit (byte s (at + 1)) then malformed else run 0 at (drop at s)) ≡ run 0 at (drop at s)
      go true e = rw (z (eqb-true (byte s at) 48 e))
      go false e = refl

  -- the first digit, cut
  pub cut_first : (most w : ℕ) → is_digit (byte s at) ≡ true → (byte s at ≡ 48 → is_digit (byte s (at + 1)) ≡ false) → w ≡ min (byte s at - 48) most
      → number_cut most (number_at s at) ≡ number_cut most (run w (at + 1) (drop (at + 1) s))
  cut_first most w d z e = ap (number_cut most) (number_read d z) ∙ cut_more s at 0 most w d (omega arith)

-- read on from the first digit, cut
pub cut_on : (s : List ℕ) (f : Field ℕ) (d next most w : ℕ) → run d next (drop next s) ≡ f → w ≡ min d most → number_cut most (run w next (drop next s)) ≡ number_cut most f
cut_on s f d next most w h e = run_cut (number_cut most) most (λ v w i e. ap (λ (x : ℕ). Some (x, i)) e) (drop next s) w d next (omega arith) ∙ ap (number_cut most) h

pub ruleset number_steps = (number_none, number_zeros, number_zero, number_run, run_stop, digit_within)

pub ruleset cut_steps = (cut_on, cut_stop, cut_end, cut_more)

-- a basis that is no letter
pub basis_number : (s : List ℕ) (at : ℕ) → (byte s at ≡ 76 → ⊥) → (byte s at ≡ 71 → ⊥) → basis_field (basis_at s at) ≡ option_map (λ (v, next). (Mwh v, next)) (number_field (number_at s at))
unfolding fields.basis_at
basis_number s at low generation = rw (ne_eqb (byte s at) 76 low, ne_eqb (byte s at) 71 generation) (go (number_at s at))
  where
    go : (f : Field ℕ) → basis_field (basis_from f) ≡ option_map (λ (v, next). (Mwh v, next)) (number_field f)
    go (got v next) = refl
    go malformed = refl
