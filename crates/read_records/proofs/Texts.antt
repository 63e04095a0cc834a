-- The steps of reading a text at a place.
use Rattle.std.specs.Prelude.{Option, Some, None}
use mathlib.Core.Path.{◌≡◌, ap, sym}
use mathlib.Core.List.{List, [], ◌∷◌}
use Prim.Native.Nat.{ℕ, zero, suc, ◌+◌, ◌<◌, ◌≤◌}
use native.Mathlib.Numerals.{add-one}
use native.Mathlib.Omega.{arith}
use lib.ListN.{length, get_or, drop, drop_of_length-le}
use lib.Seq.{drop-cons}
use Rattle.rules.specs.Fields.{Field, got, malformed, on_field, byte_at}
use Rattle.rules.specs.Spreadsheet as spreadsheet
use Rattle.rules.specs.Spreadsheet.{text_at}
use Rattle.read_fields.specs.Answers.{step_of}
use Rattle.read_records.specs.Answers.{NonZero, passed}

pub non_zero : (w : List ℕ) (i : ℕ) → NonZero w → i < length w → 0 < get_or w i 0
non_zero [] i h l = absurd (omega arith)
non_zero (b ∷ t) zero h l = h.0
non_zero (b ∷ t) (suc i) h l = non_zero t i h.1 (omega arith)

-- a byte that must stand there, by the answer of its reader
pub passed_step : (f : Field (Unit {0})) (r : Option ℕ) → r ≡ step_of f → f ≡ passed r
passed_step (got u next) r e = ap passed (sym e)
passed_step malformed r e = ap passed (sym e)

module _ (s w : List ℕ) (p i : ℕ) where
  pub text_end : length w ≤ i → got tt p ≡ text_at s p (drop i w)
  unfolding spreadsheet.text_at
  text_end h = rw drop_of_length-le

  module _ (h : i < length w) (r : Option ℕ) (e : r ≡ step_of (byte_at s p (get_or w i 0))) where
    text_first : text_at s p (drop i w) ≡ on_field (passed r) λ u q. text_at s q (drop (i + 1) w)
    unfolding spreadsheet.text_at
    text_first = rw (drop-cons w i 0, ← passed_step (byte_at s p (get_or w i 0)) r e, add-one i)

    pub text_more : (q : ℕ) → r ≡ Some q → text_at s q (drop (i + 1) w) ≡ text_at s p (drop i w)
    text_more q k = rw (text_first, k)

    pub text_missing : r ≡ None → malformed ≡ text_at s p (drop i w)
    text_missing k = rw (text_first, k)
