-- The steps of reading a record's amounts, and its end.
use Rattle.std.specs.Prelude.{Some, None}
use mathlib.Core.Path.{◌≡◌, refl, ap, sym, ◌∙◌}
use mathlib.Core.List.{List, [], ◌∷◌, append-nil}
use Prim.Native.Nat.{ℕ, zero, suc, ◌+◌, ◌-◌, ◌<◌, ◌≤◌}
use native.Mathlib.Omega.{arith}
use lib.IntN.{ℤ}
use lib.ListN.{length, set, take, drop}
use lib.Seq.{take_all}
use Rattle.rules.specs.Fields.{Field, got, malformed, on_field}
use Rattle.rules.specs.Spreadsheet as spreadsheet
use Rattle.rules.specs.Spreadsheet.{crlf, unused, text_at, number_field_at, listed, numbers_at, last_fields_at}
use Rattle.read_records.specs.Answers.{NonZero, signed_field}
use Rattle.read_records.proofs.Lists.{prefixed, prefixed_more}

listed_first : (z : ℤ) (f : Field (List ℤ)) → listed z f ≡ prefixed (z ∷ []) f
listed_first z (got zs next) = refl
listed_first z malformed = refl

-- after i of n amounts, stored in an array, with those from the place p on to come
module _ (s : List ℕ) (at n : ℕ) (amounts : List ℤ) (p i : ℕ) (so_far : prefixed (take i amounts) (numbers_at (n - i) s p) ≡ numbers_at n s at) where
  numbers_first : i < n → numbers_at (n - i) s p ≡ on_field (number_field_at s p) λ z q. listed z (numbers_at (n - (i + 1)) s q)
  unfolding spreadsheet.numbers_at
  numbers_first h = let k : n - i ≡ suc (n - (i + 1)) = omega arith in rw k

  pub amounts_more : (z : ℤ) (next : ℕ) → i < n → i < length amounts → signed_field (Some (z, next)) ≡ number_field_at s p
      → prefixed (take (i + 1) (set amounts i z)) (numbers_at (n - (i + 1)) s next) ≡ numbers_at n s at
  amounts_more z next h room e =
      prefixed_more amounts i z (numbers_at (n - (i + 1)) s next) room
      ∙ ap (prefixed (take i amounts)) (sym (listed_first z (numbers_at (n - (i + 1)) s next)) ∙ sym (numbers_first h ∙ rw (← e)))
      ∙ so_far

  pub amounts_none : i < n → signed_field None ≡ number_field_at s p → malformed ≡ numbers_at n s at
  amounts_none h e =
      let none : malformed ≡ numbers_at (n - i) s p = sym (numbers_first h ∙ rw (← e)) in
      ap (prefixed (take i amounts)) none ∙ so_far

  pub amounts_all : n ≤ i → length amounts ≡ n → got amounts p ≡ numbers_at n s at
  unfolding spreadsheet.numbers_at
  amounts_all e size =
      let k : n - i ≡ 0 = omega arith in
      rw (take_all i amounts (omega arith), append-nil) at (rw k at so_far)

-- The end of a record.

-- what stands after n amounts
pub ends_part : (n : ℕ) → n ≤ 4 → take (6 - n) (drop n (44 ∷ 44 ∷ 44 ∷ 44 ∷ 13 ∷ 10 ∷ [])) ≡ unused (4 - n) (crlf [])
unfolding spreadsheet.unused
ends_part zero h = refl
ends_part (suc zero) h = refl
ends_part (suc (suc zero)) h = refl
ends_part (suc (suc (suc zero))) h = refl
ends_part (suc (suc (suc (suc zero)))) h = refl
ends_part (suc (suc (suc (suc (suc n))))) h = absurd (omega arith)

unused_non_zero : (n : ℕ) → NonZero (unused n (crlf []))
unfolding spreadsheet.unused
unused_non_zero zero = search arith
unused_non_zero (suc n) = (omega arith, unused_non_zero n)

pub ends_non_zero : (n : ℕ) → n ≤ 4 → NonZero (take (6 - n) (drop n (44 ∷ 44 ∷ 44 ∷ 44 ∷ 13 ∷ 10 ∷ [])))
ends_non_zero n h = rw (ends_part n h) (unused_non_zero (4 - n))
