-- Signed numbers as they are held and written.
use Rattle.std.specs.Prelude.{◌≡◌, refl, Bool, true, false, List, [], ◌∷◌, ℕ, zero, suc, ◌+◌, T, length, ℤ, pos, negsuc, nat_abs, neg_ℤ, ◌+ℤ◌, ◌-ℤ◌}
use Rattle.std.proofs.Common.{ap, sym, ◌∙◌, arith, length-append, ltb-true, to_z-of_z, Fits, SFits, to_z, of_z}
use Rattle.std.proofs.Math.IntN.{+ℤ_one, +ℤ_idl, neg_ℤ-neg_ℤ}
use Rattle.std.specs.Int.Signed.{lt_z, non_neg}
use Rattle.std.proofs.Math.Facts.{sfits_lit}
use Rattle.std.specs.Int.{w64}
use Rattle.laws.specs.Choices.{true_not_false}
use Rattle.rules.specs.Fields.{digits}
use Rattle.write_fields.specs.Texts.{number_text}
use Rattle.write_amounts.specs.Amounts.{signed_after}

-- a signed number as the machine holds it
abbrev pub held : ℤ → ℤ
held z = to_z w64 (of_z w64 z)

pub signed_held : (b : ℕ) (z : ℤ) → SFits w64 z → (rest : List ℕ) → signed_after b (held z) rest ≡ signed_after b z rest
signed_held b z h rest = ap (λ (y : ℤ). signed_after b y rest) (to_z-of_z h)

-- a number whose bits are 0
pub zero_held : (v : ℤ) → SFits w64 v → of_z w64 v ≡ 0 → v ≡ pos 0
zero_held v h e = sym (to_z-of_z h) ∙ ap (to_z w64) e

-- The size of a number below 0, by way of the number one above it, which has a size that fits.

above : (n : ℕ) → negsuc n +ℤ pos 1 ≡ neg_ℤ (pos n)
above zero = refl
above (suc n) = +ℤ_one (negsuc (suc n))

above_fits : (n : ℕ) → SFits w64 (negsuc n) → SFits w64 (neg_ℤ (pos n))
above_fits zero h = sfits_lit tt
above_fits (suc n) h = record { sfits = omega (arith, h.sfits) }

module _ (n : ℕ) (h : SFits w64 (negsuc n)) where
  above_held : held (negsuc n) +ℤ pos 1 ≡ neg_ℤ (pos n)
  above_held = ap (λ (z : ℤ). z +ℤ pos 1) (to_z-of_z h) ∙ above n

  turned_held : pos 0 -ℤ held (held (negsuc n) +ℤ pos 1) ≡ pos n
  turned_held =
      ap (λ (z : ℤ). pos 0 -ℤ held z) above_held ∙ ap (λ (z : ℤ). pos 0 -ℤ z) (to_z-of_z (above_fits n h)) ∙ +ℤ_idl (neg_ℤ (neg_ℤ (pos n))) ∙ neg_ℤ-neg_ℤ (pos n)

  size_fits : SFits w64 (pos n)
  size_fits = record { sfits = h.sfits }

  size_held : held (pos 0 -ℤ held (held (negsuc n) +ℤ pos 1)) ≡ pos n
  size_held = ap held turned_held ∙ to_z-of_z size_fits

-- what the code's steps ask and come to
pub record Turned (v : ℤ) : Type 0 where
  pub up : SFits w64 (held v +ℤ pos 1)
  pub turned : SFits w64 (pos 0 -ℤ held (held v +ℤ pos 1))
  pub plain : T (non_neg (held (pos 0 -ℤ held (held v +ℤ pos 1)))) × Fits w64 (nat_abs (held (pos 0 -ℤ held (held v +ℤ pos 1))))
  pub more : Fits w64 (nat_abs (held (pos 0 -ℤ held (held v +ℤ pos 1))) + 1)
  pub size : nat_abs (held (pos 0 -ℤ held (held v +ℤ pos 1))) + 1 ≡ nat_abs v

-- whether it is below 0
sign_held : (v : ℤ) (b : Bool) → SFits w64 v → lt_z (held v) (pos 0) ≡ b → lt_z v (pos 0) ≡ b
sign_held v b h e = ap (λ (z : ℤ). lt_z z (pos 0)) (sym (to_z-of_z h)) ∙ e

pub below_turned : (v : ℤ) → SFits w64 v → lt_z (held v) (pos 0) ≡ true → Turned v
below_turned (pos n) h e = absurd (omega (arith, ltb-true n 0 (sign_held (pos n) true h e)))
below_turned (negsuc n) h e =
    record {
      up = rw (above_held n h) (above_fits n h);
      turned = rw (turned_held n h) (size_fits n h);
      plain = rw (size_held n h) (tt, record { fits = omega (arith, h.sfits) });
      more = rw (size_held n h) (record { fits = omega (arith, h.sfits) });
      size = rw (size_held n h) (omega arith);
    }

pub size_plain : (v : ℤ) → SFits w64 v → lt_z (held v) (pos 0) ≡ false → T (non_neg (held v)) × Fits w64 (nat_abs (held v))
size_plain (pos n) h e = rw (to_z-of_z h) (tt, record { fits = omega (arith, h.sfits) })
size_plain (negsuc n) h e = true_not_false (sign_held (negsuc n) false h e)

-- The sign and the digits.

pub minus_text : (b : ℕ) (v : ℤ) (n : ℕ) → SFits w64 v → lt_z (held v) (pos 0) ≡ true → n ≡ nat_abs (held v) → (rest : List ℕ) → b ∷ 45 ∷ number_text n rest ≡ signed_after b v rest
minus_text b (pos m) n h e s rest = absurd (omega (arith, ltb-true m 0 (sign_held (pos m) true h e)))
minus_text b (negsuc m) n h e s rest = let k : n ≡ suc m = s ∙ ap nat_abs (to_z-of_z h) in rw k

pub plus_text : (b : ℕ) (v : ℤ) (n : ℕ) → SFits w64 v → lt_z (held v) (pos 0) ≡ false → n ≡ nat_abs (held v) → (rest : List ℕ) → b ∷ number_text n rest ≡ signed_after b v rest
plus_text b (pos m) n h e s rest = let k : n ≡ m = s ∙ ap nat_abs (to_z-of_z h) in rw k
plus_text b (negsuc m) n h e s rest = true_not_false (sign_held (negsuc m) false h e)

-- How long both are, whatever leads them.

module _ (b : ℕ) (v : ℤ) (n k : ℕ) (h : SFits w64 v) (e : n ≡ nat_abs (held v)) (d : k ≡ length (digits n)) where
  pub minus_length : lt_z (held v) (pos 0) ≡ true → k + 2 ≡ length (signed_after b v [])
  minus_length t = omega (arith, ap length (minus_text b v n h t e []), length-append (digits n) [])

  pub plus_length : lt_z (held v) (pos 0) ≡ false → k + 1 ≡ length (signed_after b v [])
  plus_length t = omega (arith, ap length (plus_text b v n h t e []), length-append (digits n) [])
