-- Laws of loops that fill a list from its start.
use Rattle.std.specs.Prelude.{◌≡◌, List, length, get_or, replicate}
use Rattle.std.proofs.Math.Path.{refl}
use Rattle.std.proofs.Common.{sym, ◌∙◌, get_or-set_same, ext_get_or}
use Prim.Native.Nat.{ℕ, zero, suc, ◌<◌, ◌≤◌}
use Rattle.std.proofs.Math.Decide.{dec_lt}
use native.Mathlib.Omega.{arith}
use Rattle.std.proofs.Math.ListN.{length-set}
use Rattle.std.proofs.lemmas.List.{length-replicate, get_or-replicate}
use Rattle.std.proofs.Math.Seq.{get_or-set_other}
use Rattle.record.specs.Own as own
use Rattle.record.specs.Own.{fill_to}

module _ {A : Type 0} (f : ℕ → A) where
  pub fill_to_length : (xs : List A) (n : ℕ) → length (fill_to f xs n) ≡ length xs
  unfolding own.fill_to
  fill_to_length xs zero = refl
  fill_to_length xs (suc n) = simp length-set (fill_to_length xs n)

  pub fill_to_made : (xs : List A) (n i : ℕ) (d : A) → i < n → i < length xs → get_or (fill_to f xs n) i d ≡ f i
  unfolding own.fill_to
  fill_to_made xs zero i d h l = absurd (omega arith)
  fill_to_made xs (suc n) i d h l = elim (dec_lt i n) [
    | yes m ↦ get_or-set_other (fill_to f xs n) n i (f n) d (λ e. omega arith) ∙ fill_to_made xs n i d m l
    | no m ↦ (
        let q : i ≡ n = omega arith in
        rw q (get_or-set_same (fill_to f xs n) n (f n) d (omega (arith, fill_to_length xs n))))
  ]

  pub fill_to_left : (xs : List A) (n i : ℕ) (d : A) → n ≤ i → get_or (fill_to f xs n) i d ≡ get_or xs i d
  unfolding own.fill_to
  fill_to_left xs zero i d h = refl
  fill_to_left xs (suc n) i d h = get_or-set_other (fill_to f xs n) n i (f n) d (λ e. omega arith) ∙ fill_to_left xs n i d (omega arith)

-- a list's own first n elements, and blanks as it has them after
pub fill_to_own : {A : Type 0} (xs : List A) (blank d : A) (n : ℕ) → length xs ≡ 32 → n ≤ 32
    → ((i : ℕ) → n ≤ i → i < 32 → get_or xs i d ≡ blank) → fill_to (λ i. get_or xs i d) (replicate 32 blank) n ≡ xs
fill_to_own xs blank d n s few rest =
    let size : length (fill_to (λ i. get_or xs i d) (replicate 32 blank) n) ≡ 32 = fill_to_length (λ i. get_or xs i d) (replicate 32 blank) n ∙ length-replicate 32 blank in
    let room : length (replicate 32 blank) ≡ 32 = length-replicate 32 blank in
    ext_get_or d _ xs (omega arith) (λ i l. elim (dec_lt i n) [
      | yes m ↦ fill_to_made (λ i. get_or xs i d) (replicate 32 blank) n i d m (omega arith)
      | no m ↦ fill_to_left (λ i. get_or xs i d) (replicate 32 blank) n i d (omega arith) ∙ get_or-replicate 32 i blank d (omega arith) ∙ sym (rest i (omega arith) (omega arith))
    ])
