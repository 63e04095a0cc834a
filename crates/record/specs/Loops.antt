-- Laws of loops that check all up to a number.
use Rattle.std.specs.Prelude.{◌≡◌, refl, Bool, true, false, ◌&&◌, List, map, length, ℕ, zero, suc, ◌+◌, ◌<◌, ◌≤◌}
use Rattle.std.proofs.Common.{ap, sym, ◌∙◌, arith}
use Rattle.std.proofs.lemmas.List.{length-map}
use Rattle.std.proofs.Math.Decide.{dec_lt}
use Rattle.rules.specs.Words as words
use Rattle.rules.specs.Words.{all_to}
use Rattle.laws.specs.Choices.{both_true}
use Rattle.line_rules.specs.Finds.{and_false, all_to_more}

-- Check all.

pub all_to_on : (p : ℕ → Bool) (n : ℕ) → all_to p n ≡ true → p n ≡ true → all_to p (n + 1) ≡ true
all_to_on p n e f = all_to_more p n ∙ rw (e, f)

pub all_to_fails : (p : ℕ → Bool) (n k : ℕ) → k < n → p k ≡ false → all_to p n ≡ false
unfolding words.all_to
all_to_fails p zero k h e = absurd (omega arith)
all_to_fails p (suc n) k h e = elim (dec_lt k n) [
  | yes l ↦ rw (all_to_fails p n k l e)
  | no l ↦ (let q : k ≡ n = omega arith in ap (λ (b : Bool). all_to p n && b) (ap p (sym q) ∙ e) ∙ and_false (all_to p n))
]

pub all_to_end : (p : ℕ → Bool) (n i : ℕ) → i ≤ n → n ≤ i → all_to p i ≡ true → all_to p n ≡ true
all_to_end p n i a b e = let q : i ≡ n = omega arith in rw q at e

pub all_to_each : (p : ℕ → Bool) (n : ℕ) → all_to p n ≡ true → (i : ℕ) → i < n → p i ≡ true
unfolding words.all_to
all_to_each p zero e i h = absurd (omega arith)
all_to_each p (suc n) e i h =
    let b = both_true (all_to p n) (p n) e in
    elim (dec_lt i n) [ yes l ↦ all_to_each p n b.0 i l | no l ↦ (let q : i ≡ n = omega arith in ap p q ∙ b.1) ]

pub all_to_from : (p : ℕ → Bool) (n : ℕ) → ((i : ℕ) → i < n → p i ≡ true) → all_to p n ≡ true
unfolding words.all_to
all_to_from p zero h = refl
all_to_from p (suc n) h = rw (all_to_from p n (λ i l. h i (omega arith)), h n (omega arith))

-- What owning an array of structs tells of its list: its length is that of the list of their values.
pub length_mapped : {A B : Type 0} (f : A → B) (l : List A) (n : ℕ) → length (map f l) ≡ n → length l ≡ n
length_mapped f l n e = sym (length-map l f) ∙ e
