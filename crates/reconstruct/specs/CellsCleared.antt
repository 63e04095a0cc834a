-- The first n cells cleared: they are 0, and the others stay.
use Rattle.std.specs.Prelude.{List, ◌++◌, ◌≡◌, refl, ℕ, ◌+◌, ◌-◌, ◌≤◌, ◌<◌, ℤ, pos, length, set, drop, replicate}
use Rattle.std.proofs.Common.{◌∙◌, ap, add-one, arith, length-append, length-drop, length-set, get_or-drop, get_or-set_same, get_or-set_other}
use Rattle.std.proofs.lemmas.List.{get_or_append_left, get_or-append_right, get_or-replicate, length-replicate}
use Rattle.balance.specs.AnswerCells.{cell_at}
use Rattle.laws.specs.Sums.{below_suc}

-- of xs, ys with 0 in the first n cells
pub record Cleared (n : ℕ) (xs ys : List ℤ) : Type 0 where
  pub long : length ys ≡ length xs
  pub zero : (p : ℕ) → p < n → cell_at ys p ≡ pos 0
  pub beyond : (p : ℕ) → n ≤ p → cell_at ys p ≡ cell_at xs p

-- cell by cell
module _ (xs : List ℤ) where
  pub cleared_none : Cleared 0 xs xs
  cleared_none = record { long = refl; zero = λ p l. absurd (omega arith); beyond = λ p l. refl }

  pub cleared_more : (n : ℕ) (ys : List ℤ) (v : ℤ) → n < length xs → Cleared n xs ys → v ≡ pos 0 → Cleared (n + 1) xs (set ys n v)
  cleared_more n ys v l c e = record {
    long = length-set ys n v ∙ c.long;
    zero = rw (add-one n)
        (below_suc (λ p. cell_at (set ys n v) p ≡ pos 0) n
        (λ p m. get_or-set_other ys n p v (pos 0) (λ q. omega arith) ∙ c.zero p m)
        (get_or-set_same ys n v (pos 0) (omega (arith, c.long)) ∙ e));
    beyond = λ p m. get_or-set_other ys n p v (pos 0) (λ q. omega arith) ∙ c.beyond p (omega arith);
  }

  pub cleared_end : (n i : ℕ) (ys : List ℤ) → i ≤ n → n ≤ i → Cleared i xs ys → Cleared n xs ys
  cleared_end n i ys a b c = let e : i ≡ n = omega arith in rw e at c

-- by a list of as many
pub cleared_first : (n : ℕ) (xs zs : List ℤ) → n ≤ length xs → zs ≡ replicate n (pos 0) → Cleared n xs (zs ++ drop n xs)
cleared_first n xs zs l e =
    let long : length zs ≡ n = ap length e ∙ length-replicate n (pos 0) in
    record {
      long = omega (arith, long, length-append zs (drop n xs), length-drop n xs);
      zero = λ p m. get_or_append_left zs (drop n xs) (pos 0) p (omega (arith, long)) ∙ ap (λ (ys : List ℤ). cell_at ys p) e ∙ get_or-replicate n p (pos 0) (pos 0) m;
      beyond = λ p m. let there : n + (p - n) ≡ p = omega arith in get_or-append_right zs (drop n xs) n p (pos 0) long m ∙ get_or-drop n xs (p - n) (pos 0) ∙ ap (cell_at xs) there;
    }
