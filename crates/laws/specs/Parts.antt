-- What the members so far have of an amount, rules' `up_to`.
use Rattle.std.specs.Prelude.{Bool, true, false, ◌≡◌, refl}
use Rattle.std.proofs.Common.{ap, zero-mul, mul-zero, mul-div_cancel, mul-le-mul_left}
use Prim.Native.Nat.{ℕ, zero, suc, ◌*◌, ◌/◌, ◌≤◌, ◌<◌}
use Rattle.std.proofs.Math.Nat.{zero-div}
use native.Mathlib.Omega.{arith}
use borrow.Author.Tests.{ne_eqb}
use Rattle.std.proofs.Math.Dec.{eqb}
use Rattle.laws.specs.Sums.{div_grows, part_most}
use Rattle.rules.specs.Group.{up_to}
use Rattle.rules.specs.Words.{when◌then◌else◌}

module _ (x size c m : ℕ) where
  pub up_to_part : 0 < x → size * m / x ≡ up_to x size c m
  unfolding up_to
  up_to_part h = rw (ne_eqb x 0 (λ e. omega arith))

  pub up_to_none : x ≡ 0 → c ≡ 0 → 0 ≡ up_to x size c m
  unfolding up_to
  up_to_none h z = rw (h, z)

  pub up_to_whole : x ≡ 0 → (c ≡ 0 → ⊥) → size ≡ up_to x size c m
  unfolding up_to
  up_to_whole h z = rw (h, ne_eqb c 0 z)

  -- with more members they have no less
  pub up_to_grows : (d k : ℕ) → c ≤ d → m ≤ k → up_to x size c m ≤ up_to x size d k
  unfolding up_to
  up_to_grows d k l h = go (eqb x 0)
    where
      first : (a b : ℕ) → a ≤ b → (when eqb a 0 then 0 else size) ≤ (when eqb b 0 then 0 else size)
      first zero b l = omega arith
      first (suc a) b l = rw (ne_eqb (suc a) 0 (λ e. omega arith), ne_eqb b 0 (λ e. omega arith)) (omega arith)

      go : (y : Bool) → (when y then (when eqb c 0 then 0 else size) else size * m / x) ≤ (when y then (when eqb d 0 then 0 else size) else size * k / x)
      go true = first c d l
      go false = div_grows (size * m) (size * k) x (mul-le-mul_left size h)

-- of a size of 0 they have 0
pub up_to_nothing : (x size c m : ℕ) → size ≡ 0 → 0 ≡ up_to x size c m
unfolding up_to
up_to_nothing x size c m e = rw e (go (eqb x 0) (eqb c 0))
  where
    go : (y z : Bool) → 0 ≡ (when y then (when z then 0 else 0) else 0 * m / x)
    go true true = refl
    go true false = refl
    go false z = rw (zero-mul m, zero-div x)

-- with all of the MWh they have all
pub up_to_all : (x size c m : ℕ) → m ≡ x → 0 < c → size ≡ up_to x size c m
up_to_all zero size c m e h = up_to_whole 0 size c m refl (λ z. omega arith)
up_to_all (suc x) size c m e h = omega (arith, mul-div_cancel size {n = suc x} (omega arith), ap (λ (y : ℕ). size * y / suc x) e, up_to_part (suc x) size c m (omega arith))

-- before the first they have 0
pub up_to_start : (x size : ℕ) → 0 ≡ up_to x size 0 0
unfolding up_to
up_to_start x size = go (eqb x 0)
  where
    go : (y : Bool) → 0 ≡ (when y then 0 else size * 0 / x)
    go true = refl
    go false = rw (mul-zero size, zero-div x)

-- never more than all
pub up_to_most : (x size c m : ℕ) → m ≤ x → up_to x size c m ≤ size
unfolding up_to
up_to_most x size c m h = go (eqb x 0) (eqb c 0)
  where
    go : (y z : Bool) → (when y then (when z then 0 else size) else size * m / x) ≤ size
    go true true = omega arith
    go true false = omega arith
    go false z = part_most size m x h
