-- What one D line's arithmetic rests on: b and the MWh are small, D only grows and stays within the level.
use Rattle.std.specs.Prelude.{false, ◌≡◌, ℕ, ◌+◌, ◌*◌, ◌/◌, ◌≤◌, min}
use Rattle.std.proofs.Common.{ap, arith}
use Rattle.laws.specs.Sums.{part_most}
use Rattle.merit.specs.LevelNeverBelowB.{Sound, Took, directed_took}
use Rattle.merit.specs.NumbersStaySmall.{Small}
use Rattle.rules.specs.Group.{basis, basic, based_on, with_basic, renewed, directed}
use Rattle.rules.specs.declared.Basis.{Basis}
use Rattle.rules.specs.declared.Direct.{Direct}
use Rattle.rules.specs.declared.Running.{Running}

-- of a source s and a percent total p
abbrev pub taken_of : Running → Basis → ℕ → ℕ
taken_of s x p = basic s x * p / 100

pub record Allocates (s : Running) (x : Basis) (p : ℕ) : Type 0 where
  pub small : Small (with_basic s x)
  pub more : s.d ≤ taken_of s x p
  pub within : taken_of s x p ≤ s.v + s.d
  pub part : taken_of s x p ≤ basic s x

pub allocates : (s : Running) (line : Direct) → Sound s → Small s → s.percent + line.percent ≤ 100 → Allocates s line.basis (s.percent + line.percent)
unfolding directed
allocates s line g l h =
    let t : Took s (directed s line) = directed_took s line g h in
    let part : taken_of s line.basis (s.percent + line.percent) ≤ basic s line.basis = part_most (basic s line.basis) (s.percent + line.percent) 100 h in
    let more : s.d ≤ taken_of s line.basis (s.percent + line.percent) = t.more in
    record {
      small = record { plant = l.plant; v = l.v; b = omega (arith, t.basic, l.v, l.b) };
      more = more;
      within = omega (arith, t.level);
      part = part;
    }

-- b where it is not set
pub basic_new : (s : Running) (x : Basis) (r : ℕ) → s.based ≡ false → r ≡ min s.v (basis x s.plant) → r ≡ basic s x
basic_new s x r e h = rw e h

-- one D line's state, of the b that was set
pub directed_is : (s : Running) (line : Direct) (b : ℕ) → b ≡ basic s line.basis → renewed (based_on s b) (s.percent + line.percent) ≡ directed s line
unfolding directed
directed_is s line b e = ap (λ (x : ℕ). renewed (based_on s x) (s.percent + line.percent)) e
