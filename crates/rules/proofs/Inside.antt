-- A number above its range, below it or within it.
use mathlib.Core.Bool.{Bool, true, false, ◌&&◌}
use mathlib.Core.Path.{◌≡◌, refl}
use Prim.Native.Nat.{ℕ, ◌≤◌, ◌<◌}
use borrow.Author.Tests.{le-leb, lt-leb}
use lib.Dec.{leb}
use Rattle.rules.specs.Ranges.{Range, inside}

and_false : (b : Bool) → (b && false) ≡ false
and_false true = refl
and_false false = refl

pub inside_above : (x : Range) (v : ℕ) → x.most < v → inside x v ≡ false
inside_above x v h = rw (lt-leb v x.most h) (and_false (leb x.least v))

pub inside_below : (x : Range) (v : ℕ) → v < x.least → inside x v ≡ false
inside_below x v h = rw (lt-leb x.least v h)

pub inside_within : (x : Range) (v : ℕ) → x.least ≤ v → v ≤ x.most → inside x v ≡ true
inside_within x v l h = rw (le-leb x.least v l, le-leb v x.most h)
