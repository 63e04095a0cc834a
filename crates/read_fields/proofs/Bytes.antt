-- A byte at a place, and a field after its space.
use Rattle.std.specs.Prelude.{Some, option_and_then}
use mathlib.Core.Path.{◌≡◌, refl, ap, ◌∙◌}
use mathlib.Core.List.{List, ◌∷◌}
use Prim.Native.Nat.{ℕ, ◌+◌, ◌-◌, ◌<◌, ◌≤◌}
use native.Mathlib.Omega.{arith}
use lib.ListN.{length, take, drop, length-drop}
use lib.Seq.{take_all}
use borrow.Author.Tests.{eq-eqb}
use Rattle.rules.specs.Fields.{Field, got, malformed, on_field, byte, byte_at}
use Rattle.roundtrip.specs.Fields.{byte_there, byte_stood}
use Rattle.read_fields.specs.Answers.{told_as, step_of}

module _ (s : List ℕ) (at : ℕ) (h : 0 < byte s at) where
  pub drop_byte : drop at s ≡ byte s at ∷ drop (at + 1) s
  drop_byte = byte_there s at (byte s at) h (eq-eqb (byte s at) (byte s at) refl)

  pub byte_inside : at < length s
  byte_inside = omega (arith, length-drop at s, ap length drop_byte)

-- the place after a byte that stands there
pub step_inside : (s : List ℕ) (at b next : ℕ) → 0 < b → step_of (byte_at s at b) ≡ Some next → next ≤ length s
step_inside s at b next h e = go (byte_at s at b) refl e
  where
    go : (f : Field (Unit {0})) → byte_at s at b ≡ f → step_of f ≡ Some next → next ≤ length s
    go (got u n) fe e = let k : n ≡ next = cc in (byte_stood s at b next h (fe ∙ ap (got tt) k)).2
    go malformed fe e = cc

-- a field after a byte
pub told_after : {A B : Type 0} (told : A → ℕ → B) (f : Field (Unit {0})) (after : ℕ → Field A)
    → told_as told (on_field f λ u p. after p) ≡ option_and_then (λ p. told_as told (after p)) (step_of f)
told_after told (got u p) after = refl
told_after told malformed after = refl

-- a part to the end is all that is left
pub part_rest : (s : List ℕ) (at : ℕ) → take (length s - at) (drop at s) ≡ drop at s
part_rest s at = take_all (length s - at) (drop at s) (omega (arith, length-drop at s))
