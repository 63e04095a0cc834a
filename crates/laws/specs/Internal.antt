-- Internal numbers by their value.
use Rattle.std.specs.Prelude.{true, false, ◌≡◌, refl, ℕ}
use Rattle.std.proofs.Common.{ap, eq-eqb, ne_eqb, eqb-true}
use Rattle.rules.specs.Sequences.{same_number}
use Rattle.rules.specs.declared.InternalSequence.{InternalSequence}

abbrev pub internal : ℕ → InternalSequence
internal x = record { 0 = x }

pub number_same : (x y : InternalSequence) → same_number x y ≡ true → x ≡ y
number_same x y e = ap internal (eqb-true x.0 y.0 e)

pub number_itself : (x : InternalSequence) → same_number x x ≡ true
number_itself x = eq-eqb x.0 x.0 refl

pub number_other : (x y : InternalSequence) → (x.0 ≡ y.0 → ⊥) → same_number x y ≡ false
number_other x y f = ne_eqb x.0 y.0 f
