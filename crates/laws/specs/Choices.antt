-- Laws of truth values, choices, options, outcomes and fields.
use Rattle.std.specs.Prelude.{◌≡◌, refl, Bool, true, false, not, ◌&&◌, ◌||◌, ℕ}
use Rattle.std.proofs.Math.Option.{Option, none, some}
use Rattle.std.proofs.Common.{arith}
use Rattle.rules.specs.Words.{when◌then◌else◌}
use Rattle.rules.specs.Refusals.{Outcome, accepted, refused, refuse, and_then}
use Rattle.rules.specs.Fields.{Field, got, malformed, on_field}
use Rattle.rules.specs.declared.Refusal.{Refusal}

-- Truth values.

pub true_not_false : {A : Type 0} → true ≡ false → A
true_not_false e = let z : ◌≡◌ {A = ℕ} 0 1 = cc in absurd (omega arith)

pub false_not_true : {A : Type 0} → false ≡ true → A
false_not_true e = let z : ◌≡◌ {A = ℕ} 0 1 = cc in absurd (omega arith)

pub both_true : (p q : Bool) → (p && q) ≡ true → (p ≡ true) × (q ≡ true)
both_true true q e = (refl, e)
both_true false q e = false_not_true e

pub either_false : (p q : Bool) → (p || q) ≡ false → (p ≡ false) × (q ≡ false)
either_false true q e = true_not_false e
either_false false q e = (refl, e)

pub not_false : (b : Bool) → not b ≡ false → b ≡ true
not_false true e = refl
not_false false e = true_not_false e

-- Options.

pub none_not_some : {A B : Type 0} (x : A) → none ≡ some x → B
none_not_some x e = let z : ◌≡◌ {A = ℕ} 0 1 = cc in absurd (omega arith)

-- what is there where only a test that passes leaves it
pub some_passed : {A : Type 0} (b : Bool) (x : Option A) (a : A) → (when b then x else none) ≡ some a → (b ≡ true) × (x ≡ some a)
some_passed true x a e = (refl, e)
some_passed false x a e = none_not_some a e

-- Outcomes.

pub refused_not_accepted : {A B : Type 0} (r : Refusal) (a : A) → refused r ≡ accepted a → B
refused_not_accepted r a e = let z : ◌≡◌ {A = ℕ} 0 1 = cc in absurd (omega arith)

pub accepted_same : {A : Type 0} (a b : A) → accepted a ≡ accepted b → a ≡ b
accepted_same a b e = cc

-- what is accepted past a rule keeps the rule
pub refuse_passed : {A : Type 0} (b : Bool) (r : Refusal) (after : Outcome A) (a : A) → refuse b r after ≡ accepted a → (b ≡ false) × (after ≡ accepted a)
refuse_passed true r after a e = refused_not_accepted r a e
refuse_passed false r after a e = (refl, e)

-- what is accepted after another was accepted after that one
pub record Both {A B : Type 0} (x : Outcome A) (after : A → Outcome B) (b : B) : Type 0 where
  pub mid : A
  pub first : x ≡ accepted mid
  pub second : after mid ≡ accepted b

pub then_passed : {A B : Type 0} (x : Outcome A) (after : A → Outcome B) (b : B) → and_then x after ≡ accepted b → Both x after b
then_passed (accepted a) after b e = record { mid = a; first = refl; second = e }
then_passed (refused r) after b e = refused_not_accepted r b e

-- Fields.

pub malformed_not_got : {A B : Type 0} (v : A) (n : ℕ) → malformed ≡ got v n → B
malformed_not_got v n e = let z : ◌≡◌ {A = ℕ} 0 1 = cc in absurd (omega arith)

-- what is got where a test that passes lets nothing through, and where only such a test does
pub got_failed : {A : Type 0} (b : Bool) (x : Field A) (v : A) (n : ℕ) → (when b then malformed else x) ≡ got v n → (b ≡ false) × (x ≡ got v n)
got_failed true x v n e = malformed_not_got v n e
got_failed false x v n e = (refl, e)

pub got_passed : {A : Type 0} (b : Bool) (x : Field A) (v : A) (n : ℕ) → (when b then x else malformed) ≡ got v n → (b ≡ true) × (x ≡ got v n)
got_passed true x v n e = (refl, e)
got_passed false x v n e = malformed_not_got v n e

-- what is got after another was got after that one
pub record BothGot {A B : Type 0} (x : Field A) (after : A → ℕ → Field B) (b : B) (n : ℕ) : Type 0 where
  pub mid : A
  pub place : ℕ
  pub first : x ≡ got mid place
  pub second : after mid place ≡ got b n

pub field_passed : {A B : Type 0} (x : Field A) (after : A → ℕ → Field B) (b : B) (n : ℕ) → on_field x after ≡ got b n → BothGot x after b n
field_passed (got a m) after b n e = record { mid = a; place = m; first = refl; second = e }
field_passed malformed after b n e = malformed_not_got b n e
