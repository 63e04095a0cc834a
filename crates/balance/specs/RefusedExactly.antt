-- A remainder is refused exactly when there is too little room: unloading gives 12 exactly when "last-step floors leave too little room",
-- credit 13 exactly when there is "too little headroom"; else each is accepted.
use Rattle.std.specs.Prelude.{List, ◌⊎◌, ◌≡◌, ℕ, ◌≤◌, ◌<◌}
use Rattle.std.proofs.Common.{inl, inr, sym, ◌∙◌, arith}
use Rattle.laws.specs.Choices.{refused_not_accepted}
use Rattle.rules.specs.Refusals.{Outcome, accepted, refused}
use Rattle.rules.specs.declared.Refusal.{Refusal}
use Rattle.rules.specs.declared.Running.{Running}

-- of r MWh where there is room for so many: refused with x and too many, or accepted and not too many
abbrev pub Judged : ℕ → ℕ → Refusal → Outcome (List Running) → Type 0
Judged r rooms x o = ((o ≡ refused x) × (rooms < r)) ⊎ (((us : List Running) × (o ≡ accepted us)) × (r ≤ rooms))

-- so it is refused exactly when too many, and accepted exactly when not
pub record RefusedExactly (r rooms : ℕ) (x : Refusal) (o : Outcome (List Running)) : Type 0 where
  pub refuses : rooms < r → o ≡ refused x
  pub refused_only : (y : Refusal) → o ≡ refused y → (rooms < r) × (y ≡ x)
  pub accepts : r ≤ rooms → (us : List Running) × (o ≡ accepted us)
  pub accepted_only : (us : List Running) → o ≡ accepted us → r ≤ rooms

pub judged_exactly : (r rooms : ℕ) (x : Refusal) (o : Outcome (List Running)) → Judged r rooms x o → RefusedExactly r rooms x o
judged_exactly r rooms x o (inl j) = record {
  refuses = λ l. j.0;
  refused_only = λ y e. (j.1, cc j.0);
  accepts = λ l. absurd (omega (arith, j.1));
  accepted_only = λ us e. refused_not_accepted x us (sym j.0 ∙ e);
}
judged_exactly r rooms x o (inr j) = record {
  refuses = λ l. absurd (omega (arith, j.1));
  refused_only = λ y e. refused_not_accepted y j.0.0 (sym e ∙ j.0.1);
  accepts = λ l. j.0;
  accepted_only = λ us e. j.1;
}
