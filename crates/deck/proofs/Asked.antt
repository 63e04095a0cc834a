-- What an answer tells that a `?` has let through, or has passed on.
use Rattle.std.specs.Prelude.{◌≡◌, Option, Some, None, Result, Ok, Err}
use Rattle.std.specs.Option.{ok_or}
use Rattle.std.specs.Result.{IsErrAnd}
use Rattle.std.proofs.Common.{refl, sym, ap, ◌∙◌}
use Rattle.rules.specs.declared.Refusal.{Refusal}

ok_or_some : {A : Type 0} (o : Option A) (e : Refusal) (x : A) → ok_or o e ≡ Ok x → o ≡ Some x
ok_or_some (Some y) e x k = let is : y ≡ x = cc in ap Some is
ok_or_some None e x k = absurd cc

ok_or_none : {A : Type 0} (o : Option A) (e r : Refusal) → ok_or o e ≡ Err r → (o ≡ None) × (r ≡ e)
ok_or_none (Some y) e r k = absurd cc
ok_or_none None e r k = (refl, cc)

module _ {A : Type 0} {o q : Option A} {r : Result A Refusal} (e : Refusal) (same : o ≡ q) (asked : r ≡ ok_or o e) where
  -- a field that was read
  pub was_read : (x : A) → r ≡ Ok x → q ≡ Some x
  was_read x was = sym same ∙ ok_or_some o e x (sym asked ∙ was)

  -- or was not, with the refusal
  pub was_none : (x : Refusal) → r ≡ Err x → (q ≡ None) × (x ≡ e)
  was_none x was = let k = ok_or_none o e x (sym asked ∙ was) in (sym same ∙ k.0, k.1)

-- the refusal that was passed on
pub was_passed : {A : Type 0} {r : Refusal} (f : Result A Refusal) → IsErrAnd f (λ x. x ≡ r) → f ≡ Err r
was_passed (Ok x) e = absurd e
was_passed (Err x) e = ap Err e
