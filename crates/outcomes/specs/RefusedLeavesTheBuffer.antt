-- A refused outcome leaves every lent byte or cell as it was, also those of groups that went before the one that meets 12 or 13.
use Rattle.std.specs.Prelude.{List, ◌≡◌}
use Rattle.std.proofs.Common.{ap}
use Rattle.rules.specs.Calls.{leaves}
use Rattle.rules.specs.Refusals.{Outcome, refused}
use Rattle.rules.specs.declared.Refusal.{Refusal}

pub refused_leaves_the_buffer : {A : Type 0} (o : Outcome (List A)) (r : Refusal) (buffer : List A) → o ≡ refused r → leaves o buffer ≡ buffer
refused_leaves_the_buffer {A} o r buffer e = ap (λ (o : Outcome (List A)). leaves o buffer) e
