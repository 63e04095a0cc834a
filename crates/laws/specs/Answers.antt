-- What an answer tells of the outcome whose case it is.
use Rattle.std.specs.Prelude.{List, ◌≡◌, refl, ℕ, length, Result, Ok, Err}
use Rattle.std.proofs.Common.{ap}
use Rattle.rules.specs.Answers.{answer_of, verdict_of, written_of}
use Rattle.rules.specs.Refusals.{Outcome, accepted, refused}
use Rattle.rules.specs.declared.Refusal.{Refusal}

pub answer_accepted : {A : Type 0} (o : Outcome A) (a : A) → answer_of o ≡ Ok a → o ≡ accepted a
answer_accepted (accepted b) a e = let k : b ≡ a = cc in ap accepted k
answer_accepted (refused r) a e = cc

pub answer_refused : {A : Type 0} (o : Outcome A) (r : Refusal) → answer_of o ≡ Err r → o ≡ refused r
answer_refused (accepted a) r e = cc
answer_refused (refused q) r e = let k : q ≡ r = cc in ap refused k

pub verdict_accepted : {A : Type 0} (o : Outcome A) → verdict_of o ≡ Ok tt → (a : A) × (o ≡ accepted a)
verdict_accepted (accepted a) e = (a, refl)
verdict_accepted (refused r) e = cc

pub verdict_refused : {A : Type 0} (o : Outcome A) (r : Refusal) → verdict_of o ≡ Err r → o ≡ refused r
verdict_refused (accepted a) r e = cc
verdict_refused (refused q) r e = let k : q ≡ r = cc in ap refused k

pub written_count : {A : Type 0} (o : Outcome (List A)) (n : ℕ) → written_of o ≡ Ok n → (xs : List A) × (o ≡ accepted xs) × (length xs ≡ n)
written_count (accepted xs) n e = let k : length xs ≡ n = cc in (xs, refl, k)
written_count (refused r) n e = cc

pub written_refused : {A : Type 0} (o : Outcome (List A)) (r : Refusal) → written_of o ≡ Err r → o ≡ refused r
written_refused (accepted xs) r e = cc
written_refused (refused q) r e = let k : q ≡ r = cc in ap refused k
