-- What calls answer: of an outcome that is accepted what is told of it, and else the refusal.
use Rattle.std.specs.Prelude.{List, ℕ, length, Result, Ok, Err}
use Rattle.rules.specs.Refusals.{Outcome, accepted, refused}
use Rattle.rules.specs.declared.Refusal.{Refusal}

abbrev pub answer_of : {A : Type 0} → Outcome A → Result A Refusal
answer_of (accepted a) = Ok a
answer_of (refused r) = Err r

-- of a call that only judges
abbrev pub verdict_of : {A : Type 0} → Outcome A → Result (Unit {0}) Refusal
verdict_of (accepted a) = Ok tt
verdict_of (refused r) = Err r

-- of what a call writes, how many there are
abbrev pub written_of : {A : Type 0} → Outcome (List A) → Result ℕ Refusal
written_of (accepted xs) = Ok (length xs)
written_of (refused r) = Err r
