-- The calls for C: what a deck comes to as one number, a count or a refusal's code.
use Rattle.std.specs.Prelude.{Result, Ok, Err}
use Rattle.rules.specs.declared.Refusal.{Refusal}
use Rattle.std.specs.Prelude.{List, ℕ, ℤ, length}
use Rattle.refusals.specs.Codes.{code_of}
use Rattle.rules.specs.Calls.{reconstruction}
use Rattle.rules.specs.Reading.{reading}
use Rattle.rules.specs.Refusals.{Outcome, accepted, refused, and_then}
use Rattle.rules.specs.declared.Hour.{Hour}

abbrev pub check_code : Outcome Hour → ℕ
check_code (accepted h) = 0
check_code (refused r) = code_of r

abbrev pub sources_code : Outcome Hour → ℕ
sources_code (accepted h) = h.nsources
sources_code (refused r) = code_of r

abbrev pub deliveries_code : Outcome Hour → ℕ
deliveries_code (accepted h) = h.ndeliveries
deliveries_code (refused r) = code_of r

-- a deck's cells, into a buffer of so many: the deck's refusal, or that of the reconstruction of its hour
unfoldable pub cells_of_deck : List ℕ → ℕ → Outcome (List ℤ)
cells_of_deck s size = and_then (reading s) λ h. reconstruction h size

-- how many were written
abbrev pub written_code : {A : Type 0} → Outcome (List A) → ℕ
written_code (accepted xs) = length xs
written_code (refused r) = code_of r

abbrev pub answer_code : (Result ℕ Refusal) → ℕ
answer_code (Ok n) = n
answer_code (Err r) = code_of r
