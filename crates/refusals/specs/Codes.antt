-- A refusal as one number, for callers that take numbers alone: its number times 2^32, and its place.
use Rattle.std.specs.Prelude.{ℕ, ◌+◌, ◌*◌, ◌%◌, ◌≤◌}
use Rattle.std.proofs.Common.{arith}
use Rattle.rules.specs.Refusals.{number_of, place_of}
use Rattle.rules.specs.declared.Refusal.{Refusal}
use Rattle.rules.specs.declared.Refusal.TheVariants.{TooLong, Form, Range, Full, Used, Levels, Names, OtherBasis, Percents, Overdrawn, Unplaced, NoRoom, NoHeadroom, Short, NoDeck, FileRecord}

-- a deck's last line and an internal number are far below 2^32, and so is a record's number in a file of less than 2^32 bytes
abbrev pub code_of : Refusal → ℕ
code_of r = number_of r * 4_294_967_296 + place_of r % 4_294_967_296

pub number_most : (r : Refusal) → number_of r ≤ 16
number_most TooLong = omega arith
number_most (Form line) = omega arith
number_most (Range line) = omega arith
number_most (Full line) = omega arith
number_most (Used line) = omega arith
number_most (Levels line) = omega arith
number_most (Names line) = omega arith
number_most (OtherBasis line) = omega arith
number_most (Percents line) = omega arith
number_most Overdrawn = omega arith
number_most (Unplaced line) = omega arith
number_most (NoRoom x) = omega arith
number_most (NoHeadroom x) = omega arith
number_most Short = omega arith
number_most NoDeck = omega arith
number_most (FileRecord n) = omega arith
