-- Document 01, "Numbers a call may give back", and document 02, item 1: each refusal's number and place, and what a call comes to.
use Rattle.std.specs.Prelude.{Bool, true, false, ℕ}
use Rattle.rules.specs.declared.Refusal.{Refusal}
use Rattle.rules.specs.declared.Refusal.TheVariants.{TooLong, Form, Range, Full, Used, Levels, Names, OtherBasis, Percents, Overdrawn, Unplaced, NoRoom, NoHeadroom, Short, NoDeck, FileRecord}

-- "no."
abbrev pub number_of : Refusal → ℕ
number_of TooLong = 1
number_of (Form line) = 2
number_of (Range line) = 3
number_of (Full line) = 4
number_of (Used line) = 5
number_of (Levels line) = 6
number_of (Names line) = 7
number_of (OtherBasis line) = 8
number_of (Percents line) = 9
number_of Overdrawn = 10
number_of (Unplaced line) = 11
number_of (NoRoom x) = 12
number_of (NoHeadroom x) = 13
number_of Short = 14
number_of NoDeck = 15
number_of (FileRecord n) = 16

-- "place": 0, a line, an internal number, or a record of a file
abbrev pub place_of : Refusal → ℕ
place_of TooLong = 0
place_of (Form line) = line
place_of (Range line) = line
place_of (Full line) = line
place_of (Used line) = line
place_of (Levels line) = line
place_of (Names line) = line
place_of (OtherBasis line) = line
place_of (Percents line) = line
place_of Overdrawn = 0
place_of (Unplaced line) = line
place_of (NoRoom x) = x.0
place_of (NoHeadroom x) = x.0
place_of Short = 0
place_of NoDeck = 0
place_of (FileRecord n) = n

-- what a call comes to
pub data Outcome (A : Type 0) : Type 0 where
  accepted : A → Outcome A
  refused : Refusal → Outcome A

-- refused where the rule is broken, and else what comes after
abbrev pub refuse : {A : Type 0} → Bool → Refusal → Outcome A → Outcome A
refuse true r after = refused r
refuse false r after = after

-- the first refusal decides
abbrev pub and_then : {A B : Type 0} → Outcome A → (A → Outcome B) → Outcome B
and_then (accepted a) after = after a
and_then (refused r) after = refused r
