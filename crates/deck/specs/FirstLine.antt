-- 1 and the first line, and what a deck comes to by them and the lines after.
use Rattle.std.specs.Prelude.{List, ◌≡◌, ℕ, ltb, length, Result, Ok, Err, IfOk}
use Rattle.rules.specs.Words.{when◌then◌else◌}
use Rattle.rules.specs.Refusals.{Outcome, accepted, refused}
use Rattle.rules.specs.Fields.{Field, got, malformed}
use Rattle.rules.specs.Lines.{Line, line_at}
use Rattle.rules.specs.Places.{line_start}
use Rattle.rules.specs.Record.{started}
use Rattle.rules.specs.Reading.{headed, lines_from}
use Rattle.rules.specs.declared.Hour.{Hour}
use Rattle.rules.specs.declared.Refusal.{Refusal}
use Rattle.rules.specs.declared.Refusal.TheVariants.{TooLong, Form}
use Rattle.read_lines.specs.declared.HeadLine.{HeadLine}

-- The first line.

-- the hour that it starts, if it does
abbrev pub head_taken : Outcome Hour → ℕ → Result HeadLine Refusal
head_taken (accepted h) next = Ok (record { losses = h.losses; next = next })
head_taken (refused r) next = Err r

abbrev pub head_lined : Field Line → Result HeadLine Refusal
head_lined (got l next) = head_taken (headed l) next
head_lined malformed = Err (Form 1)

-- 1 comes before the line, which stands at a place
abbrev pub head_step : List ℕ → ℕ → Result HeadLine Refusal
head_step s at = when ltb 8192 (length s) then Err TooLong else head_lined (line_at s at)

-- the losses, and the place that a reader comes to
abbrev pub head_moved : Result ℕ Refusal → ℕ → Result HeadLine Refusal
head_moved (Ok losses) at = Ok (record { losses = losses; next = at })
head_moved (Err r) at = Err r

-- The lines after it.

abbrev pub rows_after : List ℕ → Result HeadLine Refusal → Outcome Hour
rows_after s (Ok x) = lines_from (length s) s (started x.losses) x.next
rows_after s (Err r) = refused r

-- the place after an accepted first line is where the next one starts
abbrev pub Follows : List ℕ → Result HeadLine Refusal → Type 0
Follows s x = IfOk x (λ x. x.next ≡ line_start s 1)
