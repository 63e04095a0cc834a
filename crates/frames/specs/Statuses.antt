-- The exit status of a run.
use Rattle.std.specs.Prelude.{ℕ, Result, Ok, Err}
use Rattle.frames.specs.declared.Ending.{Ending}
use Rattle.frames.specs.declared.Failure.{Failure}
use Rattle.frames.specs.declared.Failure.TheVariants.{Unread, Unwritten, TooLong, Unheard}

-- 0, but where nobody reads the answers that of a program that such a pipe killed, as shells have it
abbrev pub status_of : Result Ending Failure → ℕ
status_of (Ok ending) = 0
status_of (Err Unread) = 0
status_of (Err Unwritten) = 0
status_of (Err TooLong) = 0
status_of (Err Unheard) = 141
