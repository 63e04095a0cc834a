-- The memory that is lent to a window.
use Rattle.std.specs.Prelude.{◌≡◌, [], length}
use Rattle.std.specs.Borrow.{Fml, MutBor}
use Rattle.std.specs.Io.BufRead.{Rests}
use mir.Syntax.{named}
use Rattle.frames.specs.declared.Window.{Window}
use Rattle.frames.specs.contracts.Window.{the_row}

-- the same is lent, and as much
abbrev pub SameRoom : Window → Window → Type 0
SameRoom old new = (new.bytes.ghost_name ≡ old.bytes.ghost_name) × (length new.bytes.now ≡ length old.bytes.now)

-- of a window that handed out a part of it, once that is looked at no more
abbrev pub RestsAsLong : MutBor Window → Fml
RestsAsLong w = Rests (the_row (record { mir = named 0; lft = [] })) w (SameRoom w.now)
