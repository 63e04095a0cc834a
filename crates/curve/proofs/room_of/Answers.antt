use mathlib.Core.Path.{sym, ◌∙◌}
use Rattle.curve.proofs.Rooms.{room_none, room_is}
use Rattle.curve.proofs.room_of.Goals as goal

pub returns-then-not-may_move : goal.returns-then-not-may_move
returns-then-not-may_move c =
    let s = c.args in room_none s.s s.x (sym c.may_move.ensures ∙ c.if-not-may_move.true)

pub returns : goal.returns
returns c =
    let s = c.args in
    c.less.ensures
    ∙ rw (c.less-floor.ensures, c.greater.ensures, c.low_at.ensures)
    (room_is s.s s.x (sym c.may_move.ensures ∙ c.if-not-may_move.false))
