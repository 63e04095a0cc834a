use Rattle.std.proofs.Common.{ℕ, ◌+◌, ◌≤◌, take}
use Rattle.members.specs.Live.{Listed, Items}
use Rattle.rules.specs.Group.{Amount}
use Rattle.members.proofs.live.Live.push_items.Given as goal

abbrev pub invariant-loop-item : goal.invariant-loop-item
invariant-loop-item l =
    (l.self.len ≤ l.from + l.item) ×
    ((a : ℕ → Amount) → Items a l.from l.amount-items → Listed a l.from (take l.initial.self.len l.initial.self.placed) → Listed a (l.from + l.item) (take l.self.len l.self.placed))
