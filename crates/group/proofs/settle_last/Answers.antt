use mathlib.Core.Path.{ap, ◌∙◌}
use Prim.Native.Nat.{ℕ, ◌-◌}
use native.Mathlib.Omega.{arith}
use Rattle.rules.specs.Group.{plain, last_step, to_emergency}
use Rattle.group.specs.Settling.{settled_done, settled_refused, outcome_no_headroom, outcome_no_room, outcome_last}
use Rattle.group.proofs.settle_last.Goals as goal

pub returns-then-up : goal.returns-then-up
returns-then-up c =
    let a = c.args in
    let s = settled_refused a.states.now (outcome_no_headroom a.number a.up a.n a.states.now a.total c.requires.short c.if-up.true) in
    record { verdict = s.verdict; states = s.states }

pub returns-then-rooms-total : goal.returns-then-rooms-total
returns-then-rooms-total c =
    let a = c.args in
    let s = settled_refused a.states.now (outcome_no_room a.number a.up a.n a.states.now a.total c.requires.short c.if-up.false (omega (arith, c.if-rooms-total.true, c.rooms.ensures))) in
    record { verdict = s.verdict; states = s.states }

pub returns : goal.returns
returns c =
    let a = c.args in
    let s =
    settled_done a.states.now
    (c.below_emergency.ensures ∙ ap (λ (x : ℕ). plain last_step a.n (to_emergency a.states.now) (a.total - x)) c.rooms-lowered.ensures)
    (outcome_last a.number a.up a.n a.states.now a.total c.requires.short c.if-up.false (omega (arith, c.if-rooms-total.false, c.rooms.ensures))) in
    record { verdict = s.verdict; states = s.states }
