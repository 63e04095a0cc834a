use Prim.Native.Nat.{ℕ}
use native.Mathlib.Omega.{arith}
use Rattle.dispatch.proofs.RivalsSuffice.{rivals_alone, alone_room, alone_taken, rivals_suffice}
use Rattle.dispatch.specs.Rivals.{Alone}
use Rattle.dispatch.proofs.price.Goals as goal

pub returns-then-m-eq1 : goal.returns-then-m-eq1
returns-then-m-eq1 c =
    let roomy : let a = c.args in (i : ℕ) × Alone a.one.now a.step.now a.cap.now a.n a.total c.bar_of-bar.result i = c.bar_of-bar.ensures.some (omega (arith, c.if-bar-eq0.false)) in
    rw c.requires.blank (alone_taken c.requires.sources (rw c.if-m-eq1.true at c.find_rivals-m.ensures) (omega (arith, c.if-bar-eq0.false)) (roomy))

pub take_scaled-requires-2-clause-room : goal.take_scaled-requires-2-clause-room
take_scaled-requires-2-clause-room c =
    let roomy : let a = c.args in (i : ℕ) × Alone a.one.now a.step.now a.cap.now a.n a.total c.bar_of-bar.result i = c.bar_of-bar.ensures.some (omega (arith, c.if-bar-eq0.false)) in
    let sources = c.requires.sources in
    let rivals = c.find_rivals-m.ensures in
    let o = c.gather.ensures in
    let d = c.gather-2.ensures in
    let x = c.gather-3.ensures in alone_room (rivals_alone sources rivals o d x (roomy))

pub returns : goal.returns
returns c =
    let roomy : let a = c.args in (i : ℕ) × Alone a.one.now a.step.now a.cap.now a.n a.total c.bar_of-bar.result i = c.bar_of-bar.ensures.some (omega (arith, c.if-bar-eq0.false)) in
    let sources = c.requires.sources in
    let rivals = c.find_rivals-m.ensures in
    let o = c.gather.ensures in
    let d = c.gather-2.ensures in
    let x = c.gather-3.ensures in
    rivals_suffice sources rivals o d x (rivals_alone sources rivals o d x (roomy)) c.take_scaled-2.ensures c.spread.ensures
