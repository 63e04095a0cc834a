use mathlib.Core.Path.{refl}
use Rattle.std.proofs.Common.{◌++◌, ◌*◌, ◌≤◌, length, drop, arith, length-take-le}
use Rattle.rules.specs.Hour.{pair_width}
use Rattle.reconstruct.specs.CellsCleared.{Cleared, cleared_first}
use Rattle.std.proofs.lemmas.Result.{err_from_is_err_and}
use Rattle.groups.specs.MwhsListed.{hour_mwhs}
use Rattle.balance.specs.CellsAreFew.{cells_few, count_few}
use Rattle.reconstruct.specs.WholeAnswer.{keys_of, too_short, Ran, hour_refused, shares_fit, open_fits, hour_done}
use Rattle.roundtrip.specs.GivenHour.{valid_given}
use Rattle.reconstruct.proofs.fill.Goals as goal
use Rattle.reconstruct.proofs.fill.Goals.{After-take_turns, After-fill}

pub overflow_mul-pairs : goal.overflow_mul-pairs
overflow_mul-pairs c = omega (arith, (valid_given _ c.requires.0).sources.few)

pub overflow_mul-pairs-2 : goal.overflow_mul-pairs-2
overflow_mul-pairs-2 c = omega (arith, cells_few _ c.requires.0)

pub overflow_mul-count : goal.overflow_mul-count
overflow_mul-count c = omega (arith, count_few _ c.requires.0)

pub overflow_add-count : goal.overflow_add-count
overflow_add-count c = omega (arith, count_few _ c.requires.0)

pub returns-then-out-count-clause-outcome : goal.returns-then-out-count-clause-outcome
returns-then-out-count-clause-outcome c = (too_short _ _ (omega arith)).0

pub returns-then-out-count-clause-cells : goal.returns-then-out-count-clause-cells
returns-then-out-count-clause-cells c = (too_short _ _ (omega arith)).1

pub list_mwhs-mwhs-requires : goal.list_mwhs-mwhs-requires
list_mwhs-mwhs-requires c = (valid_given _ c.requires.0).deliveries.few

pub take_turns-requires : goal.take_turns-requires
take_turns-requires c =
    (c.requires.0, keys_of _ _ c.requires.1, hour_mwhs _ _ c.list_mwhs-mwhs.ensures, record { led = refl; kept = refl })

-- the run
ran : (c : After-take_turns) → Ran c.args.h c.args.keys c.take_turns.result c.take_turns.new.states c.list_mwhs-mwhs.result c.take_turns.new.led c.take_turns.new.kept
ran c = record { valid = c.requires.0; placed = c.requires.1; turned = c.take_turns.ensures; listed = c.list_mwhs-mwhs.ensures }

-- the pairs' cells are cleared
cleared : (c : After-fill) → let h = c.args.h in
    let pairs = h.ndeliveries * (h.nsources * pair_width) in
    Cleared pairs c.args.out.now (c.fill.new.self ++ drop pairs c.args.out.now)
cleared c =
    let h = c.args.h in
    let room : h.ndeliveries * (h.nsources * pair_width) ≤ length c.args.out.now = omega (arith, c.if-out-count.false) in
    cleared_first _ _ _ room (rw length-take-le at (c.fill.ensures.after (λ y e. e)))

pub share_all-requires : goal.share_all-requires
share_all-requires c =
    shares_fit _ _ _ _ _ _ _ (ran (goal.at.share_all-requires c).After-take_turns) c.in_ok-take_turns.was _ _ c.if-out-count.false (cleared (goal.at.share_all-requires c).After-fill)

pub put_open-requires : goal.put_open-requires
put_open-requires c =
    open_fits _ _ _ _ _ _ _ (ran (goal.at.put_open-requires c).After-take_turns) c.in_ok-take_turns.was _ _ c.if-out-count.false (cleared (goal.at.put_open-requires c).After-fill) _ c.share_all.ensures (omega (arith, c.take_turns.array_long3, (valid_given _ c.requires.0).sources.few))

pub returns-in_err-take_turns : goal.returns-in_err-take_turns
returns-in_err-take_turns c =
    let p = err_from_is_err_and c.from_residual.result c.from_residual.ensures.1 in
    let a = hour_refused _ _ _ _ _ _ _ (ran (goal.at.returns-in_err-take_turns c).After-take_turns) _ c.in_err-take_turns.field-0.0 c.if-out-count.false c.in_err-take_turns.was in
    rw (p.1, p.2) (record { outcome = a.0; cells = a.1 })

pub returns : goal.returns
returns c =
    let a = hour_done _ _ _ _ _ _ _ (ran (goal.at.returns c).After-take_turns) c.in_ok-take_turns.was _ _ c.if-out-count.false (cleared (goal.at.returns c).After-fill) _ c.share_all.ensures (omega (arith, c.take_turns.array_long3, (valid_given _ c.requires.0).sources.few)) _ c.put_open.ensures in
    record { outcome = a.0; cells = a.1 }
