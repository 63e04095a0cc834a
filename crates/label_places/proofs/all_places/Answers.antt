use native.Mathlib.Omega.{arith}
use Rattle.std.proofs.lemmas.Result.{err_from_is_err_and}
use Rattle.label_places.specs.Codes.{all_refused, few_labels, all_short, sources_fit, deliveries_fit, all_put}
use Rattle.label_places.proofs.all_places.Goals as goal

pub returns-in_err-x-clause-outcome : goal.returns-in_err-x-clause-outcome
returns-in_err-x-clause-outcome c =
    let p = err_from_is_err_and c.from_residual.result c.from_residual.ensures.1 in
    rw (p.1, p.2) (all_refused c.args.s.now _ c.args.out.now c.in_err-x.ensures).0

pub returns-in_err-x-clause-places : goal.returns-in_err-x-clause-places
returns-in_err-x-clause-places c = (all_refused c.args.s.now _ c.args.out.now c.in_err-x.ensures).1

pub overflow_add-n : goal.overflow_add-n
overflow_add-n c =
    let few = few_labels _ c.in_ok-x.x c.in_ok-x.ensures in
    omega (arith, few.0, few.1)

pub returns-then-out-n-clause-outcome : goal.returns-then-out-n-clause-outcome
returns-then-out-n-clause-outcome c =
    let a = c.args in (all_short a.s.now c.in_ok-x.x c.in_ok-x.ensures a.out.now c.if-out-n.true).0

pub returns-then-out-n-clause-places : goal.returns-then-out-n-clause-places
returns-then-out-n-clause-places c =
    let a = c.args in (all_short a.s.now c.in_ok-x.x c.in_ok-x.ensures a.out.now c.if-out-n.true).1

pub put_codes-requires : goal.put_codes-requires
put_codes-requires c =
    let a = c.args in
    sources_fit a.s.now c.in_ok-x.x c.in_ok-x.ensures 0 a.out.now (omega (arith, c.if-out-n.false))

pub put_codes-requires-2 : goal.put_codes-requires-2
put_codes-requires-2 c =
    let a = c.args in
    deliveries_fit a.s.now c.in_ok-x.x c.in_ok-x.ensures _ _ (omega (arith, c.if-out-n.false, c.put_codes.ensures.kept))

pub returns-clause-outcome : goal.returns-clause-outcome
returns-clause-outcome c =
    let a = c.args in (all_put a.s.now c.in_ok-x.x c.in_ok-x.ensures a.out.now _ _ c.if-out-n.false c.put_codes.ensures c.put_codes-2.ensures).0

pub returns-clause-places : goal.returns-clause-places
returns-clause-places c =
    let a = c.args in (all_put a.s.now c.in_ok-x.x c.in_ok-x.ensures a.out.now _ _ c.if-out-n.false c.put_codes.ensures c.put_codes-2.ensures).1
