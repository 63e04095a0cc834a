use Rattle.std.proofs.Common.{◌<◌, arith, length-take, ◌∙◌}
use Rattle.sequence.specs.Placings.{placings_none, placings_more, number_found}
use Rattle.sequence.proofs.keys.Goals as goal

pub loop-j-init : goal.loop-j-init
loop-j-init c = placings_none c.args.ts.now c.args.n

pub loop-j-preserved : goal.loop-j-preserved
loop-j-preserved c =
    let ts = c.args.ts.now in
    let n = c.args.n in
    let j = c.loop-j.j in
    let here : j < n = omega (arith, length-take n ts) in
    placings_more ts n j c.loop-j.placed _ c.told-ts (omega arith) c.loop-j.invariant (c.unwrap_or.ensures ∙ number_found ts n (omega (arith, c.told-ts)) j here _ c.number.ensures)
