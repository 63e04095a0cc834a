use Rattle.std.proofs.Common.{sym, ◌∙◌, arith}
use Rattle.read_fields.proofs.Numbers.{cut_more}
use Rattle.read_fields.proofs.number_up_to.Goals as goal

pub loop-i-preserved : goal.loop-i-preserved
loop-i-preserved g c =
    let l = c.loop-i in
    let more = cut_more c.args.s.now l.i l.v g.row.MOST c.min-v-in-loop-i.result (sym c.is_digit.ensures ∙ c.if-not-is_digit.false) (omega (arith, c.saturating_mul.ensures, c.saturating_add.ensures, c.min-v-in-loop-i.ensures, g.MOST.fits)) in
    (omega (arith, c.min-v-in-loop-i.ensures), cc)
