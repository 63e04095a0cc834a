use borrow.Author.Rules.{rules}
use Rattle.rules.specs.Record.{delivery_at}
use Rattle.write_spreadsheet.specs.Rows.{label_none, label_more}
use Rattle.write_spreadsheet.proofs.delivery_labels.Goals as goal

pub loop-j-init : goal.loop-j-init
loop-j-init c = (search rules, search rules, label_none (λ j. (delivery_at c.args.h j).label))

pub loop-j-preserved : goal.loop-j-preserved
loop-j-preserved c =
    let h = c.args.h in
    (search rules, search rules, label_more (λ j. (delivery_at h j).label) _ c.loop-j.j c.loop-j.invariant.2)
