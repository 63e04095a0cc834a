use borrow.Author.Rules.{rules}
use Rattle.rules.specs.Record.{source_at}
use Rattle.write_spreadsheet.specs.Rows.{label_none, label_more}
use Rattle.write_spreadsheet.proofs.source_labels.Goals as goal

pub loop-i-init : goal.loop-i-init
loop-i-init c = (search rules, search rules, label_none (λ i. (source_at c.args.h i).label))

pub loop-i-preserved : goal.loop-i-preserved
loop-i-preserved c =
    let h = c.args.h in
    (search rules, search rules, label_more (λ i. (source_at h i).label) _ c.loop-i.i c.loop-i.invariant.2)
