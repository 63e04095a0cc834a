use borrow.Author.Rules.{rules}
use mathlib.Core.Path.{ap}
use mathlib.Core.List.{[]}
use native.Mathlib.Omega.{arith}
use lib.ListN.{length}
use Rattle.write_fields.specs.Inked.{inked_as, inked_none, inked_more, room_as, room_next}
use Rattle.write_spreadsheet.specs.Rows.{label_at, open_at, front_open_at, open_made}
use Rattle.write_spreadsheet.proofs.put_opens.Goals as goal

pub loop-i-init : goal.loop-i-init
loop-i-init c =
    (search rules, search rules, c.requires.1.there, inked_none _ _ _)

pub put_internal-p-requires : goal.put_internal-p-requires
put_internal-p-requires c =
    let a = c.args in
    let i = c.loop-i.i in
    let records = open_at a.sources a.cells.now a.base in
    let fronts = front_open_at a.sources a.cells.now a.base in (
      omega (arith, ap length c.open_amounts_at-amounts.ensures),
      room_as (open_made (label_at a.sources i) c.open_amounts_at-amounts.ensures [])
          (room_next records fronts i a.n (omega arith) c.loop-i.invariant.3 c.requires.2),
    )

pub loop-i-preserved : goal.loop-i-preserved
loop-i-preserved c =
    let written = open_made (label_at c.args.sources c.loop-i.i) c.open_amounts_at-amounts.ensures in
    (search rules, search rules, search rules, inked_more _ _ c.loop-i.invariant.3 (inked_as written c.put_internal-p.ensures))
