use mathlib.Core.Path.{◌≡◌, ◌∙◌, ap, sym}
use native.Mathlib.Omega.{arith}
use borrow.Author.Rules.{rules}
use lib.ListN.{length-set}
use mir.Syntax.{w64}
use mir.Val.{to_z, of_z}
use Rattle.read_records.specs.Answers.{signed_field}
use Rattle.read_records.proofs.Amounts.{amounts_more}
use Rattle.read_records.proofs.numbers_at.Goals as goal

pub loop-i-preserved : goal.loop-i-preserved
loop-i-preserved g c =
    let l = c.loop-i in
    let held : to_z w64 (of_z w64 c.in_ok-z.z) ≡ c.in_ok-z.z = search rules in (
      simp length-set l.invariant.0,
      omega arith,
      rw held
          (amounts_more c.args.s.now c.args.at g.row.N l.amounts l.p l.i l.invariant.2 c.in_ok-z.z c.in_ok-z.next c.loop-i-test.true (omega arith)
          (ap signed_field (sym c.in_ok-z.was) ∙ c.number_field_at.ensures)),
    )
