use mathlib.Core.Path.{◌≡◌, sym, ap, ◌∙◌}
use Prim.Native.Nat.{ℕ}
use native.Mathlib.Omega.{arith}
use lib.ListN.{length, get_or}
use lib.Dec.{ltb}
use borrow.Author.Tests.{eq-eqb}
use borrow.Author.Rules.{rules}
use Rattle.line_rules.specs.Finds.{all_to_zero, all_to_next}
use Rattle.record.specs.Shape.{own_byte, padded_to}
use Rattle.record.specs.Shape as shape
use Rattle.record.proofs.shape.is_padded.Goals as goal

pub loop-i-init : goal.loop-i-init
loop-i-init c = (search rules, sym (all_to_zero _))

pub loop-i-preserved : goal.loop-i-preserved
loop-i-preserved c =
    let at = c.loop-i in
    let l = c.args.l in (
      search rules,
      all_to_next _ _ _ _ at.invariant.1 (c.own_byte-all.ensures ∙ ap (λ (n : ℕ). own_byte (ltb at.i n) (get_or l.bytes at.i 0)) c.size-n.ensures),
    )

pub returns : goal.returns
unfolding shape.padded
returns c =
    let size : length c.args.l.bytes ≡ 16 = search rules in
    let end : c.loop-i.i ≡ 16 = omega arith in
    rw (eq-eqb _ _ size) (rw end at c.loop-i.invariant.1)
