use mathlib.Core.Bool.{Bool}
use mathlib.Core.Path.{◌≡◌, sym, ap, ◌∙◌}
use native.Mathlib.Omega.{arith}
use lib.ListN.{length, get_or}
use borrow.Author.Tests.{ne_eqb, eq-eqb, le-ltb}
use borrow.Author.Rules.{rules}
use Rattle.line_rules.specs.Finds.{all_to_zero, all_to_next}
use Rattle.record.specs.Shape as shape
use Rattle.record.specs.Shape.{own_byte, padded_to}
use Rattle.record.proofs.shape.is_blank_label.Goals as goal

pub returns-then-l-ne0 : goal.returns-then-l-ne0
unfolding shape.blank_label
returns-then-l-ne0 c = rw (ne_eqb _ _ c.if-l-ne0.true)

pub loop-at-init : goal.loop-at-init
loop-at-init c = (search rules, sym (all_to_zero _))

pub loop-at-preserved : goal.loop-at-preserved
loop-at-preserved c =
    let l = c.args.l in
    let at = c.loop-at in
    let past = le-ltb at.at l.len (omega arith) in
    (search rules, all_to_next _ _ _ _ at.invariant.1 (c.own_byte-all.ensures ∙ ap (λ (b : Bool). own_byte b (get_or l.bytes at.at 0)) (sym past)))

pub returns : goal.returns
unfolding shape.blank_label shape.padded
returns c =
    let l = c.args.l in
    let size : length l.bytes ≡ 16 = search rules in
    let end : c.loop-at.at ≡ 16 = omega arith in
    rw (eq-eqb _ _ c.if-l-ne0.false, eq-eqb _ _ size) (rw end at c.loop-at.invariant.1)
