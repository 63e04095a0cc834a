use mathlib.Core.Path.{◌≡◌, ap, ◌∙◌}
use native.Mathlib.Omega.{arith}
use borrow.Author.Rules.{rules}
use mir.Syntax.{w64}
use mir.Val.{to_z, of_z}
use Rattle.laws.specs.Parts.{up_to_most}
use Rattle.members.specs.Live.{place_at}
use Rattle.members.specs.Rows.{row_none, row_next, row_all}
use Rattle.rules.specs.Group.{Amount, up_to}
use Rattle.members.proofs.share_row.Goals as goal

pub loop-p-init : goal.loop-p-init
loop-p-init c = λ w a f l. row_none _ _ _ _ a _ _ _

pub share_of-requires : goal.share_of-requires
share_of-requires c =
    let p = c.requires in
    let a = c.args in
    let l = c.loop-p in
    let m = c.loop-p-test.true in
    let q = place_at a.live.now l.p-index in
    let inside = p.listed.place l.p-index m in
    let e = c.part-with.ensures ∙ ap (λ (x : Amount). up_to a.total x.size a.count a.mwh) (p.listed.amount l.p-index m) in (
      omega (arith, e, p.fits.grows q inside, (l.invariant p.width p.a p.fits p.listed).has_still q (p.listed.rises l.p-index m)),
      omega (arith, e, p.fits.sizes_small q inside, up_to_most a.total (p.a q).size a.count a.mwh p.fits.part),
    )

pub loop-p-preserved : goal.loop-p-preserved
loop-p-preserved c =
    let e : to_z w64 (of_z w64 c.share_of.result) ≡ c.share_of.result = search rules in
    λ w a f l. row_next _ _ _ _ a _ _ w _ _ _ _ _ _ f l c.loop-p-test.true (c.loop-p.invariant w a f l) c.part-with.ensures (e ∙ c.share_of.ensures)

pub returns : goal.returns
returns c = λ w a f l. row_all _ _ _ _ a _ _ _ _ _ _ _ f l c.loop-p.auto.p-index-end c.loop-p-test.false (c.loop-p.invariant w a f l)
