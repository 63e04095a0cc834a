use Rattle.std.proofs.Common.{refl, sym, ◌∙◌, ap, Some, inl, inr}
use Rattle.rules.specs.Sequences.{matches}
use Rattle.sequence.specs.Matches.{picked, more_first, more_next, more_none}
use Rattle.sequence.proofs.best_match.Goals as goal
use Rattle.sequence.proofs.best_match.Goals.{then-o-ne0+then-fits+in-Some, then-o-ne0+then-fits+in-None, else-o-ne0, else-o-ne0-via-then-o-ne0+else-fits, else-o-ne0-via-else-o-ne0}

pub loop-o-init : goal.loop-o-init
unfolding matches
loop-o-init g c = λ p f a b. refl

pub loop-o-preserved : goal.loop-o-preserved
loop-o-preserved g c = λ p f a b.
    let ts = c.args.ts.now in
    let i = c.loop-o.o-index in
    let e = c.loop-o.invariant p f a b in
    elim c.if-o-ne0.branch [
      | then-o-ne0+then-fits+in-Some w ↦ w.found-is ∙ ap Some (b _ _ _ w.pick.ensures ∙ ap (picked f w.in-Some.x) w.times_ten-number.ensures) ∙ more_next f p ts i _ (sym w.in-Some.is ∙ e) w.if-o-ne0.true (sym (a _ _ (record { shown = _; shows = refl; says = record { met = w.fits.ensures } })) ∙ w.if-fits.true)
      | then-o-ne0+then-fits+in-None w ↦ w.found-is ∙ ap Some w.times_ten-number.ensures ∙ more_first f p ts i (sym w.in-None.is ∙ e) w.if-o-ne0.true (sym (a _ _ (record { shown = _; shows = refl; says = record { met = w.fits.ensures } })) ∙ w.if-fits.true)
      | else-o-ne0 w ↦ w.found-is ∙ e ∙ more_none f p ts i (elim w.else-o-ne0.branch [
        | else-o-ne0-via-then-o-ne0+else-fits v ↦ inr (sym (a _ _ (record { shown = _; shows = refl; says = record { met = v.fits.ensures } })) ∙ v.if-fits.false)
        | else-o-ne0-via-else-o-ne0 v ↦ inl v.if-o-ne0.false
      ])
    ]
