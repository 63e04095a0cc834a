use mathlib.Core.Path.{sym, ◌∙◌}
use lib.ListN.{length}
use Rattle.write_deck.specs.Verdict.{writing_refused}
use Rattle.write_deck.proofs.write.Goals as goal

pub returns-then-not-valid-clause-outcome : goal.returns-then-not-valid-clause-outcome
returns-then-not-valid-clause-outcome c =
    let s = c.args in
    let e = writing_refused s.h (length s.out.now) (sym c.valid.ensures ∙ c.if-not-valid.true) in rw e

pub returns-then-not-valid-clause-bytes : goal.returns-then-not-valid-clause-bytes
returns-then-not-valid-clause-bytes c =
    let s = c.args in
    let e = writing_refused s.h (length s.out.now) (sym c.valid.ensures ∙ c.if-not-valid.true) in rw e
