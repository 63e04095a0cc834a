use mathlib.Core.Bool.{true}
use mathlib.Core.Path.{◌≡◌, sym, ◌∙◌}
use Rattle.reconstruct.specs.WholeAnswer.{no_deck, past_15}
use Rattle.rules.specs.Writing.{valid}
use Rattle.reconstruct.proofs.tried.Goals as goal

pub returns-then-not-valid-clause-outcome : goal.returns-then-not-valid-clause-outcome
returns-then-not-valid-clause-outcome c = (no_deck _ _ (sym c.valid.ensures ∙ c.if-not-valid.true)).0

pub returns-then-not-valid-clause-cells : goal.returns-then-not-valid-clause-cells
returns-then-not-valid-clause-cells c = (no_deck _ _ (sym c.valid.ensures ∙ c.if-not-valid.true)).1

pub returns-clause-outcome : goal.returns-clause-outcome
returns-clause-outcome c =
    let is_valid : valid c.args.h ≡ true = sym c.valid.ensures ∙ c.if-not-valid.false in (past_15 _ c.args.out.now _ _ is_valid (c.cells_of.ensures.outcome, c.cells_of.ensures.cells)).0

pub returns-clause-cells : goal.returns-clause-cells
returns-clause-cells c =
    let is_valid : valid c.args.h ≡ true = sym c.valid.ensures ∙ c.if-not-valid.false in (past_15 _ c.args.out.now _ _ is_valid (c.cells_of.ensures.outcome, c.cells_of.ensures.cells)).1
