-- Each pair's cell of an answer is the one that the run gave it.
use Rattle.std.specs.Prelude.{◌≡◌, ℕ, ◌<◌}
use Rattle.std.proofs.Common.{◌∙◌}
use Rattle.balance.specs.Accounts.{item_place, item_within, item_read}
use Rattle.rules.specs.Group.{Item}
use Rattle.rules.specs.Hour.{Progress, cells_of}
use Rattle.rules.specs.declared.Hour.{Hour}
use Rattle.balance.specs.AnswerCells.{pair_cell, pair_at}

module _ (h : Hour) (p : Progress) where
  pub pair_cell_lem : (j i : ℕ) (x : Item) → j < h.ndeliveries → i < h.nsources → pair_cell h (cells_of h p) j i x ≡ p.cells j i x
  pair_cell_lem j i x a b = pair_at h p j i (item_place x) a b (item_within x) ∙ item_read (p.cells j i) x
