-- How many cells a valid hour's answer can have, at the most.
use Rattle.std.specs.Prelude.{true, ◌≡◌, ℕ, ◌+◌, ◌*◌, ◌≤◌}
use Rattle.std.proofs.Common.{mul-le-mul, arith}
use Rattle.roundtrip.specs.GivenHour.{valid_given}
use Rattle.rules.specs.Hour.{pair_width, open_width, cell_count}
use Rattle.rules.specs.Writing.{valid}
use Rattle.rules.specs.declared.Hour.{Hour}

-- those of 32 deliveries and 32 sources
abbrev pub most_cells : ℕ
most_cells = 32 * (32 * pair_width) + 32 * open_width

module _ (h : Hour) (v : valid h ≡ true) where
  -- the pairs'
  pub cells_few : h.ndeliveries * (h.nsources * pair_width) ≤ 32 * (32 * pair_width)
  cells_few =
      let w : h.nsources * pair_width ≤ 32 * pair_width = omega (arith, (valid_given h v).sources.few) in
      mul-le-mul (valid_given h v).deliveries.few w

  pub count_few : cell_count h ≤ most_cells
  count_few = omega (arith, cells_few, (valid_given h v).sources.few)
