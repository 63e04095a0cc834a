use mathlib.Core.Path.{◌≡◌, refl}
use Prim.Native.Nat.{ℕ}
use native.Mathlib.Omega.{arith}
use lib.IntN.{pos}
use lib.ListN.{length, replicate}
use Rattle.roundtrip.specs.GivenHour.{valid_given}
use Rattle.reconstruct.specs.WholeAnswer.{placeable}
use Rattle.balance.specs.CellsAreFew.{most_cells, cells_few, count_few}
use Rattle.write_spreadsheet.proofs.write_valid.Goals as goal

pub keys-keys-requires : goal.keys-keys-requires
keys-keys-requires c =
    placeable c.args.h c.requires

pub overflow_mul-count : goal.overflow_mul-count
overflow_mul-count c =
    record { fits = omega (arith, (valid_given c.args.h c.requires).sources.few) }

pub overflow_mul-count-2 : goal.overflow_mul-count-2
overflow_mul-count-2 c =
    record { fits = omega (arith, cells_few c.args.h c.requires) }

pub overflow_mul-count-3 : goal.overflow_mul-count-3
overflow_mul-count-3 c =
    record { fits = omega (arith, (valid_given c.args.h c.requires).sources.few) }

pub overflow_add-count : goal.overflow_add-count
overflow_add-count c =
    record { fits = omega (arith, count_few c.args.h c.requires) }

pub fill_cells-end-requires-2 : goal.fill_cells-end-requires-2
fill_cells-end-requires-2 c =
    let long : ◌≡◌ {A = ℕ} (length (replicate most_cells (pos 0))) most_cells = refl in
    (c.requires, c.keys-keys.ensures, omega (arith, long, count_few c.args.h c.requires))
