use native.Mathlib.Omega.{arith}
use Rattle.print_lines.specs.Lines.{hour_length}
use Rattle.print_lines.proofs.header_length.Goals as goal

pub amounts_length-requires : goal.amounts_length-requires
amounts_length-requires c =
    omega (arith, c.requires, hour_length c.args.amounts.now)

pub overflow_add-result : goal.overflow_add-result
overflow_add-result c =
    record { fits = omega (arith, c.requires, hour_length c.args.amounts.now, c.amounts_length.ensures) }

pub returns : goal.returns
returns c =
    omega (arith, hour_length c.args.amounts.now, c.amounts_length.ensures)
