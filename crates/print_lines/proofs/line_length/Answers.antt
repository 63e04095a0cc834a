use native.Mathlib.Omega.{arith}
use Rattle.print_lines.specs.Lines.{line_length}
use Rattle.print_lines.proofs.line_length.Goals as goal

pub amounts_length-requires : goal.amounts_length-requires
amounts_length-requires c =
    let a = c.args in
    omega (arith, c.requires, line_length a.head.now a.source.now a.amounts.now)

pub overflow_add-result-2 : goal.overflow_add-result-2
overflow_add-result-2 c =
    let a = c.args in
    record { fits = omega (arith, c.requires, line_length a.head.now a.source.now a.amounts.now, c.amounts_length.ensures) }

pub overflow_add-result-3 : goal.overflow_add-result-3
overflow_add-result-3 c =
    let a = c.args in
    record { fits = omega (arith, c.requires, line_length a.head.now a.source.now a.amounts.now, c.amounts_length.ensures) }

pub returns : goal.returns
returns c =
    let a = c.args in
    omega (arith, line_length a.head.now a.source.now a.amounts.now, c.amounts_length.ensures)
