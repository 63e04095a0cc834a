use native.Mathlib.Omega.{arith}
use Rattle.write_records.specs.Records.{last_length, last_most}
use Rattle.write_records.proofs.last_length.Goals as goal

pub amounts_length-requires : goal.amounts_length-requires
amounts_length-requires c =
    omega (arith, last_most c.args.amounts.now c.requires)

pub overflow_add-result : goal.overflow_add-result
overflow_add-result c =
    record { fits = omega (arith, last_most c.args.amounts.now c.requires, c.amounts_length.ensures) }

pub overflow_add-result-2 : goal.overflow_add-result-2
overflow_add-result-2 c =
    record { fits = omega (arith, last_most c.args.amounts.now c.requires, c.amounts_length.ensures) }

pub returns : goal.returns
returns c =
    let zs = c.args.amounts.now in
    (omega (arith, last_length zs, c.amounts_length.ensures), omega (arith, last_most zs c.requires, c.amounts_length.ensures))
