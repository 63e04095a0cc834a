use mathlib.Core.Path.{ap}
use mathlib.Core.List.{[]}
use native.Mathlib.Omega.{arith}
use borrow.Author.Tests.{ne_eqb}
use lib.ListN.{length}
use Rattle.write_records.specs.Records.{character_quote, character_plain}
use Rattle.write_records.proofs.character_length.Goals as goal

pub returns-then-c-ne34 : goal.returns-then-c-ne34
returns-then-c-ne34 c =
    (ap length (character_plain c.args.c (ne_eqb _ 34 c.if-c-ne34.true) []), omega arith)

pub returns : goal.returns
returns c =
    (ap length (character_quote c.args.c c.if-c-ne34.false []), omega arith)
