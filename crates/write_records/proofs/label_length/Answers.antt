use mathlib.Core.Path.{◌≡◌, ap}
use mathlib.Core.List.{[]}
use native.Mathlib.Omega.{arith}
use lib.ListN.{length, get_or}
use Rattle.rules.specs.Record.{chars}
use Rattle.write_fields.specs.Inked.{up_to, length_none, length_more}
use Rattle.write_records.specs.Records.{doubled_at, front_character, doubled_whole, label_length}
use Rattle.write_records.proofs.label_length.Goals as goal

pub loop-c-init : goal.loop-c-init
loop-c-init c =
    (omega arith, omega (arith, length_none (doubled_at c.characters-c-items.result.now)))

pub loop-c-preserved : goal.loop-c-preserved
loop-c-preserved c =
    let cs = c.characters-c-items.result.now in
    (omega arith, omega (arith, c.character_length-size.ensures.0, length_more (doubled_at cs) (λ i. front_character (get_or cs i 0)) c.loop-c.c-index))

pub returns : goal.returns
returns c =
    let cs = c.characters-c-items.result.now in
    let e : c.loop-c.c-index ≡ length cs = omega arith in
    let all = ap length (doubled_whole c.characters-c-items.ensures.0 []) in
    let same = ap (λ k. length (up_to (doubled_at cs) k [])) e in
    (omega (arith, same, all, label_length (chars c.args.l)), omega arith)
