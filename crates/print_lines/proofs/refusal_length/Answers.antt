use mathlib.Core.Path.{ap}
use mathlib.Core.List.{[]}
use native.Mathlib.Omega.{arith}
use lib.ListN.{length}
use Rattle.rules.specs.Refusals.{number_of, place_of}
use Rattle.write_fields.specs.Texts.{spaced_text}
use Rattle.print_lines.specs.Lines.{refusal_length}
use Rattle.print_lines.proofs.refusal_length.Goals as goal

pub returns : goal.returns
returns c =
    omega (arith, refusal_length (number_of c.args.x) (place_of c.args.x), ap (λ n. length (spaced_text n [])) c.number_of-number.ensures, ap (λ n. length (spaced_text n [])) c.place_of-place.ensures, c.spaced_length.ensures.0, c.spaced_length-2.ensures.0)
