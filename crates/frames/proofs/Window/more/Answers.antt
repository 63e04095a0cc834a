-- What a read writes stands after what was there.
use Rattle.std.proofs.Common.{take, rules, length-take-le}
use Rattle.std.proofs.lemmas.Slice.{overwrites}
use Rattle.frames.specs.Filled.{gave_after}
use Rattle.frames.proofs.Window.more.Goals as goal

pub returns-clause-front : goal.returns-clause-front
returns-clause-front g c = search (rules, overwrites)

pub returns-clause-read : goal.returns-clause-read
returns-clause-read g c =
    let self = c.args.self.now in
    let read = c.in_ok-n.ensures in (
      gave_after _ _ (take self.have self.bytes.now) c.read.new.buf _ self.have _ (length-take-le _ _ (search rules)) read.bound.0 read.bytes.0,
      λ none room. read.bytes.1 none (search rules),
    )
