use Rattle.std.proofs.Common.{◌≡◌, ◌-◌, length}
use Rattle.rules.specs.Record.{started}
use Rattle.rules.specs.Reading.{lines_from}
use Rattle.deck.specs.Rows.{Rows}
use Rattle.deck.proofs.Reader.rows.Given as goal

abbrev pub invariant-loop-self : goal.invariant-loop-self
invariant-loop-self g l =
    record {
      deck : l.self.deck ≡ l.fn.self.deck;
      rows : Rows g.K.Entries.keeps l.self.deck.now (lines_from (length l.fn.self.deck.now) l.fn.self.deck.now (started l.losses) l.fn.self.at) l.losses l.n
          (record { slo = l.slo; shi = l.shi; tlo = l.tlo; thi = l.thi; high = l.high; based = l.based; percents = l.percents }) l.totals l.kept l.self.at;
    }

abbrev pub decreases-loop-self : goal.decreases-loop-self
decreases-loop-self g l = length l.self.deck.now - l.self.at
