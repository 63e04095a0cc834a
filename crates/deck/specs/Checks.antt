-- What the verdict alone asks a loop over a deck's lines to keep, from any place on: some hour has the counts, the tables and the totals.
use Rattle.std.specs.Prelude.{◌≡◌, refl, List, ℕ, ◌+◌, length}
use Rattle.std.proofs.Common.{ap}
use Rattle.rules.specs.Refusals.{Outcome}
use Rattle.rules.specs.Record as record_of
use Rattle.rules.specs.Record.{started, with_source, with_delivery, with_direct}
use Rattle.rules.specs.Reading.{lines_from}
use Rattle.rules.specs.declared.Source.{Source}
use Rattle.rules.specs.declared.Delivery.{Delivery}
use Rattle.rules.specs.declared.Hour.{Hour}
use Rattle.line_rules.specs.Tried.{counts_of, Tables}
use Rattle.line_rules.specs.TablesKept.{no_tables}
use Rattle.line_rules.specs.Totalled.{no_totals}
use Rattle.line_rules.specs.declared.Counts.{Counts}
use Rattle.line_rules.specs.declared.Totals.{Totals}
use Rattle.deck.specs.Turns.{SourceTakes, DeliveryTakes, DirectTakes}
use Rattle.deck.specs.Rows.{Reads, reads_start, SourceKept, DeliveryKept, DirectKept, reads_source, reads_delivery, reads_direct}
use Rattle.deck.specs.declared.Step.{Step}
use Rattle.deck.specs.declared.DirectStep.{DirectStep}

pub record Checks (s : List ℕ) (o : Outcome Hour) (losses : ℕ) (n : Counts) (t : Tables) (u : Totals) (at : ℕ) : Type 0 where
  pub hour : Hour
  pub counts : n ≡ counts_of hour
  pub losses_are : losses ≡ hour.losses
  pub reads : Reads s o hour t u at

pub checks_start : (s : List ℕ) (losses from : ℕ) (n : Counts) (u : Totals) → n ≡ record { sources = 0; deliveries = 0; directs = 0 } → u ≡ no_totals
    → Checks s (lines_from (length s) s (started losses) from) losses n no_tables u from
unfolding record_of.started
checks_start s losses from n u ne ue = rw ue (record { hour = started losses; counts = ne; losses_are = refl; reads = reads_start s losses from })

-- One entry more.

module _ {s : List ℕ} {o : Outcome Hour} {losses : ℕ} {n : Counts} {t : Tables} {u : Totals} {at : ℕ} (w : Checks s o losses n t u at) where
  pub checks_source : (x : Step Source) → SourceTakes s w.hour t u at x → (slo shi high : List ℕ) → SourceKept n t u x slo shi high
      → Checks s o losses (record { sources = n.sources + 1; deliveries = n.deliveries; directs = n.directs })
      (record { slo = slo; shi = shi; tlo = t.tlo; thi = t.thi; high = high; based = t.based; percents = t.percents }) x.totals x.next
  checks_source x k slo shi high told =
      record {
        hour = with_source w.hour x.entry;
        counts = ap (λ (n : Counts). record { sources = n.sources + 1; deliveries = n.deliveries; directs = n.directs }) w.counts;
        losses_are = w.losses_are;
        reads = reads_source w.reads w.counts x k slo shi high told;
      }

  pub checks_delivery : (x : Step Delivery) → DeliveryTakes s w.hour t u at x → (tlo thi : List ℕ) → DeliveryKept n t u x tlo thi
      → Checks s o losses (record { sources = n.sources; deliveries = n.deliveries + 1; directs = n.directs })
      (record { slo = t.slo; shi = t.shi; tlo = tlo; thi = thi; high = t.high; based = t.based; percents = t.percents }) x.totals x.next
  checks_delivery x k tlo thi told =
      record {
        hour = with_delivery w.hour x.entry;
        counts = ap (λ (n : Counts). record { sources = n.sources; deliveries = n.deliveries + 1; directs = n.directs }) w.counts;
        losses_are = w.losses_are;
        reads = reads_delivery w.reads w.counts x k tlo thi told;
      }

  pub checks_direct : (x : DirectStep) → DirectTakes s w.hour t at x → (based percents : List ℕ) → DirectKept t x based percents
      → Checks s o losses (record { sources = n.sources; deliveries = n.deliveries; directs = n.directs + 1 })
      (record { slo = t.slo; shi = t.shi; tlo = t.tlo; thi = t.thi; high = t.high; based = based; percents = percents }) u x.next
  checks_direct x k based percents told =
      record {
        hour = with_direct w.hour x.entry;
        counts = ap (λ (n : Counts). record { sources = n.sources; deliveries = n.deliveries; directs = n.directs + 1 }) w.counts;
        losses_are = w.losses_are;
        reads = reads_direct w.reads w.counts x k based percents told;
      }
