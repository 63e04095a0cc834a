-- What a scan and a reconstruction tell of a deck's report, and what printing it comes to.
use Rattle.std.specs.Prelude.{Ok, Err}
use Rattle.std.specs.Prelude.{◌≡◌, List, [], ◌++◌, ℕ, ◌≤◌, ◌<◌, ℤ, length, drop}
use Rattle.std.proofs.Common.{ap, sym, arith}
use Rattle.rules.specs.Refusals.{accepted, refused, number_of, place_of}
use Rattle.rules.specs.Hour.{reconstructed}
use Rattle.rules.specs.Reading.{reading}
use Rattle.rules.specs.Report as reports
use Rattle.rules.specs.Report.{refusal, report}
use Rattle.rules.specs.Calls as calls
use Rattle.rules.specs.Calls.{into, reporting, leaves}
use Rattle.rules.specs.declared.Hour.{Hour}
use Rattle.rules.specs.declared.Key.{Key}
use Rattle.rules.specs.declared.Refusal.{Refusal}
use Rattle.rules.specs.Answers.{written_of}
use Rattle.rules.specs.declared.Refusal.TheVariants.{Short}
use Rattle.laws.specs.Answers.{answer_accepted, answer_refused}
use Rattle.deck.specs.Answers.{Scanned}
use Rattle.deck.specs.declared.ScannedDeck.{ScannedDeck}
use Rattle.sequence.specs.Placings.{placings}
use Rattle.print_lines.specs.Lines.{printed}
use Rattle.roundtrip.specs.DeckRoundTrip.{accepted_is_valid}
use Rattle.hour_lines.specs.HourRun.{Run, run_cells}
use Rattle.hour_lines.specs.HandedOver.{into_short, into_whole}
use Rattle.print_report.specs.HourRows.{Answered}

-- What was scanned.

module _ (deck : List ℕ) where
  pub scanned_refused : (r : Refusal) → Scanned deck (reading deck) (Err r) → reading deck ≡ refused r
  scanned_refused r s = answer_refused (reading deck) r (sym s.answer)

  pub scanned_accepted : (x : ScannedDeck) → Scanned deck (reading deck) (Ok x) → reading deck ≡ accepted x.hour
  scanned_accepted x s = answer_accepted (reading deck) x.hour (sym s.answer)

-- a deck that is accepted, and its hour's keys
pub record ReadDeck (deck : List ℕ) (x : ScannedDeck) (ks : List Key) : Type 0 where
  pub read : reading deck ≡ accepted x.hour
  pub scanned : Scanned deck (accepted x.hour) (Ok x)
  pub numbered : ks ≡ placings x.hour.deliveries x.hour.ndeliveries

pub read_deck : (deck : List ℕ) (x : ScannedDeck) (ks : List Key) → Scanned deck (reading deck) (Ok x)
    → ks ≡ placings x.hour.deliveries x.hour.ndeliveries → ReadDeck deck x ks
read_deck deck x ks s n =
    let e = scanned_accepted deck x s in
    record { read = e; scanned = rw e at s; numbered = n }

pub run_answered : (deck : List ℕ) (x : ScannedDeck) (ks : List Key) (cells : List ℤ) → ReadDeck deck x ks → Run x.hour cells → Answered deck x ks cells
run_answered deck x ks cells d r = record { read = d.read; scanned = d.scanned; hour = run_cells x.hour ks cells (accepted_is_valid deck x.hour d.read) d.numbered r }

-- The report of a refusal.

module _ (deck : List ℕ) (r : Refusal) where
  pub refused_report : reading deck ≡ refused r → printed (refusal (number_of r) (place_of r)) [] ≡ report deck
  unfolding reports.report reports.report_lines reports.report_texts
  refused_report e = rw e

  pub unmet_report : (h : Hour) → reading deck ≡ accepted h → reconstructed h ≡ refused r → printed (refusal (number_of r) (place_of r)) [] ≡ report deck
  unfolding reports.report reports.report_lines reports.report_texts
  unmet_report h e f = rw (e, f)

-- What a text that is the report comes to.

pub reported : (deck w : List ℕ) (size : ℕ) → w ≡ report deck → into size w ≡ reporting deck size
unfolding calls.reporting
reported deck w size e = ap (into size) e

pub report_short : (deck out : List ℕ) (n : ℕ) → n ≡ length (report deck) → length out < n
    → (Err Short ≡ written_of (reporting deck (length out))) × (out ≡ leaves (reporting deck (length out)) out)
unfolding calls.reporting
report_short deck out n e l = into_short (report deck) out (omega arith)

pub report_whole : (deck out after : List ℕ) (n : ℕ) → length (report deck) ≤ length out → n ≡ length (report deck) → after ≡ report deck ++ drop (length (report deck)) out
    → (Ok n ≡ written_of (reporting deck (length out))) × (after ≡ leaves (reporting deck (length out)) out)
unfolding calls.reporting
report_whole deck out after n l e d = into_whole (report deck) out n after l e d
