-- The file that is written of an hour, read again and printed, is the report of the hour's deck.
use Rattle.std.specs.Prelude.{◌≡◌, List, ℕ}
use Rattle.rules.specs.Refusals.{accepted}
use Rattle.rules.specs.Report.{report}
use Rattle.rules.specs.Calls.{into, spreadsheet, spreadsheet_lines}
use Rattle.rules.specs.Writing.{deck_text}
use Rattle.rules.specs.declared.Hour.{Hour}
use Rattle.hour_files.specs.HourFiles.{hour_deck, deck_file_prints}

pub hour_file_reports : (h : Hour) (size : ℕ) (bytes : List ℕ) → spreadsheet h size ≡ accepted bytes → (n : ℕ) → spreadsheet_lines bytes n ≡ into n (report (deck_text h))
hour_file_reports h size bytes e = deck_file_prints (deck_text h) size bytes (hour_deck h size bytes e)
