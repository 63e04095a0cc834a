-- What writing an hour's file comes to: of a valid hour by what its reconstruction came to, of a record and of a deck by that.
use Rattle.std.specs.Prelude.{Result, Ok, Err}
use Rattle.std.specs.Prelude.{◌≡◌, true, false, List, ℕ, ◌≤◌, ℤ, length}
use Rattle.std.proofs.Math.Path.{ap}
use Rattle.std.proofs.Common.{sym, ◌∙◌, arith}
use Rattle.rules.specs.Refusals.{accepted, refused}
use Rattle.rules.specs.Hour.{reconstructed}
use Rattle.rules.specs.Reading.{reading}
use Rattle.rules.specs.Writing.{valid}
use Rattle.rules.specs.Calls as calls
use Rattle.rules.specs.Calls.{into, file_for, spreadsheet, deck_spreadsheet}
use Rattle.rules.specs.declared.Hour.{Hour}
use Rattle.rules.specs.declared.Key.{Key}
use Rattle.rules.specs.declared.Refusal.{Refusal}
use Rattle.rules.specs.declared.Refusal.TheVariants.{NoDeck}
use Rattle.sequence.specs.Placings.{placings}
use Rattle.hour_lines.specs.HourCells.{Answered}
use Rattle.hour_lines.specs.HourRun.{Ended, run_refused, run_done, run_cells}
use Rattle.write_spreadsheet.specs.HourFile.{hour_file, file_run}
use Rattle.write_spreadsheet.specs.FileFits.{most_file, file_fits}

module _ (h : Hour) where
  -- 12 or 13
  pub unmet : (size : ℕ) (r : Refusal) → reconstructed h ≡ refused r → file_for h size ≡ refused r
  unfolding calls.file_for
  unmet size r e = rw e

  module _ {ks : List Key} {cells : List ℤ} (a : Answered h ks cells) where
    pub met : (size : ℕ) → into size (hour_file h) ≡ file_for h size
    unfolding calls.file_for
    met size = let e = a.run in ap (into size) (file_run h a.progress e) ∙ rw e

    pub hour_fits : length (hour_file h) ≤ most_file
    hour_fits = omega (arith, ap length (file_run h a.progress a.run), file_fits h a.progress a.valid a.run)

  -- what the reconstruction answered
  module _ {end : (Result ℕ Refusal)} {cells : List ℤ} (x : Ended h end cells) where
    pub ended_refused : (r : Refusal) → end ≡ Err r → reconstructed h ≡ refused r
    ended_refused r e = run_refused h r (sym e ∙ x.outcome)

    pub ended_done : (ks : List Key) (n : ℕ) → valid h ≡ true → ks ≡ placings h.deliveries h.ndeliveries → end ≡ Ok n → Answered h ks cells
    ended_done ks n v k e = run_cells h ks cells v k (run_done h n x.before cells (sym e ∙ x.outcome) x.left)

  -- 15
  pub sheet_refused : (size : ℕ) → valid h ≡ false → spreadsheet h size ≡ refused NoDeck
  unfolding calls.spreadsheet
  sheet_refused size e = rw e

  pub sheet_valid : (size : ℕ) → valid h ≡ true → file_for h size ≡ spreadsheet h size
  unfolding calls.spreadsheet
  sheet_valid size e = rw e

-- 1 to 11
module _ (s : List ℕ) (size : ℕ) where
  pub deck_refused : (r : Refusal) → refused r ≡ reading s → deck_spreadsheet s size ≡ refused r
  unfolding calls.deck_spreadsheet
  deck_refused r e = rw (← e)

  pub deck_accepted : (h : Hour) → accepted h ≡ reading s → file_for h size ≡ deck_spreadsheet s size
  unfolding calls.deck_spreadsheet
  deck_accepted h e = rw (← e)
