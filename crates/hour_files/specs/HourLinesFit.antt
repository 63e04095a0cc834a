-- The lines of an accepted hour come in a file's order, and their labels and numbers fit.
--     generated_most     a valid hour generates at most 64,000 MWh
--     hour_finishes      an hour's lines make a whole file after its header
use Rattle.std.specs.Prelude.{◌≡◌, true, List, [], ◌∷◌, ◌++◌, ℕ, zero, suc, ◌+◌, ◌≤◌, ◌<◌, ℤ, pos, negsuc, nat_abs, get_or}
use Rattle.std.proofs.Math.Path.{refl}
use Rattle.std.proofs.Common.{sym, subst, append_assoc, arith, lt-ltb}
use Rattle.std.proofs.Math.Option.{some}
use Rattle.rules.specs.Words as words
use Rattle.rules.specs.Words.{list_to}
use Rattle.rules.specs.Refusals.{accepted}
use Rattle.rules.specs.Units.{generation}
use Rattle.rules.specs.Record.{source_at}
use Rattle.rules.specs.Hour.{keys, key_at, Progress, reconstructed}
use Rattle.rules.specs.Reading.{generated, delivered}
use Rattle.rules.specs.Report as report
use Rattle.rules.specs.Report.{ReportLine, end, hour_amounts, header_line, pair_line, open_line, hour_lines}
use Rattle.rules.specs.Spreadsheet as spreadsheet
use Rattle.rules.specs.Spreadsheet.{headed, houred, opened, after, in_order, fits64, all_fit, line_fits, all_lines_fit}
use Rattle.rules.specs.Writing.{valid}
use Rattle.rules.specs.declared.Hour.{Hour}
use Rattle.laws.specs.Sums.{sum_to_bound}
use Rattle.merit.specs.NumbersStaySmall.{opened_small}
use Rattle.roundtrip.specs.GivenHour.{valid_given}
use Rattle.balance.specs.NumbersBelow1000.{numbers_below}
use Rattle.balance.specs.ValidHour.{valid_small, valid_sequences}
use Rattle.hour_lines.specs.LineAmounts.{SmallAmounts}
use Rattle.hour_lines.specs.HourLabels.{hour_labels}
use Rattle.hour_lines.specs.HourCells.{pair_small, open_small}

-- Numbers.

size_fits : (z : ℤ) → nat_abs z ≤ 200_000_000_000_000 → fits64 z ≡ true
size_fits (pos n) s = lt-ltb n 9_223_372_036_854_775_808 (omega arith)
size_fits (negsuc n) s = lt-ltb n 9_223_372_036_854_775_808 (omega arith)

amounts_fit_lem : (zs : List ℤ) → SmallAmounts zs → all_fit zs ≡ true
unfolding spreadsheet.all_fit
amounts_fit_lem [] s = refl
amounts_fit_lem (z ∷ zs) s = rw (size_fits z (s.most 0)) (amounts_fit_lem zs (record { most = λ k. s.most (suc k) }))

hour_amounts_small : (g l d : ℕ) → l + d ≤ g → g ≤ 64_000 → SmallAmounts (hour_amounts g l d)
hour_amounts_small g l d drawn few = record { most = most }
  where
    most : (k : ℕ) → nat_abs (get_or (hour_amounts g l d) k (pos 0)) ≤ 200_000_000_000_000
    most zero = omega arith
    most (suc zero) = omega arith
    most (suc (suc zero)) = omega arith
    most (suc (suc (suc zero))) = omega arith
    most (suc (suc (suc (suc k)))) = omega arith

-- Lines.

-- lines that make the rest of a file from a stage on
pub record Finishes (stage : ℕ) (ls : List ReportLine) : Type 0 where
  pub order : in_order stage ls ≡ true
  pub fit : all_lines_fit ls ≡ true

line_before : (stage further : ℕ) (l : ReportLine) (ls : List ReportLine) → after stage l ≡ some further → line_fits l ≡ true → Finishes further ls → Finishes stage (l ∷ ls)
unfolding spreadsheet.in_order spreadsheet.all_lines_fit
line_before stage further l ls a f r = record { order = rw a r.order; fit = rw f r.fit }

end_finishes : Finishes houred (end ∷ []) × Finishes opened (end ∷ [])
unfolding spreadsheet.in_order spreadsheet.all_lines_fit
end_finishes = (record { order = refl; fit = refl }, record { order = refl; fit = refl })

-- what any piece before some lines keeps, n pieces keep
pieces_before : (P : List ReportLine → Type 0) (f : ℕ → List ReportLine) (n : ℕ) → ((i : ℕ) → i < n → (ls : List ReportLine) → P ls → P (f i ++ ls))
    → (ls : List ReportLine) → P ls → P (list_to f n ++ ls)
unfolding words.list_to
pieces_before P f zero h ls x = x
pieces_before P f (suc n) h ls x =
    subst P (sym (append_assoc (list_to f n) (f n) ls)) (pieces_before P f n (λ i l. h i (omega arith)) (f n ++ ls) (h n (omega arith) ls x))

-- The hour.

module _ (h : Hour) (v : valid h ≡ true) where
  pub generated_most : generated h ≤ 64_000
  generated_most =
      omega (
        arith,
        sum_to_bound (λ i. generation (source_at h i).plant) 2000 h.nsources (λ i l. (opened_small (source_at h i).plant ((valid_small h v).plants i)).v),
        (valid_given h v).sources.few,
      )

  header_fits : line_fits (header_line h) ≡ true
  header_fits = amounts_fit_lem _ (hour_amounts_small (generated h) h.losses (delivered h) (valid_given h v).drawn generated_most)

  module _ (p : Progress) (run : reconstructed h ≡ accepted p) where
    pair_fits : (j i : ℕ) → j < h.ndeliveries → i < h.nsources → line_fits (pair_line h p j i) ≡ true
    pair_fits j i l m =
        let number = size_fits (pos (key_at (keys h) j).number.0) (omega (arith, numbers_below h (valid_sequences h v) j)) in
        rw ((hour_labels h v).deliveries j l, number, (hour_labels h v).sources i m) (amounts_fit_lem _ (pair_small h p v run j i l m))

    open_fits : (i : ℕ) → i < h.nsources → line_fits (open_line h p i) ≡ true
    open_fits i m = rw ((hour_labels h v).sources i m) (amounts_fit_lem _ (open_small h p v run i m))

    abbrev pairs : ℕ → List ReportLine
    pairs j = list_to (λ i. pair_line h p j i ∷ []) h.nsources

    abbrev opens : List ReportLine
    opens = list_to (λ i. open_line h p i ∷ []) h.nsources

    pairs_before : (j : ℕ) → j < h.ndeliveries → (ls : List ReportLine) → Finishes houred ls → Finishes houred (pairs j ++ ls)
    pairs_before j l =
        pieces_before (Finishes houred) (λ i. pair_line h p j i ∷ []) h.nsources (λ i m ls. line_before houred houred (pair_line h p j i) ls refl (pair_fits j i l m))

    -- with no source the end comes at once
    opens_before : (ls : List ReportLine) → Finishes houred ls × Finishes opened ls → Finishes houred (opens ++ ls) × Finishes opened (opens ++ ls)
    opens_before =
        pieces_before (λ (ls : List ReportLine). Finishes houred ls × Finishes opened ls) (λ i. open_line h p i ∷ []) h.nsources (λ i m ls r.
        let l = open_line h p i in
        (line_before houred opened l ls refl (open_fits i m) r.1, line_before opened opened l ls refl (open_fits i m) r.1))

    pub hour_finishes : Finishes headed (hour_lines h p)
    unfolding report.hour_lines
    hour_finishes =
        line_before headed houred (header_line h) _ refl header_fits
        (pieces_before (Finishes houred) pairs h.ndeliveries pairs_before (opens ++ (end ∷ [])) (opens_before (end ∷ []) end_finishes).0)
