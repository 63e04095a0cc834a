-- The records after the header, from a place on, are read back.
--     records_read        where the records of lines that fit and are in order stand, the lines are read
use Rattle.std.specs.Prelude.{◌≡◌, Bool}
use Rattle.std.proofs.Math.Path.{refl, ap}
use Rattle.std.proofs.Common.{sym, ◌∙◌, arith, eqb-true, eq-eqb}
use Rattle.std.proofs.Math.Bool.{true, false}
use mathlib.Core.List.{List, [], ◌∷◌}
use Rattle.std.proofs.Math.Option.{Option, none, some}
use Prim.Native.Nat.{ℕ, zero, suc, ◌+◌, ◌-◌, ◌≤◌}
use Rattle.std.proofs.Math.Dec.{eqb}
use Rattle.std.proofs.Math.ListN.{length, drop, length-drop}
use Rattle.rules.specs.Words.{when◌then◌else◌}
use Rattle.rules.specs.Refusals.{Outcome, accepted, refused, and_then}
use Rattle.rules.specs.Report.{ReportLine, hour, pair, internal, end, refusal}
use Rattle.rules.specs.Spreadsheet as spreadsheet
use Rattle.rules.specs.Spreadsheet.{record_texts, ended, after, ordered, in_order, line_fits, all_lines_fit, on_stage, records_from}
use Rattle.rules.specs.declared.Refusal.TheVariants.{FileRecord}
use Rattle.laws.specs.Choices.{true_not_false, false_not_true, both_true, malformed_not_got}
use Rattle.file_roundtrip.specs.Records.{record_stood}
use Rattle.file_roundtrip.proofs.Records.{record_read}
use Rattle.file_roundtrip.specs.RecordsInTurn.{no_record}

nothing_after_end : (ls : List ReportLine) → in_order ended ls ≡ true → ls ≡ []
unfolding spreadsheet.in_order
nothing_after_end [] o = refl
nothing_after_end (hour zs ∷ ls) o = false_not_true o
nothing_after_end (pair d n c zs ∷ ls) o = false_not_true o
nothing_after_end (internal c zs ∷ ls) o = false_not_true o
nothing_after_end (end ∷ ls) o = false_not_true o
nothing_after_end (refusal n k ∷ ls) o = false_not_true o

module _ (s : List ℕ) where
  -- a line that may come, and the lines after it
  stage_read : (l : ReportLine) (ls : List ReportLine) (k p : ℕ) (go : ℕ → Outcome (List ReportLine)) (x : Option ℕ) → drop p s ≡ record_texts ls → p ≤ length s
      → ordered x (λ further. in_order further ls) ≡ true → ((further : ℕ) → eqb further ended ≡ false → in_order further ls ≡ true → go further ≡ accepted ls)
      → on_stage s k l p go x ≡ accepted (l ∷ ls)
  unfolding spreadsheet.record_texts
  stage_read l ls k p go none e w o ih = false_not_true o
  stage_read l ls k p go (some further) e w o ih = test (eqb further ended) refl
    where
      test : (b : Bool) → eqb further ended ≡ b
          → (when b then (when eqb p (length s) then accepted (l ∷ []) else refused (FileRecord (k + 1))) else and_then (go further) λ ls. accepted (l ∷ ls)) ≡ accepted (l ∷ ls)
      test true b =
          let none_left = nothing_after_end ls (ap (λ (n : ℕ). in_order n ls) (sym (eqb-true further ended b)) ∙ o) in
          let at_end : p ≡ length s = omega (arith, length-drop p s, ap length (e ∙ ap record_texts none_left)) in
          rw (eq-eqb p (length s) at_end, none_left)
      test false b = rw (ih further b o)

  pub records_read : (f : ℕ) (ls : List ReportLine) (stage k at : ℕ) → length s - at ≤ f → eqb stage ended ≡ false → in_order stage ls ≡ true → all_lines_fit ls ≡ true
      → drop at s ≡ record_texts ls → records_from f s stage k at ≡ accepted ls
  unfolding spreadsheet.in_order spreadsheet.all_lines_fit spreadsheet.record_texts spreadsheet.records_from
  records_read f [] stage k at h n o a e = true_not_false (sym o ∙ n)
  records_read zero (l ∷ ls) stage k at h n o a e =
      let r = record_read l s (record_texts ls) at (both_true (line_fits l) (all_lines_fit ls) a).0 e in
      malformed_not_got l r.next (sym (no_record s at (omega arith)) ∙ r.is)
  records_read (suc f) (l ∷ ls) stage k at h n o a e =
      let b = both_true (line_fits l) (all_lines_fit ls) a in
      let r = record_read l s (record_texts ls) at b.0 e in
      let t = record_stood s at l r.next r.is in
      rw r.is
      (stage_read l ls k r.next (λ further. records_from f s further (k + 1) r.next) (after stage l) r.past t.within o λ further n o.
      records_read f ls further (k + 1) r.next (omega (arith, t.later)) n o b.1 r.past)
