-- The records after the header, from a place on.
--     records_stood       lines that are read are in order, fit and stand so
--     records_refused     a refusal is 16 with the number of a record
--     records_enough      turns for the bytes that are left suffice
use Rattle.std.specs.Prelude.{◌≡◌, Bool}
use Rattle.std.proofs.Math.Path.{refl, ap}
use Rattle.std.proofs.Common.{subst, ◌∙◌, arith, eqb-true}
use Rattle.std.proofs.Math.Bool.{true, false}
use mathlib.Core.List.{List, [], ◌∷◌}
use Rattle.std.proofs.Math.Option.{Option, none, some}
use Prim.Native.Nat.{ℕ, zero, suc, ◌+◌, ◌-◌, ◌<◌, ◌≤◌}
use Rattle.std.proofs.Math.Dec.{eqb}
use Rattle.std.proofs.Math.ListN.{length, drop}
use Rattle.std.proofs.Math.Seq.{drop-length}
use Rattle.rules.specs.Words.{when◌then◌else◌}
use Rattle.rules.specs.Refusals.{Outcome, accepted, refused, place_of, and_then}
use Rattle.rules.specs.Fields.{Field, got, malformed}
use Rattle.rules.specs.Report.{ReportLine}
use Rattle.rules.specs.Spreadsheet as spreadsheet
use Rattle.rules.specs.Spreadsheet.{record_text, record_texts, ended, after, in_order, all_lines_fit, record_at, on_record, on_stage, records_from}
use Rattle.rules.specs.declared.Refusal.{Refusal}
use Rattle.rules.specs.declared.Refusal.TheVariants.{FileRecord}
use Rattle.file_roundtrip.specs.Records.{RecordStood, record_stood}

-- a refusal with the number of a record, of n at most
abbrev pub Numbered : ℕ → Refusal → Type 0
Numbered n r = (r ≡ FileRecord (place_of r)) × (1 ≤ place_of r) × (place_of r ≤ n)

-- Written records are read.

module _ (s : List ℕ) where
  -- past the end there is no record
  pub no_record : (at : ℕ) → length s ≤ at → record_at s at ≡ malformed
  no_record at h = go (record_at s at) refl
    where
      go : (x : Field ReportLine) → record_at s at ≡ x → x ≡ malformed
      go (got l p) e = let t = record_stood s at l p e in absurd (omega (arith, t.later, t.within))
      go malformed e = refl

  -- Lines that are read were written, and a refusal has a record's number.

  pub record RecordsStood (stage at : ℕ) (ls : List ReportLine) : Type 0 where
    pub order : in_order stage ls ≡ true
    pub fit : all_lines_fit ls ≡ true
    pub text : drop at s ≡ record_texts ls

  -- each record before the k-th has a byte, and so has the header
  abbrev Right : (stage k at : ℕ) → Outcome (List ReportLine) → Type 0
  Right stage k at (accepted ls) = RecordsStood stage at ls
  Right stage k at (refused r) = 1 ≤ k → k ≤ at → at ≤ length s → Numbered (length s) r

  refused_here : (k at : ℕ) → 1 ≤ k → k ≤ at → at ≤ length s → Numbered (length s) (FileRecord k)
  refused_here k at h le w = (refl, h, omega arith)

  module _ (stage k at p : ℕ) (l : ReportLine) (t : RecordStood l s at p) (go : ℕ → Outcome (List ReportLine)) (ih : (further : ℕ) → Right further (k + 1) p (go further)) where
    one_more : (further : ℕ) (ls : List ReportLine) → after stage l ≡ some further → RecordsStood further p ls → RecordsStood stage at (l ∷ ls)
    unfolding spreadsheet.in_order spreadsheet.all_lines_fit spreadsheet.record_texts
    one_more further ls e r = record { order = rw e r.order; fit = rw t.fits r.fit; text = t.text ∙ ap (record_text l) r.text }

    last_one : (further : ℕ) → after stage l ≡ some further → eqb further ended ≡ true → (b : Bool) → eqb p (length s) ≡ b
        → Right stage k at (when b then accepted (l ∷ []) else refused (FileRecord (k + 1)))
    unfolding spreadsheet.in_order spreadsheet.all_lines_fit spreadsheet.record_texts
    last_one further e f true b =
        one_more further [] e (record { order = f; fit = refl; text = ap (λ (n : ℕ). drop n s) (eqb-true p (length s) b) ∙ drop-length s })
    last_one further e f false b = λ h le w. refused_here (k + 1) p (omega arith) (omega (arith, t.later)) t.within

    then_right : (further : ℕ) → after stage l ≡ some further → (o : Outcome (List ReportLine)) → Right further (k + 1) p o → Right stage k at (and_then o λ ls. accepted (l ∷ ls))
    then_right further e (accepted ls) r = one_more further ls e r
    then_right further e (refused x) r = λ h le w. r (omega arith) (omega (arith, t.later)) t.within

    stage_right : (x : Option ℕ) → after stage l ≡ x → Right stage k at (on_stage s k l p go x)
    stage_right none e = refused_here k at
    stage_right (some further) e = test (eqb further ended) refl
      where
        test : (b : Bool) → eqb further ended ≡ b
            → Right stage k at (when b then (when eqb p (length s) then accepted (l ∷ []) else refused (FileRecord (k + 1))) else and_then (go further) λ ls. accepted (l ∷ ls))
        test true b = last_one further e b (eqb p (length s)) refl
        test false b = then_right further e (go further) (ih further)

  records_right : (f stage k at : ℕ) → Right stage k at (records_from f s stage k at)
  unfolding spreadsheet.records_from
  records_right zero stage k at = refused_here k at
  records_right (suc f) stage k at = go (record_at s at) refl (λ further p. records_right f further (k + 1) p)
    where
      go : (x : Field ReportLine) → record_at s at ≡ x → ((further p : ℕ) → Right further (k + 1) p (records_from f s further (k + 1) p))
          → Right stage k at (on_record x k λ l p. on_stage s k l p (λ further. records_from f s further (k + 1) p) (after stage l))
      go (got l p) e ih = stage_right stage k at p l (record_stood s at l p e) (λ further. records_from f s further (k + 1) p) (λ further. ih further p) (after stage l) refl
      go malformed e ih = refused_here k at

  pub records_stood : (f stage k at : ℕ) (ls : List ReportLine) → records_from f s stage k at ≡ accepted ls → RecordsStood stage at ls
  records_stood f stage k at ls e = subst (Right stage k at) e (records_right f stage k at)

  pub records_refused : (f stage k at : ℕ) (r : Refusal) → records_from f s stage k at ≡ refused r → 1 ≤ k → k ≤ at → at ≤ length s → Numbered (length s) r
  records_refused f stage k at r e = subst (Right stage k at) e (records_right f stage k at)

  -- Turns for the bytes that are left suffice.

  pub records_enough : (f g stage k at : ℕ) → length s - at ≤ f → length s - at ≤ g → records_from f s stage k at ≡ records_from g s stage k at
  unfolding spreadsheet.records_from
  records_enough zero zero stage k at h j = refl
  records_enough zero (suc g) stage k at h j = rw (no_record at (omega arith))
  records_enough (suc f) zero stage k at h j = rw (no_record at (omega arith))
  records_enough (suc f) (suc g) stage k at h j = go (record_at s at) refl (λ further p lt. records_enough f g further (k + 1) p (omega arith) (omega arith))
    where
      stages : (l : ReportLine) (p : ℕ) (x : Option ℕ) → ((further : ℕ) → records_from f s further (k + 1) p ≡ records_from g s further (k + 1) p)
          → on_stage s k l p (λ further. records_from f s further (k + 1) p) x ≡ on_stage s k l p (λ further. records_from g s further (k + 1) p) x
      stages l p none ih = refl
      stages l p (some further) ih = rw (ih further)

      go : (x : Field ReportLine) → record_at s at ≡ x → ((further p : ℕ) → at < p → records_from f s further (k + 1) p ≡ records_from g s further (k + 1) p)
          → on_record x k (λ l p. on_stage s k l p (λ further. records_from f s further (k + 1) p) (after stage l))
          ≡ on_record x k (λ l p. on_stage s k l p (λ further. records_from g s further (k + 1) p) (after stage l))
      go (got l p) e ih = stages l p (after stage l) (λ further. ih further p (record_stood s at l p e).later)
      go malformed e ih = refl
