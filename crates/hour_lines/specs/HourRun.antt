-- What a reconstruction answered of an hour, and left in the cells that it was lent.
use Rattle.std.specs.Prelude.{Result, Ok, Err}
use Rattle.std.proofs.Math.Path.{◌≡◌, refl, ap}
use Rattle.std.specs.Prelude.{true, List, ◌++◌, ℕ, ◌≤◌, ℤ, length}
use Rattle.std.proofs.Common.{arith, le-ltb}
use Rattle.std.proofs.Math.ListN.{drop}
use Rattle.rules.specs.Answers.{written_of}
use Rattle.rules.specs.Calls as calls
use Rattle.rules.specs.Calls.{cells_for, leaves}
use Rattle.rules.specs.Hour as hours
use Rattle.rules.specs.Hour.{Progress, reconstructed, cells_of, cell_count, answer}
use Rattle.rules.specs.Refusals.{Outcome, accepted, refused, and_then}
use Rattle.rules.specs.Writing.{valid}
use Rattle.rules.specs.declared.Hour.{Hour}
use Rattle.rules.specs.declared.Key.{Key}
use Rattle.rules.specs.declared.Refusal.{Refusal}
use Rattle.sequence.specs.Placings.{placings, placings_same}
use Rattle.hour_lines.specs.HourCells.{Answered}

-- the run whose cells come first
pub record Run (h : Hour) (cells : List ℤ) : Type 0 where
  pub progress : Progress
  pub run : reconstructed h ≡ accepted progress
  pub after : List ℤ
  pub is : cells ≡ cells_of h progress ++ after

-- the answer of an hour, where its cells fit
pub filled : (h : Hour) (out : List ℤ) → cell_count h ≤ length out → cells_for h (length out) ≡ answer h
unfolding calls.cells_for
filled h out l = rw (le-ltb (length out) (cell_count h) l)

module _ (h : Hour) where
  pub run_refused : (r : Refusal) → Err r ≡ written_of (answer h) → reconstructed h ≡ refused r
  unfolding hours.answer
  run_refused r e = go (reconstructed h) e
    where
      go : (o : Outcome Progress) → Err r ≡ written_of (and_then o λ p. accepted (cells_of h p)) → o ≡ refused r
      go (accepted p) e = let z : ◌≡◌ {A = ℕ} 0 1 = cc in absurd (omega arith)
      go (refused q) e = let z : q ≡ r = cc in ap refused z

  pub run_done : (k : ℕ) (out left : List ℤ) → Ok k ≡ written_of (answer h) → left ≡ leaves (answer h) out → Run h left
  unfolding hours.answer
  run_done k out left e f = go (reconstructed h) refl e f
    where
      go : (o : Outcome Progress) → reconstructed h ≡ o → Ok k ≡ written_of (and_then o λ p. accepted (cells_of h p)) → left ≡ leaves (and_then o λ p. accepted (cells_of h p)) out → Run h left
      go (accepted p) oe e f = record { progress = p; run = oe; after = drop (length (cells_of h p)) out; is = f }
      go (refused q) oe e f = let z : ◌≡◌ {A = ℕ} 0 1 = cc in absurd (omega arith)

-- what an hour's reconstruction answered, and left in the cells that it was lent
pub record Ended (h : Hour) (end : (Result ℕ Refusal)) (cells : List ℤ) : Type 0 where
  pub before : List ℤ
  pub outcome : end ≡ written_of (answer h)
  pub left : cells ≡ leaves (answer h) before

-- with the deliveries' keys
pub run_cells : (h : Hour) (ks : List Key) (cells : List ℤ) → valid h ≡ true → ks ≡ placings h.deliveries h.ndeliveries → Run h cells → Answered h ks cells
run_cells h ks cells v e r =
    record {
      valid = v;
      progress = r.progress;
      run = r.run;
      after = r.after;
      is = r.is;
      numbered = λ j l. ap (λ (k : Key). k.number) (rw e (placings_same h j));
    }
