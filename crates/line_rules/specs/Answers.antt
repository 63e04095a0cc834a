-- What the answers of the code's searches and sums tell.
use Rattle.std.specs.Prelude.{◌≡◌, Bool, true, false, ℕ, ◌+◌, ◌<◌, ◌≤◌, ltb, Option, Some, Ok, Err}
use Rattle.std.proofs.Common.{ap, lt-ltb, le-ltb}
use Rattle.std.proofs.Math.Option.{Option as Maybe, none, some}
use native.Mathlib.Omega.{arith}
use Rattle.rules.specs.Words.{is_none, find_to}
use Rattle.rules.specs.Answers.{verdict_of}
use Rattle.rules.specs.Sequences.{numbered}
use Rattle.rules.specs.Reading as reading
use Rattle.rules.specs.Reading.{generated, delivered, finished}
use Rattle.rules.specs.Record.{delivery_at}
use Rattle.rules.specs.declared.Hour.{Hour}
use Rattle.rules.specs.declared.Refusal.TheVariants.{Overdrawn, Unplaced}
use Rattle.laws.specs.Lists.{find_to_passes}
use Rattle.roundtrip.specs.FirstUnplaced.{placer, all_numbered, none_numbered}
use Rattle.line_rules.specs.Spellings.{spot_of}
use Rattle.line_rules.specs.Finds.{find_to_zero, find_to_here, find_to_fails}

-- Places found.

spot_found : (x : Maybe ℕ) (r : Option ℕ) (i : ℕ) → r ≡ spot_of x → r ≡ Some i → x ≡ some i
spot_found none r i e f = cc
spot_found (some j) r i e f = let q : j ≡ i = cc in ap some q

pub spot_below : (p : ℕ → Bool) (n : ℕ) (r : Option ℕ) (i : ℕ) → r ≡ spot_of (find_to p n) → r ≡ Some i → i < n
spot_below p n r i e f = (find_to_passes p n i (spot_found (find_to p n) r i e f)).0

-- Sums of known numbers.

pub sum_above : {r s t a b c : ℕ} → r ≡ a → s ≡ b → t ≡ c → r < s + t → ltb a (b + c) ≡ true
sum_above {r} {s} {t} {a} {b} {c} x y z h = lt-ltb a (b + c) (omega arith)

pub sum_within : {r s t a b c : ℕ} → r ≡ a → s ≡ b → t ≡ c → s + t ≤ r → ltb a (b + c) ≡ false
sum_within {r} {s} {t} {a} {b} {c} x y z h = le-ltb a (b + c) (omega arith)

-- After E: 10, and 11 by the first delivery with a number of its own.

module _ (h : Hour) where
  pub finished_overdrawn : ltb (generated h) (h.losses + delivered h) ≡ true → Err Overdrawn ≡ verdict_of (finished h)
  unfolding reading.finished
  finished_overdrawn o = rw o

  finished_numbered : ltb (generated h) (h.losses + delivered h) ≡ false
      → ((i : ℕ) → i < h.ndeliveries → is_none (numbered h.deliveries h.ndeliveries (delivery_at h i)) ≡ false) → (Ok tt) ≡ verdict_of (finished h)
  unfolding reading.finished
  finished_numbered o each = rw (o, find_to_fails (λ i. is_none (numbered h.deliveries h.ndeliveries (delivery_at h i))) h.ndeliveries each)

  pub finished_none : ltb (generated h) (h.losses + delivered h) ≡ false → h.ndeliveries ≡ 0 → (Ok tt) ≡ verdict_of (finished h)
  finished_none o e = finished_numbered o (λ i l. absurd (omega arith))

  pub finished_placed : (j : ℕ) → ltb (generated h) (h.losses + delivered h) ≡ false → placer h ≡ some j → (Ok tt) ≡ verdict_of (finished h)
  finished_placed j o e = finished_numbered o (λ i l. all_numbered h j e (delivery_at h i))

  -- the first of all is the first without a number
  pub finished_unplaced : ltb (generated h) (h.losses + delivered h) ≡ false → (h.ndeliveries ≡ 0 → ⊥) → placer h ≡ none
      → Err (Unplaced (h.nsources + 2)) ≡ verdict_of (finished h)
  unfolding reading.finished
  finished_unplaced o some_there e =
      let there : 0 < h.ndeliveries = omega arith in
      let first =
      find_to_here (λ i. is_none (numbered h.deliveries h.ndeliveries (delivery_at h i))) h.ndeliveries 0 there (find_to_zero _) (none_numbered h e 0 there) in
      let line : h.nsources + 2 + 0 ≡ h.nsources + 2 = omega arith in
      rw (o, first, line)
