-- What writing a valid hour comes to: 14 where the buffer is too short, else the whole deck.
use Rattle.std.specs.Prelude.{Ok, Err}
use Rattle.std.specs.Prelude.{◌≡◌, true, false, List, [], ◌++◌, ℕ, ◌-◌, ◌≤◌, ◌<◌, ltb, length, take, drop}
use Rattle.std.proofs.Common.{ap, ◌∙◌, append-nil, arith, le-ltb, lt-ltb}
use Rattle.std.proofs.Math.Seq.{take-append_seam}
use Rattle.rules.specs.Answers.{written_of}
use Rattle.rules.specs.Refusals.{accepted, refused, refuse}
use Rattle.rules.specs.Writing.{deck_text, valid}
use Rattle.rules.specs.Calls as calls
use Rattle.rules.specs.Calls.{writing, leaves}
use Rattle.rules.specs.declared.Hour.{Hour}
use Rattle.rules.specs.declared.Refusal.TheVariants.{Short, NoDeck}
use Rattle.write_fields.specs.Inked.{Room, Inked, inked_first}

module _ (h : Hour) (size : ℕ) where
  pub writing_refused : valid h ≡ false → writing h size ≡ refused NoDeck
  unfolding calls.writing
  writing_refused e = rw e

  pub writing_valid : valid h ≡ true → writing h size ≡ refuse (ltb size (length (deck_text h))) Short (accepted (deck_text h))
  unfolding calls.writing
  writing_valid e = rw e

  pub writing_short : valid h ≡ true → size < length (deck_text h) → writing h size ≡ refused Short
  writing_short e lt = writing_valid e ∙ rw (lt-ltb size (length (deck_text h)))

  pub writing_fits : valid h ≡ true → length (deck_text h) ≤ size → writing h size ≡ accepted (deck_text h)
  writing_fits e le = writing_valid e ∙ rw (le-ltb size (length (deck_text h)))

-- a buffer's first bytes, by their number
pub first_bytes : (w rest deck : List ℕ) (n : ℕ) → n ≡ length w → deck ≡ w ++ rest → take (n - 0) (drop 0 deck) ≡ w
first_bytes w rest deck n e d =
    let k : n - 0 ≡ length w = omega arith in
    ap (λ (k : ℕ). take k deck) k ∙ ap (take (length w)) d ∙ take-append_seam w rest

-- what the answer and the lent buffer come to
module _ (h : Hour) (out : List ℕ) (v : valid h ≡ true) (n : ℕ) (e : n ≡ length (deck_text h)) where
  pub wrote_short : length out < n → (Err Short ≡ written_of (writing h (length out))) × (out ≡ leaves (writing h (length out)) out)
  wrote_short lt = let f = writing_short h (length out) v (omega arith) in (rw f, rw f)

  pub wrote_fits : (w after : List ℕ) (next : ℕ) → n ≤ length out → w ≡ deck_text h → Inked out 0 after next (λ rest. w ++ rest)
      → (Ok n ≡ written_of (writing h (length out))) × (after ≡ leaves (writing h (length out)) out)
  wrote_fits w after next le d i =
      let f = writing_fits h (length out) v (omega arith) in
      let whole : w ++ [] ≡ deck_text h = append-nil w ∙ d in
      let room : Room out 0 (w ++ []) = record { fits = omega (arith, ap length whole) } in
      (rw (f, e), rw f (inked_first i room ∙ ap (λ (w : List ℕ). w ++ drop (length w) out) whole))
