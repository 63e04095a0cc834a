-- A text handed over into a lent buffer: it stands at the start where it fits, and else it is 14 and nothing changed.
use Rattle.std.specs.Prelude.{Result, Ok, Err}
use Rattle.rules.specs.declared.Refusal.{Refusal}
use Rattle.std.specs.Prelude.{◌≡◌, List, [], ◌++◌, ℕ, ◌-◌, ◌≤◌, ◌<◌, length, take, drop}
use Rattle.std.proofs.Common.{ap, ◌∙◌, arith, le-ltb, lt-ltb}
use Rattle.std.proofs.Math.Seq.{take-append_seam}
use Rattle.rules.specs.Answers.{written_of}
use Rattle.rules.specs.Refusals.{Outcome}
use Rattle.rules.specs.Calls.{into, leaves}
use Rattle.rules.specs.declared.Refusal.TheVariants.{Short}
use Rattle.write_fields.specs.Inked.{Text, Room, Inked, inked_place, inked_first}

-- What was written from 0 on.

-- its bytes, cut out of the buffer
pub first_bytes : (f : Text) (a b : List ℕ) (k : ℕ) → Room a 0 (f []) → Inked a 0 b k f → take (k - 0) (drop 0 b) ≡ f []
first_bytes f a b k r i =
    let w = f [] in
    let n : k - 0 ≡ length w = omega (arith, inked_place i) in
    ap (λ (m : ℕ). take m b) n ∙ ap (take (length w)) (inked_first i r) ∙ take-append_seam w (drop (length w) a)

-- a text that is known has room from 0 on where it fits, and written there it stands at the start
module _ (f : Text) (w buf : List ℕ) (same : f [] ≡ w) (fits : length w ≤ length buf) where
  pub whole_room : Room buf 0 (f [])
  whole_room = record { fits = omega (arith, ap length same) }

  pub whole_written : (b : List ℕ) (n : ℕ) → Inked buf 0 b n f → (n ≡ length w) × (b ≡ w ++ drop (length w) buf)
  whole_written b n e = (omega (arith, inked_place e, ap length same), inked_first e whole_room ∙ ap (λ (w : List ℕ). w ++ drop (length w) buf) same)

-- What a call answers and leaves.

module _ (w out : List ℕ) where
  pub into_short : length out < length w → (Err Short ≡ written_of (into (length out) w)) × (out ≡ leaves (into (length out) w) out)
  into_short l = let f = lt-ltb (length out) (length w) l in (rw f, rw f)

  pub into_whole : (n : ℕ) (after : List ℕ) → length w ≤ length out → n ≡ length w → after ≡ w ++ drop (length w) out
      → (Ok n ≡ written_of (into (length out) w)) × (after ≡ leaves (into (length out) w) out)
  into_whole n after l e d = let f = le-ltb (length out) (length w) l in (rw (f, e), rw f d)

-- the same where two calls come to the same
pub told_as : {x y : Outcome (List ℕ)} (out : List ℕ) → x ≡ y → {r : (Result ℕ Refusal)} {after : List ℕ} → (r ≡ written_of x) × (after ≡ leaves x out) → (r ≡ written_of y) × (after ≡ leaves y out)
told_as out e t = (t.0 ∙ ap written_of e, t.1 ∙ ap (λ (o : Outcome (List ℕ)). leaves o out) e)
