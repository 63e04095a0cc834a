-- What the deck's readers answer where the rules say what a deck comes to.
use Rattle.std.specs.Prelude.{◌≡◌, refl, List, ℕ, ◌+◌, ◌≤◌, length, get_or, Result, Ok, Err, IfOk, MatchResult}
use Rattle.std.proofs.Common.{sym, ◌∙◌}
use Rattle.rules.specs.Answers.{answer_of, verdict_of}
use Rattle.rules.specs.Refusals.{Outcome, accepted, refused}
use Rattle.rules.specs.Fields as fields
use Rattle.rules.specs.Fields.{bytes_at}
use Rattle.rules.specs.Calls.{source_part_of, delivery_part_of}
use Rattle.rules.specs.Places.{label_start, part_start, sources_of}
use Rattle.rules.specs.declared.Hour.{Hour}
use Rattle.rules.specs.declared.Refusal.{Refusal}
use Rattle.laws.specs.Answers.{answer_accepted, answer_refused}
use Rattle.read_fields.specs.declared.Place.{Place}
use Rattle.deck.specs.declared.ScannedDeck.{ScannedDeck}

-- which outcome an answer tells
pub verdict_told : (o : Outcome Hour) → MatchResult (answer_of o) (λ h. verdict_of o ≡ Ok tt) (λ r. verdict_of o ≡ Err r)
verdict_told (accepted h) = refl
verdict_told (refused r) = refl

pub read_accepted : (o : Outcome Hour) (x : Result Hour Refusal) (h : Hour) → x ≡ answer_of o → x ≡ Ok h → accepted h ≡ o
read_accepted o x h e p = sym (answer_accepted o h (sym e ∙ p))

pub read_refused : (o : Outcome Hour) (x : Result Hour Refusal) (r : Refusal) → x ≡ answer_of o → x ≡ Err r → refused r ≡ o
read_refused o x r e p = sym (answer_refused o r (sym e ∙ p))

-- Places.

abbrev pub nowhere : Place
nowhere = record { from = 0; upto = 0 }

-- a place, as the rules have it
abbrev pub place_at : Place → fields.Place
place_at p = record { from = p.from; upto = p.upto }

-- the bytes at a place of the deck
abbrev pub bytes_of : List ℕ → Place → List ℕ
bytes_of s p = bytes_at s (place_at p)

-- a place that lies in the deck, and a part that is the bytes there
pub record Holds (s : List ℕ) (part : List ℕ) (p : Place) : Type 0 where
  pub order : p.from ≤ p.upto
  pub within : p.upto ≤ length s
  pub bytes : bytes_of s p ≡ part

-- the places of one class's labels, each with the part that is asked for by its number, and where that label starts
pub record Placed (s : List ℕ) (part : ℕ → List ℕ) (start : ℕ → ℕ) (ps : List Place) : Type 0 where
  pub size : length ps ≡ 32
  pub each : (i : ℕ) → Holds s (part i) (get_or ps i nowhere)
  pub starts : (i : ℕ) → (get_or ps i nowhere).from ≡ part_start (start i) (length (part i))

-- the answer, without the places
abbrev pub hour_of : Result ScannedDeck Refusal → Result Hour Refusal
hour_of (Ok x) = Ok x.hour
hour_of (Err r) = Err r

-- what a deck comes to, and where its labels stand
pub record Scanned (s : List ℕ) (t : Outcome Hour) (r : Result ScannedDeck Refusal) : Type 0 where
  pub answer : hour_of r ≡ answer_of t
  pub sources : IfOk r (λ x. Placed s (source_part_of t) (λ i. label_start s (i + 1)) x.sources)
  pub deliveries : IfOk r (λ x. Placed s (delivery_part_of t) (λ j. label_start s (sources_of t + j + 1)) x.deliveries)
