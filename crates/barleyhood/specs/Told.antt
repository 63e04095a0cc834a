-- What the answers of the calls beneath tell of the deck, and the code for each.
use Rattle.std.specs.Prelude.{Result, Ok, Err}
use Rattle.std.specs.Prelude.{true, ◌≡◌, refl, List, ℕ, ℤ}
use Rattle.std.proofs.Math.Path.{ap}
use Rattle.std.proofs.Common.{sym, ◌∙◌}
use Rattle.laws.specs.Answers.{answer_accepted, answer_refused, verdict_accepted, verdict_refused}
use Rattle.roundtrip.specs.DeckRoundTrip.{accepted_is_valid}
use Rattle.rules.specs.Answers.{answer_of, verdict_of, written_of}
use Rattle.rules.specs.Calls as calls
use Rattle.rules.specs.Calls.{cells_for, reconstruction, leaves}
use Rattle.rules.specs.Reading.{reading}
use Rattle.rules.specs.Refusals.{Outcome, accepted, refused, and_then}
use Rattle.rules.specs.Writing.{valid}
use Rattle.rules.specs.declared.Hour.{Hour}
use Rattle.rules.specs.declared.Refusal.{Refusal}
use Rattle.refusals.specs.Codes.{code_of}
use Rattle.barleyhood.specs.Linked as linked
use Rattle.barleyhood.specs.Linked.{check_code, sources_code, deliveries_code, cells_of_deck, written_code, answer_code}

-- The verdict on a deck.

module _ (s : List ℕ) (v : Result (Unit {0}) Refusal) (e : v ≡ verdict_of (reading s)) where
  pub check_accepted : v ≡ Ok tt → 0 ≡ check_code (reading s)
  check_accepted p = ap check_code (sym (verdict_accepted (reading s) (sym e ∙ p)).1)

  pub check_refused : (r : Refusal) → v ≡ Err r → code_of r ≡ check_code (reading s)
  check_refused r p = ap check_code (sym (verdict_refused (reading s) r (sym e ∙ p)))

-- A deck that is read.

pub answer_code_lem : {A : Type 0} (o : Outcome (List A)) → answer_code (written_of o) ≡ written_code o
answer_code_lem (accepted xs) = refl
answer_code_lem (refused r) = refl

module _ (s : List ℕ) (x : Result Hour Refusal) (e : x ≡ answer_of (reading s)) where
  module _ (h : Hour) (p : x ≡ Ok h) where
    accepts : accepted h ≡ reading s
    accepts = sym (answer_accepted (reading s) h (sym e ∙ p))

    pub sources_told : h.nsources ≡ sources_code (reading s)
    sources_told = ap sources_code accepts

    pub deliveries_told : h.ndeliveries ≡ deliveries_code (reading s)
    deliveries_told = ap deliveries_code accepts

    -- the hour that a deck gives is valid
    pub hour_valid : valid h ≡ true
    hour_valid = accepted_is_valid s h (sym accepts)

    -- so that 15 is past
    past_15 : (n : ℕ) → cells_for h n ≡ reconstruction h n
    unfolding calls.reconstruction
    past_15 n = rw hour_valid

    -- the code and the cells that the hour's cells leave
    pub cells_told : (n : ℕ) (a : Result ℕ Refusal) (code : ℕ) (out left : List ℤ) → a ≡ written_of (cells_for h n) → code ≡ answer_code a
        → left ≡ leaves (cells_for h n) out → (code ≡ written_code (cells_of_deck s n)) × (left ≡ leaves (cells_of_deck s n) out)
    unfolding linked.cells_of_deck
    cells_told n a code out left ae ce le =
        let k : cells_for h n ≡ cells_of_deck s n = past_15 n ∙ ap (λ (o : Outcome Hour). and_then o λ h. reconstruction h n) accepts in
        (ce ∙ ap answer_code ae ∙ answer_code_lem (cells_for h n) ∙ ap written_code k, le ∙ ap (λ (o : Outcome (List ℤ)). leaves o out) k)

  module _ (r : Refusal) (p : x ≡ Err r) where
    refuses : refused r ≡ reading s
    refuses = sym (answer_refused (reading s) r (sym e ∙ p))

    pub sources_refused : code_of r ≡ sources_code (reading s)
    sources_refused = ap sources_code refuses

    pub deliveries_refused : code_of r ≡ deliveries_code (reading s)
    deliveries_refused = ap deliveries_code refuses

    pub cells_refused : (n : ℕ) (out : List ℤ) → (code_of r ≡ written_code (cells_of_deck s n)) × (out ≡ leaves (cells_of_deck s n) out)
    unfolding linked.cells_of_deck
    cells_refused n out =
        let k : refused r ≡ cells_of_deck s n = ap (λ (o : Outcome Hour). and_then o λ h. reconstruction h n) refuses in
        (ap written_code k, ap (λ (o : Outcome (List ℤ)). leaves o out) k)
