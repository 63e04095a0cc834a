-- A place that is a label's: where it starts and ends, and what the deck has there. The places that a deck's scan gives are such.
use Rattle.std.specs.Prelude.{◌≡◌, ℕ, ◌+◌, ◌-◌, ◌≤◌, length, get_or, drop, Ok, Err}
use Rattle.std.proofs.Math.Path.{refl}
use Rattle.std.proofs.Common.{ap, sym, ◌∙◌, arith, le-ltb, length-take, length-drop}
use mathlib.Core.List.{List, []}
use Rattle.std.proofs.Math.Decide.{dec_lt}
use Rattle.rules.specs.Calls as calls
use Rattle.rules.specs.Calls.{source_part, source_part_of, delivery_part, delivery_part_of}
use Rattle.rules.specs.Places.{part_start, source_start, delivery_start, place_code}
use Rattle.rules.specs.Reading.{reading}
use Rattle.rules.specs.Refusals.{Outcome, accepted, refused}
use Rattle.rules.specs.declared.Hour.{Hour}
use Rattle.rules.specs.declared.Refusal.{Refusal}
use Rattle.laws.specs.Answers.{answer_refused}
use Rattle.roundtrip.specs.DeckFits.{accepted_at_most}
use Rattle.roundtrip.specs.GivenHour.{accepted_given}
use Rattle.deck.specs.Answers.{nowhere, bytes_of, Placed, Scanned}
use Rattle.read_fields.specs.declared.Place.{Place}
use Rattle.deck.specs.declared.ScannedDeck.{ScannedDeck}
use Rattle.label_places.specs.Classes.{part_of, start_of}
use Rattle.label_places.specs.declared.Class.{Class}
use Rattle.label_places.specs.declared.Class.TheVariants.{Source, Delivery}

pub record Stands (s : List ℕ) (start : ℕ) (part : List ℕ) (p : Place) : Type 0 where
  pub begins : p.from ≡ start
  pub ends : p.upto ≡ start + length part
  pub within : p.upto ≤ length s
  pub small : p.upto ≤ 8192
  pub bytes : bytes_of s p ≡ part

-- its place as one number
pub stands_code : (s : List ℕ) (start : ℕ) (part : List ℕ) (p : Place) → Stands s start part p → place_code p.from (p.upto - p.from) ≡ place_code start (length part)
stands_code s start part p e =
    let n : p.upto - p.from ≡ length part = omega (arith, e.begins, e.ends) in
    ap (λ (m : ℕ). place_code m (p.upto - p.from)) e.begins ∙ ap (place_code start) n

-- One class of a scan.

-- nothing of a refused deck, and of an entry that an accepted one lacks
stands_none : (s : List ℕ) (start : ℕ) (part : List ℕ) → part ≡ [] → Stands s (part_start start (length part)) part nowhere
stands_none s start part e = rw e (record { begins = refl; ends = refl; within = omega arith; small = omega arith; bytes = refl })

module _ (s : List ℕ) (part : ℕ → List ℕ) (start : ℕ → ℕ) (ps : List Place) (e : Placed s part start ps) (short : (i : ℕ) → 1 ≤ length (part i) → length s ≤ 8192) where
  placed_stands : (i : ℕ) → Stands s (part_start (start i) (length (part i))) (part i) (get_or ps i nowhere)
  placed_stands i =
      let p = get_or ps i nowhere in
      let h = e.each i in
      let size : p.upto - p.from ≡ length (part i) = omega (arith, h.order, h.within, ap length h.bytes, length-take (p.upto - p.from) (drop p.from s), length-drop p.from s) in
      let ends : p.upto ≡ p.from + length (part i) = omega (arith, h.order, size) in
      record {
        begins = e.starts i;
        ends = ends ∙ ap (λ (n : ℕ). n + length (part i)) (e.starts i);
        within = h.within;
        small = elim (dec_lt 0 (length (part i))) [
          | yes k ↦ omega (arith, h.within, short i k)
          | no k ↦ let z : length (part i) ≡ 0 = omega arith in let none : p.from ≡ 0 = e.starts i ∙ ap (part_start (start i)) z in omega (arith, ends, z, none)
        ];
        bytes = h.bytes;
      }

-- Both classes.

-- a part with bytes is of an accepted deck
part_short : (s : List ℕ) (part : Outcome Hour → List ℕ) → ((r : _) → part (refused r) ≡ []) → 1 ≤ length (part (reading s)) → length s ≤ 8192
part_short s part empty = go (reading s) refl
  where
    go : (o : Outcome Hour) → reading s ≡ o → 1 ≤ length (part o) → length s ≤ 8192
    go (accepted h) e k = omega (arith, accepted_at_most s h e)
    go (refused r) e k = absurd (omega (arith, k, ap length (empty r)))

module _ (s : List ℕ) (i : ℕ) where
  module _ (x : ScannedDeck) (e : Scanned s (reading s) (Ok x)) where
    pub source_stands_lem : Stands s (source_start s i) (source_part s i) (get_or x.sources i nowhere)
    unfolding calls.source_part
    source_stands_lem = placed_stands s _ _ x.sources e.sources (λ i. part_short s (λ o. source_part_of o i) (λ r. refl)) i

    pub delivery_stands_lem : Stands s (delivery_start s i) (delivery_part s i) (get_or x.deliveries i nowhere)
    unfolding calls.delivery_part
    delivery_stands_lem = placed_stands s _ _ x.deliveries e.deliveries (λ i. part_short s (λ o. delivery_part_of o i) (λ r. refl)) i

  -- where a label is not there
  module _ (class : Class) where
    empty_stands : part_of class s i ≡ [] → Stands s (start_of class s i) (part_of class s i) nowhere
    empty_stands = go class
      where
        go : (c : Class) → part_of c s i ≡ [] → Stands s (start_of c s i) (part_of c s i) nowhere
        go Source e = stands_none s _ (source_part s i) e
        go Delivery e = stands_none s _ (delivery_part s i) e

    -- no deck has a thirty-third entry
    pub past_stands : 32 ≤ i → Stands s (start_of class s i) (part_of class s i) nowhere
    unfolding calls.source_part calls.delivery_part
    past_stands past = empty_stands (go class)
      where
        sources : (o : Outcome Hour) → reading s ≡ o → source_part_of o i ≡ []
        sources (accepted h) e = rw (le-ltb i h.nsources (omega (arith, (accepted_given s h e).sources.few)))
        sources (refused r) e = refl

        deliveries : (o : Outcome Hour) → reading s ≡ o → delivery_part_of o i ≡ []
        deliveries (accepted h) e = rw (le-ltb i h.ndeliveries (omega (arith, (accepted_given s h e).deliveries.few)))
        deliveries (refused r) e = refl

        go : (c : Class) → part_of c s i ≡ []
        go Source = sources (reading s) refl
        go Delivery = deliveries (reading s) refl

    -- a refused deck has none
    pub refused_stands : (r : Refusal) → Scanned s (reading s) (Err r) → Stands s (start_of class s i) (part_of class s i) nowhere
    unfolding calls.source_part calls.delivery_part
    refused_stands r e = empty_stands (go class)
      where
        is : reading s ≡ refused r
        is = answer_refused (reading s) r (sym e.answer)

        go : (c : Class) → part_of c s i ≡ []
        go Source = rw is
        go Delivery = rw is

  -- what past_stands says, by the class's own words
  module _ (past : 32 ≤ i) where
    pub no_source : Stands s (source_start s i) (source_part s i) nowhere
    no_source = past_stands Source past

    pub no_delivery_lem : Stands s (delivery_start s i) (delivery_part s i) nowhere
    no_delivery_lem = past_stands Delivery past
