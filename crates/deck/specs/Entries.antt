-- What is kept of the entries that are read: of a deck that is scanned its hour so far, with the places of its labels.
use Rattle.std.specs.Prelude.{◌≡◌, refl, Bool, true, false, List, [], ltb, length, get_or, set, replicate}
use Rattle.std.proofs.Math.Path.{ap, sym}
use Rattle.std.proofs.Common.{◌∙◌, arith, length-set, get_or-set_same, get_or-set_other, lt-ltb, le-ltb, ltb-true, ltb-false}
use Prim.Native.Nat.{ℕ, zero, suc, ◌+◌, ◌<◌}
use Rattle.std.proofs.Math.Decide.{ℕ_discrete}
use Rattle.rules.specs.Words.{when◌then◌else◌}
use Rattle.rules.specs.Refusals.{accepted}
use Rattle.rules.specs.Sequences.{no_delivery}
use Rattle.rules.specs.Fields.{escape}
use Rattle.rules.specs.Record as record_of
use Rattle.rules.specs.Record.{chars, no_source, started, with_source, with_delivery, with_direct}
use Rattle.rules.specs.Calls.{source_part_of, delivery_part_of}
use Rattle.rules.specs.Places.{label_start, part_start}
use Rattle.rules.specs.declared.Label.{Label}
use Rattle.rules.specs.declared.Source.{Source}
use Rattle.rules.specs.declared.Delivery.{Delivery}
use Rattle.rules.specs.declared.Hour.{Hour}
use Rattle.read_fields.specs.declared.Place.{Place}
use Rattle.deck.specs.Answers.{nowhere, Holds, Placed}
use Rattle.deck.specs.declared.ScannedDeck.{ScannedDeck}

-- The next entry of an hour that is read.

-- an entry's label on line k + 1: its place, whose bytes are the label's, is where the first label of that line starts
pub record LabelOn (s : List ℕ) (k : ℕ) (l : Label) (p : Place) : Type 0 where
  pub holds : Holds s (escape (chars l)) p
  pub starts : p.from ≡ part_start (label_start s k) (length (escape (chars l)))

pub record NextSource (s : List ℕ) (h : Hour) (i : ℕ) (x : Source) (p : Place) : Type 0 where
  pub index : i ≡ h.nsources
  pub size : length h.sources ≡ 32
  pub alone : h.ndeliveries ≡ 0
  pub label : LabelOn s (h.nsources + 1) x.label p

pub record NextDelivery (s : List ℕ) (h : Hour) (j : ℕ) (x : Delivery) (p : Place) : Type 0 where
  pub index : j ≡ h.ndeliveries
  pub size : length h.deliveries ≡ 32
  pub label : LabelOn s (h.nsources + h.ndeliveries + 1) x.label p

-- The whole of it.

pub record KeepsAll (s : List ℕ) (h : Hour) (x : ScannedDeck) : Type 0 where
  pub hour : x.hour ≡ h
  pub sources : Placed s (source_part_of (accepted h)) (λ i. label_start s (i + 1)) x.sources
  pub deliveries : Placed s (delivery_part_of (accepted h)) (λ j. label_start s (h.nsources + j + 1)) x.deliveries

-- Places.

get_d_same : {A : Type 0} (n i : ℕ) (a : A) → get_or (replicate n a) i a ≡ a
get_d_same zero i a = refl
get_d_same (suc n) zero a = refl
get_d_same (suc n) (suc i) a = get_d_same n i a

module _ (s : List ℕ) where
  placed_none : (part : ℕ → List ℕ) (start : ℕ → ℕ) → ((i : ℕ) → part i ≡ []) → Placed s part start (replicate 32 nowhere)
  placed_none part start empty =
      record {
        size = refl;
        each = λ i. rw (get_d_same 32 i nowhere) (record { order = omega arith; within = omega arith; bytes = sym (empty i) });
        starts = λ i. rw (get_d_same 32 i nowhere, empty i);
      }

  -- where no part has bytes, the labels may start anywhere
  placed_still : (part : ℕ → List ℕ) (start other : ℕ → ℕ) (ps : List Place) → ((i : ℕ) → part i ≡ []) → Placed s part start ps → Placed s part other ps
  placed_still part start other ps empty e =
      record { size = e.size; each = e.each; starts = λ i. e.starts i ∙ ap (λ (p : List ℕ). part_start (start i) (length p)) (empty i) ∙ ap (λ (p : List ℕ). part_start (other i) (length p)) (sym (empty i)) }

  -- the labels of the first n entries of a class
  module _ {A : Type 0} (label : A → Label) (default : A) where
    abbrev part_of : List A → ℕ → ℕ → List ℕ
    part_of xs n i = when ltb i n then escape (chars (label (get_or xs i default))) else []

    placed_more : (xs : List A) (n : ℕ) (x : A) (start : ℕ → ℕ) (ps : List Place) (p : Place) → n < 32 → length xs ≡ 32 → Holds s (escape (chars (label x))) p
        → p.from ≡ part_start (start n) (length (escape (chars (label x)))) → Placed s (part_of xs n) start ps → Placed s (part_of (set xs n x) (n + 1)) start (set ps n p)
    placed_more xs n x start ps p lt size holds begins e =
        let l = e.size in
        record {
          size = simp length-set e.size;
          each = λ i. elim (ℕ_discrete i n) [
            | yes k ↦ rw (k, get_or-set_same ps n p nowhere (omega arith), get_or-set_same xs n x default (omega arith), lt-ltb n (n + 1) (omega arith)) holds
            | no k ↦ rw (get_or-set_other ps n i p nowhere (λ q. k (q)), get_or-set_other xs n i x default (λ q. k (q)), still i k) (e.each i)
          ];
          starts = λ i. elim (ℕ_discrete i n) [
            | yes k ↦ rw (k, get_or-set_same ps n p nowhere (omega arith), get_or-set_same xs n x default (omega arith), lt-ltb n (n + 1) (omega arith)) begins
            | no k ↦ rw (get_or-set_other ps n i p nowhere (λ q. k (q)), get_or-set_other xs n i x default (λ q. k (q)), still i k) (e.starts i)
          ];
        }
      where
        still : (i : ℕ) → (i ≡ n → ⊥) → ltb i (n + 1) ≡ ltb i n
        still i k = go (ltb i n) refl
          where
            go : (b : Bool) → ltb i n ≡ b → ltb i (n + 1) ≡ b
            go true b = lt-ltb i (n + 1) (omega (arith, ltb-true i n b))
            go false b = le-ltb i (n + 1) (let q : i ≡ n → ⊥ = k in omega (arith, ltb-false i n b))

pub keeps_started : (s : List ℕ) (losses : ℕ) (h : Hour) → h ≡ started losses → KeepsAll s (started losses) (record { hour = h; sources = replicate 32 nowhere; deliveries = replicate 32 nowhere })
unfolding record_of.started
keeps_started s losses h e =
    record {
      hour = e;
      sources = placed_none s _ _ (λ i. rw (le-ltb i 0 (omega arith)));
      deliveries = placed_none s _ _ (λ i. rw (le-ltb i 0 (omega arith)));
    }

-- One entry more, put at its index.
module _ (s : List ℕ) (h : Hour) (k : ScannedDeck) (w : KeepsAll s h k) where
  pub keeps_source : (i : ℕ) (x : Source) (p : Place) → i < 32 → NextSource s h i x p
      → KeepsAll s (with_source h x) (record { hour = record k.hour { nsources = i + 1; sources = set k.hour.sources i x }; sources = set k.sources i p; deliveries = k.deliveries })
  keeps_source i x p room e =
      record {
        hour = rw (e.index, w.hour);
        sources = rw e.index (placed_more s (λ (x : Source). x.label) no_source h.sources h.nsources x _ k.sources p (omega (arith, room, e.index)) e.size e.label.holds e.label.starts w.sources);
        deliveries = placed_still s _ _ _ k.deliveries (λ j. rw (le-ltb j h.ndeliveries (omega (arith, e.alone)))) w.deliveries;
      }

  pub keeps_delivery : (j : ℕ) (x : Delivery) (p : Place) → j < 32 → NextDelivery s h j x p
      → KeepsAll s (with_delivery h x) (record { hour = record k.hour { ndeliveries = j + 1; deliveries = set k.hour.deliveries j x }; sources = k.sources; deliveries = set k.deliveries j p })
  keeps_delivery j x p room e =
      record {
        hour = rw (e.index, w.hour);
        sources = w.sources;
        deliveries = rw e.index (placed_more s (λ (x : Delivery). x.label) no_delivery h.deliveries h.ndeliveries x _ k.deliveries p (omega (arith, room, e.index)) e.size e.label.holds e.label.starts w.deliveries);
      }
