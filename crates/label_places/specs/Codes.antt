-- The codes of places one after another, and the lent numbers that have those of a deck's labels.
use Rattle.std.specs.Prelude.{◌≡◌, refl, Bool, List, [], ◌∷◌, ◌++◌, ℕ, ◌+◌, ◌-◌, ◌<◌, ◌≤◌, ltb, length, get_or, set, drop, Ok, Err}
use Rattle.std.proofs.Math.Path.{ap}
use Rattle.std.proofs.Common.{sym, subst, ◌∙◌, append_assoc, append-nil, add-zero, arith}
use borrow.Author.Tests.{lt-ltb, le-ltb}
use Rattle.rules.specs.Answers.{written_of}
use Rattle.rules.specs.Calls.{leaves}
use Rattle.rules.specs.Places as places
use Rattle.rules.specs.Places.{place_code, source_place, delivery_place, label_places, labelling}
use Rattle.rules.specs.Reading.{reading}
use Rattle.rules.specs.Refusals.{Outcome, accepted, refuse, and_then}
use Rattle.rules.specs.Words as words
use Rattle.rules.specs.Words.{list_to}
use Rattle.rules.specs.declared.Hour.{Hour}
use Rattle.rules.specs.declared.Refusal.{Refusal}
use Rattle.rules.specs.declared.Refusal.TheVariants.{Short}
use Rattle.laws.specs.Lists.{list_to_same, list_to_more}
use Rattle.roundtrip.specs.GivenHour.{accepted_given}
use Rattle.write_fields.specs.Inked.{Inked, inked_place, inked_byte, inked_nothing, inked_then, inked_as, inked_first}
use Rattle.laws.specs.Answers.{answer_accepted, answer_refused}
use Rattle.read_fields.specs.declared.Place.{Place}
use Rattle.deck.specs.Answers.{nowhere, Scanned}
use Rattle.deck.specs.declared.ScannedDeck.{ScannedDeck}
use Rattle.label_places.specs.Stands.{stands_code, source_stands_lem, delivery_stands_lem}

abbrev pub code_at : List Place → ℕ → ℕ
code_at ps i = place_code (get_or ps i nowhere).from ((get_or ps i nowhere).upto - (get_or ps i nowhere).from)

-- the codes of the first n places
abbrev pub codes : List Place → ℕ → List ℕ
codes ps n = list_to (λ i. code_at ps i ∷ []) n

-- there is room for them, and each is one of 64 bits
pub record CodesFit (at : ℕ) (ps : List Place) (n : ℕ) (out : List ℕ) : Type 0 where
  pub fits : at + n ≤ length out
  pub few : n ≤ 32
  pub each : (i : ℕ) → ((get_or ps i nowhere).from ≤ (get_or ps i nowhere).upto) × ((get_or ps i nowhere).upto ≤ 8192)

-- One code more.

pub codes_none : (out : List ℕ) (at : ℕ) (ps : List Place) → Inked out at out (at + 0) (λ rest. codes ps 0 ++ rest)
unfolding words.list_to
codes_none out at ps = rw (add-zero at) (inked_nothing out at)

pub codes_more : (before out : List ℕ) (at i : ℕ) (ps : List Place) (code : ℕ) → code ≡ code_at ps i → Inked before at out (at + i) (λ rest. codes ps i ++ rest)
    → Inked before at (set out (at + i) code) (at + (i + 1)) (λ rest. codes ps (i + 1) ++ rest)
codes_more before out at i ps code e w =
    let k : at + i + 1 ≡ at + (i + 1) = omega arith in
    subst (λ (next : ℕ). Inked before at (set out (at + i) code) next (λ rest. codes ps (i + 1) ++ rest)) k
    (inked_as more (inked_then w (inked_byte out (at + i) code)))
  where
    more : (rest : List ℕ) → codes ps i ++ (code ∷ rest) ≡ codes ps (i + 1) ++ rest
    more rest =
        ap (λ (c : ℕ). codes ps i ++ (c ∷ rest)) e ∙ sym (append_assoc (codes ps i) (code_at ps i ∷ []) rest)
        ∙ ap (λ (xs : List ℕ). xs ++ rest) (sym (list_to_more (λ i. code_at ps i ∷ []) i))

-- All labels of a deck.

pub all_refused : (s : List ℕ) (r : Refusal) (out : List ℕ) → Scanned s (reading s) (Err r)
    → (Err r ≡ written_of (labelling s (length out))) × (out ≡ leaves (labelling s (length out)) out)
unfolding places.labelling
all_refused s r out e = rw (answer_refused (reading s) r (sym e.answer)) (refl, refl)

module _ (s : List ℕ) (x : ScannedDeck) (e : Scanned s (reading s) (Ok x)) where
  source_codes : (n : ℕ) → codes x.sources n ≡ list_to (λ i. source_place s i ∷ []) n
  source_codes n = list_to_same _ _ n (λ i l. ap (λ (c : ℕ). c ∷ []) (stands_code s _ _ _ (source_stands_lem s i x e)))

  delivery_codes : (n : ℕ) → codes x.deliveries n ≡ list_to (λ j. delivery_place s j ∷ []) n
  delivery_codes n = list_to_same _ _ n (λ j l. ap (λ (c : ℕ). c ∷ []) (stands_code s _ _ _ (delivery_stands_lem s j x e)))

  is_accepted : accepted x.hour ≡ reading s
  is_accepted = sym (answer_accepted (reading s) x.hour (sym e.answer))

  pub few_labels : (x.hour.nsources ≤ 32) × (x.hour.ndeliveries ≤ 32)
  few_labels = let g = accepted_given s x.hour (sym is_accepted) in (g.sources.few, g.deliveries.few)

  pub sources_fit : (at : ℕ) (out : List ℕ) → at + x.hour.nsources ≤ length out → CodesFit at x.sources x.hour.nsources out
  sources_fit at out fits = record { fits = fits; few = few_labels.0; each = λ i. let p = source_stands_lem s i x e in (omega (arith, p.begins, p.ends), p.small) }

  pub deliveries_fit : (at : ℕ) (out : List ℕ) → at + x.hour.ndeliveries ≤ length out → CodesFit at x.deliveries x.hour.ndeliveries out
  deliveries_fit at out fits = record { fits = fits; few = few_labels.1; each = λ j. let p = delivery_stands_lem s j x e in (omega (arith, p.begins, p.ends), p.small) }

  pub all_short : (out : List ℕ) → length out < x.hour.nsources + x.hour.ndeliveries
      → (Err Short ≡ written_of (labelling s (length out))) × (out ≡ leaves (labelling s (length out)) out)
  unfolding places.labelling
  all_short out short = rw (← is_accepted, lt-ltb (length out) (x.hour.nsources + x.hour.ndeliveries) short) (refl, refl)

  places_told : (size : ℕ) → x.hour.nsources + x.hour.ndeliveries ≤ size → labelling s size ≡ accepted (label_places s x.hour)
  unfolding places.labelling
  places_told size fits =
      ap (λ (o : Outcome Hour). and_then o λ h. refuse (ltb size (h.nsources + h.ndeliveries)) Short (accepted (label_places s h))) (sym is_accepted)
      ∙ ap (λ (b : Bool). refuse b Short (accepted (label_places s x.hour))) (le-ltb size (x.hour.nsources + x.hour.ndeliveries) fits)

  pub all_put : (out first last : List ℕ) → x.hour.nsources + x.hour.ndeliveries ≤ length out
      → Inked out 0 first (0 + x.hour.nsources) (λ rest. codes x.sources x.hour.nsources ++ rest)
      → Inked first x.hour.nsources last (x.hour.nsources + x.hour.ndeliveries) (λ rest. codes x.deliveries x.hour.ndeliveries ++ rest)
      → (Ok (x.hour.nsources + x.hour.ndeliveries) ≡ written_of (labelling s (length out))) × (last ≡ leaves (labelling s (length out)) out)
  all_put out first last fits a b =
      let n = x.hour.nsources in
      let m = x.hour.ndeliveries in
      let h = x.hour in
      let z : 0 + n ≡ n = omega arith in
      let w = inked_then (subst (λ (k : ℕ). Inked out 0 first k (λ rest. codes x.sources n ++ rest)) z a) b in
      let text : codes x.sources n ++ (codes x.deliveries m ++ []) ≡ label_places s h
      = ap (λ (ys : List ℕ). codes x.sources n ++ ys) (append-nil (codes x.deliveries m)) ∙ ap (λ (xs : List ℕ). xs ++ codes x.deliveries m) (source_codes n)
      ∙ ap (λ (ys : List ℕ). list_to (λ i. source_place s i ∷ []) n ++ ys) (delivery_codes m) in
      let size : n + m ≡ length (label_places s h) = omega (arith, inked_place w, ap length text) in
      let left : last ≡ label_places s h ++ drop (length (label_places s h)) out
      = inked_first w (record { fits = omega (arith, fits, size, ap length text) }) ∙ ap (λ (xs : List ℕ). xs ++ drop (length xs) out) text in
      let is = sym (places_told (length out) fits) in
      (ap Ok size ∙ ap written_of is, left ∙ ap (λ (o : Outcome (List ℕ)). leaves o out) is)
