-- For every hour record and answer buffer the plain rule and the price search give the same refusal or the same cells, and so do the two functions for C
-- for every deck; the two calls that tell where a label stands, for Rattle and for C, tell the same place; and the call that tells it of all labels tells of
-- each what the call for that one does. The spreadsheet file of a deck is that of the hour record that is read from it, and the two functions for C on
-- files give what the calls for Rattle give.
use Rattle.std.specs.Prelude.{Result, Ok}
use Rattle.rules.specs.declared.Refusal.{Refusal}
use mathlib.Core.Bool.{Bool}
use mathlib.Core.List.{List, [], ◌∷◌, ◌++◌, append_assoc}
use mathlib.Core.Path.{◌≡◌, refl, sym, ap, ◌∙◌}
use Prim.Native.Nat.{ℕ, ◌+◌, ◌*◌, ◌/◌, ◌%◌, ◌<◌, ◌≤◌}
use native.Mathlib.Omega.{arith}
use borrow.Author.Tests.{le-ltb}
use lib.Dec.{ltb}
use lib.IntN.{ℤ}
use lib.ListN.{length, get_or, drop}
use lib.Seq.{get_or-append-add}
use Rattle.rules.specs.Answers.{written_of}
use Rattle.rules.specs.Calls as calls
use Rattle.rules.specs.Calls.{deck_spreadsheet, spreadsheet_lines, leaves}
use Rattle.rules.specs.Places as places
use Rattle.rules.specs.Places.{source_place, delivery_place, label_places, labelling}
use Rattle.rules.specs.Reading.{reading}
use Rattle.rules.specs.Refusals.{Outcome, accepted, refuse, and_then}
use Rattle.rules.specs.Words.{list_to}
use Rattle.rules.specs.declared.Hour.{Hour}
use Rattle.rules.specs.declared.Refusal.TheVariants.{Short}
use Rattle.laws.specs.Sums.{list_to_length, list_to_read}
use Rattle.roundtrip.specs.DeckRoundTrip.{accepted_is_valid}
use Rattle.laws.specs.Answers.{answer_accepted}
use Rattle.barleyhood.specs.Linked.{answer_code}
use Rattle.barleyhood.specs.Told.{answer_code_lem}
use Rattle.barleyhood.proofs.OneOutcome.{Same, both}
use Rattle.barleyhood.proofs.CodesTell as codes
use Rattle.barleyhood.proofs.read.Reads as read_call
use Rattle.barleyhood.proofs.plain.Reads as plain_call
use Rattle.barleyhood.proofs.price.Reads as price_call
use Rattle.barleyhood.proofs.source_label.Reads as source_label_call
use Rattle.barleyhood.proofs.delivery_label.Reads as delivery_label_call
use Rattle.barleyhood.proofs.labels.Reads as labels_call
use Rattle.barleyhood.proofs.deck_spreadsheet.Reads as deck_spreadsheet_call
use Rattle.barleyhood.proofs.spreadsheet.Reads as spreadsheet_call
use Rattle.barleyhood.proofs.spreadsheet_lines.Reads as spreadsheet_lines_call
use Rattle.barleyhood.proofs.linked.barleyhood_plain.Reads as barleyhood_plain_call
use Rattle.barleyhood.proofs.linked.barleyhood_price.Reads as barleyhood_price_call
use Rattle.barleyhood.proofs.linked.barleyhood_source_label.Reads as barleyhood_source_label_call
use Rattle.barleyhood.proofs.linked.barleyhood_delivery_label.Reads as barleyhood_delivery_label_call
use Rattle.barleyhood.proofs.linked.barleyhood_labels.Reads as barleyhood_labels_call
use Rattle.barleyhood.proofs.linked.barleyhood_spreadsheet.Reads as barleyhood_spreadsheet_call
use Rattle.barleyhood.proofs.linked.barleyhood_spreadsheet_lines.Reads as barleyhood_spreadsheet_lines_call

pub plain_and_price : Same {O = (Result ℕ Refusal) × List ℤ} plain_call.Post price_call.Post (λ κ r x. (r, x.1.0.now))
plain_and_price κ a r q x y = both

pub barleyhood_plain_and_price : Same {O = ℕ × List ℤ} barleyhood_plain_call.Post barleyhood_price_call.Post (λ κ r x. (r, x.1.0.now))
barleyhood_plain_and_price κ a r q x y = both

-- the part starts so far into the deck as the code tells, and has so many bytes
pub source_labels_lem : (κ : _) (a : _) (r : _) (code : ℕ) (x y : _) → source_label_call.Post κ a r x → barleyhood_source_label_call.Post κ a code y
    → (r.ref_ptr.1 ≡ code / 4_294_967_296 + a.0.ref_ptr.1) × (length r.now ≡ code % 4_294_967_296)
source_labels_lem κ a r code x y p q =
    let t = codes.barleyhood_source_label κ a code y q in
    (ap (λ (at : ℕ × ℕ). at.1) p.1 ∙ ap (λ (n : ℕ). n + a.0.ref_ptr.1) (sym t.0), ap length p.0 ∙ sym t.1)

pub delivery_labels_lem : (κ : _) (a : _) (r : _) (code : ℕ) (x y : _) → delivery_label_call.Post κ a r x → barleyhood_delivery_label_call.Post κ a code y
    → (r.ref_ptr.1 ≡ code / 4_294_967_296 + a.0.ref_ptr.1) × (length r.now ≡ code % 4_294_967_296)
delivery_labels_lem κ a r code x y p q =
    let t = codes.barleyhood_delivery_label κ a code y q in
    (ap (λ (at : ℕ × ℕ). at.1) p.1 ∙ ap (λ (n : ℕ). n + a.0.ref_ptr.1) (sym t.0), ap length p.0 ∙ sym t.1)

-- All labels.

pub labels : (κ : _) (a : _) (r : Result ℕ Refusal) (code : ℕ) (x y : _) → labels_call.Post κ a r x → barleyhood_labels_call.Post κ a code y
    → (code ≡ answer_code r) × (x.1.0.now ≡ y.1.0.now)
labels κ a r code x y p q =
    let o = labelling a.0.now (length a.1.0.now) in
    (q.0 ∙ sym (answer_code_lem o) ∙ ap answer_code (sym p.0), p.1 ∙ sym q.1)

at_piece : (f : ℕ → ℕ) (n i : ℕ) (ys : List ℕ) → i < n → get_or (list_to (λ i. f i ∷ []) n ++ ys) i 0 ≡ f i
at_piece f n i ys l =
    let k : i ≡ i * 1 + 0 = omega arith in
    ap (λ (m : ℕ). get_or (list_to (λ i. f i ∷ []) n ++ ys) m 0) k ∙ list_to_read (λ i. f i ∷ []) 1 (λ k. refl) n i 0 0 ys l (omega arith)

-- an accepted deck, with numbers lent for all of its labels
module _ (s out : List ℕ) (h : Hour) (e : reading s ≡ accepted h) (fits : h.nsources + h.ndeliveries ≤ length out) where
  abbrev sources : List ℕ
  sources = list_to (λ i. source_place s i ∷ []) h.nsources

  abbrev after : List ℕ
  after = list_to (λ j. delivery_place s j ∷ []) h.ndeliveries ++ drop (length (label_places s h)) out

  left : leaves (labelling s (length out)) out ≡ sources ++ after
  unfolding places.labelling
  left =
      ap (λ (o : Outcome Hour). leaves (and_then o λ h. refuse (ltb (length out) (h.nsources + h.ndeliveries)) Short (accepted (label_places s h))) out) e
      ∙ ap (λ (b : Bool). leaves (refuse b Short (accepted (label_places s h))) out) (le-ltb (length out) (h.nsources + h.ndeliveries) fits)
      ∙ append_assoc sources (list_to (λ j. delivery_place s j ∷ []) h.ndeliveries) (drop (length (label_places s h)) out)

  source_left : (i : ℕ) → i < h.nsources → get_or (leaves (labelling s (length out)) out) i 0 ≡ source_place s i
  source_left i l = ap (λ (xs : List ℕ). get_or xs i 0) left ∙ at_piece (source_place s) h.nsources i after l

  delivery_left : (j : ℕ) → j < h.ndeliveries → get_or (leaves (labelling s (length out)) out) (h.nsources + j) 0 ≡ delivery_place s j
  delivery_left j l =
      let z : h.nsources + j ≡ length sources + j = omega (arith, list_to_length (λ i. source_place s i ∷ []) 1 (λ k. refl) h.nsources) in
      ap (λ (xs : List ℕ). get_or xs (h.nsources + j) 0) left ∙ ap (λ (m : ℕ). get_or (sources ++ after) m 0) z ∙ get_or-append-add sources after j 0
      ∙ at_piece (delivery_place s) h.ndeliveries j (drop (length (label_places s h)) out) l

module _ (κ : _) (a : _) (code : ℕ) (x : _) (p : barleyhood_labels_call.Post κ a code x) (h : Hour) (e : reading a.0.now ≡ accepted h)
    (fits : h.nsources + h.ndeliveries ≤ length a.1.0.now) where
  pub labels_sources : (κ : _) (b : _) (one : ℕ) (y : _) → barleyhood_source_label_call.Post κ b one y → b.0.now ≡ a.0.now → b.1.0 < h.nsources
      → get_or x.1.0.now b.1.0 0 ≡ one
  labels_sources κ b one y q same l =
      ap (λ (xs : List ℕ). get_or xs b.1.0 0) p.1 ∙ source_left a.0.now a.1.0.now h e fits b.1.0 l ∙ ap (λ (s : List ℕ). source_place s b.1.0) (sym same) ∙ sym q

  pub labels_deliveries : (κ : _) (b : _) (one : ℕ) (y : _) → barleyhood_delivery_label_call.Post κ b one y → b.0.now ≡ a.0.now → b.1.0 < h.ndeliveries
      → get_or x.1.0.now (h.nsources + b.1.0) 0 ≡ one
  labels_deliveries κ b one y q same l =
      ap (λ (xs : List ℕ). get_or xs (h.nsources + b.1.0) 0) p.1 ∙ delivery_left a.0.now a.1.0.now h e fits b.1.0 l
      ∙ ap (λ (s : List ℕ). delivery_place s b.1.0) (sym same) ∙ sym q

-- Spreadsheet files.

pub spreadsheets : (κ : _) (a : _) (r : Result ℕ Refusal) (code : ℕ) (x y : _) → deck_spreadsheet_call.Post κ a r x → barleyhood_spreadsheet_call.Post κ a code y
    → (code ≡ answer_code r) × (x.1.0.now ≡ y.1.0.now)
spreadsheets κ a r code x y p q =
    let o = deck_spreadsheet a.0.now (length a.1.0.now) in
    (q.0 ∙ sym (answer_code_lem o) ∙ ap answer_code (sym p.0), p.1 ∙ sym q.1)

pub lines : (κ : _) (a : _) (r : Result ℕ Refusal) (code : ℕ) (x y : _) → spreadsheet_lines_call.Post κ a r x → barleyhood_spreadsheet_lines_call.Post κ a code y
    → (code ≡ answer_code r) × (x.1.0.now ≡ y.1.0.now)
lines κ a r code x y p q =
    let o = spreadsheet_lines a.0.now (length a.1.0.now) in
    (q.0 ∙ sym (answer_code_lem o) ∙ ap answer_code (sym p.0), p.1 ∙ sym q.1)

record_and_deck : (s : List ℕ) (h : Hour) (size : ℕ) → reading s ≡ accepted h → calls.spreadsheet h size ≡ deck_spreadsheet s size
unfolding calls.spreadsheet calls.deck_spreadsheet
record_and_deck s h size e = rw (e, accepted_is_valid s h e)

pub spreadsheet_of_the_hour : (κ : _) (a : _) (hour : Hour) (x : _) → read_call.Post κ a (Ok hour) x
    → (λs : _) (b : _) (r : Result ℕ Refusal) (y : _) → spreadsheet_call.Post λs b r y → b.0 ≡ hour
    → (μs : _) (c : _) (q : Result ℕ Refusal) (z : _) → deck_spreadsheet_call.Post μs c q z → c.0.now ≡ a.0.now → c.1.0.now ≡ b.1.0.now
    → ◌≡◌ {A = (Result ℕ Refusal) × List ℕ} (r, y.1.0.now) (q, z.1.0.now)
spreadsheet_of_the_hour κ a hour x p λs b r y t same μs c q z v deck lent =
    let out = b.1.0.now in
    let is : reading c.0.now ≡ accepted b.0 = ap reading deck ∙ answer_accepted (reading a.0.now) hour (sym p) ∙ ap accepted (sym same) in
    let k : calls.spreadsheet b.0 (length out) ≡ deck_spreadsheet c.0.now (length c.1.0.now) =
    record_and_deck c.0.now b.0 (length out) is ∙ ap (λ (w : List ℕ). deck_spreadsheet c.0.now (length w)) (sym lent) in
    both
    (t.0 ∙ ap written_of k, t.1 ∙ ap (λ (o : Outcome (List ℕ)). leaves o out) k ∙ ap (leaves (deck_spreadsheet c.0.now (length c.1.0.now))) (sym lent))
    (v.0, v.1)
