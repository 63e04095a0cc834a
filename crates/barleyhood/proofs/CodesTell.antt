-- The one number that a function for C gives back tells what the call came to. Below 2^32 it was accepted; from there on the number over 2^32 is the
-- refusal's number, and what is left its place. Of a label, the number over 2^32 is where its bytes start, and what is left how many they are.
use mathlib.Core.Bool.{Bool, true, false}
use mathlib.Core.List.{List, [], ◌∷◌}
use mathlib.Core.Path.{◌≡◌, refl, ap, ◌∙◌}
use Prim.Native.Nat.{ℕ, ◌+◌, ◌*◌, ◌/◌, ◌%◌, ◌<◌, ◌≤◌}
use native.Mathlib.Omega.{arith}
use borrow.Author.Tests.{ltb-true, ltb-false}
use lib.Dec.{ltb}
use lib.IntN.{ℤ}
use lib.ListN.{length, length-append}
use Rattle.rules.specs.Calls as calls
use Rattle.rules.specs.Calls.{reconstruction, reporting, file_for, deck_spreadsheet, spreadsheet_lines, into, source_part, source_part_of, delivery_part, delivery_part_of}
use Rattle.rules.specs.Places as places
use Rattle.rules.specs.Places.{source_start, delivery_start, source_place, delivery_place, label_places, labelling}
use Rattle.rules.specs.Reading.{reading}
use Rattle.rules.specs.Refusals.{Outcome, accepted, refused, refuse, and_then, number_of, place_of}
use Rattle.rules.specs.Hour.{reconstructed}
use Rattle.rules.specs.Report.{report, report_texts, hour_lines}
use Rattle.rules.specs.Spreadsheet.{file_lines, file_text}
use Rattle.rules.specs.Words.{when◌then◌else◌, list_to}
use Rattle.rules.specs.declared.Hour.{Hour}
use Rattle.rules.specs.declared.Refusal.{Refusal}
use Rattle.rules.specs.declared.Refusal.TheVariants.{Short}
use Rattle.roundtrip.specs.DeckRoundTrip.{accepted_is_valid}
use Rattle.roundtrip.specs.GivenHour.{accepted_given}
use Rattle.laws.specs.Sums.{list_to_length}
use Rattle.laws.specs.Choices.{refuse_passed, then_passed, accepted_same}
use Rattle.refusals.specs.Codes.{code_of}
use Rattle.hour_lines.specs.HourLabels.{hour_labels, label_short}
use Rattle.print_report.specs.ReportFits.{report_fits}
use Rattle.write_spreadsheet.specs.FileFits.{most_file, file_fits}
use Rattle.outcomes.specs.AccountsCloseOverTheCells.{accepted_whole}
use Rattle.outcomes.specs.CodesTell.{deck_told, cells_told, spreadsheet_told, file_told, number_least}
use Rattle.barleyhood.specs.Linked as linked
use Rattle.barleyhood.specs.Linked.{check_code, sources_code, deliveries_code, cells_of_deck, written_code}
use Rattle.barleyhood.proofs.linked.barleyhood_check.Reads as barleyhood_check_call
use Rattle.barleyhood.proofs.linked.barleyhood_sources.Reads as barleyhood_sources_call
use Rattle.barleyhood.proofs.linked.barleyhood_deliveries.Reads as barleyhood_deliveries_call
use Rattle.barleyhood.proofs.linked.barleyhood_price.Reads as barleyhood_price_call
use Rattle.barleyhood.proofs.linked.barleyhood_plain.Reads as barleyhood_plain_call
use Rattle.barleyhood.proofs.linked.barleyhood_report.Reads as barleyhood_report_call
use Rattle.barleyhood.proofs.linked.barleyhood_source_label.Reads as barleyhood_source_label_call
use Rattle.barleyhood.proofs.linked.barleyhood_delivery_label.Reads as barleyhood_delivery_label_call
use Rattle.barleyhood.proofs.linked.barleyhood_labels.Reads as barleyhood_labels_call
use Rattle.barleyhood.proofs.linked.barleyhood_spreadsheet.Reads as barleyhood_spreadsheet_call
use Rattle.barleyhood.proofs.linked.barleyhood_spreadsheet_lines.Reads as barleyhood_spreadsheet_lines_call

abbrev pub Tells : {A : Type 0} → ℕ → Outcome A → Type 0
Tells code (accepted v) = code < 4_294_967_296
Tells code (refused r) = (code / 4_294_967_296 ≡ number_of r) × (code % 4_294_967_296 ≡ place_of r)

-- a code below 2^32 tells no refusal
pub not_low : (code : ℕ) (r : Refusal) → (code / 4_294_967_296 ≡ number_of r) × (code % 4_294_967_296 ≡ place_of r) → code < 4_294_967_296 → ⊥
not_low code r t low = omega (arith, t.0, low, number_least r)

-- A deck.

deck_refused : (s : List ℕ) (code : ℕ) (r : Refusal) → reading s ≡ refused r → code ≡ code_of r → (code / 4_294_967_296 ≡ number_of r) × (code % 4_294_967_296 ≡ place_of r)
deck_refused s code r e k = let t = deck_told s r e in (ap (λ (n : ℕ). n / 4_294_967_296) k ∙ t.number, ap (λ (n : ℕ). n % 4_294_967_296) k ∙ t.place)

-- by a count of the hour that is read
deck_tells : (s : List ℕ) (code : ℕ) (told : Outcome Hour → ℕ) → ((h : Hour) → reading s ≡ accepted h → told (accepted h) < 4_294_967_296) → ((r : Refusal) → told (refused r) ≡ code_of r)
    → code ≡ told (reading s) → Tells code (reading s)
deck_tells s code told low same e = go (reading s) refl e
  where
    go : (o : Outcome Hour) → reading s ≡ o → code ≡ told o → Tells code o
    go (accepted h) oe e = omega (arith, e, low h oe)
    go (refused r) oe e = deck_refused s code r oe (e ∙ same r)

pub barleyhood_check : (κ : _) (a : _) (code : ℕ) (x : _) → barleyhood_check_call.Post κ a code x → Tells code (reading a.0.now)
barleyhood_check κ a code x = deck_tells a.0.now code check_code (λ h e. omega arith) (λ r. refl)

pub barleyhood_sources : (κ : _) (a : _) (code : ℕ) (x : _) → barleyhood_sources_call.Post κ a code x → Tells code (reading a.0.now)
barleyhood_sources κ a code x = deck_tells a.0.now code sources_code (λ h e. omega (arith, (accepted_given a.0.now h e).sources.few)) (λ r. refl)

pub barleyhood_deliveries : (κ : _) (a : _) (code : ℕ) (x : _) → barleyhood_deliveries_call.Post κ a code x → Tells code (reading a.0.now)
barleyhood_deliveries κ a code x = deck_tells a.0.now code deliveries_code (λ h e. omega (arith, (accepted_given a.0.now h e).deliveries.few)) (λ r. refl)

-- Its cells.

cells_tell : (s : List ℕ) (size code : ℕ) → code ≡ written_code (cells_of_deck s size) → Tells code (cells_of_deck s size)
unfolding linked.cells_of_deck
cells_tell s size code e = go (reading s) refl e
  where
    of : (h : Hour) (o : Outcome (List ℤ)) → reconstruction h size ≡ o → code ≡ written_code o → Tells code o
    of h (accepted xs) oe e = omega (arith, e, (accepted_whole h size xs oe).few)
    of h (refused r) oe e = let t = cells_told h size r oe in (ap (λ (n : ℕ). n / 4_294_967_296) e ∙ t.number, ap (λ (n : ℕ). n % 4_294_967_296) e ∙ t.place)

    go : (o : Outcome Hour) → reading s ≡ o → code ≡ written_code (and_then o λ h. reconstruction h size) → Tells code (and_then o λ h. reconstruction h size)
    go (accepted h) oe e = of h (reconstruction h size) refl e
    go (refused r) oe e = deck_refused s code r oe e

pub barleyhood_price : (κ : _) (a : _) (code : ℕ) (x : _) → barleyhood_price_call.Post κ a code x → Tells code (cells_of_deck a.0.now (length a.1.0.now))
barleyhood_price κ a code x p = cells_tell a.0.now (length a.1.0.now) code p.0

pub barleyhood_plain : (κ : _) (a : _) (code : ℕ) (x : _) → barleyhood_plain_call.Post κ a code x → Tells code (cells_of_deck a.0.now (length a.1.0.now))
barleyhood_plain κ a code x p = cells_tell a.0.now (length a.1.0.now) code p.0

-- Its report.

report_tells : (s : List ℕ) (size code : ℕ) → code ≡ written_code (reporting s size) → Tells code (reporting s size)
unfolding calls.reporting
report_tells s size code e = go (ltb size (length (report s))) e
  where
    go : (b : Bool) → code ≡ written_code (refuse b Short (accepted (report s))) → Tells code (refuse b Short (accepted (report s)))
    go true e = (omega (arith, e), omega (arith, e))
    go false e = omega (arith, e, report_fits s)

pub barleyhood_report : (κ : _) (a : _) (code : ℕ) (x : _) → barleyhood_report_call.Post κ a code x → Tells code (reporting a.0.now (length a.1.0.now))
barleyhood_report κ a code x p = report_tells a.0.now (length a.1.0.now) code p.0

-- Its labels.

-- a label has few bytes
few : (text : List ℕ) (i n : ℕ) → (i < n → length text ≤ 32) → length (when ltb i n then text else []) ≤ 32
few text i n l = go (ltb i n) refl
  where
    go : (b : Bool) → ltb i n ≡ b → length (when b then text else []) ≤ 32
    go true e = l (ltb-true i n e)
    go false e = omega arith

source_few : (s : List ℕ) (i : ℕ) → length (source_part s i) ≤ 32
unfolding calls.source_part
source_few s i = go (reading s) refl
  where
    go : (o : Outcome Hour) → reading s ≡ o → length (source_part_of o i) ≤ 32
    go (accepted h) e = few _ i h.nsources (λ l. label_short _ ((hour_labels h (accepted_is_valid s h e)).sources i l))
    go (refused r) e = omega arith

delivery_few : (s : List ℕ) (j : ℕ) → length (delivery_part s j) ≤ 32
unfolding calls.delivery_part
delivery_few s j = go (reading s) refl
  where
    go : (o : Outcome Hour) → reading s ≡ o → length (delivery_part_of o j) ≤ 32
    go (accepted h) e = few _ j h.ndeliveries (λ l. label_short _ ((hour_labels h (accepted_is_valid s h e)).deliveries j l))
    go (refused r) e = omega arith

start_told : (start n code : ℕ) → n ≤ 32 → code ≡ start * 4_294_967_296 + n → (code / 4_294_967_296 ≡ start) × (code % 4_294_967_296 ≡ n)
start_told start n code l e = (omega arith, omega arith)

pub barleyhood_source_label : (κ : _) (a : _) (code : ℕ) (x : _) → barleyhood_source_label_call.Post κ a code x
    → (code / 4_294_967_296 ≡ source_start a.0.now a.1.0) × (code % 4_294_967_296 ≡ length (source_part a.0.now a.1.0))
barleyhood_source_label κ a code x =
    let s = a.0.now in
    let i = a.1.0 in
    start_told (source_start s i) (length (source_part s i)) code (source_few s i)

pub barleyhood_delivery_label : (κ : _) (a : _) (code : ℕ) (x : _) → barleyhood_delivery_label_call.Post κ a code x
    → (code / 4_294_967_296 ≡ delivery_start a.0.now a.1.0) × (code % 4_294_967_296 ≡ length (delivery_part a.0.now a.1.0))
barleyhood_delivery_label κ a code x =
    let s = a.0.now in
    let j = a.1.0 in
    start_told (delivery_start s j) (length (delivery_part s j)) code (delivery_few s j)

-- All of them.

labels_few : (s : List ℕ) (h : Hour) → reading s ≡ accepted h → length (label_places s h) ≤ 64
labels_few s h e =
    let xs = list_to (λ i. source_place s i ∷ []) h.nsources in
    let ys = list_to (λ j. delivery_place s j ∷ []) h.ndeliveries in
    let g = accepted_given s h e in
    omega (arith, length-append xs ys, list_to_length (λ i. source_place s i ∷ []) 1 (λ k. refl) h.nsources, list_to_length (λ j. delivery_place s j ∷ []) 1 (λ k. refl) h.ndeliveries, g.sources.few, g.deliveries.few)

labels_tell : (s : List ℕ) (size code : ℕ) → code ≡ written_code (labelling s size) → Tells code (labelling s size)
unfolding places.labelling
labels_tell s size code e = go (reading s) refl e
  where
    of : (h : Hour) → reading s ≡ accepted h → (b : Bool) → code ≡ written_code (refuse b Short (accepted (label_places s h))) → Tells code (refuse b Short (accepted (label_places s h)))
    of h oe true e = (omega (arith, e), omega (arith, e))
    of h oe false e = omega (arith, e, labels_few s h oe)

    go : (o : Outcome Hour) → reading s ≡ o → code ≡ written_code (and_then o λ h. refuse (ltb size (h.nsources + h.ndeliveries)) Short (accepted (label_places s h)))
        → Tells code (and_then o λ h. refuse (ltb size (h.nsources + h.ndeliveries)) Short (accepted (label_places s h)))
    go (accepted h) oe e = of h oe (ltb size (h.nsources + h.ndeliveries)) e
    go (refused r) oe e = deck_refused s code r oe e

pub barleyhood_labels : (κ : _) (a : _) (code : ℕ) (x : _) → barleyhood_labels_call.Post κ a code x → Tells code (labelling a.0.now (length a.1.0.now))
barleyhood_labels κ a code x p = labels_tell a.0.now (length a.1.0.now) code p.0

-- Its spreadsheet file.

-- what is written into lent bytes has no more of them
into_fits : (size : ℕ) (text bytes : List ℕ) → into size text ≡ accepted bytes → (length bytes ≤ size) × (text ≡ bytes)
into_fits size text bytes e =
    let q = refuse_passed (ltb size (length text)) Short (accepted text) bytes e in
    let k = accepted_same text bytes q.1 in
    (omega (arith, ltb-false size (length text) q.0, ap length k), k)

spreadsheet_fits : (s : List ℕ) (size : ℕ) (bytes : List ℕ) → deck_spreadsheet s size ≡ accepted bytes → length bytes ≤ most_file
unfolding calls.deck_spreadsheet calls.file_for
spreadsheet_fits s size bytes e =
    let b = then_passed (reading s) (λ h. file_for h size) bytes e in
    let h = b.mid in
    let g = then_passed (reconstructed h) (λ p. into size (file_text (hour_lines h p))) bytes b.second in
    let k = (into_fits size (file_text (hour_lines h g.mid)) bytes g.second).1 in
    omega (arith, ap length k, file_fits h g.mid (accepted_is_valid s h b.first) g.first)

spreadsheet_tells : (s : List ℕ) (size code : ℕ) → code ≡ written_code (deck_spreadsheet s size) → Tells code (deck_spreadsheet s size)
spreadsheet_tells s size code e = go (deck_spreadsheet s size) refl e
  where
    go : (o : Outcome (List ℕ)) → deck_spreadsheet s size ≡ o → code ≡ written_code o → Tells code o
    go (accepted bytes) oe e = omega (arith, e, spreadsheet_fits s size bytes oe)
    go (refused r) oe e = let t = spreadsheet_told s size r oe in (ap (λ (n : ℕ). n / 4_294_967_296) e ∙ t.number, ap (λ (n : ℕ). n % 4_294_967_296) e ∙ t.place)

pub barleyhood_spreadsheet : (κ : _) (a : _) (code : ℕ) (x : _) → barleyhood_spreadsheet_call.Post κ a code x → Tells code (deck_spreadsheet a.0.now (length a.1.0.now))
barleyhood_spreadsheet κ a code x p = spreadsheet_tells a.0.now (length a.1.0.now) code p.0

-- A file's lines. It may have any length, and so may they: here both have fewer than 2^32 bytes.

lines_fit : (s : List ℕ) (size : ℕ) (bytes : List ℕ) → spreadsheet_lines s size ≡ accepted bytes → length bytes ≤ size
unfolding calls.spreadsheet_lines
lines_fit s size bytes e =
    let b = then_passed (file_lines s) (λ ls. into size (report_texts ls)) bytes e in
    (into_fits size (report_texts b.mid) bytes b.second).0

lines_tell : (s : List ℕ) (size code : ℕ) → length s < 4_294_967_295 → size < 4_294_967_296 → code ≡ written_code (spreadsheet_lines s size) → Tells code (spreadsheet_lines s size)
lines_tell s size code short room e = go (spreadsheet_lines s size) refl e
  where
    go : (o : Outcome (List ℕ)) → spreadsheet_lines s size ≡ o → code ≡ written_code o → Tells code o
    go (accepted bytes) oe e = omega (arith, e, lines_fit s size bytes oe)
    go (refused r) oe e = let t = file_told s size r short oe in (ap (λ (n : ℕ). n / 4_294_967_296) e ∙ t.number, ap (λ (n : ℕ). n % 4_294_967_296) e ∙ t.place)

pub barleyhood_spreadsheet_lines : (κ : _) (a : _) (code : ℕ) (x : _) → barleyhood_spreadsheet_lines_call.Post κ a code x
    → length a.0.now < 4_294_967_295 → length a.1.0.now < 4_294_967_296 → Tells code (spreadsheet_lines a.0.now (length a.1.0.now))
barleyhood_spreadsheet_lines κ a code x p short room = lines_tell a.0.now (length a.1.0.now) code short room p.0
