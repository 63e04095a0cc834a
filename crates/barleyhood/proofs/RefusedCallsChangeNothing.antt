-- A refused call changes no lent byte, cell or number, not even those of groups that went before the one that meets 12 or 13.
use Rattle.std.specs.Prelude.{Err}
use mathlib.Core.List.{List}
use mathlib.Core.Path.{◌≡◌, sym, ◌∙◌}
use Prim.Native.Nat.{ℕ, ◌≤◌, ◌<◌}
use native.Mathlib.Omega.{arith}
use lib.ListN.{length}
use Rattle.outcomes.specs.RefusedLeavesTheBuffer.{refused_leaves_the_buffer}
use Rattle.laws.specs.Answers.{written_refused}
use Rattle.rules.specs.Answers.{written_of}
use Rattle.rules.specs.Calls as calls
use Rattle.rules.specs.Calls.{reconstruction, reporting, writing, deck_spreadsheet, spreadsheet_lines, leaves}
use Rattle.rules.specs.Places.{labelling}
use Rattle.rules.specs.Refusals.{Outcome, accepted, refused}
use Rattle.rules.specs.declared.Refusal.{Refusal}
use Rattle.barleyhood.specs.Linked.{cells_of_deck}
use Rattle.barleyhood.proofs.CodesTell as codes
use Rattle.barleyhood.proofs.CodesTell.{Tells}
use Rattle.barleyhood.proofs.labels.Reads as labels_call
use Rattle.barleyhood.proofs.report.Reads as report_call
use Rattle.barleyhood.proofs.deck_spreadsheet.Reads as deck_spreadsheet_call
use Rattle.barleyhood.proofs.write.Reads as write_call
use Rattle.barleyhood.proofs.plain.Reads as plain_call
use Rattle.barleyhood.proofs.price.Reads as price_call
use Rattle.barleyhood.proofs.spreadsheet.Reads as spreadsheet_call
use Rattle.barleyhood.proofs.spreadsheet_lines.Reads as spreadsheet_lines_call
use Rattle.barleyhood.proofs.linked.barleyhood_labels.Reads as barleyhood_labels_call
use Rattle.barleyhood.proofs.linked.barleyhood_report.Reads as barleyhood_report_call
use Rattle.barleyhood.proofs.linked.barleyhood_spreadsheet.Reads as barleyhood_spreadsheet_call
use Rattle.barleyhood.proofs.linked.barleyhood_spreadsheet_lines.Reads as barleyhood_spreadsheet_lines_call
use Rattle.barleyhood.proofs.linked.barleyhood_plain.Reads as barleyhood_plain_call
use Rattle.barleyhood.proofs.linked.barleyhood_price.Reads as barleyhood_price_call

-- By the answer.

refused_left : {A : Type 0} (o : Outcome (List A)) (r : Refusal) (entry exit : List A) → Err r ≡ written_of o → exit ≡ leaves o entry → exit ≡ entry
refused_left o r entry exit e f = f ∙ refused_leaves_the_buffer o r entry (written_refused o r (sym e))

pub labels : (κ : _) (a : _) (r : Refusal) (x : _) → labels_call.Post κ a (Err r) x → x.1.0.now ≡ a.1.0.now
labels κ a r x p = refused_left (labelling a.0.now (length a.1.0.now)) r _ _ p.0 p.1

pub report : (κ : _) (a : _) (r : Refusal) (x : _) → report_call.Post κ a (Err r) x → x.1.0.now ≡ a.1.0.now
report κ a r x p = refused_left (reporting a.0.now (length a.1.0.now)) r _ _ p.0 p.1

pub write : (κ : _) (a : _) (r : Refusal) (x : _) → write_call.Post κ a (Err r) x → x.1.0.now ≡ a.1.0.now
write κ a r x p = refused_left (writing a.0 (length a.1.0.now)) r _ _ p.0 p.1

pub plain : (κ : _) (a : _) (r : Refusal) (x : _) → plain_call.Post κ a (Err r) x → x.1.0.now ≡ a.1.0.now
plain κ a r x p = refused_left (reconstruction a.0 (length a.1.0.now)) r _ _ p.0 p.1

pub price : (κ : _) (a : _) (r : Refusal) (x : _) → price_call.Post κ a (Err r) x → x.1.0.now ≡ a.1.0.now
price κ a r x p = refused_left (reconstruction a.0 (length a.1.0.now)) r _ _ p.0 p.1

pub deck_spreadsheet_lem : (κ : _) (a : _) (r : Refusal) (x : _) → deck_spreadsheet_call.Post κ a (Err r) x → x.1.0.now ≡ a.1.0.now
deck_spreadsheet_lem κ a r x p = refused_left (deck_spreadsheet a.0.now (length a.1.0.now)) r _ _ p.0 p.1

pub spreadsheet : (κ : _) (a : _) (r : Refusal) (x : _) → spreadsheet_call.Post κ a (Err r) x → x.1.0.now ≡ a.1.0.now
spreadsheet κ a r x p = refused_left (calls.spreadsheet a.0 (length a.1.0.now)) r _ _ p.0 p.1

pub spreadsheet_lines_lem : (κ : _) (a : _) (r : Refusal) (x : _) → spreadsheet_lines_call.Post κ a (Err r) x → x.1.0.now ≡ a.1.0.now
spreadsheet_lines_lem κ a r x p = refused_left (spreadsheet_lines a.0.now (length a.1.0.now)) r _ _ p.0 p.1

-- By the code: 2^32 or more tells a refusal.

code_leaves_lem : {A : Type 0} (o : Outcome (List A)) (code : ℕ) (entry exit : List A) → Tells code o → 4_294_967_296 ≤ code → exit ≡ leaves o entry → exit ≡ entry
code_leaves_lem (accepted xs) code entry exit t high f = absurd (omega (arith, t))
code_leaves_lem (refused r) code entry exit t high f = f

pub barleyhood_labels : (κ : _) (a : _) (code : ℕ) (x : _) → barleyhood_labels_call.Post κ a code x → 4_294_967_296 ≤ code → x.1.0.now ≡ a.1.0.now
barleyhood_labels κ a code x p high = code_leaves_lem (labelling a.0.now (length a.1.0.now)) code _ _ (codes.barleyhood_labels κ a code x p) high p.1

pub barleyhood_report : (κ : _) (a : _) (code : ℕ) (x : _) → barleyhood_report_call.Post κ a code x → 4_294_967_296 ≤ code → x.1.0.now ≡ a.1.0.now
barleyhood_report κ a code x p high = code_leaves_lem (reporting a.0.now (length a.1.0.now)) code _ _ (codes.barleyhood_report κ a code x p) high p.1

pub barleyhood_plain : (κ : _) (a : _) (code : ℕ) (x : _) → barleyhood_plain_call.Post κ a code x → 4_294_967_296 ≤ code → x.1.0.now ≡ a.1.0.now
barleyhood_plain κ a code x p high = code_leaves_lem (cells_of_deck a.0.now (length a.1.0.now)) code _ _ (codes.barleyhood_plain κ a code x p) high p.1

pub barleyhood_price : (κ : _) (a : _) (code : ℕ) (x : _) → barleyhood_price_call.Post κ a code x → 4_294_967_296 ≤ code → x.1.0.now ≡ a.1.0.now
barleyhood_price κ a code x p high = code_leaves_lem (cells_of_deck a.0.now (length a.1.0.now)) code _ _ (codes.barleyhood_price κ a code x p) high p.1

pub barleyhood_spreadsheet : (κ : _) (a : _) (code : ℕ) (x : _) → barleyhood_spreadsheet_call.Post κ a code x → 4_294_967_296 ≤ code → x.1.0.now ≡ a.1.0.now
barleyhood_spreadsheet κ a code x p high = code_leaves_lem (deck_spreadsheet a.0.now (length a.1.0.now)) code _ _ (codes.barleyhood_spreadsheet κ a code x p) high p.1

pub barleyhood_spreadsheet_lines : (κ : _) (a : _) (code : ℕ) (x : _) → barleyhood_spreadsheet_lines_call.Post κ a code x → 4_294_967_296 ≤ code
    → length a.0.now < 4_294_967_295 → length a.1.0.now < 4_294_967_296 → x.1.0.now ≡ a.1.0.now
barleyhood_spreadsheet_lines κ a code x p high short room =
    code_leaves_lem (spreadsheet_lines a.0.now (length a.1.0.now)) code _ _ (codes.barleyhood_spreadsheet_lines κ a code x p short room) high p.1
