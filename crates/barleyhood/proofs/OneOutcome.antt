-- Two outcomes that a public contract allows are the same, call by call. `Post` of a call is its contract as src/ has it: it holds of the lifetimes κ, the
-- arguments a, the result r and the parameters at exit x where all `ensures` do. So a clause that is dropped there, or that says less, is an error here.
use Rattle.std.specs.Prelude.{Result}
use Rattle.rules.specs.declared.Refusal.{Refusal}
use mathlib.Core.List.{List}
use mathlib.Core.Path.{◌≡◌, sym, ◌∙◌}
use Prim.Native.Nat.{ℕ}
use lib.IntN.{ℤ}
use Rattle.barleyhood.proofs.read.Reads as read_call
use Rattle.barleyhood.proofs.check.Reads as check_call
use Rattle.barleyhood.proofs.source_label.Reads as source_label_call
use Rattle.barleyhood.proofs.delivery_label.Reads as delivery_label_call
use Rattle.barleyhood.proofs.labels.Reads as labels_call
use Rattle.barleyhood.proofs.report.Reads as report_call
use Rattle.barleyhood.proofs.deck_spreadsheet.Reads as deck_spreadsheet_call
use Rattle.barleyhood.proofs.valid.Reads as valid_call
use Rattle.barleyhood.proofs.write.Reads as write_call
use Rattle.barleyhood.proofs.plain.Reads as plain_call
use Rattle.barleyhood.proofs.price.Reads as price_call
use Rattle.barleyhood.proofs.spreadsheet.Reads as spreadsheet_call
use Rattle.barleyhood.proofs.spreadsheet_lines.Reads as spreadsheet_lines_call
use Rattle.barleyhood.proofs.curve.Reads as curve_call
use Rattle.barleyhood.proofs.cost.Reads as cost_call
use Rattle.barleyhood.proofs.number_of.Reads as number_of_call
use Rattle.barleyhood.proofs.place_of.Reads as place_of_call
use Rattle.barleyhood.proofs.linked.barleyhood_check.Reads as barleyhood_check_call
use Rattle.barleyhood.proofs.linked.barleyhood_sources.Reads as barleyhood_sources_call
use Rattle.barleyhood.proofs.linked.barleyhood_deliveries.Reads as barleyhood_deliveries_call
use Rattle.barleyhood.proofs.linked.barleyhood_price.Reads as barleyhood_price_call
use Rattle.barleyhood.proofs.linked.barleyhood_plain.Reads as barleyhood_plain_call
use Rattle.barleyhood.proofs.linked.barleyhood_report.Reads as barleyhood_report_call
use Rattle.barleyhood.proofs.linked.barleyhood_source_label.Reads as barleyhood_source_label_call
use Rattle.barleyhood.proofs.linked.barleyhood_delivery_label.Reads as barleyhood_delivery_label_call
use Rattle.barleyhood.proofs.linked.barleyhood_labels.Reads as barleyhood_labels_call
use Rattle.barleyhood.proofs.linked.barleyhood_spreadsheet.Reads as barleyhood_spreadsheet_call
use Rattle.barleyhood.proofs.linked.barleyhood_spreadsheet_lines.Reads as barleyhood_spreadsheet_lines_call

-- on the same arguments, what the first contract allows and what the second allows are the same in all that is seen of it
abbrev pub Same : {K O : Type 0} {A R X : K → Type 0} → (first second : (κ : K) → A κ → R κ → X κ → Type 0) → (seen : (κ : K) → R κ → X κ → O) → Type 0
Same {K} {O} {A} {R} {X} first second seen = (κ : K) (a : A κ) (r q : R κ) (x y : X κ) → first κ a r x → second κ a q y → seen κ r x ≡ seen κ q y

-- what is seen: the result; where memory is lent to be written, the result and that memory at exit; of a part, its bytes and where it lies
abbrev pub OneOutcome : {K O : Type 0} {A R X : K → Type 0} → (post : (κ : K) → A κ → R κ → X κ → Type 0) → (seen : (κ : K) → R κ → X κ → O) → Type 0
OneOutcome post seen = Same post post seen

pub one : {O : Type 0} {x y z : O} → x ≡ z → y ≡ z → x ≡ y
one p q = p ∙ sym q

pub both : {O M : Type 0} {x y z : O} {u v w : M} → (x ≡ z) × (u ≡ w) → (y ≡ z) × (v ≡ w) → ◌≡◌ {A = O × M} (x, u) (y, v)
both p q = let a = one p.0 q.0 in let b = one p.1 q.1 in λ k. (a k, b k)

-- Decks.

pub read : OneOutcome read_call.Post (λ κ r x. r)
read κ a r q x y = one

pub check : OneOutcome check_call.Post (λ κ r x. r)
check κ a r q x y = one

pub source_label : OneOutcome {O = List ℕ × (ℕ × ℕ)} source_label_call.Post (λ κ r x. (r.now, r.ref_ptr))
source_label κ a r q x y = both

pub delivery_label : OneOutcome {O = List ℕ × (ℕ × ℕ)} delivery_label_call.Post (λ κ r x. (r.now, r.ref_ptr))
delivery_label κ a r q x y = both

pub labels : OneOutcome {O = (Result ℕ Refusal) × List ℕ} labels_call.Post (λ κ r x. (r, x.1.0.now))
labels κ a r q x y = both

pub report : OneOutcome {O = (Result ℕ Refusal) × List ℕ} report_call.Post (λ κ r x. (r, x.1.0.now))
report κ a r q x y = both

pub deck_spreadsheet_lem : OneOutcome {O = (Result ℕ Refusal) × List ℕ} deck_spreadsheet_call.Post (λ κ r x. (r, x.1.0.now))
deck_spreadsheet_lem κ a r q x y = both

-- Hour records.

pub valid : OneOutcome valid_call.Post (λ κ r x. r)
valid κ a r q x y = one

pub write : OneOutcome {O = (Result ℕ Refusal) × List ℕ} write_call.Post (λ κ r x. (r, x.1.0.now))
write κ a r q x y = both

pub plain : OneOutcome {O = (Result ℕ Refusal) × List ℤ} plain_call.Post (λ κ r x. (r, x.1.0.now))
plain κ a r q x y = both

pub price : OneOutcome {O = (Result ℕ Refusal) × List ℤ} price_call.Post (λ κ r x. (r, x.1.0.now))
price κ a r q x y = both

pub spreadsheet : OneOutcome {O = (Result ℕ Refusal) × List ℕ} spreadsheet_call.Post (λ κ r x. (r, x.1.0.now))
spreadsheet κ a r q x y = both

-- Spreadsheet files.

pub spreadsheet_lines_lem : OneOutcome {O = (Result ℕ Refusal) × List ℕ} spreadsheet_lines_call.Post (λ κ r x. (r, x.1.0.now))
spreadsheet_lines_lem κ a r q x y = both

-- Curves, costs and refusals.

pub curve : OneOutcome curve_call.Post (λ κ r x. r)
curve κ a r q x y = one

pub cost : OneOutcome cost_call.Post (λ κ r x. r)
cost κ a r q x y = one

pub number_of : OneOutcome number_of_call.Post (λ κ r x. r)
number_of κ a r q x y = one

pub place_of : OneOutcome place_of_call.Post (λ κ r x. r)
place_of κ a r q x y = one

-- The functions for C.

pub barleyhood_check : OneOutcome barleyhood_check_call.Post (λ κ r x. r)
barleyhood_check κ a r q x y = one

pub barleyhood_sources : OneOutcome barleyhood_sources_call.Post (λ κ r x. r)
barleyhood_sources κ a r q x y = one

pub barleyhood_deliveries : OneOutcome barleyhood_deliveries_call.Post (λ κ r x. r)
barleyhood_deliveries κ a r q x y = one

pub barleyhood_price : OneOutcome {O = ℕ × List ℤ} barleyhood_price_call.Post (λ κ r x. (r, x.1.0.now))
barleyhood_price κ a r q x y = both

pub barleyhood_plain : OneOutcome {O = ℕ × List ℤ} barleyhood_plain_call.Post (λ κ r x. (r, x.1.0.now))
barleyhood_plain κ a r q x y = both

pub barleyhood_report : OneOutcome {O = ℕ × List ℕ} barleyhood_report_call.Post (λ κ r x. (r, x.1.0.now))
barleyhood_report κ a r q x y = both

pub barleyhood_source_label : OneOutcome barleyhood_source_label_call.Post (λ κ r x. r)
barleyhood_source_label κ a r q x y = one

pub barleyhood_delivery_label : OneOutcome barleyhood_delivery_label_call.Post (λ κ r x. r)
barleyhood_delivery_label κ a r q x y = one

pub barleyhood_labels : OneOutcome {O = ℕ × List ℕ} barleyhood_labels_call.Post (λ κ r x. (r, x.1.0.now))
barleyhood_labels κ a r q x y = both

pub barleyhood_spreadsheet : OneOutcome {O = ℕ × List ℕ} barleyhood_spreadsheet_call.Post (λ κ r x. (r, x.1.0.now))
barleyhood_spreadsheet κ a r q x y = both

pub barleyhood_spreadsheet_lines : OneOutcome {O = ℕ × List ℕ} barleyhood_spreadsheet_lines_call.Post (λ κ r x. (r, x.1.0.now))
barleyhood_spreadsheet_lines κ a r q x y = both
