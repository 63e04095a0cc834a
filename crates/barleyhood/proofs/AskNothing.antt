-- No public call asks anything of its arguments, and none of the functions for C: whatever they are, the contract's `requires` hold. `Asked` is what the
-- contract in src/ asks, so a `requires` that is put on a call is an error here.
use Rattle.barleyhood.proofs.read.Reads as read_call
use Rattle.barleyhood.proofs.check.Reads as check_call
use Rattle.barleyhood.proofs.source_label.Reads as source_label_call
use Rattle.barleyhood.proofs.delivery_label.Reads as delivery_label_call
use Rattle.barleyhood.proofs.labels.Reads as labels_call
use Rattle.barleyhood.proofs.report.Reads as report_call
use Rattle.barleyhood.proofs.deck_spreadsheet.Reads as deck_spreadsheet_call
use Rattle.barleyhood.proofs.valid.Reads as valid_call
use Rattle.barleyhood.proofs.write.Reads as write_call
use Rattle.barleyhood.proofs.plain.Reads as plain_call
use Rattle.barleyhood.proofs.price.Reads as price_call
use Rattle.barleyhood.proofs.spreadsheet.Reads as spreadsheet_call
use Rattle.barleyhood.proofs.spreadsheet_lines.Reads as spreadsheet_lines_call
use Rattle.barleyhood.proofs.curve.Reads as curve_call
use Rattle.barleyhood.proofs.cost.Reads as cost_call
use Rattle.barleyhood.proofs.number_of.Reads as number_of_call
use Rattle.barleyhood.proofs.place_of.Reads as place_of_call
use Rattle.barleyhood.proofs.linked.barleyhood_check.Reads as barleyhood_check_call
use Rattle.barleyhood.proofs.linked.barleyhood_sources.Reads as barleyhood_sources_call
use Rattle.barleyhood.proofs.linked.barleyhood_deliveries.Reads as barleyhood_deliveries_call
use Rattle.barleyhood.proofs.linked.barleyhood_price.Reads as barleyhood_price_call
use Rattle.barleyhood.proofs.linked.barleyhood_plain.Reads as barleyhood_plain_call
use Rattle.barleyhood.proofs.linked.barleyhood_report.Reads as barleyhood_report_call
use Rattle.barleyhood.proofs.linked.barleyhood_source_label.Reads as barleyhood_source_label_call
use Rattle.barleyhood.proofs.linked.barleyhood_delivery_label.Reads as barleyhood_delivery_label_call
use Rattle.barleyhood.proofs.linked.barleyhood_labels.Reads as barleyhood_labels_call
use Rattle.barleyhood.proofs.linked.barleyhood_spreadsheet.Reads as barleyhood_spreadsheet_call
use Rattle.barleyhood.proofs.linked.barleyhood_spreadsheet_lines.Reads as barleyhood_spreadsheet_lines_call

abbrev pub AsksNothing : {K : Type 0} {A : K → Type 0} → ((κ : K) → A κ → Type 0) → Type 0
AsksNothing {K} {A} asked = (κ : K) (a : A κ) → asked κ a

pub read : AsksNothing read_call.Asked
read κ a = tt

pub check : AsksNothing check_call.Asked
check κ a = tt

pub source_label : AsksNothing source_label_call.Asked
source_label κ a = tt

pub delivery_label : AsksNothing delivery_label_call.Asked
delivery_label κ a = tt

pub labels : AsksNothing labels_call.Asked
labels κ a = tt

pub report : AsksNothing report_call.Asked
report κ a = tt

pub deck_spreadsheet_lem : AsksNothing deck_spreadsheet_call.Asked
deck_spreadsheet_lem κ a = tt

pub valid : AsksNothing valid_call.Asked
valid κ a = tt

pub write : AsksNothing write_call.Asked
write κ a = tt

pub plain : AsksNothing plain_call.Asked
plain κ a = tt

pub price : AsksNothing price_call.Asked
price κ a = tt

pub spreadsheet : AsksNothing spreadsheet_call.Asked
spreadsheet κ a = tt

pub spreadsheet_lines_lem : AsksNothing spreadsheet_lines_call.Asked
spreadsheet_lines_lem κ a = tt

pub curve : AsksNothing curve_call.Asked
curve κ a = tt

pub cost : AsksNothing cost_call.Asked
cost κ a = tt

pub number_of : AsksNothing number_of_call.Asked
number_of κ a = tt

pub place_of : AsksNothing place_of_call.Asked
place_of κ a = tt

pub barleyhood_check : AsksNothing barleyhood_check_call.Asked
barleyhood_check κ a = tt

pub barleyhood_sources : AsksNothing barleyhood_sources_call.Asked
barleyhood_sources κ a = tt

pub barleyhood_deliveries : AsksNothing barleyhood_deliveries_call.Asked
barleyhood_deliveries κ a = tt

pub barleyhood_price : AsksNothing barleyhood_price_call.Asked
barleyhood_price κ a = tt

pub barleyhood_plain : AsksNothing barleyhood_plain_call.Asked
barleyhood_plain κ a = tt

pub barleyhood_report : AsksNothing barleyhood_report_call.Asked
barleyhood_report κ a = tt

pub barleyhood_source_label : AsksNothing barleyhood_source_label_call.Asked
barleyhood_source_label κ a = tt

pub barleyhood_delivery_label : AsksNothing barleyhood_delivery_label_call.Asked
barleyhood_delivery_label κ a = tt

pub barleyhood_labels : AsksNothing barleyhood_labels_call.Asked
barleyhood_labels κ a = tt

pub barleyhood_spreadsheet : AsksNothing barleyhood_spreadsheet_call.Asked
barleyhood_spreadsheet κ a = tt

pub barleyhood_spreadsheet_lines : AsksNothing barleyhood_spreadsheet_lines_call.Asked
barleyhood_spreadsheet_lines κ a = tt
