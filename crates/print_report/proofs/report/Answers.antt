use mathlib.Core.Path.{◌≡◌, refl}
use Prim.Native.Nat.{ℕ, ◌*◌, ◌≤◌}
use native.Mathlib.Nat.{mul-le-mul}
use native.Mathlib.Omega.{arith}
use lib.IntN.{pos}
use lib.ListN.{length, replicate}
use Rattle.rules.specs.Hour.{pair_width}
use Rattle.roundtrip.specs.DeckRoundTrip.{accepted_is_valid}
use Rattle.roundtrip.specs.GivenHour.{accepted_given}
use Rattle.reconstruct.specs.WholeAnswer.{placeable}
use Rattle.balance.specs.CellsAreFew.{most_cells, count_few}
use Rattle.hour_lines.specs.HandedOver.{told_as}
use Rattle.print_report.specs.Printing.{scanned_refused, scanned_accepted, refused_report, reported}
use Rattle.print_report.proofs.report.Goals as goal

pub returns-in-Err-clause-outcome : goal.returns-in-Err-clause-outcome
returns-in-Err-clause-outcome c =
    let r = c.in-Err.r in
    let refused = scanned_refused c.args.deck.now r c.in-Err.ensures in (told_as c.args.out.now (reported c.args.deck.now _ _ (refused_report c.args.deck.now r refused)) (c.hand_refusal.ensures.outcome, c.hand_refusal.ensures.bytes)).0

pub returns-in-Err-clause-bytes : goal.returns-in-Err-clause-bytes
returns-in-Err-clause-bytes c =
    let r = c.in-Err.r in
    let refused = scanned_refused c.args.deck.now r c.in-Err.ensures in (told_as c.args.out.now (reported c.args.deck.now _ _ (refused_report c.args.deck.now r refused)) (c.hand_refusal.ensures.outcome, c.hand_refusal.ensures.bytes)).1

pub keys-keys-requires : goal.keys-keys-requires
keys-keys-requires c =
    let read = scanned_accepted c.args.deck.now c.in-Ok.x c.in-Ok.ensures in
    let valid = accepted_is_valid c.args.deck.now c.in-Ok.x.hour read in
    placeable c.in-Ok.x.hour valid

pub overflow_mul-count : goal.overflow_mul-count
overflow_mul-count c =
    let read = scanned_accepted c.args.deck.now c.in-Ok.x c.in-Ok.ensures in
    let given = accepted_given c.args.deck.now c.in-Ok.x.hour read in
    record { fits = omega (arith, given.sources.few) }

pub overflow_mul-count-2 : goal.overflow_mul-count-2
overflow_mul-count-2 c =
    let read = scanned_accepted c.args.deck.now c.in-Ok.x c.in-Ok.ensures in
    let given = accepted_given c.args.deck.now c.in-Ok.x.hour read in
    let n : c.in-Ok.x.hour.nsources * pair_width ≤ 32 * pair_width = omega (arith, given.sources.few) in
    record { fits = omega (arith, mul-le-mul given.deliveries.few n) }

pub overflow_mul-count-3 : goal.overflow_mul-count-3
overflow_mul-count-3 c =
    let read = scanned_accepted c.args.deck.now c.in-Ok.x c.in-Ok.ensures in
    let given = accepted_given c.args.deck.now c.in-Ok.x.hour read in
    record { fits = omega (arith, given.sources.few) }

pub overflow_add-count : goal.overflow_add-count
overflow_add-count c =
    let read = scanned_accepted c.args.deck.now c.in-Ok.x c.in-Ok.ensures in
    let given = accepted_given c.args.deck.now c.in-Ok.x.hour read in
    let n : c.in-Ok.x.hour.nsources * pair_width ≤ 32 * pair_width = omega (arith, given.sources.few) in
    record { fits = omega (arith, given.sources.few, mul-le-mul given.deliveries.few n) }

pub fill_cells-end-requires : goal.fill_cells-end-requires
fill_cells-end-requires c =
    let read = scanned_accepted c.args.deck.now c.in-Ok.x c.in-Ok.ensures in
    let valid = accepted_is_valid c.args.deck.now c.in-Ok.x.hour read in
    let long : ◌≡◌ {A = ℕ} (length (replicate 512 (pos 0))) 512 = refl in
    (valid, c.keys-keys.ensures, omega (arith, long, c.if-count-le-FEW_CELLS.true))

pub fill_cells-end-requires-2 : goal.fill_cells-end-requires-2
fill_cells-end-requires-2 c =
    let read = scanned_accepted c.args.deck.now c.in-Ok.x c.in-Ok.ensures in
    let valid = accepted_is_valid c.args.deck.now c.in-Ok.x.hour read in
    let long : ◌≡◌ {A = ℕ} (length (replicate most_cells (pos 0))) most_cells = refl in
    (valid, c.keys-keys.ensures, omega (arith, long, count_few c.in-Ok.x.hour valid))
