-- For each accepted hour and each source, over the cells that a call leaves: the signed MWh to deliveries and the open MWh make up g, and the signed costs
-- and the open cost make up W(g) as it was before any direct allocation. Every cell fits 64 signed bits.
use Rattle.std.specs.Prelude.{Ok}
use mathlib.Core.List.{List}
use mathlib.Core.Path.{◌≡◌, refl, sym, ap, ◌∙◌}
use Prim.Native.Nat.{ℕ, ◌<◌}
use lib.IntN.{ℤ}
use lib.ListN.{length}
use mir.Syntax.{w64}
use mir.Val.{SFits}
use Rattle.laws.specs.Answers.{written_count}
use Rattle.balance.specs.AnswerCells.{cell_at}
use Rattle.balance.specs.Balance.{Balances}
use Rattle.outcomes.proofs.AccountsCloseOverTheCells.{accounts_close_over_the_cells, every_written_cell_fits}
use Rattle.rules.specs.Answers.{written_of}
use Rattle.rules.specs.Calls.{reconstruction, leaves}
use Rattle.rules.specs.Reading.{reading}
use Rattle.rules.specs.Refusals.{Outcome, accepted, refused, and_then}
use Rattle.rules.specs.declared.Hour.{Hour}
use Rattle.barleyhood.specs.Linked as linked
use Rattle.barleyhood.specs.Linked.{cells_of_deck, written_code}
use Rattle.barleyhood.proofs.CodesTell as codes
use Rattle.barleyhood.proofs.CodesTell.{Tells}
use Rattle.barleyhood.proofs.plain.Reads as plain_call
use Rattle.barleyhood.proofs.price.Reads as price_call
use Rattle.barleyhood.proofs.linked.barleyhood_plain.Reads as barleyhood_plain_call
use Rattle.barleyhood.proofs.linked.barleyhood_price.Reads as barleyhood_price_call

-- over n cells and what the buffer has after them
pub record Closed (h : Hour) (n : ℕ) (cells : List ℤ) : Type 0 where
  pub balances : (i : ℕ) → i < h.nsources → Balances h cells i
  pub fits : (k : ℕ) → k < n → SFits w64 (cell_at cells k)

closed : (h : Hour) (entry xs exit : List ℤ) → reconstruction h (length entry) ≡ accepted xs → exit ≡ leaves (reconstruction h (length entry)) entry → Closed h (length xs) exit
closed h entry xs exit e f = rw f (record { balances = accounts_close_over_the_cells h entry xs e; fits = every_written_cell_fits h entry xs e })

-- Hour records.

cells_closed : (h : Hour) (entry : List ℤ) (n : ℕ) (exit : List ℤ) → Ok n ≡ written_of (reconstruction h (length entry)) → exit ≡ leaves (reconstruction h (length entry)) entry → Closed h n exit
cells_closed h entry n exit e f =
    let c = written_count (reconstruction h (length entry)) n (sym e) in
    rw (← c.2) (closed h entry c.0 exit c.1 f)

pub plain : (κ : _) (a : _) (n : ℕ) (x : _) → plain_call.Post κ a (Ok n) x → Closed a.0 n x.1.0.now
plain κ a n x p = cells_closed a.0 a.1.0.now n x.1.0.now p.0 p.1

pub price : (κ : _) (a : _) (n : ℕ) (x : _) → price_call.Post κ a (Ok n) x → Closed a.0 n x.1.0.now
price κ a n x p = cells_closed a.0 a.1.0.now n x.1.0.now p.0 p.1

-- Decks.

-- the deck gives an hour, whose accounts close
pub record DeckClosed (deck : List ℕ) (n : ℕ) (cells : List ℤ) : Type 0 where
  pub hour : Hour
  pub read : reading deck ≡ accepted hour
  pub accounts : Closed hour n cells

deck_closed : (s : List ℕ) (entry : List ℤ) (code : ℕ) (exit : List ℤ) → Tells code (cells_of_deck s (length entry)) → code < 4_294_967_296
    → code ≡ written_code (cells_of_deck s (length entry)) → exit ≡ leaves (cells_of_deck s (length entry)) entry → DeckClosed s code exit
unfolding linked.cells_of_deck
deck_closed s entry code exit t low e f = go (reading s) refl t e f
  where
    of : (h : Hour) → reading s ≡ accepted h → (o : Outcome (List ℤ)) → reconstruction h (length entry) ≡ o → Tells code o → code ≡ written_code o → exit ≡ leaves o entry → DeckClosed s code exit
    of h he (accepted xs) oe t e f =
        let l : exit ≡ leaves (reconstruction h (length entry)) entry = f ∙ ap (λ (o : Outcome (List ℤ)). leaves o entry) (sym oe) in
        record { hour = h; read = he; accounts = rw e (closed h entry xs exit oe l) }
    of h he (refused r) oe t e f = absurd (codes.not_low code r t low)

    go : (o : Outcome Hour) → reading s ≡ o → Tells code (and_then o λ h. reconstruction h (length entry)) → code ≡ written_code (and_then o λ h. reconstruction h (length entry))
        → exit ≡ leaves (and_then o λ h. reconstruction h (length entry)) entry → DeckClosed s code exit
    go (accepted h) oe t e f = of h oe (reconstruction h (length entry)) refl t e f
    go (refused r) oe t e f = absurd (codes.not_low code r t low)

-- where the code tells that the call was accepted, it is the number of cells
pub barleyhood_plain : (κ : _) (a : _) (code : ℕ) (x : _) → barleyhood_plain_call.Post κ a code x → code < 4_294_967_296 → DeckClosed a.0.now code x.1.0.now
barleyhood_plain κ a code x p low = deck_closed a.0.now a.1.0.now code x.1.0.now (codes.barleyhood_plain κ a code x p) low p.0 p.1

pub barleyhood_price : (κ : _) (a : _) (code : ℕ) (x : _) → barleyhood_price_call.Post κ a code x → code < 4_294_967_296 → DeckClosed a.0.now code x.1.0.now
barleyhood_price κ a code x p low = deck_closed a.0.now a.1.0.now code x.1.0.now (codes.barleyhood_price κ a code x p) low p.0 p.1
