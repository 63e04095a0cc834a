-- Document 01, "What the promises must say": four wrong reconstructors, each ruled out by the contracts of `plain` and of `price`. The accounts of the last
-- one close all the same (outcomes, FirstGroupBalances).
use Rattle.std.specs.Prelude.{Result, Ok, Err}
use mathlib.Core.Bool.{true}
use mathlib.Core.List.{List, [], ◌++◌}
use mathlib.Core.Path.{◌≡◌, sym, ap, ◌∙◌}
use Prim.Native.Nat.{ℕ, suc, ◌≤◌}
use native.Mathlib.Omega.{arith}
use lib.IntN.{ℤ, pos, negsuc}
use lib.ListN.{length, get_or, drop}
use denote.Ref.{MutBor, at_last}
use Rattle.outcomes.specs.FirstGroupBalances.{first_group}
use Rattle.outcomes.specs.ThreeHours.{five_mwh, six_mwh, two_groups, cells_of_open, whole_cells, first_cells, computed}
use Rattle.rules.specs.Answers.{written_of}
use Rattle.rules.specs.Calls.{reconstruction, leaves}
use Rattle.rules.specs.Refusals.{Outcome, accepted}
use Rattle.rules.specs.Writing.{valid}
use Rattle.rules.specs.declared.Hour.{Hour}
use Rattle.rules.specs.declared.Refusal.{Refusal}
use Rattle.barleyhood.proofs.plain.Reads as plain_call
use Rattle.barleyhood.proofs.price.Reads as price_call

-- a reconstructor: its answer, and what it leaves of the lent cells
abbrev pub Reconstructor : Type 0
Reconstructor = Hour → List ℤ → (Result ℕ Refusal) × List ℤ

-- called with any hour record and any lent cells, it answers and leaves what the contract allows
abbrev pub MeetsPlain : Reconstructor → Type 0
MeetsPlain f = (κ : _) (h : Hour) (out : MutBor (List ℤ)) → plain_call.Post κ (h, (out, tt)) (f h out.now).0 (h, (at_last out (f h out.now).1, tt))

abbrev pub MeetsPrice : Reconstructor → Type 0
MeetsPrice f = (κ : _) (h : Hour) (out : MutBor (List ℤ)) → price_call.Post κ (h, (out, tt)) (f h out.now).0 (h, (at_last out (f h out.now).1, tt))

abbrev pub RuledOut : Reconstructor → Type 0
RuledOut f = (MeetsPlain f → ⊥) × (MeetsPrice f → ⊥)

-- what either contract asks for an hour that is accepted
abbrev Right : Reconstructor → Type 0
Right f = (h : Hour) (entry xs : List ℤ) → reconstruction h (length entry) ≡ accepted xs → ((f h entry).0 ≡ Ok (length xs)) × ((f h entry).1 ≡ xs ++ drop (length xs) entry)

-- cells lent at some place
lent : List ℤ → MutBor (List ℤ)
lent entry = record { ref_ptr = (0, 0); ghost_name = 0; now = entry }

plain_right : (f : Reconstructor) → MeetsPlain f → Right f
unfolding lent
plain_right f m h entry xs e =
    let p = m ([], tt) h (lent entry) in
    (p.0 ∙ ap written_of e, p.1 ∙ ap (λ (o : Outcome (List ℤ)). leaves o entry) e)

price_right : (f : Reconstructor) → MeetsPrice f → Right f
unfolding lent
price_right f m h entry xs e =
    let p = m ([], tt) h (lent entry) in
    (p.0 ∙ ap written_of e, p.1 ∙ ap (λ (o : Outcome (List ℤ)). leaves o entry) e)

ruled_out : (f : Reconstructor) → (Right f → ⊥) → RuledOut f
ruled_out f wrong = (λ m. wrong (plain_right f m), λ m. wrong (price_right f m))

-- what tells answers apart, and what tells cells apart
count_of : (Result ℕ Refusal) → ℕ
count_of (Ok n) = suc n
count_of (Err r) = 0

size_of : ℤ → ℕ
size_of (pos n) = n
size_of (negsuc n) = n

cell : ℕ → List ℤ → ℕ
cell k xs = size_of (get_or xs k (pos 0))

-- The four.

pub one_that_only_refuses : (f : Reconstructor) → ((h : Hour) (entry : List ℤ) → (r : Refusal) × ((f h entry).0 ≡ Err r)) → RuledOut f
unfolding count_of
one_that_only_refuses f g = ruled_out f λ right.
    let a = right five_mwh (cells_of_open 0) (cells_of_open 5) computed.five in
    let z : ◌≡◌ {A = ℕ} 0 7 = ap count_of (sym (g five_mwh (cells_of_open 0)).1 ∙ a.0) in
    absurd (omega arith)

pub one_with_a_fixed_answer : (f : Reconstructor) → ((h k : Hour) (entry : List ℤ) → f h entry ≡ f k entry) → RuledOut f
unfolding cell size_of
one_with_a_fixed_answer f g = ruled_out f λ right.
    let a = right five_mwh (cells_of_open 0) (cells_of_open 5) computed.five in
    let b = right six_mwh (cells_of_open 0) (cells_of_open 6) computed.six in
    let c : (f five_mwh (cells_of_open 0)).1 ≡ (f six_mwh (cells_of_open 0)).1 = ap (λ (x : (Result ℕ Refusal) × List ℤ). x.1) (g five_mwh six_mwh (cells_of_open 0)) in
    let z : ◌≡◌ {A = ℕ} 5 6 = ap (cell 4) (sym a.1 ∙ c ∙ b.1) in
    absurd (omega arith)

pub one_that_writes_nothing : (f : Reconstructor) → ((h : Hour) (entry : List ℤ) → (f h entry).1 ≡ entry) → RuledOut f
unfolding cell size_of
one_that_writes_nothing f g = ruled_out f λ right.
    let a = right five_mwh (cells_of_open 0) (cells_of_open 5) computed.five in
    let z : ◌≡◌ {A = ℕ} 0 5 = ap (cell 4) (sym (g five_mwh (cells_of_open 0)) ∙ a.1) in
    absurd (omega arith)

-- what it is to treat the first group rightly and leave all later energy open
abbrev pub FirstGroupOnly : Reconstructor → Type 0
FirstGroupOnly f = (h : Hour) (entry xs : List ℤ) → valid h ≡ true → first_group h ≡ accepted xs → length xs ≤ length entry → (f h entry).1 ≡ xs ++ drop (length xs) entry

pub one_that_stops_after_the_first_group : (f : Reconstructor) → FirstGroupOnly f → RuledOut f
unfolding cell size_of
one_that_stops_after_the_first_group f g = ruled_out f λ right.
    let a = right two_groups whole_cells whole_cells computed.whole in
    let b = g two_groups whole_cells first_cells computed.given computed.first (omega arith) in
    let z : ◌≡◌ {A = ℕ} 0 8000 = ap (cell 7) (sym b ∙ a.1) in
    absurd (omega arith)
