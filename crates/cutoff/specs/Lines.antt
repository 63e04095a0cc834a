-- A source as a falling line of merit: its MWh k has the merit one - 1 - step·k. Of no room, `one` is 0.
-- A source's MWh above a mark are counted by the reciprocal of its step, with no division.
use Rattle.std.specs.Prelude.{◌≡◌, ℕ, ◌+◌, ◌-◌, ◌*◌, ◌/◌, ◌^◌, ◌<◌, ◌≤◌, min, ◌⊎◌, List, nat_lt, slice_index}
use Rattle.rules.specs.Words.{when◌then◌else◌, sum_to}

-- how many lines an engine has room for
abbrev pub lanes : ℕ
lanes = 32

abbrev pub at : List ℕ → ℕ → ℕ
at l i = slice_index l i

-- the line: none of the cap MWh has a merit below 0
pub record Falls (one step cap : ℕ) : Type 0 where
  pub cap_small : cap ≤ 2000
  pub step_small : step ≤ 8_000_000
  pub one_small : one ≤ 2 ^ 48 + 1
  pub height : (k : ℕ) → k < cap → step * k < one

-- the line with what counts on it: all MWh of one merit, or a step and its reciprocal
pub record Source (one step span inv cap : ℕ) : Type 0 where
  pub falls : Falls one step cap
  pub shape : ((step ≡ 0) × (span ≡ min 1 cap) × (inv ≡ (cap - 1) * 2 ^ 40)) ⊎ ((0 < step) × (span ≡ step * cap) × (inv ≡ 2 ^ 40 / step + 1))

-- the first n sources
pub record Table (one step span inv cap : List ℕ) (n : ℕ) : Type 0 where
  pub n_small : n ≤ lanes
  pub source : (i : ℕ) → i < n → Source (at one i) (at step i) (at span i) (at inv i) (at cap i)

-- what the count goes by is small
pub record Scaled (step span inv : ℕ) : Type 0 where
  pub product : (w : ℕ) → w ≤ span → w * inv ≤ 2 ^ 60
  pub test : (w : ℕ) → w ≤ span → w * inv / 2 ^ 40 * step ≤ 2 ^ 60

pub record Scales (step span inv : List ℕ) (n : ℕ) : Type 0 where
  pub n_small : n ≤ lanes
  pub scaled : (i : ℕ) → i < n → Scaled (at step i) (at span i) (at inv i)

-- w over the step, rounded up
abbrev pub steps_in : (w step inv : ℕ) → ℕ
steps_in w step inv = when nat_lt (w * inv / 2 ^ 40 * step) w then w * inv / 2 ^ 40 + 1 else w * inv / 2 ^ 40

-- how many MWh of a source have a merit of at least p
unfoldable pub stock : (one step span inv p : ℕ) → ℕ
stock one step span inv p = steps_in (min span (one - p)) step inv

-- of source i
abbrev pub stock_at : (one step span inv : List ℕ) → ℕ → ℕ → ℕ
stock_at one step span inv p i = stock (at one i) (at step i) (at span i) (at inv i) p

-- a mark with no more than the total at and above it
pub record Marked (one step span inv : List ℕ) (n total mark sum : ℕ) : Type 0 where
  pub within : sum ≤ total
  pub adds : sum ≡ sum_to (stock_at one step span inv mark) n
