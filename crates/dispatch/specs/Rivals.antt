-- The sources that may have a part of the total where one of them has room for all of it, and lists cut down to them.
use Rattle.std.specs.Prelude.{List, ◌≢◌, ◌≡◌, ℕ, ◌+◌, ◌*◌, ◌-◌, ◌≤◌, ◌<◌, length}
use Rattle.cutoff.specs.Lines.{lanes, at}
use Rattle.rules.specs.Words.{sum_to}

-- source i has room for the total, and the bar is one more than the merit of the total's last MWh
pub record Alone (one step cap : List ℕ) (n total bar i : ℕ) : Type 0 where
  pub in_range : i < n
  pub room : total ≤ at cap i
  pub last : at one i ≡ bar + at step i * (total - 1)

pub record Bar (one step cap : List ℕ) (n total bar : ℕ) : Type 0 where
  pub some : 0 < bar → (i : ℕ) × Alone one step cap n total bar i

-- the first m of the list are indices below n in rising order
pub record Places (n : ℕ) (places : List ℕ) (m : ℕ) : Type 0 where
  pub few : m ≤ n
  pub below : (k : ℕ) → k < m → at places k < n
  pub rising : (k l : ℕ) → k < l → l < m → at places k < at places l

-- and they are those of the first n sources that reach the bar
pub record Rivals (bar : ℕ) (one : List ℕ) (n : ℕ) (places : List ℕ) (m : ℕ) : Type 0 where
  pub long : length places ≡ lanes
  pub placed : Places n places m
  pub reach : (k : ℕ) → k < m → bar ≤ at one (at places k)
  pub every : (i : ℕ) → i < n → bar ≤ at one i → (k : ℕ) × (k < m) × (at places k ≡ i)

-- what stands at the places
pub record Gathered (all places : List ℕ) (m : ℕ) (few : List ℕ) : Type 0 where
  pub long : length few ≡ lanes
  pub same : (k : ℕ) → k < m → at few k ≡ at all (at places k)

-- and back, with 0 at every other
pub record Spread (few places : List ℕ) (m : ℕ) (all : List ℕ) : Type 0 where
  pub long : length all ≡ lanes
  pub same : (k : ℕ) → k < m → at all (at places k) ≡ at few k
  pub others : (i : ℕ) → ((k : ℕ) → k < m → at places k ≢ i) → at all i ≡ 0
  pub adds : (n : ℕ) → ((k : ℕ) → k < m → at places k < n) → sum_to (at all) n ≡ sum_to (at few) m
