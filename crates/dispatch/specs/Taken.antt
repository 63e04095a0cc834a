-- What an engine takes of sources that are falling lines of merit, and that there is one such outcome.
use Rattle.std.specs.Prelude.{Bool, true, false, List, ◌⊎◌, ◌≢◌, ◌≡◌, ℕ, ◌+◌, ◌*◌, ◌-◌, ◌^◌, ◌≤◌, ◌<◌, length}
use Rattle.std.proofs.Common.{sym, ◌∙◌, mul-le-mul_left, arith, ext_get_or}
use Rattle.std.proofs.Math.Decide.{dec_lt}
use Rattle.cutoff.specs.Lines.{lanes, at, Falls, Table, stock_at}
use Rattle.merit.specs.Best.{Best}
use Rattle.merit.specs.Settled.{Strict, Less, More, less_strict, more_strict, Beats, BestUnit, Plain, Falling, Settled, settled_one, settled_plain}
use Rattle.rules.specs.Words.{sum_to}

-- which source goes first at a tie: the earlier when unloading, the later when crediting
abbrev pub First : Bool → ℕ → ℕ → Type 0
First false = Less
First true = More

pub first_strict : (up : Bool) → Strict (First up)
first_strict false = less_strict
first_strict true = more_strict

-- the merit of MWh k of source i
abbrev pub merit : List ℕ → List ℕ → ℕ → ℕ → ℕ
merit one step i k = at one i - (at step i * k + 1)

-- the lines of the first n sources
pub record Sources (one step cap : List ℕ) (n : ℕ) : Type 0 where
  pub n_small : n ≤ lanes
  pub falls : (i : ℕ) → i < n → Falls (at one i) (at step i) (at cap i)

-- t MWh of each source are taken, the total in all and each before any that is left
pub record Taken (up : Bool) (one step cap : List ℕ) (n total : ℕ) (t : List ℕ) : Type 0 where
  pub long : length t ≡ lanes
  pub beyond : (i : ℕ) → n ≤ i → at t i ≡ 0
  pub adds : sum_to (at t) n ≡ total
  pub settled : Settled More (First up) n (at cap) (merit one step) (at t)

-- one more than the merit of a source's MWh k, 0 where it has none
pub record Next (one step cap k m : ℕ) : Type 0 where
  pub left : k < cap → (m ≡ one - step * k) × (0 < m)
  pub none : cap ≤ k → m ≡ 0
  pub small : m ≤ 2 ^ 48 + 1

-- the same of the next MWh of each of the first n sources
pub record Left (one step cap t : List ℕ) (n : ℕ) (left : List ℕ) : Type 0 where
  pub long : length left ≡ lanes
  pub next : (i : ℕ) → i < n → Next (at one i) (at step i) (at cap i) (at t i) (at left i)

pub record Small (left : List ℕ) (n : ℕ) : Type 0 where
  pub small : (i : ℕ) → i < n → at left i ≤ 2 ^ 48 + 1

-- the highest of the first n numbers, at a tie by turn; n where all are 0
pub record Highest (up : Bool) (left : List ℕ) (n i : ℕ) : Type 0 where
  pub none : i ≡ n → (j : ℕ) → j < n → at left j ≡ 0
  pub some : i < n → Best (λ j. 0 < at left j) (λ i j. Beats More (First up) i (at left i) j (at left j)) n i
  pub within : i ≤ n

-- the source with the best next MWh; n where none has any
pub record Choice (up : Bool) (one step cap t : List ℕ) (n i : ℕ) : Type 0 where
  pub none : i ≡ n → (j : ℕ) → j < n → at cap j ≤ at t j
  pub some : i < n → BestUnit More (First up) n (at cap) (merit one step) (at t) n i
  pub within : i ≤ n

-- MWh of one merit, at most the rest: after k of a source's cap
pub record Block (step cap k rest g : ℕ) : Type 0 where
  pub some : 0 < g
  pub within : g ≤ rest
  pub room : k + g ≤ cap
  pub level : (step ≡ 0) ⊎ (g ≡ 1)
  pub full : g < rest → step ≡ 0 → k + g ≡ cap

-- which of n sources are before the i-th in the turn at a tie
abbrev pub Passed : Bool → ℕ → ℕ → ℕ → Type 0
Passed false n i j = j < i
Passed true n i j = n ≤ i + j

-- a is the i-th
pub record Turn (up : Bool) (n i a : ℕ) : Type 0 where
  pub in_range : a < n
  pub first : (j : ℕ) → j < n → j ≢ a → (Passed up n i j → ⊥) → First up a j
  pub passed : (j : ℕ) → j < n → j ≢ a → Passed up n (i + 1) j → Passed up n i j

-- sum MWh are taken so far, and the merits of what is left
pub record Going (up : Bool) (one step cap : List ℕ) (n total sum : ℕ) (t ms : List ℕ) : Type 0 where
  pub within : sum ≤ total
  pub taken : Taken up one step cap n sum t
  pub left : Left one step cap t n ms

-- and none is above m
pub record Level (up : Bool) (one step cap : List ℕ) (n m total sum : ℕ) (t ms : List ℕ) : Type 0 where
  pub going : Going up one step cap n total sum t ms
  pub some : 0 < m
  pub most : (j : ℕ) → j < n → at ms j ≤ m

-- and of the sources before the i-th in the turn none has it, unless the total is reached
pub record Turns (up : Bool) (one step cap : List ℕ) (n m total sum i : ℕ) (t ms : List ℕ) : Type 0 where
  pub level : Level up one step cap n m total sum t ms
  pub passed : sum < total → (j : ℕ) → j < n → Passed up n i j → at ms j < m

-- the list with its first n numbers set to what the sources have at and above the mark
pub record Above (one step span inv : List ℕ) (n mark : ℕ) (before after : List ℕ) : Type 0 where
  pub long : length after ≡ length before
  pub inside : (i : ℕ) → i < n → at after i ≡ stock_at one step span inv mark i
  pub beyond : (i : ℕ) → n ≤ i → at after i ≡ at before i

pub table_sources : {one step span inv cap : List ℕ} {n : ℕ} → Table one step span inv cap n → Sources one step cap n
table_sources t = record { n_small = t.n_small; falls = λ i l. (t.source i l).falls }

module _ (up : Bool) (one step cap : List ℕ) (n : ℕ) where
  pub merits_fall : Falling More (First up) n (at cap) (merit one step)
  merits_fall i k l li kl lc h = omega (arith, mul-le-mul_left (at step i) kl)

  -- two outcomes are the same
  pub one_outcome : (total : ℕ) (t u : List ℕ) → Taken up one step cap n total t → Taken up one step cap n total u → t ≡ u
  one_outcome total t u a b = ext_get_or 0 t u (a.long ∙ sym b.long) (λ i l. elim (dec_lt i n) [
    | yes m ↦ settled_one More (First up) more_strict (first_strict up) n (at cap) (merit one step) (at t) (at u) a.settled b.settled (a.adds ∙ sym b.adds) i m
    | no m ↦ a.beyond i (omega arith) ∙ sym (b.beyond i (omega arith))
  ])

  -- it is what one at a time gives
  pub taken_plain : (total : ℕ) (t : List ℕ) → Taken up one step cap n total t → Plain More (First up) n (at cap) (merit one step) total (at t)
  taken_plain total t a = settled_plain More (First up) more_strict (first_strict up) n (at cap) (merit one step) merits_fall total (at t) a.settled a.adds
