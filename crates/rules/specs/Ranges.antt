-- Document 01, "The deck": the range of each field.
use Rattle.std.specs.Prelude.{Bool, ◌&&◌, ℕ, leb}

pub record Range : Type 0 where
  pub least : ℕ
  pub most : ℕ

infix 4 ◌to◌
abbrev pub ◌to◌ : ℕ → ℕ → Range
least to most = record { least = least; most = most }

abbrev pub inside : Range → ℕ → Bool
inside x v = leb x.least v && leb v x.most

-- "losses 0..64,000"
abbrev pub losses : Range
losses = 0 to 64_000

-- "g h n o e k (each 1..2,000), A 0..999,999, B 0..99,999, C 0..99, R 0..39,996"
abbrev pub unit_level : Range
unit_level = 1 to 2000

abbrev pub coefficient_a : Range
coefficient_a = 0 to 999_999

abbrev pub coefficient_b : Range
coefficient_b = 0 to 99_999

abbrev pub coefficient_c : Range
coefficient_c = 0 to 99

abbrev pub heat_rate : Range
heat_rate = 0 to 39_996

-- "g 0..2,000, rate 0..999,999"; "MWh 0..2,000"
abbrev pub energy : Range
energy = 0 to 2000

abbrev pub purchase_rate : Range
purchase_rate = 0 to 999_999

-- "sequence 0..99, type 1..9, block 1..9"
abbrev pub sequence : Range
sequence = 0 to 99

abbrev pub type : Range
type = 1 to 9

abbrev pub block : Range
block = 1 to 9

-- "basis: `L`, `G` or 1..1,999; percent 1..100"
abbrev pub basis_mwh : Range
basis_mwh = 1 to 1999

abbrev pub percent : Range
percent = 1 to 100

-- "Any other public call (.. a cost at a level 0..2,000)"
abbrev pub cost_level : Range
cost_level = 0 to 2000
