-- Labels as spellings of two numbers, and the tables that hold them.
use Rattle.std.specs.Prelude.{Bool, ◌&&◌, List, ℕ, zero, suc, ◌+◌, ◌*◌, eqb, get_or, Option, Some, None}
use Rattle.std.proofs.Math.Option.{Option as Maybe, none, some}
use Rattle.rules.specs.Words.{find_to}
use Rattle.rules.specs.declared.Label.{Label}
use Rattle.line_rules.specs.declared.Spelling.{Spelling}

-- the number whose digits are f 0, .., f (n - 1), to the base 256
unfoldable pub base256 : (ℕ → ℕ) → ℕ → ℕ
base256 f zero = 0
base256 f (suc n) = base256 f n * 256 + f n

-- eight of the bytes, from one on
abbrev pub half_of : List ℕ → ℕ → ℕ
half_of bytes from = base256 (λ i. get_or bytes (from + i) 0) 8

-- the sixteen bytes of a label
abbrev pub spelling_of : Label → Spelling
spelling_of l = record { lo = half_of l.bytes 0; hi = half_of l.bytes 8 }

abbrev pub same_spelling : Spelling → Spelling → Bool
same_spelling a b = eqb a.lo b.lo && eqb a.hi b.hi

-- what a search answers
abbrev pub spot_of : Maybe ℕ → Option ℕ
spot_of none = None
spot_of (some i) = Some i

-- the spelling at a place of two tables, and the first place of n where a spelling stands
abbrev pub spelling_at : List ℕ → List ℕ → ℕ → Spelling
spelling_at lo hi i = record { lo = get_or lo i 0; hi = get_or hi i 0 }

abbrev pub spelling_to : List ℕ → List ℕ → Spelling → ℕ → Maybe ℕ
spelling_to lo hi k n = find_to (λ i. same_spelling (spelling_at lo hi i) k) n

abbrev pub spelling_found : List ℕ → List ℕ → ℕ → Spelling → Option ℕ
spelling_found lo hi n k = spot_of (spelling_to lo hi k n)
