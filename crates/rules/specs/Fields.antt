-- Document 01, "The deck": numbers, labels and bases as bytes, read at a place and written.
use Rattle.std.specs.Prelude.{Bool, true, false, not, ◌&&◌, ◌||◌, List, [], ◌∷◌, ◌++◌, ℕ, zero, suc, ◌+◌, ◌-◌, ◌*◌, ◌/◌, ◌%◌, leb, ltb, eqb, length, get_or, take, drop}
use Rattle.std.proofs.Math.Option.{Option, none, some}
use Rattle.rules.specs.Words.{when◌then◌else◌}
use Rattle.rules.specs.declared.Basis.{Basis}
use Rattle.rules.specs.declared.Basis.TheVariants.{Low, Generation, Mwh}

-- "Reading a field gives the number and the next place, or a refusal."
pub data Field (A : Type 0) : Type 0 where
  got : A → ℕ → Field A
  malformed : Field A

abbrev pub on_field : {A B : Type 0} → Field A → (A → ℕ → Field B) → Field B
on_field (got a next) after = after a next
on_field malformed after = malformed

-- the byte at a place; past the end a 0, which no rule of the deck asks for
abbrev pub byte : List ℕ → ℕ → ℕ
byte s at = get_or s at 0

-- one byte that must stand there
unfoldable pub byte_at : List ℕ → ℕ → ℕ → Field (Unit {0})
byte_at s at b = when eqb (byte s at) b then got tt (at + 1) else malformed

-- Numbers: "decimal, without leading zeros".

abbrev pub is_digit : ℕ → Bool
is_digit b = leb 48 b && leb b 57

-- the run of digits that a list starts with, read on from the value v at the place i
unfoldable pub run : ℕ → ℕ → List ℕ → Field ℕ
run v i [] = got v i
run v i (b ∷ t) = when is_digit b then run (v * 10 + (b - 48)) (suc i) t else got v i

-- "Any run of digits without a leading zero has the form"
unfoldable pub number_at : List ℕ → ℕ → Field ℕ
number_at s at =
    when not (is_digit (byte s at)) then malformed else
    when eqb (byte s at) 48 && is_digit (byte s (at + 1)) then malformed else
    run 0 at (drop at s)

-- the last f digits at most
unfoldable pub digits_in : ℕ → ℕ → List ℕ
digits_in zero v = []
digits_in (suc f) v = when ltb v 10 then (48 + v) ∷ [] else digits_in f (v / 10) ++ ((48 + v % 10) ∷ [])

-- all of them: a number below 2^64 has at most 20 (roundtrip/Numbers, digits-more)
unfoldable pub digits : ℕ → List ℕ
digits v = digits_in 20 v

-- Labels.

-- "each 32..126"
abbrev pub is_character : ℕ → Bool
is_character c = leb 32 c && leb c 126

-- "`"` and `\` are written `\"` and `\\`, and no other escape exists"
abbrev pub is_escaped : ℕ → Bool
is_escaped c = eqb c 34 || eqb c 92

unfoldable pub escape : List ℕ → List ℕ
escape [] = []
escape (c ∷ cs) = when is_escaped c then 92 ∷ c ∷ escape cs else c ∷ escape cs

-- the characters that bytes between the quotes stand for, and in the last case those after a backslash
unfoldable pub unescape : Bool → List ℕ → List ℕ
unescape e [] = []
unescape false (b ∷ t) = when eqb b 92 then unescape true t else b ∷ unescape false t
unescape true (b ∷ t) = b ∷ unescape false t

-- "1 to 16 characters"
abbrev pub closed : ℕ → ℕ → Option ℕ
closed n i = when leb 1 n && leb n 16 then some i else none

-- where the closing quote stands, read on at the index i after n characters, and in the second case after a backslash
unfoldable pub closing : Bool → ℕ → ℕ → List ℕ → Option ℕ
closing e n i [] = none
closing true n i (b ∷ t) = when is_escaped b then closing false (suc n) (suc i) t else none
closing false n i (b ∷ t) =
    when eqb b 34 then closed n i else
    when eqb b 92 then closing true n (suc i) t else
    when is_character b then closing false (suc n) (suc i) t else none

-- "between double quotes": where it stands in a part that starts with the opening quote
unfoldable pub label_end : List ℕ → Option ℕ
label_end [] = none
label_end (b ∷ t) = when eqb b 34 then closing false 0 1 t else none

-- where a label's own bytes stand
pub record Place : Type 0 where
  pub from : ℕ
  pub upto : ℕ

abbrev pub bytes_at : List ℕ → Place → List ℕ
bytes_at s p = take (p.upto - p.from) (drop p.from s)

-- a label's characters
abbrev pub Chars : Type 0
Chars = List ℕ

abbrev pub chars_at : List ℕ → Place → Chars
chars_at s p = unescape false (bytes_at s p)

unfoldable pub all_characters : Chars → Bool
all_characters [] = true
all_characters (c ∷ cs) = is_character c && all_characters cs

-- "A label is 1 to 16 characters, each 32..126"
unfoldable pub is_label : Chars → Bool
is_label cs = leb 1 (length cs) && leb (length cs) 16 && all_characters cs

-- A field after its space: "Fields are separated by one space."

unfoldable pub spaced_number : List ℕ → ℕ → Field ℕ
spaced_number s at = on_field (byte_at s at 32) λ u p. number_at s p

abbrev pub label_from : ℕ → Option ℕ → Field Place
label_from d none = malformed
label_from d (some z) = got (record { from = d + 1; upto = d + z }) (d + z + 1)

-- "Since the label starts in the middle of its line, the rest of the line is handed on for it."
unfoldable pub spaced_label : List ℕ → ℕ → Field Place
spaced_label s at = on_field (byte_at s at 32) λ u d. label_from d (label_end (drop d s))

-- "basis: `L`, `G` or 1..1,999"
abbrev pub basis_from : Field ℕ → Field Basis
basis_from (got v next) = got (Mwh v) next
basis_from malformed = malformed

unfoldable pub basis_at : List ℕ → ℕ → Field Basis
basis_at s at =
    when eqb (byte s at) 76 then got Low (at + 1) else
    when eqb (byte s at) 71 then got Generation (at + 1) else
    basis_from (number_at s at)

unfoldable pub spaced_basis : List ℕ → ℕ → Field Basis
spaced_basis s at = on_field (byte_at s at 32) λ u p. basis_at s p

abbrev pub basis_text : Basis → List ℕ
basis_text Low = 76 ∷ []
basis_text Generation = 71 ∷ []
basis_text (Mwh v) = digits v
