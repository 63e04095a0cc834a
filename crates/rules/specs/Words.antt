-- Words that the rules are written in: a choice, sums and lists made piece by piece, the first that passes, text.
use Rattle.std.specs.Prelude.{Bool, true, false, ◌&&◌, ◌||◌, List, [], ◌∷◌, ◌++◌, ℕ, zero, suc, ◌+◌, eqb}
use Rattle.std.proofs.Math.Option.{Option, none, some}
use Prim.Native.Char.{code}
use Prim.Native.String.{String, [] as nothing, ◌∷◌ as ◌then◌}

infix 2 when◌then◌else◌
abbrev pub when◌then◌else◌ : {A : Type 0} → Bool → A → A → A
when true then x else y = x
when false then x else y = y

-- f 0 + .. + f (n - 1)
unfoldable pub sum_to : (ℕ → ℕ) → ℕ → ℕ
sum_to f zero = 0
sum_to f (suc n) = sum_to f n + f n

-- f 0, then .., then f (n - 1)
unfoldable pub list_to : {A : Type 0} → (ℕ → List A) → ℕ → List A
list_to f zero = []
list_to f (suc n) = list_to f n ++ f n

-- whether each of 0 .. n - 1 passes
unfoldable pub all_to : (ℕ → Bool) → ℕ → Bool
all_to p zero = true
all_to p (suc n) = all_to p n && p n

-- whether any of 0 .. n - 1 passes
unfoldable pub any_to : (ℕ → Bool) → ℕ → Bool
any_to p zero = false
any_to p (suc n) = any_to p n || p n

-- the first that there is
infixr 3 ◌otherwise◌
abbrev pub ◌otherwise◌ : {A : Type 0} → Option A → Option A → Option A
none otherwise y = y
some x otherwise y = some x

abbrev pub is_none : {A : Type 0} → Option A → Bool
is_none none = true
is_none (some x) = false

-- the first of 0 .. n - 1 that passes
unfoldable pub find_to : (ℕ → Bool) → ℕ → Option ℕ
find_to p zero = none
find_to p (suc n) = find_to p n otherwise (when p n then some n else none)

-- whether two lists of numbers are the same
unfoldable pub same_list : List ℕ → List ℕ → Bool
same_list [] [] = true
same_list [] (y ∷ ys) = false
same_list (x ∷ xs) [] = false
same_list (x ∷ xs) (y ∷ ys) = eqb x y && same_list xs ys

-- the bytes of a quoted text
abbrev pub text : String → List ℕ
text nothing = []
text (c then s) = code c ∷ text s
