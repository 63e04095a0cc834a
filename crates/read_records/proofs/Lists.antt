-- Lists that are read one element after the other: what was read before what is still to come.
use mathlib.Core.Path.{◌≡◌, refl}
use mathlib.Core.List.{List, [], ◌∷◌, ◌++◌, append_assoc}
use Prim.Native.Nat.{ℕ, ◌+◌, ◌<◌}
use native.Mathlib.Numerals.{add-one}
use lib.ListN.{length, set, take}
use lib.Seq.{take-suc-set}
use Rattle.rules.specs.Fields.{Field, got, malformed, on_field}

module _ {A : Type 0} where
  abbrev pub prefixed : List A → Field (List A) → Field (List A)
  prefixed xs f = on_field f λ ys next. got (xs ++ ys) next

  pub prefixed_none : (f : Field (List A)) → prefixed [] f ≡ f
  prefixed_none (got ys next) = refl
  prefixed_none malformed = refl

  prefixed_snoc : (xs : List A) (x : A) (f : Field (List A)) → prefixed (xs ++ (x ∷ [])) f ≡ prefixed xs (prefixed (x ∷ []) f)
  prefixed_snoc xs x (got ys next) = rw append_assoc
  prefixed_snoc xs x malformed = refl

  -- of a list of places, one more that is set
  pub prefixed_more : (l : List A) (n : ℕ) (x : A) (f : Field (List A)) → n < length l → prefixed (take (n + 1) (set l n x)) f ≡ prefixed (take n l) (prefixed (x ∷ []) f)
  prefixed_more l n x f h = let k : take (n + 1) (set l n x) ≡ take n l ++ (x ∷ []) = rw (add-one n) (take-suc-set l n x h) in rw k (prefixed_snoc (take n l) x f)
